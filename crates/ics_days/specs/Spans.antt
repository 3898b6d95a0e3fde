-- From when to when an event is, and which windows that can meet.
use Rattle.std.specs.Prelude.{ℕ, ℤ, pos, negsuc, Bool, false, ◌&&◌, not, int_le, int_lt, List, slice_get, Option, Some, None}
use Rattle.ics_days.specs.declared.span.Span.{Span}
use Rattle.ics_listing.specs.declared.window.Window.{Window}

-- every instant of an i64
abbrev pub always : Span
always = record { first = negsuc 9_223_372_036_854_775_807; last = pos 9_223_372_036_854_775_807 }

-- what lies in a span can meet a window
abbrev pub can_meet : Span → Window → Bool
can_meet s w = int_lt s.first w.to && int_le w.from s.last

abbrev pub is_out_of : Option Span → Window → Bool
is_out_of None w = false
is_out_of (Some s) w = not (can_meet s w)

-- the span at a place, if there is one there, cannot meet a window
abbrev pub is_out : List Span → ℕ → Window → Bool
is_out spans place w = is_out_of (slice_get spans place) w

-- the instant with which a span begins, or the first of all
abbrev pub first_in : Option Span → ℤ
first_in None = always.first
first_in (Some s) = s.first

-- that of the span at a place
abbrev pub first_at : List Span → ℕ → ℤ
first_at spans place = first_in (slice_get spans place)
