-- Lists of starts that wait, in the order of their instants.
use Rattle.std.specs.Prelude.{ℤ, Bool, true, false, cond, int_lt, List, [], ◌∷◌, map}
use Rattle.std.specs.List.{list_any}
use Rattle.std.specs.Ordering.{int_cmp, int_eq, on}
use Rattle.std.specs.declared.cmp.Ordering.{Ordering}
use Rattle.ics_fields.specs.declared.local.Local.{Local}
use Rattle.ics_listing.specs.declared.queue.Waiting.{Waiting}

-- by instant
abbrev pub waiting_cmp : Waiting → Waiting → Ordering
waiting_cmp = on (λ w. w.moment) int_cmp

-- two lists in the order of their instants: the earlier first of both goes before all else
abbrev pub in_order : List Waiting → List Waiting → List Waiting
in_order [] vs = vs
in_order (w ∷ ws) [] = w ∷ ws
in_order (w ∷ ws) (v ∷ vs) = cond (int_lt v.moment w.moment) (v ∷ in_order (w ∷ ws) vs) (w ∷ in_order ws (v ∷ vs))

-- the starts whose locals stand at their instants in a map
abbrev pub between_in : List (ℤ × Local) → List Waiting
between_in = map (λ e. record { moment = e.0; local = e.1 })

-- one of these is at an instant
abbrev pub waits_at : ℤ → List Waiting → Bool
waits_at t ws = list_any (λ w. int_eq w.moment t) ws

-- the last of these is before an instant
abbrev pub ends_before : ℤ → List Waiting → Bool
ends_before t [] = true
ends_before t (w ∷ []) = int_lt w.moment t
ends_before t (w ∷ v ∷ ws) = ends_before t (v ∷ ws)

-- the first of these is after an instant
abbrev pub begins_after : ℤ → List Waiting → Bool
begins_after t [] = true
begins_after t (w ∷ ws) = int_lt t w.moment

-- the second list has the first of both in their order
abbrev pub begins_between : List Waiting → List Waiting → Bool
begins_between ws [] = false
begins_between ws (v ∷ vs) = begins_after v.moment ws
