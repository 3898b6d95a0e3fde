-- An occurrence as contracts see it, and the order of keys.
use Rattle.std.specs.Prelude.{◌≡◌, ℕ, ℤ, List, [], ◌∷◌, Option, Some, None}
use Rattle.std.specs.Ordering.{int_cmp, nat_cmp, on, then_cmp}
use Rattle.std.specs.Cmp.Lexicographic.{slice_cmp}
use Rattle.std.specs.declared.cmp.Ordering.{Ordering}
use Rattle.ics_event.specs.declared.event.Event.{Event}
use Rattle.ics_listing.specs.declared.key.Key.{Key}
use Rattle.ics_listing.specs.declared.occurrence.Occurrence.{Occurrence}

-- an occurrence, with the value of its event
pub record Entry : Type 0 where
  pub start : ℤ
  pub finish : ℤ
  pub recurrence : ℤ
  pub event : Event

-- the key that orders occurrences
pub record Rank : Type 0 where
  pub start : ℤ
  pub uid : List ℕ
  pub recurrence : ℤ

abbrev pub entry_of : Occurrence → Entry
entry_of o = record { start = o.start; finish = o.finish; recurrence = o.recurrence; event = o.event.now }

abbrev pub rank_of : Entry → Rank
rank_of e = record { start = e.start; uid = e.event.uid; recurrence = e.recurrence }

abbrev pub key_rank : Key → Rank
key_rank key = record { start = key.start; uid = key.uid.items; recurrence = key.recurrence }

-- by start, then by the bytes of the UID, then by recurrence
abbrev pub rank_cmp : Rank → Rank → Ordering
rank_cmp = then_cmp (on (λ r. r.start) int_cmp) (then_cmp (on (λ r. r.uid) (slice_cmp nat_cmp)) (on (λ r. r.recurrence) int_cmp))

abbrev pub entry_cmp : Entry → Entry → Ordering
entry_cmp = on rank_of rank_cmp

-- a feed with the list old still to come gives its first entry, or None if there is none, and then has the list new to come
abbrev pub Gives : List Entry → Option Occurrence → List Entry → Type 0
Gives old None new = (old ≡ []) × (new ≡ [])
Gives old (Some o) new = old ≡ entry_of o ∷ new
