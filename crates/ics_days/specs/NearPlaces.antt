-- The places of the versions of which something can be near a day, and of those that begin later.
use Rattle.std.specs.Prelude.{◌≡◌, ◌<◌, ◌≤ℤ◌, ◌++◌, ◌||◌, ℕ, ℤ, Bool, false, true, List, [], ◌∷◌, map, ⊤, Option, None, Some, slice_get}
use Rattle.std.specs.Prelude.{int_le, int_lt, if◌then◌else◌}
use Rattle.std.specs.Int.{int_min}
use Rattle.std.specs.Coded.{×_prop, Unit-prop, le_prop}
use Rattle.std.specs.List.{AllByRecursion, AllByRecursion-prop}
use Rattle.std.specs.BTreeSet.{insert_key}
use Rattle.std.specs.Ordering.{int_cmp, nat_cmp, ordering_then}
use Rattle.std.specs.declared.cmp.Ordering.{Ordering}
use Rattle.std.proofs.Props.{props}
use Rattle.ics_listing.specs.Listing.{IsIn}
use Rattle.ics_listing.specs.Rising.{Rises}
use Rattle.ics_listing.specs.declared.window.Window.{Window}
use Rattle.ics_days.specs.Spans.{can_meet, first_at, first_in, is_out}
use Rattle.ics_days.specs.declared.near_places.WaitingPlace.{WaitingPlace}
use Rattle.ics_days.specs.declared.span.Span.{Span}

-- each begins no later than all behind it
abbrev pub BeginInTurn : List WaitingPlace → Type 0
BeginInTurn [] = ⊤
BeginInTurn (x ∷ xs) = AllByRecursion (λ y. x.first ≤ℤ y.first) xs × BeginInTurn xs

pub in-turn-prop : (xs : List WaitingPlace) → IsProp (BeginInTurn xs)
in-turn-prop [] = Unit-prop
in-turn-prop (x ∷ xs) = ×_prop (AllByRecursion-prop (λ y. x.first ≤ℤ y.first) (λ y. hlevel props) xs) (in-turn-prop xs)

-- each of these places is less than a number
abbrev pub AreBelow : ℕ → List ℕ → Type 0
AreBelow count near = AllByRecursion (λ k. k < count) near

pub below-prop : (count : ℕ) (near : List ℕ) → IsProp (AreBelow count near)
below-prop count near = AllByRecursion-prop (λ k. k < count) (λ k. le_prop) near

-- so is each that waits
abbrev pub WaitBelow : ℕ → List WaitingPlace → Type 0
WaitBelow count waiting = AllByRecursion (λ x. x.place < count) waiting

pub wait-below-prop : (count : ℕ) (waiting : List WaitingPlace) → IsProp (WaitBelow count waiting)
wait-below-prop count waiting = AllByRecursion-prop (λ x. x.place < count) (λ x. le_prop) waiting

-- a place waits, for an instant that is no later than the beginning of a span
abbrev pub IsWaiting : List WaitingPlace → ℕ → Span → Type 0
IsWaiting waiting k s = (x : WaitingPlace) × IsIn x waiting × (x.place ≡ k) × (x.first ≤ℤ s.first)

-- a span at none of these places cannot meet a window
abbrev pub AreReached : List ℕ → List Span → Window → Type 0
AreReached near spans w = (k : ℕ) (s : Span) → slice_get spans k ≡ Some s → (IsIn k near → ⊥) → can_meet s w ≡ false

-- nor can one at none of them whose place does not wait
abbrev pub AreAwaited : List ℕ → List WaitingPlace → List Span → Window → Type 0
AreAwaited near waiting spans w =
    (k : ℕ) (s : Span) → slice_get spans k ≡ Some s → (IsIn k near → ⊥) → (IsWaiting waiting k s → ⊥) → can_meet s w ≡ false

abbrev pub ended_of : Option Span → ℤ → Bool
ended_of None from = true
ended_of (Some s) from = int_lt s.last from

-- the earlier of an instant and of the beginning of a span, if there is one, that does not end before `from`
abbrev pub sooner_of : ℤ → ℤ → Option Span → ℤ
sooner_of from least o = if ended_of o from then least else int_min least (first_in o)

-- the first of those that wait were taken, which leaves the rest, and their places stand behind those from before
pub record AreTaken (waiting rest : List WaitingPlace) (old new : List ℕ) : Type 0 where
  pub front : List WaitingPlace
  pub parts : waiting ≡ front ++ rest
  pub pushed : new ≡ old ++ map (λ x. x.place) front

-- whether the span at a place, if there is one there, ended before `from`, or begins at `far` or later
abbrev pub is_far : List Span → ℕ → ℤ → ℤ → Bool
is_far spans k from far = ended_of (slice_get spans k) from || int_le far (first_at spans k)

-- by the instant, and then by the place
abbrev pub waiting_cmp : WaitingPlace → WaitingPlace → Ordering
waiting_cmp x y = ordering_then (int_cmp x.first y.first) (nat_cmp x.place y.place)

-- those that wait, and a place among them if its span begins at `far` or later
abbrev pub put_at : List Span → ℤ → List WaitingPlace → ℕ → List WaitingPlace
put_at spans far waiting k =
    if int_le far (first_at spans k) then insert_key waiting_cmp waiting (record { first = first_at spans k; place = k }) else waiting

-- the least of an instant and of the beginnings of those spans at places that do not end before `from`
abbrev pub first_of : ℤ → ℤ → List Span → List ℕ → ℤ
first_of from least spans [] = least
first_of from least spans (k ∷ ks) = first_of from (sooner_of from least (slice_get spans k)) spans ks

-- These places rise, and there are so many at most. The span at a place that is none of them cannot meet a window.
pub record AreNear (spans : List Span) (w : Window) (count : ℕ) (near : List ℕ) : Type 0 where
  pub rises : Rises nat_cmp near
  pub below : AreBelow count near
  pub out : (k : ℕ) → k < count → (IsIn k near → ⊥) → is_out spans k w ≡ true

-- spans are as they were, but for those at these places
abbrev pub AreSameBut : List ℕ → List Span → List Span → Type 0
AreSameBut near old new = (k : ℕ) → (IsIn k near → ⊥) → slice_get new k ≡ slice_get old k
