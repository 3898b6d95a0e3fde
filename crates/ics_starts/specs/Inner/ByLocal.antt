-- The EXDATEs and RDATEs of an event in the order of their locals.
use Rattle.std.specs.Prelude.{◌≡◌, ◌<◌, ◌≤◌, ◌<ℤ◌, ◌≤ℤ◌, ◌+ℤ◌, ◌-ℤ◌, ◌⊎◌, ℕ, ℤ, pos, neg_ℤ, Bool, true, nat_eq, List, length, map}
use Rattle.std.specs.Prelude.{get_or, slice_get, Option, None, Some}
use Rattle.std.specs.Global.{Box}
use Rattle.std.specs.declared.vec.Vec.{Vec}
use Rattle.std.specs.List.{list_any}
use Rattle.std.specs.List.Sorted.{IsSorted}
use Rattle.std.specs.Ordering.{int_cmp, on}
use Rattle.std.specs.Coded.{Unit-prop}
use Rattle.std.proofs.Props.{props}
use Rattle.ics_fields.specs.Locals.{whole_days}
use Rattle.ics_event.specs.Event.{stamp_seconds, Rdate, Time}
use Rattle.ics_event.specs.declared.event.Event.{Event}
use Rattle.ics_values.specs.declared.time.Rdate.TheVariants.{At, Span}
use Rattle.ics_listing.specs.Listing.{IsIn}
use Rattle.ics_listing.specs.StartTimes.{time_of}
use Rattle.ics_listing.specs.FileClocks.{Clocks}
use Rattle.ics_listing.specs.declared.window.Window.{Window}
use Rattle.ics_starts.specs.Exclusions.{is_known}
use Rattle.ics_starts.specs.Found.{counts_since, span_local}
use Rattle.ics_starts.specs.Starts.{given_by}
use Rattle.ics_starts.specs.declared.by_local.DatesByLocal.{DatesByLocal}
use Rattle.ics_starts.specs.declared.by_local.PlacedLocal.{PlacedLocal}
use Rattle.ics_starts.specs.declared.by_local.Places.{Places}
use Rattle.ics_starts.specs.declared.by_local.Places.TheVariants.{All, Near}

-- the local of a time in seconds
abbrev pub local_in : Time → ℤ
local_in time = stamp_seconds time.stamp

-- the locals of the EXDATEs
abbrev pub exdate_locals : Event → List ℤ
exdate_locals event = map local_in event.exdates

-- the locals of the times at which the RDATEs start the event
abbrev pub rdate_locals : Event → List ℤ
rdate_locals event = map (λ rdate. local_in (time_of (given_by event.start rdate))) event.rdates

abbrev pub nowhere : PlacedLocal
nowhere = record { local = pos 0; place = 0 }

-- the place that stands at a place of a list
abbrev pub place_at : List PlacedLocal → ℕ → ℕ
place_at places k = (get_or places k nowhere).place

-- how many places they are
abbrev pub count_in : Places → ℕ
count_in (All count) = count
count_in (Near places) = length places.now

-- one of them
abbrev pub place_in : Places → ℕ → ℕ
place_in (All count) k = k
place_in (Near places) k = place_at places.now k

-- one of so many is this one
pub record IsAmongPlaces (count : ℕ) (at : ℕ → ℕ) (place : ℕ) : Type 0 where
  pub k : ℕ
  pub within : k < count
  pub is : at k ≡ place

-- a place is one of these
abbrev pub has_place : List PlacedLocal → ℕ → Bool
has_place places k = list_any (λ p. nat_eq p.place k) places

-- a local that is written: seconds of few digits
abbrev pub IsWrittenLocal : ℤ → Type 0
IsWrittenLocal local = (neg_ℤ (pos 1_000_000_000_000) ≤ℤ local) × (local ≤ℤ pos 1_000_000_000_000)

-- these are the places of a list of locals, each with its local, in the order of these
pub record AreByLocal (locals : List ℤ) (places : List PlacedLocal) : Type 0 where
  pub rise : IsSorted (on (λ p. p.local) int_cmp) places
  pub are : (p : PlacedLocal) → IsIn p places → slice_get locals p.place ≡ Some p.local
  pub all : (k : ℕ) → k < length locals → has_place places k ≡ true
  pub written : (p : PlacedLocal) → IsIn p places → IsWrittenLocal p.local

-- so many places of a list of locals: those whose locals are from one on and before another are among them
pub record AreNearBy (locals : List ℤ) (from to : ℤ) (count : ℕ) (at : ℕ → ℕ) : Type 0 where
  pub within : (k : ℕ) → k < count → at k < length locals
  pub all : (place : ℕ) (local : ℤ) → slice_get locals place ≡ Some local → from ≤ℤ local → local <ℤ to → IsAmongPlaces count at place

abbrev pub AreNearIn : List ℤ → ℤ → ℤ → List PlacedLocal → Type 0
AreNearIn locals from to places = AreNearBy locals from to (length places) (place_at places)

-- none is before one that stands before it
abbrev pub AreUp : ℕ → (ℕ → ℕ) → Type 0
AreUp count at = (j k : ℕ) → j ≤ k → k < count → at j ≤ at k

-- So many places of a list of locals, none before one that stands before it: those whose locals are less than four days from an instant before an end that
-- is from one on or one of some are among them.
pub record AreKnownBy (locals : List ℤ) (from : ℤ) (running : List ℤ) (to : ℤ) (count : ℕ) (at : ℕ → ℕ) : Type 0 where
  pub within : (k : ℕ) → k < count → at k < length locals
  pub up : AreUp count at
  pub all : (t : ℤ) → is_known from running t ≡ true → t <ℤ to → (place : ℕ) (local : ℤ) → slice_get locals place ≡ Some local
      → (t -ℤ whole_days 4) ≤ℤ local → local <ℤ (t +ℤ whole_days 4) → IsAmongPlaces count at place

abbrev pub AreKnown : List ℤ → ℤ → List ℤ → ℤ → Places → Type 0
AreKnown locals from running to places = AreKnownBy locals from running to (count_in places) (place_in places)

-- these are such places, if they are given
abbrev pub AreKnownOf : {V : Type 0} → List ℤ → ℤ → List ℤ → ℤ → Option (Vec PlacedLocal V) → Type 0
AreKnownOf locals from running to None = Unit {0}
AreKnownOf locals from running to (Some near) = AreKnownBy locals from running to (length near.items) (place_at near.items)

-- A place among these has a local two days past an instant or later, and four days before another.
pub record HasSooner (locals : List ℤ) (from local : ℤ) (count : ℕ) (at : ℕ → ℕ) : Type 0 where
  pub k : ℕ
  pub sooner : ℤ
  pub within : k < count
  pub is : slice_get locals (at k) ≡ Some sooner
  pub past : (from +ℤ whole_days 2) ≤ℤ sooner
  pub before : (sooner +ℤ whole_days 4) ≤ℤ local

-- so many places of a list of locals: of those from two days before an instant on, each is among them, or one is that is four days before it and certainly
-- past the instant
pub record AreNextBy (locals : List ℤ) (from : ℤ) (count : ℕ) (at : ℕ → ℕ) : Type 0 where
  pub within : (k : ℕ) → k < count → at k < length locals
  pub all : (place : ℕ) (local : ℤ) → slice_get locals place ≡ Some local → (from -ℤ whole_days 2) ≤ℤ local
      → IsAmongPlaces count at place ⊎ HasSooner locals from local count at

abbrev pub AreNext : List ℤ → ℤ → Places → Type 0
AreNext locals from places = AreNextBy locals from (count_in places) (place_in places)

abbrev pub AreNextIn : List ℤ → ℤ → List PlacedLocal → Type 0
AreNextIn locals from places = AreNextBy locals from (length places) (place_at places)

-- the local end of what starts the event is no more than so many seconds after its local start, if it is a PERIOD
abbrev pub IsLastingBy : ℤ → Rdate → Type 0
IsLastingBy seconds (At time) = Unit {0}
IsLastingBy seconds (Span start length) = span_local start length ≤ℤ (local_in start +ℤ seconds)

-- a PERIOD neither begins nor ends after a local
abbrev pub IsEndedBy : ℤ → Rdate → Type 0
IsEndedBy local (At time) = Unit {0}
IsEndedBy local (Span start length) = (local_in start ≤ℤ local) × (span_local start length ≤ℤ local)

-- it is so of each RDATE for which there is a local
abbrev pub AreEndedBy : Event → List ℤ → Type 0
AreEndedBy event lasts = (k : ℕ) (rdate : Rdate) (last : ℤ) → slice_get event.rdates k ≡ Some rdate → slice_get lasts k ≡ Some last
    → IsEndedBy last (given_by event.start rdate)

pub record AreLastingBy (event : Event) (seconds : ℤ) : Type 0 where
  pub least : pos 0 ≤ℤ seconds
  pub most : seconds ≤ℤ pos 1_000_000_000_000
  pub each : (k : ℕ) (rdate : Rdate) → slice_get event.rdates k ≡ Some rdate → IsLastingBy seconds (given_by event.start rdate)

-- a PERIOD begins or ends after a local and begins before another
abbrev pub IsSpanNear : ℤ → ℤ → Rdate → Type 0
IsSpanNear by to (At time) = ⊥
IsSpanNear by to (Span start length) = ((by <ℤ local_in start) ⊎ (by <ℤ span_local start length)) × (local_in start <ℤ to)

-- places of the event's RDATEs: such PERIODs are among them
pub record AreSpansNear (event : Event) (by to : ℤ) (places : Places) : Type 0 where
  pub within : (k : ℕ) → k < count_in places → place_in places k < length event.rdates
  pub all : (place : ℕ) (rdate : Rdate) → slice_get event.rdates place ≡ Some rdate → IsSpanNear by to (given_by event.start rdate)
      → IsAmongPlaces (count_in places) (place_in places) place

-- places of the event's RDATEs: all whose starts count, from an instant on, are among them
pub record AreCounting (clocks : Clocks) (w : Window) (event : Event) (since from : ℤ) (places : Places) : Type 0 where
  pub within : (k : ℕ) → k < count_in places → place_in places k < length event.rdates
  pub all : (place : ℕ) (rdate : Rdate) → slice_get event.rdates place ≡ Some rdate →
      counts_since clocks w event since from (time_of (given_by event.start rdate)) ≡ true → IsAmongPlaces (count_in places) (place_in places) place

-- these are the dates of an event
pub record AreDatesOf (event : Event) (dates : DatesByLocal) : Type 0 where
  pub exdates : AreByLocal (exdate_locals event) dates.exdates.items
  pub rdates : AreByLocal (rdate_locals event) dates.rdates.items
  pub longest : AreLastingBy event dates.longest
  pub lasts : AreEndedBy event dates.lasts.items

abbrev pub HasDates : Event → Option (Box DatesByLocal) → Type 0
HasDates event None = Unit {0}
HasDates event (Some dates) = AreDatesOf event dates.value

by-local-prop : (locals : List ℤ) (places : List PlacedLocal) → IsProp (AreByLocal locals places)
by-local-prop locals places = hlevel props

lasting-by-prop : (seconds : ℤ) (rdate : Rdate) → IsProp (IsLastingBy seconds rdate)
lasting-by-prop seconds (At time) = Unit-prop
lasting-by-prop seconds (Span start length) = hlevel props

lasting-prop : (event : Event) (seconds : ℤ) → IsProp (AreLastingBy event seconds)
lasting-prop event seconds = hlevel (props, lasting-by-prop)

ended-by-prop : (local : ℤ) (rdate : Rdate) → IsProp (IsEndedBy local rdate)
ended-by-prop local (At time) = Unit-prop
ended-by-prop local (Span start length) = hlevel props

ended-prop : (event : Event) (lasts : List ℤ) → IsProp (AreEndedBy event lasts)
ended-prop event lasts = hlevel (props, ended-by-prop)

pub dates-prop : (event : Event) (dates : Option (Box DatesByLocal)) → IsProp (HasDates event dates)
dates-prop event None = Unit-prop
dates-prop event (Some dates) = hlevel (props, by-local-prop, lasting-prop, ended-prop)
