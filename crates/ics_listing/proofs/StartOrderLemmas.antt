-- The order of what gives a start.
use Rattle.std.proofs.Common.{◌≡◌, ℕ, ◌<◌, ℤ, pos, ◌+ℤ◌, ◌<ℤ◌, ◌≤ℤ◌, List, All, Option, Some, is_some, refl, ap, subst, arith, slice_get, ◌&&◌, ◌==◌, int_eq}
use Rattle.std.proofs.Props.{props}
use Rattle.std.proofs.lemmas.Int.{ints}
use Rattle.std.proofs.lemmas.Option.{get_or_from_slice_get, slice_get_within}
use Rattle.std.proofs.lemmas.Bool.Decides.{nat_tests}
use mathlib.Core.HLevel.{is_prop→PathP}
use Rattle.ics_fields.specs.Days.{IsDayNumber, day_index, IsStampDay}
use Rattle.ics_fields.specs.Locals.{number, local_seconds}
use Rattle.ics_values.specs.Stamps.{stamp_day}
use Rattle.ics_fields.specs.declared.local.Local.{Local}
use Rattle.ics_values.specs.declared.stamp.Stamp.{Stamp}
use Rattle.ics_values.specs.declared.stamp.Stamp.TheVariants.{Date}
use Rattle.ics_event.specs.Event.{Rdate}
use Rattle.ics_values.specs.declared.time.Rdate.TheVariants.{At, Span}
use Rattle.ics_event.specs.Event.{Time}
use Rattle.ics_event.specs.Event.{is_zoned, IsRdate, IsTime, RdateBelow, TimeBelow, stamp_seconds}
use Rattle.ics_listing.specs.declared.start.StartSource.{StartSource}
use Rattle.ics_listing.specs.declared.start.StartSource.TheVariants.{Kept, Listed}
use Rattle.ics_listing.specs.FileClocks.{day_of}
use Rattle.ics_listing.specs.StartTimes.{date_only, local_of, stamp_at, time_at, time_of, IsNotAfter}

-- Locals.
pub index-is : (d : ℤ) → IsDayNumber d → pos (day_index d) ≡ d +ℤ pos 719_528
index-is d h = omega (arith, ints, h.0)

-- a local's number counts from the year 0000, its seconds from 1970
pub number-seconds : (a : Local) → IsDayNumber a.day → pos (number a) ≡ local_seconds a +ℤ pos 62_167_219_200
number-seconds a h = omega (arith, ints, index-is a.day h)

-- two locals with the same seconds are the same
pub same-seconds : (a b : Local) → local_seconds a ≡ local_seconds b → a ≡ b
same-seconds a b e =
    let day : a.day ≡ b.day = omega (arith, ints, a.second_in, b.second_in) in
    let second : a.second ≡ b.second = omega (arith, ints, a.second_in, b.second_in) in
    λ i. record { day = day i; second = second i; second_in = is_prop→PathP (λ j. second j < 86_400) (λ j. hlevel props) a.second_in b.second_in i }

pub same-number : (a b : Local) → IsDayNumber a.day → IsDayNumber b.day → number a ≡ number b → a ≡ b
same-number a b h k e = same-seconds a b (omega (arith, ints, number-seconds a h, number-seconds b k))

-- Stamps of one kind.
pub own-stamp : (s : Stamp) → stamp_at s (local_of s) ≡ s
own-stamp (Date day) = refl
own-stamp _ = refl

-- a stamp writes the local, or the midnight of its day
pub written-at : (s : Stamp) (a : Local) → (stamp_seconds (stamp_at s a) ≤ℤ local_seconds a) × (local_seconds a <ℤ (stamp_seconds (stamp_at s a) +ℤ pos 86_400))
written-at (Date day) a = (omega (arith, ints), omega (arith, ints, a.second_in))
written-at _ a = (omega (arith, ints), omega (arith, ints))

-- a stamp's day is that of its local
stamp_days : (s : Stamp) → (stamp_day s ≡ (local_of s).day) × (stamp_day s ≡ day_of s)
stamp_days (Date day) = (refl, refl)
stamp_days _ = (refl, refl)

-- Times.
pub own-time : (time : Time) → time_at time (local_of time.stamp) ≡ time
own-time time = ap (λ s. record { stamp = s; zone = time.zone }) (own-stamp time.stamp)

stamp-time : (s : Stamp) (zone : Option ℕ) (a : Local) → is_some zone ≡ is_zoned s → IsStampDay a.day → IsTime (record { stamp = stamp_at s a; zone = zone })
stamp-time (Date day) zone a z d = record { years = d; zone = z }
stamp-time _ zone a z d = record { years = d; zone = z }

pub time-at : (time : Time) (a : Local) → IsTime time → IsStampDay a.day → IsTime (time_at time a)
time-at time a h d = stamp-time time.stamp time.zone a h.zone d

pub own-day : (time : Time) → IsTime time → IsStampDay (local_of time.stamp).day
own-day time h = subst IsStampDay (stamp_days time.stamp).0 h.years

pub calendar-day : (d : ℤ) → IsStampDay d → IsDayNumber d
calendar-day d h = (omega (arith, ints, h.0), omega (arith, ints, h.1))

-- two of which none is after the other are the same
pub same-source : (g k : StartSource) → IsNotAfter g k → IsNotAfter k g → g ≡ k
same-source (Kept a) (Kept b) h l = ap Kept (same-seconds a b (omega (arith, ints, h, l)))
same-source (Kept a) (Listed b) h l = absurd l
same-source (Listed a) (Kept b) h l = absurd h
same-source (Listed a) (Listed b) h l = ap Listed (omega (arith, h, l))

-- Values that give starts.
pub rdate-time : (r : Rdate) → IsRdate r → IsTime (time_of r)
rdate-time (At time) h = h
rdate-time (Span start lasts) h = h.0

pub rdate-below : (zones : ℕ) (r : Rdate) → RdateBelow zones r → TimeBelow zones (time_of r)
rdate-below zones (At time) h = h
rdate-below zones (Span start lasts) h = h.0

pub day-years : (time : Time) → IsTime time → IsStampDay (day_of time.stamp)
day-years time h = subst IsStampDay (stamp_days time.stamp).1 h.years

pub date-time : (time : Time) → IsTime time → IsTime (date_only time)
date-time time h = record { years = day-years time h; zone = refl }

-- what holds of all of a list holds at each of its places
pub all-at : {A : Type 0} (P : A → Type 0) (xs : List A) (k : ℕ) (x : A) → All P xs → slice_get xs k ≡ Some x → P x
all-at P xs k x h e = subst P (get_or_from_slice_get xs k x x e) (h k x (slice_get_within xs k x e))

-- two locals are one exactly if their numbers are
pub local-test : (a b : Local) → IsDayNumber a.day → IsDayNumber b.day → (int_eq a.day b.day && (a.second == b.second)) ≡ (number a == number b)
local-test a b h k = grind (arith, ints, nat_tests, a.second_in, b.second_in, number-seconds a h, number-seconds b k)
