-- How far a local's instant can be from it.
use Rattle.std.proofs.Common.{◌≡◌, ◌∙◌, ℕ, ◌≤◌, ℤ, pos, ◌+ℤ◌, ◌-ℤ◌, ◌<ℤ◌, ◌≤ℤ◌, Bool, true, false, if◌then◌else◌, inl, inr, ap, refl, sym, subst, arith}
use Rattle.std.proofs.lemmas.Int.{int_min_is, ints}
use Rattle.std.specs.Int.{int_min}
use Rattle.jiff_core.specs.Calendar.{IsBetween, IsWithin}
use Rattle.ics_event.specs.declared.event.Event.{Event}
use Rattle.ics_fields.specs.Days.{IsDayNumber}
use Rattle.ics_fields.specs.Locals.{local_seconds, midnight, whole_days, year_number, year_seconds}
use Rattle.ics_values.specs.declared.stamp.Stamp.{Stamp}
use Rattle.ics_values.specs.declared.stamp.Stamp.TheVariants.{Date, Floating, Utc, Zoned}
use Rattle.ics_event.specs.Event.{stamp_seconds}
use Rattle.ics_zone.specs.declared.bounds.Bounds.{Bounds}
use Rattle.ics_zone.specs.declared.stretch.Stretch.{Stretch}
use Rattle.ics_zone.proofs.Cases.{less_or_not_z}
use Rattle.ics_listing.specs.FileClocks.{Clock, Clocks}
use Rattle.ics_starts.specs.declared.zones.FileZones.{FileZones}
use Rattle.ics_starts.specs.Clocks.{clock_at, clock_by, clock_of, is_in, IsBounded, IsStretched}
use Rattle.ics_starts.specs.Leeway.{seconds_off}
use Rattle.ics_starts.specs.FileZones.{clocks_in}
use Rattle.ics_starts.specs.RuleStarts.{local_numbered, midnight_number, moment_numbered, read_from, settled_from}
use Rattle.ics_listing.specs.StartTimes.{stamp_at}
use Rattle.ics_listing.proofs.StartOrderLemmas.{written-at}
use Rattle.ics_starts.proofs.RuleDayLemmas.{day-written, seconds-numbered}
use Rattle.ics_starts.proofs.StretchLemmas.{clock-at, inside, stretched-at}

-- the first local that can be read is not after one that is not read yet
pub read-late : (s : Stamp) (day next : ℤ) (n : ℕ) → IsDayNumber day → midnight_number day ≤ n → (next +ℤ pos 62_167_219_200) ≤ℤ pos n
    → read_from s day next ≤ℤ stamp_seconds (stamp_at s (local_numbered n))
read-late (Date first) day next n h l m =
    let wrote : stamp_seconds (stamp_at (Date first) (local_numbered n)) ≡ midnight (local_numbered n).day = omega (arith, ints) in
    omega (arith, ints, wrote, h.0, l)
read-late (Utc first) day next n h l m = omega (arith, ints, seconds-numbered n, m)
read-late (Floating first) day next n h l m = omega (arith, ints, seconds-numbered n, m)
read-late (Zoned first) day next n h l m = omega (arith, ints, seconds-numbered n, m)

pub read-years : (s : Stamp) (day next : ℤ) → IsDayNumber day → IsBetween (year_seconds 0) (year_seconds 10_000) next
    → IsBetween (year_seconds 0) (year_seconds 10_000) (read_from s day next)
read-years (Date first) day next h years = (omega (arith, ints, h.0), omega (arith, ints, h.1))
read-years (Utc first) day next h years = years
read-years (Floating first) day next h years = years
read-years (Zoned first) day next h years = years

-- What a stretch and the greatest offset tell of the instants of the locals from one on.
module _ (s : Stretch) (most first : ℤ) where
  abbrev settled-if : Bool → ℤ
  settled-if known = (if known then int_min (first -ℤ s.offset +ℤ most) s.to else first) -ℤ most -ℤ pos 1

  -- none of them is before the settled one
  after-settled : (local t : ℤ) → first ≤ℤ local → (local -ℤ most) ≤ℤ t → (s.from ≤ℤ local → local <ℤ s.to → t ≡ local -ℤ s.offset)
      → settled_from s most first <ℤ t
  unfolding settled_from
  after-settled local t on near shown = by (is_in s first) refl
    where
      by : (known : Bool) → is_in s first ≡ known → settled-if known <ℤ t
      by false e = omega (arith, ints, near, on)
      by true e =
          let at = inside s first e in
          let least = int_min_is (first -ℤ s.offset +ℤ most) s.to in
          elim (less_or_not_z local s.to) [
            | inl before ↦ let same = shown (omega (arith, ints, at.0, on)) before in omega (arith, ints, same, on, least)
            | inr past ↦ omega (arith, ints, near, past, least)
          ]

  -- which is less than two days before the first local
  settled-after : IsWithin 93_599 s.offset → most ≤ℤ pos 93_599 → (first -ℤ whole_days 2) ≤ℤ settled_from s most first
  unfolding settled_from
  settled-after short less = by (is_in s first) refl
    where
      by : (known : Bool) → is_in s first ≡ known → (first -ℤ whole_days 2) ≤ℤ settled-if known
      by false e = omega (arith, ints, less)
      by true e = omega (arith, ints, less, short.1, (inside s first e).1, int_min_is (first -ℤ s.offset +ℤ most) s.to)

  -- and which is not later, but by as much as the offset is less than the greatest
  pub settled-before : IsWithin 93_599 s.offset → IsWithin 93_599 most → settled_from s most first ≤ℤ (first +ℤ whole_days 3)
  unfolding settled_from
  settled-before short less = by (is_in s first) refl
    where
      by : (known : Bool) → is_in s first ≡ known → settled-if known ≤ℤ (first +ℤ whole_days 3)
      by false e = omega (arith, ints, less)
      by true e = omega (arith, ints, less, short, int_min_is (first -ℤ s.offset +ℤ most) s.to)

-- Where the clock of DTSTART stays between two offsets.
module _ (zones : FileZones) (event : Event) (b : Bounds) (bounded : IsBounded (clock_of (clocks_in zones) event.start) b) where
  -- a local as it is written
  abbrev written : ℕ → ℤ
  written n = stamp_seconds (stamp_at event.start.stamp (local_numbered n))

  near : (n : ℕ) → IsBetween (written n -ℤ b.most) (written n -ℤ b.least) (moment_numbered (clocks_in zones) event n)
  near n =
      (subst (λ (clock : Clock). IsBounded clock b) (sym (clock-at (clocks_in zones) event.start.zone event.start.stamp (local_numbered n))) bounded).moments
      (written n)

  -- a local from one on means an instant after the one that is settled by a stretch
  pub late-from : (s : Stretch) → IsStretched (clock_of (clocks_in zones) event.start) s → (first : ℤ) (n : ℕ) → first ≤ℤ written n
      → settled_from s b.most first <ℤ moment_numbered (clocks_in zones) event n
  late-from s stretched first n on =
      after-settled s b.most first (written n) (moment_numbered (clocks_in zones) event n) on (near n).0
      ((stretched-at (clocks_in zones) event.start (local_numbered n) s stretched).moments (written n))

  -- and so does one that is not read yet
  pub late-stretched : (s : Stretch) → IsStretched (clock_of (clocks_in zones) event.start) s → (day next : ℤ) (n : ℕ) → IsDayNumber day
      → midnight_number day ≤ n → (next +ℤ pos 62_167_219_200) ≤ℤ pos n
      → settled_from s b.most (read_from event.start.stamp day next) <ℤ moment_numbered (clocks_in zones) event n
  late-stretched s stretched day next n h l m =
      late-from s stretched (read_from event.start.stamp day next) n (read-late event.start.stamp day next n h l m)

  -- a local from a day's midnight on means an instant that is no more before it than the clock is ahead
  pub off-numbered : (day : ℤ) (n : ℕ) → IsDayNumber day → midnight_number day ≤ n →
      (midnight day -ℤ b.most) ≤ℤ moment_numbered (clocks_in zones) event n
  off-numbered day n h l =
      let wrote = day-written event.start.stamp (local_numbered n) in
      omega (arith, ints, (near n).0, wrote, h.0, l)

  -- and one that is no more past it than the clock is behind
  pub early-local : (n : ℕ) → moment_numbered (clocks_in zones) event n ≤ℤ (pos n -ℤ pos 62_167_219_200 -ℤ b.least)
  early-local n =
      let wrote = written-at event.start.stamp (local_numbered n) in
      omega (arith, ints, (near n).1, wrote.0, seconds-numbered n)

-- the event as it is seen has no date
pub no-date : {u v : Event} → u ≡ v → ((day : ℤ) → u.start.stamp ≡ Date day → ⊥) → (day : ℤ) → v.start.stamp ≡ Date day → ⊥
no-date is none day e = none day (ap (λ (v : Event). v.start.stamp) is ∙ e)

-- a local of a date-time is read at its seconds
pub moment-read : (clocks : Clocks) (event : Event) → ((day : ℤ) → event.start.stamp ≡ Date day → ⊥) → (n : ℕ)
    → moment_numbered clocks event n ≡ (clock_of clocks event.start).moment (pos n -ℤ pos (year_number 1_970))
moment-read clocks event apart n = by event.start.stamp apart
  where
    seconds : local_seconds (local_numbered n) ≡ pos n -ℤ pos (year_number 1_970)
    seconds = omega (arith, ints, seconds-numbered n)

    by : (s : Stamp) → ((day : ℤ) → s ≡ Date day → ⊥)
        → (clock_by clocks event.start.zone (stamp_at s (local_numbered n))).moment (stamp_seconds (stamp_at s (local_numbered n)))
        ≡ (clock_by clocks event.start.zone s).moment (pos n -ℤ pos (year_number 1_970))
    by (Date day) h = absurd (h day refl)
    by (Floating local) h = ap clocks.display.moment seconds
    by (Utc local) h = seconds
    by (Zoned local) h = ap (clock_at clocks.zones event.start.zone).moment seconds

pub off-range : (s : Stamp) → (pos 0 ≤ℤ seconds_off s) × (seconds_off s ≤ℤ pos 93_600)
off-range (Date day) = (omega (arith, ints), omega (arith, ints))
off-range (Floating local) = (omega (arith, ints), omega (arith, ints))
off-range (Utc local) = (omega (arith, ints), omega (arith, ints))
off-range (Zoned local) = (omega (arith, ints), omega (arith, ints))

read-on : (s : Stamp) (day next : ℤ) → midnight day ≤ℤ next → midnight day ≤ℤ read_from s day next
read-on (Date first) day next l = omega (arith, ints)
read-on (Utc first) day next l = l
read-on (Floating first) day next l = l
read-on (Zoned first) day next l = l

-- it is no more than two days before the midnight of the day that is read
pub settled-late : (s : Stretch) → IsWithin 93_599 s.offset → (start : Stamp) (most day next : ℤ) → most ≤ℤ pos 93_599 → midnight day ≤ℤ next
    → (midnight day -ℤ whole_days 2) ≤ℤ settled_from s most (read_from start day next)
settled-late s short start most day next less l =
    omega (arith, ints, settled-after s most (read_from start day next) short less, read-on start day next l)
