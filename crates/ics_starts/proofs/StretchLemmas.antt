-- What a stretch of locals tells of a clock.
use Rattle.std.proofs.Common.{◌≡◌, ℤ, ◌-ℤ◌, ◌≤ℤ◌, ◌<ℤ◌, true, int_le, Option, Some, ℕ, refl, sym, ◌∙◌, ap, subst, arith}
use Rattle.std.proofs.Math.Logic.{∥∥₁_elim}
use Rattle.std.proofs.lemmas.Int.{ints}
use Rattle.ics_fields.specs.Locals.{local_seconds}
use Rattle.ics_fields.specs.declared.local.Local.{Local}
use Rattle.ics_values.specs.declared.stamp.Stamp.{Stamp}
use Rattle.ics_values.specs.declared.stamp.Stamp.TheVariants.{Date, Floating, Utc, Zoned}
use Rattle.ics_event.specs.Event.{stamp_seconds, Time}
use Rattle.ics_listing.specs.FileClocks.{Clock, Clocks}
use Rattle.ics_listing.specs.StartTimes.{local_of, stamp_at, time_at}
use Rattle.ics_period.proofs.Tests.{and_true}
use Rattle.ics_zone.proofs.Cases.{int_le_true, int_lt_true}
use Rattle.ics_zone.specs.Spans.{AreSpans}
use Rattle.ics_zone.specs.Stretches.{IsStretch}
use Rattle.ics_zone.specs.declared.spans.Spans.{Spans}
use Rattle.ics_zone.specs.declared.stretch.Stretch.{Stretch}
use Rattle.ics_starts.specs.Clocks.{clock_by, clock_of, instant, is_in, AreSpansOf, IsStretched}
use Rattle.ics_starts.specs.RuleStartLaws.{stretched-prop}

pub inside : (s : Stretch) (local : ℤ) → is_in s local ≡ true → (s.from ≤ℤ local) × (local <ℤ s.to)
inside s local e =
    let both = and_true {a = int_le s.from local} e in
    (int_le_true s.from local both.0, int_lt_true local s.to both.1)

-- the seconds of a stamp's local
pub seconds-of : (s : Stamp) → local_seconds (local_of s) ≡ stamp_seconds s
seconds-of (Date day) = omega (arith, ints)
seconds-of _ = refl

-- a time of the same kind, in the same zone, is read by the same clock
pub clock-at : (clocks : Clocks) (index : Option ℕ) (s : Stamp) (a : Local) → clock_by clocks index (stamp_at s a) ≡ clock_by clocks index s
clock-at clocks index (Date day) a = refl
clock-at clocks index (Floating local) a = refl
clock-at clocks index (Utc local) a = refl
clock-at clocks index (Zoned local) a = refl

-- what is known of the clock of a time is known of that of one like it
pub stretched-at : (clocks : Clocks) (first : Time) (a : Local) (s : Stretch) → IsStretched (clock_of clocks first) s
    → IsStretched (clock_of clocks (time_at first a)) s
stretched-at clocks first a s h = subst (λ (clock : Clock). IsStretched clock s) (sym (clock-at clocks first.zone first.stamp a)) h

-- a time whose local is in the stretch has the instant that the offset tells
pub instant-inside : (clocks : Clocks) (time : Time) (s : Stretch) → IsStretched (clock_of clocks time) s → (local : ℤ) → local ≡ stamp_seconds time.stamp
    → is_in s local ≡ true → local -ℤ s.offset ≡ instant clocks time
instant-inside clocks time s h local is e =
    let at = inside s local e in
    sym (h.moments local at.0 at.1) ∙ ap (clock_of clocks time).moment is

-- what spans tell is a stretch of the clock whose spans they are
pub kept-stretched : (clock : Clock) (kept : Spans) (s : Stretch) → AreSpansOf clock (Some kept)
    → ((offset moment : ℤ → ℤ) → AreSpans offset moment kept → IsStretch offset moment s) → IsStretched clock s
kept-stretched clock kept s are told = ∥∥₁_elim are (stretched-prop clock s) (told clock.offset clock.moment)
