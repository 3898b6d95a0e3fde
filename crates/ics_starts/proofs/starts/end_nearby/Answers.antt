use Rattle.std.proofs.Common.{◌≡◌, ◌+ℤ◌, ◌-ℤ◌, ◌≤ℤ◌, ◌<ℤ◌, ◌∙◌, ℤ, pos, w32, w64, to_z, of_z, ap, sym, subst, arith, Option}
use Rattle.std.specs.Int.{int_max, int_min}
use Rattle.std.proofs.lemmas.Int.{int_max_is, int_min_is, ints}
use Rattle.jiff_core.specs.Calendar.{IsWithin}
use Rattle.ics_fields.specs.Days.{IsDayNumber}
use Rattle.ics_fields.specs.declared.local.Local.{Local}
use Rattle.ics_fields.specs.Locals.{day_of_local, local_seconds, midnight, whole_days, year_seconds}
use Rattle.ics_listing.specs.declared.window.Window.{Window}
use Rattle.ics_starts.specs.Leeway.{seconds_off}
use Rattle.ics_starts.specs.RuleStarts.{ends_at}
use Rattle.ics_listing.specs.StartTimes.{local_of}
use Rattle.ics_listing.proofs.Cases.{moment-back}
use Rattle.ics_listing.proofs.NearLemmas.{day-under}
use Rattle.ics_starts.proofs.SettledLemmas.{off-range}
use Rattle.ics_starts.proofs.starts.end_nearby.Goals as goal
use Rattle.ics_starts.proofs.starts.end_nearby.Goals.{After-max-local}

-- a local is the last that can have the last instant, or DTSTART's
record IsLast (w : Window) (last most first off local : ℤ) : Type 0 where
  pub is : local ≡ int_max (last +ℤ most) (int_min last first)
  pub low : year_seconds 0 ≤ℤ last
  pub soon : last <ℤ w.to
  pub begun : year_seconds 0 ≤ℤ first
  pub least : pos 0 ≤ℤ off
  pub far : off ≤ℤ pos 93_600
  pub less : most ≤ℤ off

module _ {w : Window} {last most first off local : ℤ} (h : IsLast w last most first off local) where
  within : IsWithin 100_000_000_000_000 local
  within =
      let max = int_max_is (last +ℤ most) (int_min last first) in
      let min = int_min_is last first in
      (omega (arith, ints, h.is, h.low, h.begun, max, min), omega (arith, ints, h.is, h.soon, h.far, h.less, w.not_late, max, min))

  -- Its day.
  module _ {day : ℤ} (on : day ≡ day_of_local local) where
    day-in : IsDayNumber day
    day-in =
        let under = day-under local day on in
        let max = int_max_is (last +ℤ most) (int_min last first) in
        let min = int_min_is last first in (
          omega (arith, ints, under.1, h.is, h.low, h.begun, max, min),
          omega (arith, ints, under.0, h.is, h.soon, h.least, h.far, h.less, w.not_late, max, min),
        )

    late : (last +ℤ most) <ℤ midnight (day +ℤ pos 1)
    late = let under = day-under local day on in omega (arith, ints, under.1, h.is, int_max_is (last +ℤ most) (int_min last first))

    past-first : int_min last first <ℤ midnight (day +ℤ pos 1)
    past-first = let under = day-under local day on in omega (arith, ints, under.1, h.is, int_max_is (last +ℤ most) (int_min last first))

    near : midnight (day +ℤ pos 1) ≤ℤ (last +ℤ (off +ℤ whole_days 1))
    near =
        let under = day-under local day on in
        omega (arith, ints, under.0, h.is, h.least, h.less, int_max_is (last +ℤ most) (int_min last first), int_min_is last first)

    -- The day after it, read back.
    abbrev next : ℤ
    next = to_z w32 (of_z w32 (to_z w32 (of_z w32 day) +ℤ pos 1))

    next-is : next ≡ day +ℤ pos 1
    next-is = let days = day-in in omega (arith, ints, days.0, days.1)

    next-in : IsDayNumber next
    next-in =
        let days = day-in in
        (omega (arith, ints, next-is, days.0), omega (arith, ints, next-is, near, h.soon, h.far, w.not_late))

    module _ (until : Option ℤ) (ends : (last +ℤ pos 1) ≡ ends_at w until first) where
      next-late : (ends_at w until first +ℤ most) ≤ℤ midnight next
      next-late = omega (arith, ints, ends, next-is, late)

      next-past : int_min first (ends_at w until first -ℤ pos 1) <ℤ midnight next
      next-past = omega (arith, ints, ends, next-is, past-first, int_min_is last first, int_min_is first (ends_at w until first -ℤ pos 1))

      next-near : midnight next <ℤ (ends_at w until first +ℤ (off +ℤ whole_days 1))
      next-near = omega (arith, ints, ends, next-is, near)

last-local : (c : After-max-local) → IsLast c.args.window.now c.last_given-last.result c.args.most (local_seconds (local_of c.args.start))
    (seconds_off c.args.start) c.max-local.result
last-local c =
    let w = c.args.window.now in
    let r = c.requires in
    let last = rw c.local_of-first.ensures at c.last_given-last.ensures in
    let fits = c.last_given-last.type_inv in
    let min = c.min in
    let max = c.max-local in
    let off = off-range c.args.start in
    let own : c.seconds.result ≡ local_seconds (local_of c.args.start) = c.seconds.ensures ∙ ap (λ (l : Local). local_seconds l) c.local_of-first.ensures in
    let second = (local_of c.args.start).second_in in
    let sum : to_z w64 (of_z w64 (to_z w64 (of_z w64 c.last_given-last.result) +ℤ to_z w64 (of_z w64 c.args.most))) ≡ c.last_given-last.result +ℤ c.args.most =
    omega (arith, ints, last.low, last.early, w.not_late, fits, r.short) in
    let least : min.result ≡ int_min c.last_given-last.result (local_seconds (local_of c.args.start)) =
    omega (arith, ints, int_min_is, min.ensures.value, min.type_inv, own, fits, r.day.0, r.day.1, second, last.low, last.early, w.not_late) in record {
      is = max.ensures.value ∙ (λ i. int_max (sum i) ((moment-back min.result min.type_inv ∙ least) i));
      low = last.low;
      soon = last.early;
      begun = omega (arith, ints, r.day.0, second);
      least = off.0;
      far = off.1;
      less = r.most;
    }

pub of_seconds-requires : goal.of_seconds-requires
of_seconds-requires c =
    let h = last-local (goal.at.of_seconds-requires c).After-max-local in
    subst (IsWithin 100_000_000_000_000) (sym (moment-back c.max-local.result c.max-local.type_inv)) (within h)

pub overflow_add-result : goal.overflow_add-result
overflow_add-result c =
    let h = last-local (goal.at.overflow_add-result c).After-max-local in
    let days = day-in h (c.of_seconds.ensures.day ∙ ap day_of_local (moment-back c.max-local.result c.max-local.type_inv)) in
    omega (arith, ints, days.0, days.1)

pub returns : goal.returns
returns c =
    let h = last-local (goal.at.returns c).After-max-local in
    let on : c.of_seconds.result.day ≡ day_of_local c.max-local.result =
    c.of_seconds.ensures.day ∙ ap day_of_local (moment-back c.max-local.result c.max-local.type_inv) in
    let ends = (rw c.local_of-first.ensures at c.last_given-last.ensures).value in record {
      day = next-in h on;
      after = next-late h on c.args.until ends;
      first = next-past h on c.args.until ends;
      soon = next-near h on c.args.until ends;
    }
