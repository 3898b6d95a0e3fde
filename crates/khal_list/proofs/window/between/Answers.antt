use Rattle.std.proofs.lemmas.Grind.{common_steps}
use Rattle.std.proofs.Common.{◌≡◌, ◌≤ℤ◌, ◌<ℤ◌, ◌+ℤ◌, ℤ, Some, None, arith, rules, FitsSigned, w64}
use Rattle.std.proofs.lemmas.Int.{to_z-of_z, ints}
use Rattle.ics_fields.specs.Locals.{local_seconds, whole_days}
use Rattle.ics_zone.specs.Inner.Near.{moment_near}
use Rattle.ics_zone.specs.ZoneSaid.{display_said, said_moment}
use Rattle.ics_zone.specs.declared.display.Display.{Display}
use Rattle.khal_list.specs.Windows.{between, first_start, last_end}
use Rattle.khal_list.proofs.window.between.Goals as goal
use Rattle.khal_list.proofs.window.between.Goals.{then-end-lt-FIRST_DAY-via-then-end-lt-FIRST_DAY}
use Rattle.khal_list.proofs.window.between.Goals.{then-end-lt-FIRST_DAY-via-else-end-lt-FIRST_DAY+then-start-gt-LAST_DAY}

module _ (zone : Display) (start end : ℤ) where
  -- instants that do not rise make no window
  falling : said_moment (display_said zone) end ≤ℤ said_moment (display_said zone) start → None ≡ between (display_said zone) start end
  falling late = grind (arith, ints)

  -- nor do locals of which the start is four days behind the end
  apart : (end +ℤ whole_days 4) ≤ℤ start → None ≡ between (display_said zone) start end
  apart far =
      let start_near = moment_near zone start in
      let end_near = moment_near zone end in
      falling (omega (arith, ints))

  -- a window whose start is not too early, whose end is not too late, and whose instants rise
  rising : first_start ≤ℤ start → end ≤ℤ last_end → said_moment (display_said zone) start <ℤ said_moment (display_said zone) end
      → Some (said_moment (display_said zone) start, said_moment (display_said zone) end) ≡ between (display_said zone) start end
  rising early late rise = grind (arith, ints)

pub returns-then-end-lt-FIRST_DAY-clause-ends : goal.returns-then-end-lt-FIRST_DAY-clause-ends
returns-then-end-lt-FIRST_DAY-clause-ends c =
    apart c.args.zone.now (local_seconds c.args.start) (local_seconds c.args.end) (elim c.then-end-lt-FIRST_DAY.branch [
      | then-end-lt-FIRST_DAY-via-then-end-lt-FIRST_DAY w ↦ omega (arith, ints)
      | then-end-lt-FIRST_DAY-via-else-end-lt-FIRST_DAY+then-start-gt-LAST_DAY w ↦ omega (arith, ints)
    ])

pub invariant_of-result : goal.invariant_of-result
invariant_of-result c = record { ordered = omega (arith, ints); not_early = omega (arith, ints); not_late = omega (arith, ints) }

pub returns-then-from-to-clause-ends : goal.returns-then-from-to-clause-ends
returns-then-from-to-clause-ends c =
    let from_fits : FitsSigned w64 c.instant-from.result = search rules in
    let to_fits : FitsSigned w64 c.instant-to.result = search rules in
    simp to_z-of_z (rw (c.instant-from.ensures.value, c.instant-to.ensures.value) (
    rising c.args.zone.now (local_seconds c.args.start) (local_seconds c.args.end) (omega (arith, ints)) (omega (arith, ints))
    (rw (← c.instant-from.ensures.value, ← c.instant-to.ensures.value) (omega (arith, ints)))))

pub returns-else-from-to-clause-ends : goal.returns-else-from-to-clause-ends
returns-else-from-to-clause-ends c =
    falling c.args.zone.now (local_seconds c.args.start) (local_seconds c.args.end)
    (rw (← c.instant-from.ensures.value, ← c.instant-to.ensures.value) (omega (arith, ints)))

pub returns-then-seconds-lt-FIRST_START-clause-ends : goal.returns-then-seconds-lt-FIRST_START-clause-ends
returns-then-seconds-lt-FIRST_START-clause-ends c = grind (ints, arith, common_steps)
