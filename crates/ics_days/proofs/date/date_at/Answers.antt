use Rattle.std.proofs.Common.{rules, ◌≡◌, ◌+ℤ◌, ℕ, ℤ, ◌<◌, pos, arith, to_z, of_z, w32, w64, ◌≤ℤ◌, ◌<ℤ◌, ◌-ℤ◌, FitsSigned}
use Rattle.std.proofs.lemmas.Int.{ints, to_z-of_z}
use Rattle.ics_fields.specs.Days.{IsDayNumber}
use Rattle.ics_zone.specs.Inner.Near.{offset_near}
use Rattle.ics_zone.specs.Seconds.{IsNear}
use Rattle.ics_fields.specs.Locals.{seconds_at}
use Rattle.ics_listing.specs.WindowBounds.{occurrence_first, occurrence_end}
use Rattle.ics_days.proofs.date.date_at.Goals as goal

-- a local near an instant of those years lies in the years 0000 to 9999, and so does the day before
day_within : {day : ℤ} {second : ℕ} {moment offset : ℤ} → FitsSigned w32 day → second < 86_400 → seconds_at day second ≡ moment +ℤ offset → IsNear offset
    → occurrence_first ≤ℤ moment → moment <ℤ occurrence_end
    → IsDayNumber (to_z w32 (of_z w32 day) -ℤ pos 1) × IsDayNumber (to_z w32 (of_z w32 day))
day_within fits small same near early late = ((omega (arith, ints), omega (arith, ints)), (omega (arith, ints), omega (arith, ints)))

pub returns-clause-within : goal.returns-clause-within
returns-clause-within c =
    let fits : FitsSigned w32 c.local.result.day = search rules in
    (day_within fits c.local.result.second_in (rw (to_z-of_z w64 c.args.moment c.ranges.moment) at c.local.ensures)
    (offset_near c.args.display.now c.args.moment) c.requires.early c.requires.late).1

pub returns-clause-before : goal.returns-clause-before
returns-clause-before c =
    let fits : FitsSigned w32 c.local.result.day = search rules in
    (day_within fits c.local.result.second_in (rw (to_z-of_z w64 c.args.moment c.ranges.moment) at c.local.ensures)
    (offset_near c.args.display.now c.args.moment) c.requires.early c.requires.late).0
