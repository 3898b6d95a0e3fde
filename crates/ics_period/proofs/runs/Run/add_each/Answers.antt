use Rattle.std.proofs.Common.{arith}
use Rattle.ics_fields.specs.Sets.{contains_wide}
use Rattle.ics_period.proofs.RunLemmas.{weekday_first, weekday_added, weekday_done}
use Rattle.ics_period.proofs.runs.Run.add_each.Goals as goal

pub loop-place-init : goal.loop-place-init
loop-place-init c = grind (arith, weekday_first)

pub loop-place-preserved : goal.loop-place-preserved
loop-place-preserved c = grind (arith, weekday_added)

pub returns : goal.returns
returns c = λ m. weekday_done c.args.self c.args.weekday c.loop-place.place m (contains_wide c.args.days.now m) (contains_wide c.loop-place.days m)
    c.loop-place.invariant.1 c.loop-place-test.false (c.loop-place.invariant.0 m)
