use Rattle.std.proofs.Common.{◌∙◌, ◌-◌, ◌%◌}
use Rattle.std.proofs.Math.Nat.{mod-lt}
use Rattle.ics_rule.proofs.RestLemmas.{rest_same}
use Rattle.ics_rule.proofs.each_day.steps_at.Goals as goal

pub returns-in-Some : goal.returns-in-Some
returns-in-Some c =
    let q = c.args.search.now.parts.now in
    let rests = rw c.in-Some.is at c.requires.steps in
    rests.1 ((c.args.day - c.args.from) % q.interval) (mod-lt (c.args.day - c.args.from) c.args.search.now.interval)
    ∙ rest_same q c.args.search.now.first c.args.from c.args.day c.requires.fine c.requires.unit c.args.search.now.interval c.requires.first c.requires.order
