use Rattle.std.proofs.Common.{arith, rules, w64, SFits}
use Rattle.std.proofs.lemmas.Int.{int_min_is, ints}
use Rattle.ics_starts.proofs.QuietLemmas.{quiet-by}
use Rattle.ics_starts.proofs.rule_starts.RuleStarts.quiet_to.Goals as goal

pub overflow_add-after : goal.overflow_add-after
overflow_add-after c =
    let settles : SFits w64 c.settled_at-settled.result = search rules in
    omega (arith, ints, c.settled_at-settled.ensures.near)

pub quiet_past-requires-clause-late : goal.quiet_past-requires-clause-late
quiet_past-requires-clause-late c =
    let seconds : SFits w64 c.seconds.result = search rules in
    omega (arith, ints, c.is_told_by.ensures.late c.if-is_told_by.true, c.seconds.ensures)

pub quiet_past-requires-clause-early : goal.quiet_past-requires-clause-early
quiet_past-requires-clause-early c =
    let seconds : SFits w64 c.seconds.result = search rules in
    omega (arith, ints, c.is_told_by.ensures.early c.if-is_told_by.true, c.seconds.ensures)

pub returns : goal.returns
returns c =
    let s = c.args.self.now in
    let least : SFits w64 c.args.self.now.beyond = search rules in
    let settles : SFits w64 c.settled_at-settled.result = search rules in
    let near = c.settled_at-settled.ensures.near in
    quiet-by s c.args.next c.requires.none (omega (arith, ints, int_min_is, c.min.ensures))
    (omega (arith, ints, int_min_is, c.min.ensures, near)) c.settled_at-settled.ensures.after
