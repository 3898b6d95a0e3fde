use Rattle.ics_rule.proofs.WalkLemmas.{walk_ahead, walk_begins, walk_counts}
use Rattle.ics_rule.proofs.cursor.Cursor.first_step.Goals as goal

pub returns-then-is_ahead : goal.returns-then-is_ahead
returns-then-is_ahead c =
    let ahead = rw c.requires.period at (c.is_ahead.ensures c.if-is_ahead.true) in
    λ stop h. walk_ahead c.args.search.now.interval (rw (c.args.search.now.of_start, c.period_of-quiet.ensures.value, c.min.ensures) at c.next_step.ensures)
    ahead (record { count = _; some = ahead.some; after = c.requires.after; early = c.requires.early; own = c.requires.cursor }) h

pub returns-in-None : goal.returns-in-None
returns-in-None c = λ stop h. rw c.in-None.is (walk_begins c.args.search.now.interval
    (rw (c.args.search.now.of_start, c.requires.period) at c.next_step-in-None.ensures) h (rw c.in-None.is at c.requires.cursor))

pub pass_periods-requires : goal.pass_periods-requires
pass_periods-requires c = record {
  cursor = record { count = _; some = c.in-Some.is; after = c.requires.after; early = c.requires.early; own = c.requires.cursor };
}

pub returns-in-Some : goal.returns-in-Some
returns-in-Some c = λ stop h. walk_counts c.in-Some.is c.pass_periods.ensures c.args.search.now.of_start
    c.counted_from.ensures.number c.args.search.now.interval c.requires.after h
