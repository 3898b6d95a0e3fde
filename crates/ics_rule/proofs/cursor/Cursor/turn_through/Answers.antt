use Rattle.std.proofs.Common.{◌≡◌, ◌+◌, ◌-◌, ◌≤◌, arith}
use Rattle.ics_period.specs.Candidates.{period_in}
use Rattle.ics_period.proofs.PeriodLemmas.{begun}
use Rattle.ics_rule.proofs.CursorLemmas.{held_is, moved_none, there}
use Rattle.ics_rule.proofs.WalkLemmas.{walk_counts, walk_goes_on, walk_stopped}
use Rattle.ics_rule.proofs.PassedLemmas.{none_within, not_past, passed_to, top_of}
use Rattle.ics_rule.proofs.cursor.Cursor.turn_through.Goals as goal

pub loop-number-init : goal.loop-number-init
loop-number-init c = record {
  walk = walk_counts c.requires.cursor.some (record { own = c.requires.cursor.own; moved = moved_none _ c.requires.cursor.own })
      c.args.search.now.of_start c.requires.begin c.args.search.now.interval c.requires.cursor.after (omega arith);
  high = c.requires.order;
}

pub turn_to-requires-clause-reach : goal.turn_to-requires-clause-reach
turn_to-requires-clause-reach c = let high = c.loop-number.invariant.high in grind (arith, begun)

pub next_step_after-requires-clause-last : goal.next_step_after-requires-clause-last
next_step_after-requires-clause-last c =
    let same : c.args.self.now.place + 1 - 1 ≡ c.args.self.now.place = omega arith in rw same c.period_of-last.ensures.value

pub loop-number-preserved : goal.loop-number-preserved
loop-number-preserved c =
    let walk = c.loop-number.invariant.walk in
    let turned = held_is _ c.in-Some.is (c.turn_to.ensures.turned c.if-not-turn_to.false) in
    record {
      walk = walk_goes_on walk turned c.turn_to.ensures.looks
          (top_of c.args.search.now.parts.now c.args.self.now.place c.loop-number.number (omega (arith, c.loop-number-test.true, c.requires.end)))
          (none_within c.args.search.now.parts.now c.args.search.now.start c.args.self.now.place (omega (arith, c.loop-number-test.true, c.requires.end)))
          (rw c.min-number.ensures (not_past c.args.search.now.interval walk.step c.requires.step c.loop-number-test.true
          (rw (c.args.search.now.of_start, turned.number) at c.next_step_after.ensures)));
      high = omega (arith, c.min-number.ensures);
    }

pub turn_to-requires-2-clause-reach : goal.turn_to-requires-2-clause-reach
turn_to-requires-2-clause-reach c = grind (arith, begun)

pub returns-then-turn_to-clause-counted : goal.returns-then-turn_to-clause-counted
returns-then-turn_to-clause-counted c =
    let turned = (there _ c.turn_to-2.new.self.held (c.turn_to-2.ensures.turned c.if-turn_to.true)).1 in
    let high = c.loop-number.invariant.high in
    let top : c.loop-number.number ≤ period_in c.args.search.now.parts.now c.args.self.now.place = omega (arith, high, c.requires.end) in
    passed_to turned (walk_stopped c.loop-number.invariant.walk turned c.turn_to-2.ensures.looks
    (top_of c.args.search.now.parts.now c.args.self.now.place c.loop-number.number top)) top c.requires.cursor.own.inside
