use Rattle.std.proofs.Common.{arith}
use Rattle.ics_period.specs.Candidates.{lets_date}
use Rattle.ics_period.proofs.CycleLemmas.{none_again}
use Rattle.ics_rule.proofs.PassLemmas.{out_on}
use Rattle.ics_rule.proofs.pass.next_near_day.Goals as goal

pub loop-day-init : goal.loop-day-init
loop-day-init c = record {
  low = omega arith;
  high = omega (arith, c.requires.day);
  none = λ e l u. absurd (omega (arith, l, u));
  near = c.new-near.ensures c.args.parts.now;
}

pub loop-day-preserved : goal.loop-day-preserved
loop-day-preserved c = record {
  low = omega (arith, c.loop-day.invariant.low);
  high = omega (arith, c.loop-day-test.true, c.days_out_near-out.ensures.most);
  none = out_on (lets_date c.args.parts.now) c.loop-day.invariant.none c.days_out_near-out.ensures.none;
  near = c.turn_to.ensures.near;
}

pub returns-then-day-round-clause-none : goal.returns-then-day-round-clause-none
returns-then-day-round-clause-none c = λ e low high. none_again c.args.parts.now (omega (arith, c.if-day-round.true)) c.loop-day.invariant.none e low
