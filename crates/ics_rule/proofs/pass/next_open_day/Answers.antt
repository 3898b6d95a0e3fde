use Rattle.std.proofs.Common.{inl, inr, arith}
use Rattle.std.proofs.lemmas.Bool.{cases_lt}
use Rattle.ics_period.specs.Candidates.{lets_date}
use Rattle.ics_period.proofs.CycleLemmas.{none_again}
use Rattle.ics_rule.proofs.PassLemmas.{out_on}
use Rattle.ics_rule.proofs.pass.next_open_day.Goals as goal

pub loop-day-preserved : goal.loop-day-preserved
loop-day-preserved c = record {
  low = omega (arith, c.loop-day.invariant.low);
  high = omega (arith, c.loop-day-test.true, c.days_out-out.ensures.most);
  none = out_on (lets_date c.args.parts.now) c.loop-day.invariant.none c.days_out-out.ensures.none;
}

pub returns-then-day-round-clause-none : goal.returns-then-day-round-clause-none
returns-then-day-round-clause-none c = λ e low high. none_again c.args.parts.now (omega (arith, c.if-day-round.true)) c.loop-day.invariant.none e low

pub returns-then-lists_days-clause-none : goal.returns-then-lists_days-clause-none
returns-then-lists_days-clause-none c = λ e low high. elim (cases_lt e c.loop-day.day) [
  | inl early ↦ c.loop-day.invariant.none e low early
  | inr late ↦ c.next_near_day.ensures.none e late high
]
