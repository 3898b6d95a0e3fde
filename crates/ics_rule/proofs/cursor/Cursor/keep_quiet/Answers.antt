use Rattle.std.proofs.Common.{inl, inr, arith}
use Rattle.std.proofs.lemmas.Bool.{cases_lt}
use Rattle.jiff_core.specs.Weekday.{monday_zero}
use Rattle.ics_period.specs.PeriodNumbers.{rules_end}
use Rattle.ics_period.proofs.PeriodLemmas.{before_first, begun}
use Rattle.ics_rule.proofs.WalkLemmas.{kept_turn}
use Rattle.ics_rule.proofs.cursor.Cursor.keep_quiet.Goals as goal

pub first_local-begin-requires : goal.first_local-begin-requires
first_local-begin-requires c =
    let q = c.args.search.now.parts.now in
    let low = begun q.frequency (monday_zero q.week_start) c.args.number rules_end (omega (arith, c.if-number-period_of.true, c.period_of.ensures.value)) in
    omega (arith, low)

pub returns-then-number-period_of-clause-counted : goal.returns-then-number-period_of-clause-counted
returns-then-number-period_of-clause-counted c =
    let q = c.args.search.now.parts.now in
    kept_turn c.args.self.now c.requires.some c.requires.turn
    (λ n u. elim (cases_lt n c.args.self.now.quiet_to) [
      | inl less ↦ inl less
      | inr more ↦ inr (before_first q.frequency (monday_zero q.week_start) c.args.number n
          (omega (arith, u, more, c.max-self.ensures, c.first_local-begin.ensures)))
    ])
