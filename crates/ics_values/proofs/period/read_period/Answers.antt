use Rattle.std.proofs.Common.{◌≡◌, subst, Result, Ok, Err, IfOk}
use Rattle.ics_values.specs.Periods.{IsDateTime, IsPeriodEnd}
use Rattle.ics_values.specs.declared.period.Period.{Period}
use Rattle.ics_values.specs.declared.period.PeriodFault.{PeriodFault}
use Rattle.ics_values.proofs.period.read_period.Goals as goal

-- a half of a period is the one that was read
half_in : {A : Type 0} (P : A → Type 0) (of : Period → A) (r : Result Period PeriodFault) (half : Result A PeriodFault) →
    IfOk r (λ p. half ≡ Ok (of p)) → IfOk half P → IfOk r (λ p. P (of p))
half_in P of (Ok p) half e h = subst (λ s. IfOk s P) e h
half_in P of (Err fault) half e h = tt

pub returns-clause-start : goal.returns-clause-start
returns-clause-start c = half_in IsDateTime (λ p. p.start) c.both.result c.read_half.result c.both.ensures.start c.read_half.ensures.range

pub returns-clause-end : goal.returns-clause-end
returns-clause-end c = half_in IsPeriodEnd (λ p. p.end) c.both.result c.read_end.result c.both.ensures.end c.read_end.ensures.range
