use Rattle.std.proofs.Common.{◌+◌, ◌≤◌, slice_index_or, sym, ap, ◌∙◌, arith}
use Rattle.std.proofs.lemmas.Grind.{get_or_default_zero}
use Rattle.std.proofs.Math.Nat.{mod-le}
use Rattle.ics_fields.specs.Sets.{contains}
use Rattle.ics_period.specs.Inner.StepRounds.{product}
use Rattle.ics_period.proofs.StepsLemmas.{scan_done}
use Rattle.ics_period.proofs.steps.Round.least_of_minute.Goals as goal

pub returns-then-first-ge60-clause-low : goal.returns-then-first-ge60-clause-low
returns-then-first-ge60-clause-low c = λ s l on met. absurd (let same = c.rest_at-first.ensures s met in
    let most = mod-le s c.args.self.now.divisor in omega (arith, same, most, l, c.if-first-ge60.true))

pub returns-clause-low : goal.returns-clause-low
returns-clause-low c = λ s l on met.
    let r = c.args.self.now in
    let first = c.rest_at-first.result in
    let default = get_or_default_zero r.classes first c.index-self-first.result (omega (arith, r.classes_are.0, c.if-first-ge60.false)) in
    let here = ap (λ b. contains b s) (default ∙ ap (λ k. slice_index_or r.classes k 0) (sym (c.rest_at-first.ensures s met))) ∙ r.classes_are.1 s l on in
    scan_done (contains (slice_index_or r.classes first c.index-self-first.result)) (c.loop-second.least ≤ product r (c.args.begin + s))
    c.in_default.ensures.next (λ early. c.loop-second.invariant.low s early here) here
