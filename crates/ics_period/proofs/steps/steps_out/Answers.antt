use Rattle.std.proofs.Common.{◌≡◌, ◌+◌, ◌-◌, ◌*◌, ◌^◌, inl, inr, ap, ◌∙◌, arith}
use Rattle.std.proofs.lemmas.Bool.{cases_lt}
use Rattle.std.proofs.lemmas.Nat.{mul-le}
use Rattle.std.proofs.Math.Nat.{add-mul}
use Rattle.ics_period.specs.Inner.StepClocks.{may_have}
use Rattle.ics_period.proofs.StepsLemmas.{out_before}
use Rattle.ics_period.proofs.steps.steps_out.Goals as goal

pub returns-then-more-most-clause-none : goal.returns-then-more-most-clause-none
returns-then-more-most-clause-none c = λ k l. c.in-Some.ensures (c.args.number + k * c.args.parts.now.interval)
    (elim (cases_lt k c.steps_passed-passed.result) [
      | inl early ↦ c.steps_passed-passed.ensures.none k early
      | inr late ↦ (let i = c.args.parts.now.interval in
          let passed = c.steps_passed-passed.result in
          let whole : (passed + (k - passed)) * i ≡ k * i = ap (λ y. y * i) (omega (arith, late)) in
          let sum : c.args.number + k * i ≡ c.args.number + passed * i + (k - passed) * i = omega (arith, whole, add-mul passed (k - passed) i) in
          ap (may_have c.in-Some.clock) sum ∙ c.steps_passed-more.ensures.none (k - passed) (omega (arith, l, late)))
    ])

pub returns-then-more-most-clause-most : goal.returns-then-more-most-clause-most
returns-then-more-most-clause-most c = mul-le (c.steps_passed-passed.result + c.steps_passed-more.result) c.args.parts.now.interval (2 ^ 28) (2 ^ 32)
    (grind arith) (omega arith)

pub returns-then-least-round-clause-none : goal.returns-then-least-round-clause-none
returns-then-least-round-clause-none c = λ k l. c.in-Some.ensures (c.args.number + k * c.args.parts.now.interval)
    (out_before c.in-Some-new.round c.in-Some.clock c.args.number c.args.parts.now.interval c.in-Some-new.ensures c.least-least.ensures.low k (inl l))

pub returns-else-least-round-clause-none : goal.returns-else-least-round-clause-none
returns-else-least-round-clause-none c = λ k l. c.in-Some.ensures (c.args.number + k * c.args.parts.now.interval)
    (out_before c.in-Some-new.round c.in-Some.clock c.args.number c.args.parts.now.interval c.in-Some-new.ensures c.least-least.ensures.low k
    (inr c.if-least-round.false))
