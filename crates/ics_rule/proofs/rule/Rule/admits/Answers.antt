use Rattle.std.proofs.Common.{◌≡◌, ℕ, ◌+◌, ◌*◌, ◌/◌, ◌%◌, Bool, ◌&&◌, ◌∙◌, ap, arith}
use Rattle.ics_period.specs.declared.effective_rule.EffectiveRule.{EffectiveRule}
use Rattle.ics_period.specs.Recurrence.{Recurrence}
use Rattle.ics_fields.specs.Locals.{number}
use Rattle.ics_period.specs.EffectiveRules.{effective}
use Rattle.ics_period.specs.Candidates.{is_candidate, in_step, lets_date, lets_clock}
use Rattle.ics_rule.proofs.rule.Rule.admits.Goals as goal

-- a candidate by its parts: the three tests together
module _ (r : Recurrence) (n : ℕ) where
  by_parts : {q : EffectiveRule} {s : ℕ} {a b k : Bool} → q ≡ effective r → s ≡ number r.start
      → a ≡ in_step q s n → b ≡ lets_date q (n / 86_400) → k ≡ lets_clock q (n / 86_400 * 86_400 + n % 86_400) → (a && b && k) ≡ is_candidate r n
  unfolding is_candidate
  by_parts eq es ea eb ek = let whole : n / 86_400 * 86_400 + n % 86_400 ≡ n = omega arith in rw (ea, eb, ek, whole, eq, es)

pub returns : goal.returns
returns c = by_parts c.args.self.now c.number-n.result (c.self.invariant.0 ∙ ap effective c.self.view_is) (c.number.ensures.value
    ∙ ap (λ (r : Recurrence). number r.start) c.self.view_is)
    c.in_step-in_step.ensures c.lets_date-date.ensures (c.lets_clock-clock.ensures (c.number-n.result / 86_400))
    ∙ ap (is_candidate c.args.self.now) c.number-n.ensures.value
