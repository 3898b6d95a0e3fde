-- Where a rule is known to choose nothing.
use Rattle.std.specs.Prelude.{◌≡◌, ℕ, ◌<◌, ◌≤◌, false}
use Rattle.ics_period.specs.declared.effective_rule.EffectiveRule.{EffectiveRule}
use Rattle.ics_period.specs.Ranks.{is_chosen}

-- from a local on and before another none is a candidate that BYSETPOS allows
abbrev pub NoneChosen : EffectiveRule → ℕ → ℕ → ℕ → Type 0
NoneChosen q start from before = (n : ℕ) → from ≤ n → n < before → is_chosen q start n ≡ false
