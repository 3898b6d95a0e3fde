-- Days of a year that are worth a test.
use Rattle.std.specs.Prelude.{◌≡◌, ℕ, ◌<◌, ◌≤◌, ◌+◌, ◌-◌, true}
use Rattle.ics_fields.specs.Sets.{contains_wide}
use Rattle.ics_period.specs.declared.effective_rule.EffectiveRule.{EffectiveRule}
use Rattle.ics_period.specs.declared.near_days.NearDays.{NearDays}
use Rattle.ics_period.specs.Candidates.{lets_date}

-- among these days of a year are all that the rule allows
pub record AreNear (q : EffectiveRule) (near : NearDays) : Type 0 where
  pub size : near.end ≤ near.first + 384
  pub all : (e : ℕ) → near.first ≤ e → e < near.end → lets_date q e ≡ true → contains_wide near.days (e - near.first) ≡ true
