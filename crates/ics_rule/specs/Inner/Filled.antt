-- How many locals a rule allows in a period that is longer than a day.
use Rattle.std.specs.Prelude.{ℕ, suc, ◌*◌, ◌/◌, ◌<◌, Bool, ◌&&◌, nat_le}
use Rattle.jiff_core.specs.Weekday.{monday_zero}
use Rattle.ics_fields.specs.declared.frequency.Frequency.{Frequency}
use Rattle.ics_period.specs.declared.effective_rule.EffectiveRule.{EffectiveRule}
use Rattle.ics_period.specs.Candidates.{lets_date, lets_clock}
use Rattle.ics_period.specs.Ranks.{count}
use Rattle.ics_period.specs.RecurrencePeriods.{first_local}

-- such a period has whole days
abbrev pub first_day : Frequency → ℕ → ℕ → ℕ
first_day f w p = first_local f w p / 86_400

-- a day from one on is allowed
abbrev pub is_open_from : EffectiveRule → ℕ → ℕ → Bool
is_open_from q a e = nat_le a e && lets_date q e

-- how many locals are allowed from a day on and before another
abbrev pub locals_between : EffectiveRule → ℕ → ℕ → ℕ
locals_between q a b = count b (is_open_from q a) * count 86_400 (lets_clock q)

-- a period has fewer than so many
abbrev pub IsPoor : EffectiveRule → ℕ → ℕ → Type 0
IsPoor q least x =
    locals_between q (first_day q.frequency (monday_zero q.week_start) x) (first_day q.frequency (monday_zero q.week_start) (suc x)) < least
