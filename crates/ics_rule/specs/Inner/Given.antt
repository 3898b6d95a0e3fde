-- What a rule was given, told by the parts that it searches by and what it keeps beside them.
use Rattle.std.specs.Prelude.{if◌then◌else◌}
use Rattle.ics_fields.specs.Ordinals.{no_ordinals, no_weekdays}
use Rattle.ics_fields.specs.RuleParts.{RuleParts}
use Rattle.ics_period.specs.declared.effective_rule.EffectiveRule.{EffectiveRule}
use Rattle.ics_rule.specs.declared.given.Given.{Given}
use Rattle.ics_period.specs.EffectiveRules.{takes_month, takes_month_day, takes_weekday}

-- what is kept of parts beside those that the rule searches by
abbrev pub given_of : RuleParts → Given
given_of p = record {
  seconds = p.seconds;
  minutes = p.minutes;
  hours = p.hours;
  count = p.count;
  until = p.until;
  month = takes_month p.frequency p;
  month_day = takes_month_day p.frequency p;
  weekday = takes_weekday p.frequency p;
}

-- the parts that were given: what the rule took from the start of its event was absent
abbrev pub parts_of : EffectiveRule → Given → RuleParts
parts_of q g = record {
  frequency = q.frequency;
  interval = q.interval;
  count = g.count;
  until = g.until;
  seconds = g.seconds;
  minutes = g.minutes;
  hours = g.hours;
  weekdays = if g.weekday then no_weekdays else q.weekdays;
  month_days = if g.month_day then no_ordinals else q.month_days;
  year_days = q.year_days;
  weeks = q.weeks;
  months = if g.month then 0 else q.months;
  positions = q.positions;
  week_start = q.week_start;
}
