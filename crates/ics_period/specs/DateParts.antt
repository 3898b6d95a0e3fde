-- Which parts of a rule restrict the date.
use Rattle.std.specs.Prelude.{Bool, ◌&&◌}
use Rattle.ics_fields.specs.Sets.{is_empty}
use Rattle.ics_fields.specs.Ordinals.{lists_none, lists_none_wide}
use Rattle.ics_period.specs.declared.effective_rule.EffectiveRule.{EffectiveRule}

-- no part but BYDAY restricts the date
abbrev pub names_weekdays_alone : EffectiveRule → Bool
names_weekdays_alone q = is_empty q.months && lists_none q.month_days && lists_none_wide q.year_days && lists_none q.weeks
