-- What contracts see of a rule.
use Rattle.ics_fields.specs.declared.local.Local.{Local}
use Rattle.ics_fields.specs.RuleParts.{RuleParts}
use Rattle.ics_period.specs.declared.kind.Kind.{Kind}

-- the parts of a rule text, with the start and the kind of its event
pub record Recurrence : Type 0 where
  pub parts : RuleParts
  pub start : Local
  pub kind : Kind
