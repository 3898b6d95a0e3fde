-- The names of the faults of values.
use Rattle.std.specs.Prelude.{ℕ, List, codes}
use Rattle.ics_values.specs.declared.stamp.StampFault.{StampFault}
use Rattle.ics_values.specs.declared.stamp.StampFault.TheVariants as stamp
use Rattle.ics_values.specs.declared.duration.DurationFault.{DurationFault}
use Rattle.ics_values.specs.declared.duration.DurationFault.TheVariants as duration
use Rattle.ics_values.specs.declared.period.PeriodFault.{PeriodFault}
use Rattle.ics_values.specs.declared.period.PeriodFault.TheVariants as period
use Rattle.ics_values.specs.declared.integer.IntegerFault.{IntegerFault}
use Rattle.ics_values.specs.declared.integer.IntegerFault.TheVariants as integer
use Rattle.ics_values.specs.declared.rule_text.RuleFault.{RuleFault}
use Rattle.ics_values.specs.declared.rule_text.RuleFault.TheVariants as rule

abbrev pub stamp_fault_name : StampFault → List ℕ
stamp_fault_name stamp.BadStamp = codes "BadStamp"
stamp_fault_name stamp.YearRange = codes "YearRange"

abbrev pub duration_fault_name : DurationFault → List ℕ
duration_fault_name duration.BadDuration = codes "BadDuration"
duration_fault_name duration.NumberTooLarge = codes "NumberTooLarge"

abbrev pub period_fault_name : PeriodFault → List ℕ
period_fault_name period.BadStamp = codes "BadStamp"
period_fault_name period.BadDuration = codes "BadDuration"
period_fault_name period.YearRange = codes "YearRange"
period_fault_name period.NumberTooLarge = codes "NumberTooLarge"

abbrev pub integer_fault_name : IntegerFault → List ℕ
integer_fault_name integer.NotDigits = codes "NotDigits"
integer_fault_name integer.NumberTooLarge = codes "NumberTooLarge"

abbrev pub rule_fault_name : RuleFault → List ℕ
rule_fault_name rule.BadRule = codes "BadRule"
rule_fault_name rule.NumberTooLarge = codes "NumberTooLarge"
