-- What the text of a recurrence rule means (RFC 5545, section 3.3.10).
use Rattle.std.specs.Prelude.{ℕ, Bool, false, not, ◌==◌, nat_lt, List, length, fold, min, Option, Some, None, unwrap_or, Result, Ok, Err, if◌then◌else◌}
use Rattle.std.specs.List.{list_any}
use Rattle.jiff_core.specs.declared.civil.weekday.Weekday.{Weekday}
use Rattle.ics_values.specs.Digits.{number_of, greatest_number}
use Rattle.ics_fields.specs.Sets.{with_number}
use Rattle.ics_fields.specs.Ordinals.{with_ordinal, with_wide_ordinal, with_weekday, with_numbered_weekday}
use Rattle.ics_fields.specs.RuleParts.{RuleParts, every}
use Rattle.ics_fields.specs.declared.frequency.Frequency.TheVariants.{Yearly}
use Rattle.ics_values.specs.declared.rule_text.RuleFault.{RuleFault}
use Rattle.ics_values.specs.declared.rule_text.RuleFault.TheVariants.{BadRule, NumberTooLarge}
use Rattle.ics_fields.specs.declared.ordinals.Weekdays.{Weekdays}
use Rattle.ics_values.specs.declared.part_name.ListName.{ListName}
use Rattle.ics_values.specs.declared.part_name.ListName.TheVariants.{BySecond, ByMinute, ByHour, ByDay, ByMonthDay, ByYearDay, ByWeekNo, ByMonth, BySetPos}
use Rattle.ics_values.specs.declared.part_name.PartName.{PartName}
use Rattle.ics_values.specs.declared.part_name.PartName.TheVariants as part
use Rattle.ics_values.specs.Texts.{unsigned}
use Rattle.ics_values.specs.RuleTexts.{Part, pieces, frequency_of, weekday_of, until_of, side_of, day_text, number_before, parts_of, are_parts}

-- with a weekday of BYDAY, which has a number or none
abbrev pub with_day : Option Weekday → List ℕ → Weekdays → Weekdays
with_day None item days = days
with_day (Some day) item days =
    if length item == 2 then with_weekday day days
    else with_numbered_weekday day (side_of (number_before item)) (number_of (unsigned (number_before item))) days

-- An item of a list adds its number to the list's set. Second 60 is read as 59.
abbrev pub with_item : ListName → RuleParts → List ℕ → RuleParts
with_item BySecond rule item = record rule { seconds = with_number (min (number_of item) 59) rule.seconds }
with_item ByMinute rule item = record rule { minutes = with_number (number_of item) rule.minutes }
with_item ByHour rule item = record rule { hours = with_number (number_of item) rule.hours }
with_item ByDay rule item = record rule { weekdays = with_day (weekday_of (day_text item)) item rule.weekdays }
with_item ByMonthDay rule item = record rule { month_days = with_ordinal (side_of item) (number_of (unsigned item)) rule.month_days }
with_item ByYearDay rule item = record rule { year_days = with_wide_ordinal (side_of item) (number_of (unsigned item)) rule.year_days }
with_item ByWeekNo rule item = record rule { weeks = with_ordinal (side_of item) (number_of (unsigned item)) rule.weeks }
with_item ByMonth rule item = record rule { months = with_number (number_of item) rule.months }
with_item BySetPos rule item = record rule { positions = with_wide_ordinal (side_of item) (number_of (unsigned item)) rule.positions }

-- what each part says
abbrev pub with_value : PartName → List ℕ → RuleParts → RuleParts
with_value part.Freq value rule = record rule { frequency = unwrap_or (frequency_of value) rule.frequency }
with_value part.Until value rule = record rule { until = until_of value }
with_value part.Count value rule = record rule { count = Some (number_of value) }
with_value part.Interval value rule = record rule { interval = number_of value }
with_value (part.List list) value rule = fold (with_item list) rule (pieces 44 value)
with_value part.Wkst value rule = record rule { week_start = unwrap_or (weekday_of value) rule.week_start }

abbrev pub with_named : Option PartName → List ℕ → RuleParts → RuleParts
with_named None value rule = rule
with_named (Some name) value rule = with_value name value rule

abbrev pub with_part : RuleParts → Part → RuleParts
with_part rule p = with_named p.name p.value rule

-- What the parts say together. INTERVAL is 1 and WKST is Monday if they are absent. FREQ never is.
abbrev pub rule_said : List Part → RuleParts
rule_said ps = fold with_part (every Yearly) ps

-- COUNT or INTERVAL is past the greatest number
abbrev pub is_large : Option PartName → List ℕ → Bool
is_large (Some part.Count) value = nat_lt greatest_number (number_of value)
is_large (Some part.Interval) value = nat_lt greatest_number (number_of value)
is_large (Some _) value = false
is_large None value = false

abbrev pub has_large_number : List Part → Bool
has_large_number ps = list_any (λ p. is_large p.name p.value) ps

-- The rule of a text, or its fault. NumberTooLarge is the fault only of a text that is otherwise valid.
unfoldable pub rule_of : List ℕ → Result RuleParts RuleFault
rule_of text =
    if not (are_parts (parts_of text)) then Err BadRule
    else if has_large_number (parts_of text) then Err NumberTooLarge
    else Ok (rule_said (parts_of text))
