-- What the text of a recurrence rule says of each part (RFC 5545, section 3.3.10).
use Rattle.std.specs.Prelude.{◌≡◌, ℕ, Bool, false, ◌&&◌, not, ◌==◌, List, [], length, find, min, Option, Some, None, option_map, option_and_then}
use Rattle.std.specs.List.{list_any}
use Rattle.std.specs.Option.{option_map_or}
use Rattle.jiff_core.specs.declared.civil.weekday.Weekday.{Weekday}
use Rattle.jiff_core.specs.declared.civil.weekday.Weekday.TheVariants.{Monday}
use Rattle.jiff_core.specs.Weekday.{monday_zero}
use Rattle.ics_values.specs.Digits.{number_of}
use Rattle.ics_values.specs.Texts.{begins, is_minus, unsigned}
use Rattle.ics_fields.specs.Sets.{is_empty, contains, contains_wide}
use Rattle.ics_fields.specs.Ordinals.{lists_none, lists_none_wide, lists_no_weekday, numbers_of}
use Rattle.ics_fields.specs.RuleParts.{RuleParts}
use Rattle.ics_fields.specs.declared.ordinals.Side.{Side}
use Rattle.ics_fields.specs.declared.ordinals.Side.TheVariants.{Front, Back}
use Rattle.ics_fields.specs.declared.ordinals.Ordinals.{Ordinals}
use Rattle.ics_fields.specs.declared.ordinals.WideOrdinals.{WideOrdinals}
use Rattle.ics_values.specs.declared.part_name.ListName.{ListName}
use Rattle.ics_values.specs.declared.part_name.ListName.TheVariants.{BySecond, ByMinute, ByHour, ByDay, ByMonthDay, ByYearDay, ByWeekNo, ByMonth, BySetPos}
use Rattle.ics_values.specs.declared.part_name.PartName.{PartName}
use Rattle.ics_values.specs.declared.part_name.PartName.TheVariants as part
use Rattle.ics_values.specs.RuleTexts.{Part, pieces, is_name, frequency_of, weekday_of, until_of, day_text, number_before}

-- the value of the part with that name
abbrev pub value_of : PartName → List Part → Option (List ℕ)
value_of name ps = option_map (λ p. p.value) (find (λ p. is_name name p.name) ps)

-- the items of a list, none if the part is absent
abbrev pub items_of : ListName → List Part → List (List ℕ)
items_of list ps = option_map_or (pieces 44) (value_of (part.List list) ps) []

-- the n-th from an end is a member
abbrev pub has_place : Side → ℕ → Ordinals → Bool
has_place Front n p = contains p.front n
has_place Back n p = contains p.back n

abbrev pub has_wide_place : Side → ℕ → WideOrdinals → Bool
has_wide_place Front n p = contains_wide p.front n
has_wide_place Back n p = contains_wide p.back n

-- a minus counts from the end
abbrev pub is_side : Side → Bool → Bool
is_side Front minus = not minus
is_side Back minus = minus

-- the item is the n-th from an end
abbrev pub is_place : Side → ℕ → List ℕ → Bool
is_place side n item = is_side side (begins is_minus item) && (n == number_of (unsigned item))

-- the item of BYDAY is the weekday without a number, or its n-th from an end
abbrev pub is_day : Weekday → Option Weekday → Bool
is_day day None = false
is_day day (Some other) = monday_zero day == monday_zero other

abbrev pub is_weekday : Weekday → List ℕ → Bool
is_weekday day item = is_day day (weekday_of (day_text item)) && (length item == 2)

abbrev pub is_numbered : Weekday → Side → ℕ → List ℕ → Bool
is_numbered day side n item = is_day day (weekday_of (day_text item)) && not (length item == 2) && is_place side n (number_before item)

-- The rule has the value of each part, and each of its lists has exactly the numbers that are written in the text.
pub record Says (ps : List Part) (rule : RuleParts) : Type 0 where
  pub frequency : option_and_then frequency_of (value_of part.Freq ps) ≡ Some rule.frequency
  pub until : rule.until ≡ option_and_then until_of (value_of part.Until ps)
  pub count : rule.count ≡ option_map number_of (value_of part.Count ps)
  pub interval : rule.interval ≡ option_map_or number_of (value_of part.Interval ps) 1
  pub week_start : Some rule.week_start ≡ option_map_or weekday_of (value_of part.Wkst ps) (Some Monday)
  pub seconds : (n : ℕ) → contains rule.seconds n ≡ list_any (λ item. n == min (number_of item) 59) (items_of BySecond ps)
  pub minutes : (n : ℕ) → contains rule.minutes n ≡ list_any (λ item. n == number_of item) (items_of ByMinute ps)
  pub hours : (n : ℕ) → contains rule.hours n ≡ list_any (λ item. n == number_of item) (items_of ByHour ps)
  pub months : (n : ℕ) → contains rule.months n ≡ list_any (λ item. n == number_of item) (items_of ByMonth ps)
  pub month_days : (side : Side) (n : ℕ) → has_place side n rule.month_days ≡ list_any (is_place side n) (items_of ByMonthDay ps)
  pub year_days : (side : Side) (n : ℕ) → has_wide_place side n rule.year_days ≡ list_any (is_place side n) (items_of ByYearDay ps)
  pub weeks : (side : Side) (n : ℕ) → has_place side n rule.weeks ≡ list_any (is_place side n) (items_of ByWeekNo ps)
  pub positions : (side : Side) (n : ℕ) → has_wide_place side n rule.positions ≡ list_any (is_place side n) (items_of BySetPos ps)
  pub weekdays : (day : Weekday) → contains rule.weekdays.plain (monday_zero day) ≡ list_any (is_weekday day) (items_of ByDay ps)
  pub numbered : (day : Weekday) (side : Side) (n : ℕ) → has_place side n (numbers_of rule.weekdays (monday_zero day))
      ≡ list_any (is_numbered day side n) (items_of ByDay ps)

-- the rule has no number in the list
abbrev pub lists_nothing : ListName → RuleParts → Bool
lists_nothing BySecond rule = is_empty rule.seconds
lists_nothing ByMinute rule = is_empty rule.minutes
lists_nothing ByHour rule = is_empty rule.hours
lists_nothing ByDay rule = lists_no_weekday rule.weekdays
lists_nothing ByMonthDay rule = lists_none rule.month_days
lists_nothing ByYearDay rule = lists_none_wide rule.year_days
lists_nothing ByWeekNo rule = lists_none rule.weeks
lists_nothing ByMonth rule = is_empty rule.months
lists_nothing BySetPos rule = lists_none_wide rule.positions
