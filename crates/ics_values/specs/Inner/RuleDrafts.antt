-- A rule's parts as they are read one after another (RFC 5545, section 3.3.10).
use Rattle.std.specs.Prelude.{◌≡◌, ◌<◌, ◌≤◌, ℕ, true, false, not, List, [], ◌∷◌, Option, Some, None, option_and_then, length, ◌==◌, if◌then◌else◌}
use Rattle.ics_values.specs.Digits.{number_of, greatest_number}
use Rattle.ics_fields.specs.Sets.{contains, with_number}
use Rattle.ics_fields.specs.RuleParts.{RuleParts, every}
use Rattle.ics_fields.specs.declared.frequency.Frequency.TheVariants.{Yearly}
use Rattle.ics_fields.specs.declared.ordinals.Side.{Side}
use Rattle.ics_values.specs.declared.rule_value.RuleNumber.{RuleNumber}
use Rattle.ics_values.specs.declared.rule_value.RuleNumber.TheVariants as number
use Rattle.ics_values.specs.declared.rule_value.DayItem.{DayItem}
use Rattle.ics_values.specs.declared.part_name.ListName.{ListName}
use Rattle.ics_values.specs.declared.part_name.PartName.{PartName}
use Rattle.ics_values.specs.declared.rule_text.Draft.{Draft}
use Rattle.ics_values.specs.Texts.{unsigned}
use Rattle.ics_values.specs.RuleTexts.{pieces, is_rule_number, is_signed, side_of, fits, fits_list, part_of, row, is_day_item, weekday_of, day_text}
use Rattle.ics_values.specs.RuleTexts.{number_before}
use Rattle.ics_values.specs.Rules.{with_item, with_value, is_large}

-- what reading a COUNT or an INTERVAL gives
abbrev pub IsRuleNumber : List ℕ → RuleNumber → Type 0
IsRuleNumber text (number.Number n) = (is_rule_number text ≡ true) × (n ≡ number_of text) × (n ≤ greatest_number)
IsRuleNumber text number.TooLarge = (is_rule_number text ≡ true) × (greatest_number < number_of text)

-- what reading a number with a sign gives
pub record IsPlace (high : ℕ) (text : List ℕ) (place : Side × ℕ) : Type 0 where
  pub in_order : is_signed high text ≡ true
  pub side : place.0 ≡ side_of text
  pub number : place.1 ≡ number_of (unsigned text)

-- the pieces after a separator, if there is one
abbrev pub pieces_behind : ℕ → Option (List ℕ) → List (List ℕ)
pieces_behind separator None = []
pieces_behind separator (Some text) = pieces separator text

-- the state after all pieces, or None if one of them is refused
abbrev pub walk : {S : Type 0} → (S → List ℕ → Option S) → S → List (List ℕ) → Option S
walk step s [] = Some s
walk step s (x ∷ xs) = option_and_then (λ t. walk step t xs) (step s x)

-- with an item of a list, if it is valid
abbrev pub item_taken : ListName → RuleParts → List ℕ → Option RuleParts
item_taken list rule item = if fits_list list item then Some (with_item list rule item) else None

-- with a value, if it is valid
abbrev pub value_taken : PartName → List ℕ → Draft → Option Draft
value_taken name value draft =
    if not (fits name value) then None
    else if is_large (Some name) value then Some (record draft { too_large = true })
    else Some (record draft { parts = with_value name value draft.parts })

-- with a part, if it is valid and the first of its name
abbrev pub named_taken : Option PartName → List ℕ → Draft → Option Draft
named_taken None value draft = None
named_taken (Some name) value draft =
    if contains draft.seen (row name) then None
    else value_taken name value (record draft { seen = with_number (row name) draft.seen })

abbrev pub part_taken : Draft → List ℕ → Option Draft
part_taken draft text = let p = part_of text in named_taken p.name p.value draft

-- a call answered Some and left this state, or answered None
abbrev pub Takes : {S : Type 0} → Option S → Option (Unit {0}) → S → Type 0
Takes taken (Some _) state = taken ≡ Some state
Takes taken None state = taken ≡ None

-- what reading an item of BYDAY gives
abbrev pub IsDayPlace : List ℕ → Option (Side × ℕ) → Type 0
IsDayPlace item None = length item ≡ 2
IsDayPlace item (Some place) = ((length item == 2) ≡ false) × IsPlace 53 (number_before item) place

pub record IsDayItem (item : List ℕ) (day : DayItem) : Type 0 where
  pub in_order : is_day_item item ≡ true
  pub weekday : weekday_of (day_text item) ≡ Some day.weekday
  pub place : IsDayPlace item day.place

-- before the first part
abbrev pub no_parts : Draft
no_parts = record { parts = every Yearly; seen = 0; too_large = false }
