-- The rule of a text says what each part of the text says, and has no number in a list exactly where its part is absent.
use Rattle.std.proofs.Common.{◌≡◌, ◌<◌, ℕ, length, Bool, true, false, ◌&&◌, ◌==◌, List, [], ◌∷◌, Option, Some, None, Ok, Err, cond, get_or, refl, ap, subst}
use Rattle.std.proofs.Common.{inl, inr, sym, ◌∙◌, lit<, arith, not, fold, min, option_map, option_and_then, unwrap_or, is_some, if◌then◌else◌}
use Rattle.std.specs.List.{list_any, list_all}
use Rattle.std.specs.Option.{option_map_or}
use Rattle.std.proofs.Math.Bool.{or-false}
use Rattle.std.proofs.lemmas.Bool.{and_parts, cases_Bool, eqb-true, false≢true, not-true}
use Rattle.std.proofs.lemmas.Bool.Decides.{nat_tests}
use Rattle.std.proofs.lemmas.List.Splits.{length-slice_split}
use Rattle.jiff_core.specs.declared.civil.weekday.Weekday.{Weekday}
use Rattle.jiff_core.specs.declared.civil.weekday.Weekday.TheVariants.{Monday}
use Rattle.jiff_core.specs.Weekday.{monday_zero}
use Rattle.ics_fields.specs.declared.frequency.Frequency.TheVariants.{Yearly}
use Rattle.ics_values.specs.declared.rule_text.RuleFault.TheVariants.{BadRule, NumberTooLarge}
use Rattle.ics_fields.specs.declared.ordinals.Side.{Side}
use Rattle.ics_fields.specs.declared.ordinals.Side.TheVariants.{Front, Back}
use Rattle.ics_values.specs.declared.part_name.ListName.{ListName}
use Rattle.ics_values.specs.declared.part_name.ListName.TheVariants.{BySecond, ByMinute, ByHour, ByDay, ByMonthDay, ByYearDay, ByWeekNo, ByMonth, BySetPos}
use Rattle.ics_values.specs.declared.part_name.PartName.{PartName}
use Rattle.ics_values.specs.Digits.{number_of}
use Rattle.ics_fields.specs.Sets.{is_empty, with_number}
use Rattle.ics_fields.specs.Ordinals.{lists_none, lists_none_wide, lists_no_weekday, no_ordinals, no_wide_ordinals, no_weekdays, numbers_of, with_ordinal}
use Rattle.ics_fields.specs.Ordinals.{with_wide_ordinal}
use Rattle.ics_fields.specs.RuleParts.{RuleParts, every}
use Rattle.ics_values.specs.RuleTexts.{Part, pieces, row, fits, fits_list, fits_name, is_part, is_name, has_part, none_twice, are_parts, parts_of}
use Rattle.ics_values.specs.RuleTexts.{frequency_of, weekday_of, until_of, same_name, side_of, day_text}
use Rattle.ics_values.specs.Rules.{has_large_number, rule_said, rule_of, with_item, with_value, with_named, with_part, with_day}
use Rattle.ics_values.specs.RuleLaws.{value_of, items_of, has_place, has_wide_place, lists_nothing, Says}
use Rattle.ics_fields.proofs.SetLemmas.{has_none, none_wide_has}
use Rattle.ics_values.proofs.ListedLemmas.{Adds, IsWide, gathered, number_high, adds_number, adds_place, adds_wide_place, adds_weekday}
use Rattle.ics_values.proofs.ListedLemmas.{adds_numbered, Fills, fills_number, fills_place, fills_wide_place, fills_day}
use Rattle.ics_values.specs.Texts.{unsigned}
use Rattle.ics_values.specs.declared.part_name.PartName.TheVariants as part

-- A rule with what the values of some parts and the items of some lists say: one equation for each field.
abbrev pub said_by : (PartName → Option (List ℕ)) → (ListName → List (List ℕ)) → RuleParts → RuleParts
said_by value items r = record {
  frequency = option_map_or (λ v. unwrap_or (frequency_of v) r.frequency) (value part.Freq) r.frequency;
  until = option_map_or until_of (value part.Until) r.until;
  count = option_map_or (λ v. Some (number_of v)) (value part.Count) r.count;
  interval = option_map_or number_of (value part.Interval) r.interval;
  week_start = option_map_or (λ v. unwrap_or (weekday_of v) r.week_start) (value part.Wkst) r.week_start;
  seconds = fold (λ s i. with_number (min (number_of i) 59) s) r.seconds (items BySecond);
  minutes = fold (λ s i. with_number (number_of i) s) r.minutes (items ByMinute);
  hours = fold (λ s i. with_number (number_of i) s) r.hours (items ByHour);
  months = fold (λ s i. with_number (number_of i) s) r.months (items ByMonth);
  weekdays = fold (λ w i. with_day (weekday_of (day_text i)) i w) r.weekdays (items ByDay);
  month_days = fold (λ p i. with_ordinal (side_of i) (number_of (unsigned i)) p) r.month_days (items ByMonthDay);
  weeks = fold (λ p i. with_ordinal (side_of i) (number_of (unsigned i)) p) r.weeks (items ByWeekNo);
  year_days = fold (λ p i. with_wide_ordinal (side_of i) (number_of (unsigned i)) p) r.year_days (items ByYearDay);
  positions = fold (λ p i. with_wide_ordinal (side_of i) (number_of (unsigned i)) p) r.positions (items BySetPos);
}

abbrev pub said : List Part → RuleParts → RuleParts
said ps = said_by (λ name. value_of name ps) (λ list. items_of list ps)

-- the items of one list alone
abbrev alone : ListName → List (List ℕ) → ListName → List (List ℕ)
alone list items other = if row (part.List list) == row (part.List other) then items else []

fold-items : (list : ListName) (items : List (List ℕ)) (r : RuleParts) → fold (with_item list) r items ≡ said_by (λ name. None) (alone list items) r
fold-items BySecond [] r = refl
fold-items list [] r = refl
fold-items BySecond (i ∷ items) r = fold-items BySecond items (with_item BySecond r i)
fold-items list (i ∷ items) r = fold-items list items (with_item list r i)

-- one part in front of others, of which none has its name
said-named : (name : PartName) (v : List ℕ) (ps : List Part) (r : RuleParts) → value_of name ps ≡ None
    → said ps (with_value name v r) ≡ said (record { name = Some name; value = v } ∷ ps) r
said-named (part.List BySecond) v ps r none = rw (fold-items BySecond (pieces 44 v) r, none) refl
said-named (part.List list) v ps r none = rw (fold-items list (pieces 44 v) r, none) refl
said-named _ v ps r none = rw none refl

-- the part of a name is there, with its value
pub value_there : (name : PartName) (ps : List Part) → is_some (value_of name ps) ≡ has_part name ps
value_there name [] = refl
value_there name (p ∷ ps) = elim (cases_Bool (is_name name p.name)) [ inl e ↦ rw e refl | inr e ↦ rw e (value_there name ps) ]

none_there : (o : Option (List ℕ)) → is_some o ≡ false → o ≡ None
none_there None h = refl
none_there (Some v) h = cc

-- what the parts say together
pub parts_said : (ps : List Part) → none_twice ps ≡ true → (r : RuleParts) → fold with_part r ps ≡ said ps r
parts_said [] h r = refl
parts_said (p ∷ ps) h r =
    let once = and_parts (not (list_any (λ q. same_name p.name q.name) ps)) (none_twice ps) h in
    parts_said ps once.1 (with_part r p) ∙ by_name p.name once.0
  where
    by_name : (o : Option PartName) → not (list_any (λ q. same_name o q.name) ps) ≡ true
        → said ps (with_named o p.value r) ≡ said (record { name = o; value = p.value } ∷ ps) r
    by_name None h = refl
    by_name (Some name) h = said-named name p.value ps r (none_there (value_of name ps) (value_there name ps ∙ not-true (has_part name ps) h))

-- names of one row are one
abbrev names : List PartName
names = part.Freq ∷ part.Until ∷ part.Count ∷ part.Interval ∷ part.List BySecond ∷ part.List ByMinute ∷ part.List ByHour ∷ part.List ByDay
    ∷ part.List ByMonthDay ∷ part.List ByYearDay ∷ part.List ByWeekNo ∷ part.List ByMonth ∷ part.List BySetPos ∷ part.Wkst ∷ []

at_row : (m : PartName) → get_or names (row m) part.Freq ≡ m
at_row (part.List BySecond) = refl
at_row _ = refl

one_row : (m n : PartName) → (row m == row n) ≡ true → m ≡ n
one_row m n e = sym (at_row m) ∙ ap (λ k. get_or names k part.Freq) (eqb-true (row m) (row n) e) ∙ at_row n

-- where the part of a name is there, its value passes what all values of the name pass
value_passes : (name : PartName) (ps : List Part) → list_all is_part ps ≡ true → option_map_or (fits name) (value_of name ps) true ≡ true
value_passes name [] a = refl
value_passes name (p ∷ ps) a =
    let b = and_parts (is_part p) (list_all is_part ps) a in
    elim (cases_Bool (is_name name p.name)) [ inl e ↦ rw e (by_name p.name e b.0) | inr e ↦ rw e (value_passes name ps b.1) ]
  where
    by_name : (o : Option PartName) → is_name name o ≡ true → fits_name o p.value ≡ true → fits name p.value ≡ true
    by_name None e f = absurd (false≢true e)
    by_name (Some m) e f = subst (λ n. fits n p.value ≡ true) (one_row m name e) f

-- the items of a list are in order
pub items_fit : (list : ListName) (ps : List Part) → list_all is_part ps ≡ true → list_all (fits_list list) (items_of list ps) ≡ true
items_fit list ps a =
    elim (value_of (part.List list) ps) as (λ o.
    option_map_or (fits (part.List list)) o true ≡ true → list_all (fits_list list) (option_map_or (pieces 44) o []) ≡ true)
    [ None ↦ λ k. refl | Some v ↦ λ k. k ] (value_passes (part.List list) ps a)

-- a value that some text says, where it says one
said_there : {A : Type 0} (of : List ℕ → Option A) (none : A) (o : Option (List ℕ)) → option_map_or (λ v. is_some (of v)) o true ≡ true
    → Some (option_map_or (λ v. unwrap_or (of v) none) o none) ≡ option_map_or of o (Some none)
said_there of none None fit = refl
said_there of none (Some v) fit =
    elim (of v) as (λ q. is_some q ≡ true → Some (unwrap_or q none) ≡ q) [ None ↦ λ k. absurd (false≢true k) | Some x ↦ λ k. refl ] fit

frequency_is : (o : Option (List ℕ)) → is_some o ≡ true → option_and_then frequency_of o ≡ option_map_or frequency_of o (Some Yearly)
frequency_is None there = cc
frequency_is (Some v) there = refl

pub none_here : (side : Side) (n : ℕ) → has_place side n no_ordinals ≡ false
none_here Front n = has_none n
none_here Back n = has_none n

none_wide_here : (side : Side) (n : ℕ) → has_wide_place side n no_wide_ordinals ≡ false
none_wide_here Front n = none_wide_has n
none_wide_here Back n = none_wide_has n

none_numbered : (d : Weekday) (side : Side) (n : ℕ) → has_place side n (numbers_of no_weekdays (monday_zero d)) ≡ false
none_numbered Monday side n = none_here side n
none_numbered _ side n = none_here side n

-- what the parts of a rule are, taken apart
pub record AreParts (ps : List Part) : Type 0 where
  pub each : list_all is_part ps ≡ true
  pub once : none_twice ps ≡ true
  pub frequency : has_part part.Freq ps ≡ true

pub parts_are : (ps : List Part) → are_parts ps ≡ true → AreParts ps
parts_are ps h =
    let both = and_parts (list_all is_part ps && none_twice ps && has_part part.Freq ps) (not (has_part part.Until ps && has_part part.Count ps)) h in
    let front = and_parts (list_all is_part ps && none_twice ps) (has_part part.Freq ps) both.0 in
    let parts = and_parts (list_all is_part ps) (none_twice ps) front.0 in
    record { each = parts.0; once = parts.1; frequency = front.1 }

-- a part has one item or more
items_there : (o : Option (List ℕ)) → list_any (λ i. true) (option_map_or (pieces 44) o []) ≡ is_some o
items_there None = refl
items_there (Some v) =
    elim (pieces 44 v) as (λ items. 0 < length items → list_any (λ i. true) items ≡ true) [ [] ↦ λ l. absurd (omega arith) | i ∷ items ↦ λ l. refl ]
    (omega (arith, length-slice_split (λ b. b == 44) v))

none_is_wide : IsWide no_wide_ordinals
none_is_wide = record { front = refl; back = refl }

module _ (ps : List Part) (h : AreParts ps) where
  -- a list sees what its items test for
  listed : {A : Type 0} (list : ListName) {step : A → List ℕ → A} {sees : A → Bool} {test : List ℕ → Bool} {Fine : A → Type 0}
      → Adds step sees test (fits_list list) Fine → (none : A) → Fine none → sees none ≡ false
      → sees (fold step none (items_of list ps)) ≡ list_any test (items_of list ps)
  listed list {sees = sees} {test = test} adds none fine empty =
      gathered adds (items_of list ps) (items_fit list ps h.each) none fine ∙ rw empty (or-false (list_any test (items_of list ps)))

  pub says : Says ps (said ps (every Yearly))
  says = record {
    frequency = frequency_is (value_of part.Freq ps) (value_there part.Freq ps ∙ h.frequency)
        ∙ sym (said_there frequency_of Yearly (value_of part.Freq ps) (value_passes part.Freq ps h.each));
    until = elim (value_of part.Until ps) as (λ o. option_map_or until_of o None ≡ option_and_then until_of o) [ None ↦ refl | Some v ↦ refl ];
    count = elim (value_of part.Count ps) as (λ o. option_map_or (λ v. Some (number_of v)) o None ≡ option_map number_of o) [ None ↦ refl | Some v ↦ refl ];
    interval = refl;
    week_start = said_there weekday_of Monday (value_of part.Wkst ps) (value_passes part.Wkst ps h.each);
    seconds = λ n. listed BySecond (adds_number (λ i. min (number_of i) 59) (fits_list BySecond) (λ i fit. let last = number_high 0 60 i fit in omega arith) n)
        0 tt (has_none n);
    minutes = λ n. listed ByMinute (adds_number number_of (fits_list ByMinute) (λ i fit. let last = number_high 0 59 i fit in omega arith) n) 0 tt (has_none n);
    hours = λ n. listed ByHour (adds_number number_of (fits_list ByHour) (λ i fit. let last = number_high 0 23 i fit in omega arith) n) 0 tt (has_none n);
    months = λ n. listed ByMonth (adds_number number_of (fits_list ByMonth) (λ i fit. let last = number_high 1 12 i fit in omega arith) n) 0 tt (has_none n);
    month_days = λ side n. listed ByMonthDay (adds_place 31 (lit< tt) side n) no_ordinals tt (none_here side n);
    weeks = λ side n. listed ByWeekNo (adds_place 53 (lit< tt) side n) no_ordinals tt (none_here side n);
    year_days = λ side n. listed ByYearDay (adds_wide_place 366 (lit< tt) side n) no_wide_ordinals none_is_wide (none_wide_here side n);
    positions = λ side n. listed BySetPos (adds_wide_place 366 (lit< tt) side n) no_wide_ordinals none_is_wide (none_wide_here side n);
    weekdays = λ day. listed ByDay (adds_weekday day) no_weekdays tt (has_none (monday_zero day));
    numbered = λ day side n. listed ByDay (adds_numbered day side n) no_weekdays refl (none_numbered day side n);
  }

  -- and it is empty exactly where its part is absent
  filled : {A : Type 0} (list : ListName) {step : A → List ℕ → A} (empty : A → Bool) {Fine : A → Type 0}
      → Fills step empty (fits_list list) Fine → (none : A) → Fine none → empty none ≡ true
      → empty (fold step none (items_of list ps)) ≡ not (has_part (part.List list) ps)
  filled list empty fills none fine e =
      let there = listed list fills none fine (ap not e) ∙ items_there (value_of (part.List list) ps) ∙ value_there (part.List list) ps in
      grind (arith, nat_tests)

  pub absent : (list : ListName) → lists_nothing list (said ps (every Yearly)) ≡ not (has_part (part.List list) ps)
  absent BySecond = filled BySecond is_empty (fills_number (λ i. min (number_of i) 59) (fits_list BySecond)) 0 tt refl
  absent ByMinute = filled ByMinute is_empty (fills_number number_of (fits_list ByMinute)) 0 tt refl
  absent ByHour = filled ByHour is_empty (fills_number number_of (fits_list ByHour)) 0 tt refl
  absent ByMonth = filled ByMonth is_empty (fills_number number_of (fits_list ByMonth)) 0 tt refl
  absent ByDay = filled ByDay lists_no_weekday fills_day no_weekdays refl refl
  absent ByMonthDay = filled ByMonthDay lists_none (fills_place (fits_list ByMonthDay)) no_ordinals tt refl
  absent ByWeekNo = filled ByWeekNo lists_none (fills_place (fits_list ByWeekNo)) no_ordinals tt refl
  absent ByYearDay = filled ByYearDay lists_none_wide (fills_wide_place 366 (lit< tt)) no_wide_ordinals none_is_wide refl
  absent BySetPos = filled BySetPos lists_none_wide (fills_wide_place 366 (lit< tt)) no_wide_ordinals none_is_wide refl

-- a rule of a text has these parts, and is what they say
pub of_rule : (text : List ℕ) (rule : RuleParts) → rule_of text ≡ Ok rule → AreParts (parts_of text) × (said (parts_of text) (every Yearly) ≡ rule)
unfolding rule_of
of_rule text rule h = by_tests (are_parts (parts_of text)) (has_large_number (parts_of text)) refl h
  where
    by_tests : (a l : Bool) → are_parts (parts_of text) ≡ a
        → cond (not a) (Err BadRule) (cond l (Err NumberTooLarge) (Ok (rule_said (parts_of text)))) ≡ Ok rule →
        AreParts (parts_of text) × (said (parts_of text) (every Yearly) ≡ rule)
    by_tests true true e h = cc
    by_tests true false e h =
        let p = parts_are (parts_of text) e in
        let same : rule_said (parts_of text) ≡ rule = cc in
        (p, sym (parts_said (parts_of text) p.once (every Yearly)) ∙ same)
    by_tests false l e h = cc
