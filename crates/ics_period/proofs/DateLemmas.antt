-- The tests of a date by the fields that `civil` gives.
use Rattle.std.proofs.Common.{◌≡◌, ℕ, ◌<◌, nat_lt, ◌+◌, ◌-◌, ◌/◌, ◌%◌, Bool, true, false, ◌&&◌, ◌||◌, pos, refl, arith}
use Rattle.std.proofs.lemmas.Bool.{and_parts, and_right, or_left}
use Rattle.std.proofs.lemmas.Bool.Decides.{nat_tests}
use Rattle.std.proofs.lemmas.Nat.Bits.{bit_at-zero}
use Rattle.ics_fields.specs.declared.frequency.Frequency.{Frequency}
use Rattle.ics_fields.specs.declared.frequency.Frequency.TheVariants.{Weekly}
use Rattle.ics_fields.specs.declared.ordinals.Ordinals.{Ordinals}
use Rattle.ics_fields.specs.Sets.{contains}
use Rattle.ics_fields.specs.Ordinals.{lists_none, lists_no_weekday, numbers_of}
use Rattle.jiff_core.specs.Calendar.{days_in_year}
use Rattle.jiff_core.specs.Weekday.{monday_zero}
use Rattle.ics_period.specs.declared.effective_rule.EffectiveRule.{EffectiveRule}
use Rattle.ics_fields.specs.declared.fields.Civil.{Civil}
use Rattle.ics_fields.specs.Days.{weekday_of}
use Rattle.ics_fields.specs.Fields.{IsCivilOf}
use Rattle.ics_period.specs.Candidates.{lets_place, lets_week, lists_nth, lets_numbered, lets_weekday, lets_date, fourth_day}
use Rattle.ics_period.specs.DateParts.{names_weekdays_alone}
use Rattle.ics_period.specs.Inner.NamedWeekdays.{names_weekday}
use Rattle.ics_period.proofs.ScanLemmas.{in_word}

-- the week of a day, by the fields of its fourth day
pub lets_week-fields : (q : EffectiveRule) (e : ℕ) (c : Civil) → IsCivilOf c (fourth_day (monday_zero q.week_start) e) →
    lets_place q.weeks ((c.year_day - 1) / 7 + 1) ((days_in_year (pos c.year) - 1 - (c.year_day - 1) % 7) / 7 + 1) ≡ lets_week q e
lets_week-fields q e c f = grind (arith, nat_tests)

-- a weekday that stands neither alone nor with a number is out
pub none_nth : (p : Ordinals) (n size : ℕ) → lists_none p ≡ true → lists_nth p n size ≡ false
none_nth p n size h = grind (arith, nat_tests, and_parts, bit_at-zero)

pub none_numbered : (f : Frequency) (q : EffectiveRule) (p : Ordinals) (e : ℕ) → lists_none p ≡ true → lets_numbered f q p e ≡ false
none_numbered f q p e h = grind (arith, nat_tests, none_nth)

pub weekday_out : (q : EffectiveRule) (e : ℕ) → (lists_no_weekday q.weekdays || contains q.weekdays.plain (weekday_of e)) ≡ false →
    lists_none (numbers_of q.weekdays (weekday_of e)) ≡ true → lets_date q e ≡ false
weekday_out q e a c = grind (arith, nat_tests, and_right, none_numbered)

-- where no other part speaks of the date BYDAY decides
pub weekdays_alone : (q : EffectiveRule) (e : ℕ) → names_weekdays_alone q ≡ true → lets_date q e ≡ lets_weekday q e
weekdays_alone q e alone = grind (arith, nat_tests, or_left)

-- and a weekday that stands alone is in there
pub weekday_in : (q : EffectiveRule) (e : ℕ) → (lists_no_weekday q.weekdays || contains q.weekdays.plain (weekday_of e)) ≡ true →
    names_weekdays_alone q ≡ true → lets_date q e ≡ true
weekday_in q e day alone = grind (arith, nat_tests, or_left, weekdays_alone)

-- under WEEKLY with BYDAY alone, the weekdays that it names
pub in_week : (d : ℕ) (b : Bool) → d < 7 → (nat_lt d 7 && b) ≡ b
in_week d b h = let less : nat_lt d 7 ≡ true = grind (arith, nat_tests) in rw less refl

-- a rule repeats weekly, of the parts of the date it has BYDAY alone, and a set is that of the weekdays that it names
pub record NamesWeekdays (q : EffectiveRule) (set : ℕ) : Type 0 where
  pub weekly : q.frequency ≡ Weekly
  pub alone : names_weekdays_alone q ≡ true
  pub some : lists_no_weekday q.weekdays ≡ false
  pub named : (n : ℕ) → contains set n ≡ (nat_lt n 7 && names_weekday q.weekdays n)

module _ {q : EffectiveRule} {set : ℕ} (names : NamesWeekdays q set) (e : ℕ) where
  named_in : names_weekday q.weekdays (weekday_of e) ≡ lets_date q e
  named_in = grind (arith, nat_tests, weekdays_alone)

  pub day_of_week : {d : ℕ} {found : Bool} → d ≡ weekday_of e → d < 7 → found ≡ (nat_lt d 64 && contains set d) → found ≡ lets_date q e
  day_of_week day small h = grind (arith, nat_tests, in_week, in_word, named_in)
