-- The year of a day, as its fields tell, and the days of it that are worth a test.
use Rattle.std.proofs.Common.{◌≡◌, ℕ, ◌+◌, ◌-◌, ◌<◌, ◌≤◌, Bool, true, false, ◌&&◌, pos, refl, sym, ap, ◌∙◌, arith}
use Rattle.std.proofs.lemmas.Bool.{and_parts, false_from_ne_true}
use Rattle.jiff_core.specs.Calendar.{days_in_month, days_in_year}
use Rattle.ics_fields.specs.declared.frequency.Frequency.TheVariants.{Yearly}
use Rattle.ics_fields.specs.declared.fields.Civil.{Civil}
use Rattle.ics_fields.specs.Fields.{IsCivilOf}
use Rattle.ics_fields.specs.Days.{days_before_year, year_of, month_of, month_day_of}
use Rattle.ics_fields.specs.Ordinals.{lists_none}
use Rattle.ics_period.specs.declared.effective_rule.EffectiveRule.{EffectiveRule}
use Rattle.ics_fields.specs.Sets.{contains_wide}
use Rattle.ics_period.specs.declared.near_days.NearDays.{NearDays}
use Rattle.ics_period.specs.NearDays.{AreNear}
use Rattle.ics_period.specs.Candidates.{lets, lets_place, lets_date}
use Rattle.ics_fields.proofs.DayLemmas.{days_before_year-next, days_before_year_low, year_under_way}
use Rattle.ics_period.specs.Runs.{IsSpan, is_in_month}
use Rattle.ics_period.proofs.WeekLemmas.{year_day_is}
use Rattle.ics_period.proofs.MonthDays.{year_starts}

-- a day's year, which has so many days from a first
pub record IsYearOf (day first len : ℕ) : Type 0 where
  pub span : IsSpan Yearly (year_of first) first len
  pub low : first ≤ day
  pub high : day < first + len

pub year_around : (c : Civil) (day : ℕ) {first len : ℕ} → IsCivilOf c day → day ≤ days_before_year 9_801 → first + c.year_day ≡ day + 1
    → len ≡ days_in_year (pos c.year) → IsYearOf day first len
year_around c day {first = first} {len = len} own early start size =
    let place = year_day_is day in
    let way = year_under_way day in
    let least = days_before_year_low (year_of day) in
    let next = days_before_year-next (year_of day) in
    let begins : first ≡ days_before_year (year_of day) = omega (arith, own.year_day, start, place) in
    let same = year_starts first (year_of day) begins in
    let long : len ≡ days_in_year (pos (year_of day)) = size ∙ ap (λ y. days_in_year (pos y)) own.year in
    record {
      span = (
        omega (arith, same, least, way.0, early),
        (begins ∙ ap days_before_year (sym same), long ∙ ap (λ y. days_in_year (pos y)) (sym same)),
      );
      low = omega (arith, begins, way.0);
      high = omega (arith, way.1, next, begins, long);
    }

-- the days that a rule allows are those of its months that BYMONTHDAY lists
month_open : (q : EffectiveRule) (e : ℕ) → lets_date q e ≡ true → lets q.months (month_of e) ≡ true
month_open q e h = grind (arith, and_parts)

month_day_open : (q : EffectiveRule) (e : ℕ) → lets_date q e ≡ true
    → lets_place q.month_days (month_day_of e) (days_in_month (pos (year_of e)) (month_of e)) ≡ true
month_day_open q e h = grind (arith, and_parts)

pub month_listed : (q : EffectiveRule) (e : ℕ) → lists_none q.month_days ≡ false → lets_date q e ≡ true → is_in_month q e ≡ true
month_listed q e some h = let month = month_open q e h in let day = month_day_open q e h in rw (month, some) (rw some at day)

-- a day of their year that is not among them is not allowed
pub left_out : {q : EffectiveRule} {near : NearDays} (e : ℕ) → AreNear q near → near.first ≤ e → e < near.end
    → contains_wide near.days (e - near.first) ≡ false → lets_date q e ≡ false
left_out {q = q} e are low high none = false_from_ne_true (lets_date q e) (λ yes. let bad = sym none ∙ are.all e low high yes in cc)

-- the days of a year, each by its place
pub are_near : {q : EffectiveRule} {near : NearDays} (len : ℕ) → near.end ≡ near.first + len → len ≤ 366
    → ((k : ℕ) → k < len → lets_date q (near.first + k) ≡ true → contains_wide near.days k ≡ true) → AreNear q near
are_near {q = q} {near = near} len end most all = record {
  size = omega (arith, end, most);
  all = λ e low high yes. let same : near.first + (e - near.first) ≡ e = omega (arith, low) in
      all (e - near.first) (omega (arith, low, high, end)) (ap (lets_date q) same ∙ yes);
}

pub both : {a b : Bool} → a ≡ true → b ≡ true → (a && b) ≡ true
both h i = rw (h, i) refl
