-- The days of a year that may lie in a listed week.
use Rattle.std.proofs.Common.{◌≡◌, ℕ, ◌+◌, ◌-◌, ◌*◌, ◌/◌, ◌%◌, ◌<◌, ◌≤◌, ◌⊎◌, inl, inr, Bool, true, false, ◌==◌, ◌||◌, ◌&&◌, nat_lt, nat_le, max, min, List}
use Rattle.std.proofs.Common.{pos, refl, sym, ap, ◌∙◌, subst, arith}
use Rattle.std.proofs.lemmas.Bool.{cases_lt}
use Rattle.std.proofs.lemmas.Bool.Decides.{nat_tests}
use Rattle.jiff_core.specs.Calendar.{days_in_year}
use Rattle.jiff_core.specs.Weekday.{monday_zero}
use Rattle.jiff_core.proofs.CalendarLemmas.{days_in_year_bounds}
use Rattle.ics_fields.specs.declared.ordinals.Ordinals.{Ordinals}
use Rattle.ics_fields.specs.Sets.{contains_wide, IsLeastFrom}
use Rattle.ics_fields.specs.Ordinals.{lists_none}
use Rattle.ics_fields.specs.Days.{days_before_year, year_of, year_day_of, weekday_of}
use Rattle.ics_fields.proofs.DayLemmas.{days_before_year-next, year_of_is}
use Rattle.ics_period.specs.declared.effective_rule.EffectiveRule.{EffectiveRule}
use Rattle.ics_period.specs.PeriodNumbers.{week_of}
use Rattle.ics_period.specs.Candidates.{week_number, weeks_of_year, lets_place, lets_week}
use Rattle.ics_period.specs.Runs.{may_list_week}
use Rattle.ics_period.proofs.PeriodLemmas.{week_small, fourth_late}
use Rattle.ics_period.proofs.WeekLemmas.{year_day_is}

-- the days between two
pub between_more : (low k m : ℕ) (a : Bool) {b : Bool} → low ≤ k → b ≡ (a || (nat_le low m && nat_lt m k))
    → ((m == k) || b) ≡ (a || (nat_le low m && nat_lt m (k + 1)))
between_more low k m a l e = grind (arith, nat_tests)

pub between_done : {low end k : ℕ} (m : ℕ) (a : Bool) {b : Bool} → low ≤ k → end ≤ k → k ≤ max low end → b ≡ (a || (nat_le low m && nat_lt m k)) →
    b ≡ (a || (nat_le low m && nat_lt m end))
between_done m a l h most e = grind (arith, nat_tests)

-- the week of a day whose fourth day is in the same year
module _ (q : EffectiveRule) (e d : ℕ) where
  pub week_in_year : {len : ℕ} → (e + (12 - monday_zero q.week_start)) % 7 < year_day_of e + 3
      → d ≡ year_day_of e + 3 - (e + (12 - monday_zero q.week_start)) % 7 → d ≤ len → len ≡ days_in_year (pos (year_of e))
      → lets_place q.weeks ((d - 1) / 7 + 1) ((len - 1 - (d - 1) % 7) / 7 + 1) ≡ lets_week q e
  week_in_year {len = len} low is high size =
      let w = monday_zero q.week_start in
      let small : w < 7 = week_small q.week_start in
      let f = 7 * week_of w e + w - 9 in
      let place = year_day_is e in
      let next = days_before_year-next (year_of e) in
      let late : 9 ≤ 7 * week_of w e + w = omega (arith, small, low, place) in
      let there : f + 1 ≡ days_before_year (year_of e) + d = omega (arith, small, low, place, is) in
      let year : year_of f ≡ year_of e = year_of_is f (year_of e) (omega (arith, there, low, is)) (omega (arith, there, next, high, size)) in
      let own = year_day_is f in
      let day : year_day_of f ≡ d = (let start = ap days_before_year year in omega (arith, own, start, there)) in
      let weeks : weeks_of_year f ≡ (len - 1 - (d - 1) % 7) / 7 + 1 = rw (day, year, sym size) refl in
      let number : week_number f ≡ (d - 1) / 7 + 1 = rw day refl in
      sym (ap (λ x. lets_place q.weeks (week_number x) (weeks_of_year x)) (fourth_late w e late)
      ∙ ap (λ x. lets_place q.weeks x (weeks_of_year f)) number ∙ ap (λ x. lets_place q.weeks ((d - 1) / 7 + 1) x) weeks)

-- day k of a year is near its end, or lies in week n, of which the fourth day comes `fourth` days after the year's first and n - 1 weeks later
pub record IsNear (weeks : Ordinals) (fourth k n : ℕ) : Type 0 where
  pub low : 1 ≤ n
  pub high : n < 54
  pub listed : may_list_week weeks n ≡ true
  pub from : 7 * n + fourth ≤ k + 10
  pub before : k + 3 < 7 * n + fourth

abbrev pub IsFound : Ordinals → ℕ → ℕ → ℕ → Type 0
IsFound weeks fourth len k = (k < 3) ⊎ ((len ≤ k + 3) ⊎ ((n : ℕ) × IsNear weeks fourth k n))

-- a week of the year that is listed, by the place of its fourth day in the year
module _ (q : EffectiveRule) (some : lists_none q.weeks ≡ false) where
  listed_week : {f y : ℕ} (j : ℕ) → year_of f ≡ y → f ≡ days_before_year y + j → j < days_in_year (pos y)
      → lets_place q.weeks (week_number f) (weeks_of_year f) ≡ true → may_list_week q.weeks (j / 7 + 1) ≡ true
  listed_week {f = f} {y = y} j year place inside h = grind (arith, days_in_year_bounds (pos y), year_day_is f)

-- a year of so many days from a first, of a rule with BYWEEKNO; the fourth day of the first whole week comes `fourth` days after the year's first
pub record IsYearOfWeeks (q : EffectiveRule) (first len fourth : ℕ) : Type 0 where
  pub start : first ≡ days_before_year (year_of first)
  pub size : len ≡ days_in_year (pos (year_of first))
  pub some : lists_none q.weeks ≡ false
  pub place : fourth ≡ (monday_zero q.week_start + 10 - weekday_of first) % 7

pub week_near : (q : EffectiveRule) {first len fourth : ℕ} (k : ℕ) → IsYearOfWeeks q first len fourth → k < len → lets_week q (first + k) ≡ true
    → IsFound q.weeks fourth len k
week_near q {first = first} {len = len} {fourth = fourth} k is inside h =
    let w = monday_zero q.week_start in
    let small : w < 7 = week_small q.week_start in
    elim (cases_lt (7 * week_of w (first + k) + w) (first + 9)) [
      | inl before ↦ inl (omega (arith, before, small))
      | inr late ↦ let f = 7 * week_of w (first + k) + w - 9 in elim (cases_lt f (first + len)) [
        | inr past ↦ inr (inl (omega (arith, past, late, small)))
        | inl there ↦
            let next = days_before_year-next (year_of first) in
            let year : year_of f ≡ year_of first =
            year_of_is f (year_of first) (omega (arith, late, is.start)) (omega (arith, there, next, is.start, is.size)) in
            let h' = subst (λ x. lets_place q.weeks (week_number x) (weeks_of_year x) ≡ true) (fourth_late w (first + k) (omega (arith, late))) h in
            let bounds = days_in_year_bounds (pos (year_of first)) in
            let aligned : (f - first) % 7 ≡ fourth = omega (arith, late, is.place, small) in
            inr (inr (
              (f - first) / 7 + 1,
              record {
                low = omega arith;
                high = omega (arith, there, late, is.size, bounds.0);
                listed = listed_week q is.some (f - first) year (omega (arith, late, is.start)) (omega (arith, there, late, is.size)) h';
                from = omega (arith, aligned, late, small);
                before = omega (arith, aligned, late, small);
              },
            ))
      ]
    ]

-- how far a walk over the weeks has come
pub record IsCover (weeks : Ordinals) (fourth len n : ℕ) (days : List ℕ) : Type 0 where
  pub within : (m : ℕ) → contains_wide days m ≡ true → m < len
  pub first : (m : ℕ) → m < 3 → contains_wide days m ≡ true
  pub last : (m : ℕ) → len ≤ m + 3 → m < len → contains_wide days m ≡ true
  pub near : (k j : ℕ) → j < n → IsNear weeks fourth k j → k < len → contains_wide days k ≡ true

pub cover_starts : {weeks : Ordinals} {fourth len : ℕ} (none front : List ℕ) {both : List ℕ} → 3 ≤ len → ((m : ℕ) → contains_wide none m ≡ false)
    → ((m : ℕ) → contains_wide front m ≡ (contains_wide none m || (nat_le 0 m && nat_lt m 3)))
    → ((m : ℕ) → contains_wide both m ≡ (contains_wide front m || (nat_le (len - 3) m && nat_lt m len))) → IsCover weeks fourth len 1 both
cover_starts none front long empty f b = grind (arith, nat_tests)

pub cover_adds : {weeks : Ordinals} {fourth len n low end : ℕ} {days more : List ℕ} → low ≡ 7 * n + fourth - 3 - 7 → end ≡ min (7 * n + fourth - 3) len
    → ((m : ℕ) → contains_wide more m ≡ (contains_wide days m || (nat_le low m && nat_lt m end))) → IsCover weeks fourth len n days →
    IsCover weeks fourth len (n + 1) more
cover_adds el ee added cover = grind (arith, nat_tests, cases_lt)

pub cover_jumps : {weeks : Ordinals} {fourth len from n : ℕ} {days : List ℕ} → ((j : ℕ) → from ≤ j → j < n → may_list_week weeks j ≡ false)
    → IsCover weeks fourth len from days → IsCover weeks fourth len n days
cover_jumps none cover = grind (arith, nat_tests, cases_lt)

pub covered : {weeks : Ordinals} {fourth len : ℕ} (n k : ℕ) {days : List ℕ} → 54 ≤ n → k < len → IsCover weeks fourth len n days → IsFound weeks fourth len k →
    contains_wide days k ≡ true
covered n k all inside cover found = grind (arith, nat_tests)

-- the weeks that are listed from the front, and those from the end that were seen
abbrev pub seen_weeks : (ℕ → Bool) → (ℕ → Bool) → ℕ → ℕ → Bool
seen_weeks front back from n = front n || (nat_lt (53 - n) from && back (53 - n)) || (nat_lt (54 - n) from && back (54 - n))

-- the same for the weeks of a year, by the places that are listed from the front and from the end
module _ (front back : ℕ → Bool) where
  pub weeks_more : {from k : ℕ} (n : ℕ) {b : Bool} → 1 ≤ n → n ≤ 53 → k ≤ 53 → IsLeastFrom back from k
      → b ≡ seen_weeks front back from n → ((n == 54 - k) || ((n == 53 - k) || b)) ≡ seen_weeks front back (k + 1) n
  weeks_more n one most some next e = grind (arith, nat_tests)

  pub weeks_done : (from n : ℕ) {b : Bool} → 1 ≤ n → n ≤ 53 → ((x : ℕ) → from ≤ x → x ≤ 53 → back x ≡ false)
      → b ≡ seen_weeks front back from n → b ≡ (front n || back (53 - n) || back (54 - n))
  weeks_done from n one most none e = grind (arith, nat_tests)
