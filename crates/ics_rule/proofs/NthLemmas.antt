-- The n-th day of a month or year, and the n-th of its weekday there, by counting.
use Rattle.std.proofs.Common.{◌≡◌, ◌≢◌, ℕ, zero, suc, ◌+◌, ◌-◌, ◌*◌, ◌/◌, ◌%◌, ◌<◌, ◌≤◌, Bool, true, false, ◌&&◌, ◌||◌, ◌==◌, pos, sym, ap, ◌∙◌, cond}
use Rattle.std.proofs.Common.{refl, arith}
use Rattle.std.proofs.lemmas.Bool.{and_right, cases_lt, eq-eqb, ne_eqb}
use Rattle.std.proofs.lemmas.Bool.Decides.{nat_tests}
use Rattle.jiff_core.specs.Calendar.{days_in_month, days_in_year, days_of_months}
use Rattle.jiff_core.proofs.CalendarLemmas.{days_in_month_bounds, days_in_year_bounds}
use Rattle.ics_fields.specs.declared.ordinals.Ordinals.{Ordinals}
use Rattle.ics_fields.specs.declared.ordinals.WideOrdinals.{WideOrdinals}
use Rattle.ics_fields.specs.Sets.{contains, contains_wide}
use Rattle.ics_fields.specs.Days.{days_before_year, year_of, year_day_of, month_of, month_day_of, weekday_of}
use Rattle.ics_fields.proofs.DayLemmas.{days_before_year-next, year_of_is, year_under_way}
use Rattle.ics_period.specs.PeriodNumbers.{month_number}
use Rattle.ics_period.specs.Candidates.{lists, lists_wide, lists_nth, fourth_day, week_number, weeks_of_year}
use Rattle.ics_period.specs.Ranks.{count}
use Rattle.ics_period.specs.RecurrencePeriods.{month_start}
use Rattle.ics_rule.specs.PlainReading.{is_nth, is_place, is_wide_place, in_year, in_month, with_weekday, fourth_of_week, is_week}
use Rattle.ics_period.proofs.Counts.{count-same, count-suc, count-none, count-from, count_every}
use Rattle.ics_period.proofs.Months.{month_high, month_positive}
use Rattle.ics_period.proofs.PeriodLemmas.{month_begun, month_begins, month_size, fourth_late}
use Rattle.ics_period.proofs.CycleLemmas.{year_day_again, year_size_of, fourth_again}
use Rattle.ics_period.proofs.RankLemmas.{count_flat}
use Rattle.ics_period.proofs.WeekLemmas.{year_day_is}
use Rattle.ics_fields.specs.Locals.{calendar_end}

-- the days that pass are those from a on and before b
pub record IsStretch (test : ℕ → Bool) (a b : ℕ) : Type 0 where
  pub before : (f : ℕ) → f < a → test f ≡ false
  pub inside : (f : ℕ) → a ≤ f → f < b → test f ≡ true
  pub after : (f : ℕ) → b ≤ f → test f ≡ false

-- a day e of them: how far its place and their end are
pub record IsDayOf (a b e n len span : ℕ) : Type 0 where
  pub low : a ≤ e
  pub high : e < b
  pub place : n ≡ suc e - a
  pub size : len ≡ b - a
  pub end : b ≤ e + span

-- one day more may be of a weekday
one_day : (a w k : ℕ) → w < 7 → (k + 6 - (w + 7 - weekday_of a) % 7) / 7 + cond (weekday_of (a + k) == w && true) 1 0
    ≡ (suc k + 6 - (w + 7 - weekday_of a) % 7) / 7
one_day a w k small = grind (arith, nat_tests)

module _ (unit : ℕ → Bool) (a b : ℕ) (stretch : IsStretch unit a b) where
  -- all of them, up to one and from one on
  counted : (n : ℕ) → a ≤ n → n ≤ b → count n unit ≡ n - a
  counted n low high =
      let whole : a + (n - a) ≡ n = omega arith in
      sym (ap (λ x. count x unit) whole) ∙ count-from a (n - a) unit stretch.before
      ∙ count-same (n - a) (λ k. unit (a + k)) (λ k. true) (λ k l. stretch.inside (a + k) (omega arith) (omega arith)) ∙ count_every (n - a)

  -- those of a weekday
  first_days : (w k : ℕ) → w < 7 → a + k ≤ b → count (a + k) (λ f. weekday_of f == w && unit f) ≡ (k + 6 - (w + 7 - weekday_of a) % 7) / 7
  first_days w zero small h =
      let start : a + 0 ≡ a = omega arith in
      ap (λ x. count x (λ f. weekday_of f == w && unit f)) start
      ∙ count-none a (λ f. weekday_of f == w && unit f) (λ m l. and_right (weekday_of m == w) (unit m) (stretch.before m l)) ∙ omega arith
  first_days w (suc k) small h =
      let more : a + suc k ≡ suc (a + k) = omega arith in
      let there = stretch.inside (a + k) (omega arith) (omega arith) in
      rw (more, count-suc (a + k) (λ f. weekday_of f == w && unit f), there, first_days w k small (omega arith)) (one_day a w k small)

  on_weekday : (w n : ℕ) → w < 7 → a ≤ n → n ≤ b → count n (λ f. weekday_of f == w && unit f) ≡ (n - a + 6 - (w + 7 - weekday_of a) % 7) / 7
  on_weekday w n small low high = let whole : a + (n - a) ≡ n = omega (arith, low) in
      sym (ap (λ x. count x (λ f. weekday_of f == w && unit f)) whole) ∙ first_days w (n - a) small (omega (arith, whole, high))

  -- the n-th day of them all, and the n-th of its weekday, from the front and from the end
  module _ {e n len span : ℕ} (d : IsDayOf a b e n len span) where
    abbrev alike : ℕ → Bool
    alike f = weekday_of f == weekday_of e && unit f

    nth : count (suc e) unit ≡ n
    nth = counted (suc e) (omega (arith, d.low)) (omega (arith, d.high)) ∙ sym d.place

    last : (end : ℕ) → e + span ≤ end → count end unit - count e unit ≡ len + 1 - n
    last end past =
        let all = counted b (omega (arith, d.low, d.high)) (omega arith) in
        let flat = count_flat b end unit (omega (arith, d.end, past)) (λ m l h. stretch.after m l) in
        let earlier = counted e d.low (omega (arith, d.high)) in
        omega (arith, all, flat, earlier, d.place, d.size, d.low, d.high)

    pub weekday_nth : count (suc e) alike ≡ (n - 1) / 7 + 1
    weekday_nth = on_weekday (weekday_of e) (suc e) (omega arith) (omega (arith, d.low)) (omega (arith, d.high)) ∙ omega (arith, d.place, d.low)

    pub weekday_last : (end : ℕ) → e + span ≤ end → count end alike - count e alike ≡ (len - n) / 7 + 1
    weekday_last end past =
        let all = on_weekday (weekday_of e) b (omega arith) (omega (arith, d.low, d.high)) (omega arith) in
        let earlier = on_weekday (weekday_of e) e (omega arith) d.low (omega (arith, d.high)) in
        let flat =
        count_flat b end alike (omega (arith, d.end, past)) (λ m l h. and_right (weekday_of m == weekday_of e) (unit m) (stretch.after m l)) in
        omega (arith, all, earlier, flat, d.place, d.size, d.low, d.high)

    -- what places list
    module _ (plus minus : ℕ → Bool) (small : e + span ≤ calendar_end) where
      nth_listed : is_nth plus minus unit e ≡ (plus n || minus (len + 1 - n))
      nth_listed = rw (nth, last calendar_end small) refl

      nth_weekday_listed : is_nth plus minus alike e ≡ (plus ((n - 1) / 7 + 1) || minus ((len - n) / 7 + 1))
      nth_weekday_listed = rw (weekday_nth, weekday_last calendar_end small) refl

-- ---- the year of a day

pub year_stretch : (e : ℕ) → IsStretch (in_year e) (days_before_year (year_of e)) (days_before_year (suc (year_of e)))
year_stretch e = record {
  before = λ f l. ne_eqb (year_of f) (year_of e) (λ same. let u = year_under_way f in let m = ap days_before_year same in omega (arith, u.0, m, l));
  inside = λ f l h. eq-eqb (year_of f) (year_of e) (year_of_is f (year_of e) l h);
  after = λ f l. ne_eqb (year_of f) (year_of e)
      (λ same. let u = year_under_way f in let m = ap (λ y. days_before_year (suc y)) same in omega (arith, u.1, m, l));
}

pub year_day : (e : ℕ) → IsDayOf (days_before_year (year_of e)) (days_before_year (suc (year_of e))) e (year_day_of e) (days_in_year (pos (year_of e))) 366
year_day e = grind (arith, nat_tests, days_before_year-next, days_in_year_bounds, year_day_is, year_under_way)

-- ---- the month of a day

in_month_same : (f e : ℕ) → year_of f * 12 + month_of f ≡ year_of e * 12 + month_of e → (year_of f == year_of e && month_of f == month_of e) ≡ true
in_month_same f e h = grind (arith, nat_tests, month_high, month_positive)

in_month_apart : (y m z k : ℕ) → y * 12 + m ≢ z * 12 + k → (y == z && m == k) ≡ false
in_month_apart y m z k h = grind (arith, nat_tests)

pub month_stretch : (e : ℕ) → IsStretch (in_month e) (month_start (month_number e)) (month_start (suc (month_number e)))
month_stretch e = grind (arith, nat_tests, cases_lt, in_month_apart, in_month_same, month_begins, month_begun)

pub month_day : (e : ℕ)
    → IsDayOf (month_start (month_number e)) (month_start (suc (month_number e))) e (month_day_of e) (days_in_month (pos (year_of e)) (month_of e)) 31
unfolding month_day_of
month_day e =
    let some = month_positive e in
    let most = month_high e in
    let one : suc (month_number e - 1) ≡ month_number e = omega (arith, some) in
    let year : (month_number e - 1) / 12 ≡ year_of e = omega (arith, some, most) in
    let month : (month_number e - 1) % 12 ≡ month_of e - 1 = omega (arith, some, most) in
    let same : month_of e - 1 + 1 ≡ month_of e = omega (arith, some) in
    let start : month_start (month_number e) ≡ days_before_year (year_of e) + days_of_months (pos (year_of e)) (month_of e - 1) = rw (year, month) refl in
    let size = rw (one, year, month, same) at (month_size (month_number e - 1)) in
    grind (arith, cases_lt, days_in_month_bounds (pos (year_of e)) (month_of e), month_begins, month_begun (month_number e) e, year_day_is e)

-- ---- what the parts list

pub month_days_listed : (p : Ordinals) (e : ℕ) → e < 4_000_000
    → is_place p (in_month e) e ≡ lists p (month_day_of e) (days_in_month (pos (year_of e)) (month_of e))
month_days_listed p e small = nth_listed (in_month e) _ _ (month_stretch e) (month_day e) (contains p.front) (contains p.back) (omega arith)

pub year_days_listed : (p : WideOrdinals) (e : ℕ) → e < 4_000_000 →
    is_wide_place p (in_year e) e ≡ lists_wide p (year_day_of e) (days_in_year (pos (year_of e)))
year_days_listed p e small = nth_listed (in_year e) _ _ (year_stretch e) (year_day e) (contains_wide p.front) (contains_wide p.back) (omega arith)

pub month_weekday_listed : (p : Ordinals) (e : ℕ) → e < 4_000_000
    → is_place p (with_weekday in_month e) e ≡ lists_nth p (month_day_of e) (days_in_month (pos (year_of e)) (month_of e))
month_weekday_listed p e small = nth_weekday_listed (in_month e) _ _ (month_stretch e) (month_day e) (contains p.front) (contains p.back) (omega arith)

pub year_weekday_listed : (p : Ordinals) (e : ℕ) → e < 4_000_000
    → is_place p (with_weekday in_year e) e ≡ lists_nth p (year_day_of e) (days_in_year (pos (year_of e)))
year_weekday_listed p e small = nth_weekday_listed (in_year e) _ _ (year_stretch e) (year_day e) (contains p.front) (contains p.back) (omega arith)

-- ---- weeks

week_places : (d len : ℕ) → 1 ≤ d → d ≤ len → (len - d) / 7 + 1 ≡ (len - 1 - (d - 1) % 7) / 7 + 1 + 1 - ((d - 1) / 7 + 1)
week_places d len low high = omega arith

pub weeks_listed : (weeks : Ordinals) (w e : ℕ) → w < 7 → e < 3_800_000
    → is_week weeks (fourth_of_week w e) ≡ lists weeks (week_number (fourth_day w e)) (weeks_of_year (fourth_day w e))
weeks_listed weeks w e small range =
    let f = fourth_day w e in
    let again = fourth_again w 1 e (omega arith) in
    let late = fourth_late w (e + 146_097 * 1) (omega arith) in
    let later : fourth_of_week w e ≡ f + 146_097 * again.0 = omega (arith, late, again.1, small) in
    let d = year_day f in
    year_weekday_listed weeks (fourth_of_week w e) (omega arith)
    ∙ rw (
      later,
      year_day_again again.0 f,
      year_size_of again.0 f,
      week_places (year_day_of f) (days_in_year (pos (year_of f))) (omega (arith, d.place, d.low)) (omega (arith, d.place, d.size, d.low, d.high)),
    ) refl
