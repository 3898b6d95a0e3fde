-- The days that months list, by their dates, and what is left to ask of them.
use Rattle.std.proofs.Common.{◌≡◌, ℕ, zero, suc, ◌+◌, ◌-◌, ◌/◌, ◌%◌, ◌<◌, ◌≤◌, ◌⊎◌, Bool, true, false, ◌==◌, ◌||◌, ◌&&◌, nat_lt, nat_le}
use Rattle.std.proofs.Common.{pos, refl, sym, ap, ◌∙◌, arith}
use Rattle.std.proofs.lemmas.Bool.{and_parts, and_right, le-ltb, ltb-true, ltb-false}
use Rattle.std.proofs.lemmas.Bool.Decides.{nat_tests}
use Rattle.jiff_core.specs.Calendar.{days_in_month, days_in_year}
use Rattle.jiff_core.proofs.SignedLemmas.{signed_arith}
use Rattle.jiff_core.proofs.CalendarLemmas.{days_of_months_more, days_in_year_bounds}
use Rattle.ics_fields.specs.declared.frequency.Frequency.{Frequency}
use Rattle.ics_fields.specs.declared.frequency.Frequency.TheVariants.{Monthly, Yearly}
use Rattle.ics_fields.specs.declared.ordinals.Ordinals.{Ordinals}
use Rattle.ics_fields.specs.Sets.{is_empty, IsLeastFrom}
use Rattle.ics_fields.specs.Ordinals.{lists_none, lists_none_wide, lists_no_weekday, numbers_of}
use Rattle.ics_fields.specs.Days.{days_before_year, year_of, year_day_of, month_of, month_day_of, weekday_of}
use Rattle.ics_fields.proofs.DayLemmas.{Fields, days_before_year-next, days_before_year_low, year_of_is}
use Rattle.ics_period.specs.declared.effective_rule.EffectiveRule.{EffectiveRule}
use Rattle.ics_period.specs.declared.runs.Run.{Run}
use Rattle.ics_period.specs.Candidates.{lets, lets_place, lets_wide_place, lets_week, lets_weekday, lets_numbered, lets_date, lists_nth}
use Rattle.ics_period.specs.Runs.{has_run, weekday_in, lists_weekday, lists_in_month, is_in_month, goes_by_months, counts_in_month, IsMonth, IsSpan}
use Rattle.ics_period.proofs.WeekLemmas.{year_day_is}
use Rattle.ics_period.proofs.Months.{month_past, month_high, month_positive}
use Rattle.ics_period.proofs.PeriodLemmas.{month_size, IsPeriodFrom}
use Rattle.ics_period.proofs.DayWalkLemmas.{fields_at}
use Rattle.ics_period.proofs.RunLemmas.{next_found, guard, run_facts}

-- the month that a day of its year lies in
module _ (r : Run) (first y m k : ℕ) (own : IsMonth r first y m) where
  pub day_of_run : r.start ≤ k → k - r.start < r.len → Fields (first + k) y m (k - r.start + 1)
  day_of_run low high = fields_at (first + k) y m (k - r.start + 1)
      ((omega (arith, signed_arith, own.year), omega (arith, signed_arith, own.year)), (own.low, own.high), (omega arith, omega (arith, high, own.size)))
      (omega (arith, own.place, low))

  run_is_month : first ≡ days_before_year y → k < days_in_year (pos y) → has_run r k ≡ (month_of (first + k) == m)
  run_is_month start inside =
      let next = days_before_year-next y in
      let year = year_of_is (first + k) y (omega (arith, start)) (omega (arith, next, start, inside)) in
      let more = days_of_months_more (pos y) m own.low in
      let early = (month_past y (m - 1) (first + k) (omega (arith, own.high))).0 in
      let late = (month_past y m (first + k) own.high).1 in
      grind (arith, nat_tests, day_of_run)

  pub run_lists : (q : EffectiveRule) → has_run r k ≡ true → lists_in_month q (weekday_in r (k - r.start)) (k - r.start + 1) r.len
      ≡ lists_in_month q (weekday_of (first + k)) (month_day_of (first + k)) (days_in_month (pos (year_of (first + k))) (month_of (first + k)))
  run_lists q h = grind (arith, nat_tests, day_of_run, run_facts)

-- how far a walk over the months has come
abbrev pub seen_months : EffectiveRule → (ℕ → Bool) → ℕ → ℕ → Bool
seen_months q months from e =
    nat_lt (month_of e) from && (months (month_of e) && lists_in_month q (weekday_of e) (month_day_of e) (days_in_month (pos (year_of e)) (month_of e)))

-- with the run of one more month
module _ (f a l t : Bool) where
  one_further : {i h s b b' x : Bool} → b' ≡ (b || (h && x)) → b ≡ (i && (f && (a && l))) → (i ≡ true → h ≡ s) → (i ≡ false → h ≡ false)
      → (h ≡ true → x ≡ l) → (s || (f && a)) ≡ (t && a) → b' ≡ (i && (t && (a && l)))
  one_further more e inside past here next = grind arith

module _ (q : EffectiveRule) (k : ℕ) where
  pub month_step : {r : Run} {months : ℕ → Bool} {first y m from len : ℕ} {b new : Bool} → IsMonth r first y m
      → (first ≡ days_before_year y) × (len ≡ days_in_year (pos y)) → r.start + r.len ≤ len → IsLeastFrom months from m
      → b ≡ (nat_lt k len && seen_months q months from (first + k))
      → new ≡ (b || (has_run r k && lists_in_month q (weekday_in r (k - r.start)) (k - r.start + 1) r.len))
      → new ≡ (nat_lt k len && seen_months q months (m + 1) (first + k))
  month_step {r = r} {months = months} {first = first} {y = y} {m = m} {from = from} {len = len} own span most next e more =
      one_further (nat_lt (month_of (first + k)) from) (months (month_of (first + k))) _ _ more e
      (λ inside. run_is_month r first y m k own span.0 (let l = ltb-true k len inside in omega (arith, l, span.1)))
      (λ past. and_right (nat_le r.start k) (nat_lt (k - r.start) r.len)
      (le-ltb (k - r.start) r.len (let far = ltb-false k len past in omega (arith, far, most))))
      (run_lists r first y m k own q) (next_found months from m (month_of (first + k)) next)

pub months_none : (q : EffectiveRule) (months : ℕ → Bool) (e : ℕ) (a : Bool) → false ≡ (a && seen_months q months 1 e)
months_none q months e a = grind (arith, nat_tests, month_positive)

pub months_done : (q : EffectiveRule) (months : ℕ → Bool) {from : ℕ} (e : ℕ) (a : Bool) → ((n : ℕ) → from ≤ n → months n ≡ false) →
    ((n : ℕ) → n < 13 → months n ≡ lets q.months n)
    → (a && seen_months q months from e) ≡ (a && is_in_month q e)
months_done q months e a none is = grind (arith, nat_tests, month_high)

-- a run that begins with the period
run_start : (k len : ℕ) → (nat_le 0 k && nat_lt (k - 0) len) ≡ nat_lt k len
run_start k len = grind (arith, nat_tests)

-- one month alone, if BYMONTH lists it
pub month_alone : (q : EffectiveRule) {first len y m w : ℕ} (k : ℕ) {old among new : Bool} → IsMonth (record { start = 0; len = len; weekday = w }) first y m →
    old ≡ false → among ≡ lets q.months m
    → ((among ≡ true) × (new ≡ (old || (has_run (record { start = 0; len = len; weekday = w }) k
    && lists_in_month q (weekday_in (record { start = 0; len = len; weekday = w }) (k - 0)) (k - 0 + 1) len)))) ⊎ ((among ≡ false) × (new ≡ old))
    → new ≡ (nat_lt k len && is_in_month q (first + k))
month_alone q {first = first} {len = len} {y = y} {m = m} {w = w} k own none among e =
    let r : Run = record { start = 0; len = len; weekday = w } in
    gather (run_start k len) (λ h. let inside = run_facts r k h in let f = day_of_run r first y m k own inside.0 inside.1 in ap (lets q.months) f.month)
    (run_lists r first y m k own q) none among e
  where
    gather : {h i l m' m'' x x' a b : Bool} → h ≡ i → (h ≡ true → m'' ≡ m') → (h ≡ true → x ≡ x') → a ≡ false → l ≡ m' →
        ((l ≡ true) × (b ≡ (a || (h && x)))) ⊎ ((l ≡ false) × (b ≡ a)) → b ≡ (i && (m'' && x'))
    gather same month listed none among e = grind arith

-- what the rule goes by
pub goes : (q : EffectiveRule) → goes_by_months q ≡ true → (lists_none q.weeks ≡ true)
    × ((lists_none_wide q.year_days ≡ true) × ((lists_none q.month_days && lists_no_weekday q.weekdays) ≡ false))
goes q h = grind (arith, nat_tests)

-- there BYMONTH, BYMONTHDAY and BYDAY decide
pub three_parts : (q : EffectiveRule) (e : ℕ) → goes_by_months q ≡ true
    → lets_date q e ≡ (lets q.months (month_of e)
    && (lets_place q.month_days (month_day_of e) (days_in_month (pos (year_of e)) (month_of e)) && lets_weekday q e))
three_parts q e h = grind (arith, nat_tests, goes)

module _ (q : EffectiveRule) (p : Ordinals) (e : ℕ) where
  numbers_in_month : (f : Frequency) → counts_in_month q f ≡ true → lists_none q.weeks ≡ true →
      lists_none q.month_days ≡ true
      → lets_numbered f q p e ≡ lists_nth p (month_day_of e) (days_in_month (pos (year_of e)) (month_of e))
  numbers_in_month f h l g = grind (arith, nat_tests)

-- by BYMONTHDAY alone, or by BYDAY alone, they list what the rule lets in
pub month_exact : (q : EffectiveRule) (e : ℕ) → goes_by_months q ≡ true → counts_in_month q q.frequency ≡ true →
    (lists_none q.month_days || lists_no_weekday q.weekdays) ≡ true
    → is_in_month q e ≡ lets_date q e
month_exact q e h counts one =
    grind (arith, nat_tests, goes q h, three_parts q e h, numbers_in_month q (numbers_of q.weekdays (weekday_of e)) e q.frequency counts)

-- else they list what it may let in
pub month_candidate : (q : EffectiveRule) (e : ℕ) → goes_by_months q ≡ true → lists_none q.month_days ≡ false → lets_date q e ≡ true → is_in_month q e ≡ true
month_candidate q e h some d = grind (arith, nat_tests, and_parts, three_parts)

-- a rule that repeats yearly goes by BYDAY, which counts in the year
pub record GoesByYears (q : EffectiveRule) : Type 0 where
  pub goes : goes_by_months q ≡ true
  pub yearly : q.frequency ≡ Yearly
  pub free : (is_empty q.months && lists_none q.month_days) ≡ true

pub year_exact : (q : EffectiveRule) (e : ℕ) {n size : ℕ} → GoesByYears q → year_day_of e ≡ n → days_in_year (pos (year_of e)) ≡ size
    → lists_weekday q.weekdays (weekday_of e) n size ≡ lets_date q e
year_exact q e by day len = grind (arith, nat_tests, and_parts, goes, three_parts)

-- what is asked of each candidate
module _ (some f : ℕ → Bool) where
  pub asked_more : {from n : ℕ} (k : ℕ) {old t new : Bool} → IsLeastFrom some from n → t ≡ f n → old ≡ (some k && (nat_lt k from && f k))
      → ((t ≡ true) × (new ≡ ((k == n) || old))) ⊎ ((t ≡ false) × (new ≡ old)) → new ≡ (some k && (nat_lt k (n + 1) && f k))
  asked_more k next test h e = grind (arith, nat_tests)

  pub asked_all : (from k : ℕ) {b : Bool} → ((m : ℕ) → from ≤ m → some m ≡ false) → b ≡ (some k && (nat_lt k from && f k)) → b ≡ (some k && f k)
  asked_all from k none e = grind (arith, nat_tests)

-- candidates of which all that passes is one
pub candidates : (some test inside : Bool) → (some ≡ true → inside ≡ true) → (inside ≡ true → test ≡ true → some ≡ true) → (some && test) ≡ (inside && test)
candidates some test inside w a = grind arith

pub narrowed : (inside some test : Bool) → (inside ≡ true → test ≡ true → some ≡ true) → ((inside && some) && test) ≡ (inside && test)
narrowed inside some test a = grind arith

-- what the parts of the date say apart
pub number_let_in : (q : EffectiveRule) (e : ℕ) → lets_date q e ≡ true → lets_wide_place q.year_days (year_day_of e) (days_in_year (pos (year_of e))) ≡ true
number_let_in q e h = grind (arith, and_parts)

pub week_let_in : (q : EffectiveRule) (e : ℕ) → lets_date q e ≡ true → lets_week q e ≡ true
week_let_in q e h = grind (arith, and_parts)

-- the days of a year by their numbers
pub year_place : (first y k : ℕ) → first ≡ days_before_year y → k < days_in_year (pos y) → (year_of (first + k) ≡ y) × (year_day_of (first + k) ≡ k + 1)
year_place first y k start inside = grind (arith, nat_tests, days_before_year-next, year_day_is, year_of_is)

pub year_starts : (first y : ℕ) → first ≡ days_before_year y → year_of first ≡ y
year_starts first y start = grind (arith, days_before_year-next y, days_in_year_bounds (pos y), year_of_is first y)

module _ (q : EffectiveRule) (y k : ℕ) where
  pub number_listed : {first len : ℕ} → first ≡ days_before_year y → len ≡ days_in_year (pos y) → nat_lt k len ≡ true →
      lets_date q (first + k) ≡ true → lets_wide_place q.year_days (k + 1) len ≡ true
  number_listed start size inside h = grind (arith, nat_tests, number_let_in, year_place)

  pub whole_year : {first len w : ℕ} {a b : Bool} → GoesByYears q → first ≡ days_before_year y → len ≡ days_in_year (pos y) → w ≡ weekday_of first → a ≡ false
      → b ≡ (a || (has_run (record { start = 0; len = len; weekday = w }) k
      && lists_weekday q.weekdays (weekday_in (record { start = 0; len = len; weekday = w }) (k - 0)) (k - 0 + 1) len))
      → b ≡ (nat_lt k len && lets_date q (first + k))
  whole_year {first = first} {len = len} {w = w} by start size weekday new e =
      let r : Run = record { start = 0; len = len; weekday = w } in
      rw (
        e,
        new,
        guard (has_run r k) (lists_weekday q.weekdays (weekday_in r (k - 0)) (k - 0 + 1) len) (lets_date q (first + k)) (λ h.
            let inside = run_facts r k h in
            let place = year_place first y k start (omega (arith, inside.1, size)) in
            let own : weekday_in r (k - 0) ≡ weekday_of (first + k) = omega (arith, weekday) in
            let number : k - 0 + 1 ≡ k + 1 = omega arith in
            rw (own, number) (year_exact q (first + k) by place.1 (ap (λ x. days_in_year (pos x)) place.0 ∙ sym size))),
        run_start k len,
      ) refl

-- a month as a period
pub span_month : (p first len w : ℕ) → IsSpan Monthly p first len → w ≡ weekday_of first →
    IsMonth (record { start = 0; len = len; weekday = w }) first ((p - 1) / 12) ((p - 1) % 12 + 1)
span_month p first len w span weekday = grind (arith, nat_tests)

-- and the period that a rule's code looks at
pub period_span : (f : Frequency) (w p : ℕ) {b e : ℕ} → IsPeriodFrom f w p b e → IsSpan f p (b / 86_400) ((e + 86_399) / 86_400 - b / 86_400)
period_span Yearly w p is = grind (arith, days_before_year-next p, days_before_year_low p)
period_span Monthly w zero is = absurd (let some = month_positive (0 / 86_400) in omega (arith, some, is.some))
period_span Monthly w (suc p) is = grind (arith, days_before_year_low (p / 12), month_size p)
period_span f w p is = tt
