-- How many locals a rule allows in one period at most.
use Rattle.std.proofs.Common.{◌≡◌, ℕ, zero, suc, ◌+◌, ◌*◌, ◌/◌, ◌%◌, ◌<◌, ◌≤◌, Bool, true, false, ◌&&◌, ◌||◌, ◌-◌, ◌⊎◌, not, pos, nat_le, min}
use Rattle.std.proofs.Common.{inr, refl, sym, ap, ◌∙◌, cond, arith}
use Rattle.std.proofs.lemmas.Bool.{and_parts, eq-eqb, false_from_ne_true}
use Rattle.std.proofs.lemmas.Bool.Decides.{nat_tests}
use Rattle.std.proofs.lemmas.Nat.{le-div, div-add-mod'}
use Rattle.std.proofs.Math.Nat.{mod-lt, mul-le-mul_right}
use Rattle.jiff_core.specs.Weekday.{monday_zero}
use Rattle.jiff_core.specs.Calendar.{days_of_months, days_in_month, days_in_year}
use Rattle.jiff_core.proofs.CalendarLemmas.{days_of_months-zero, days_in_month_bounds}
use Rattle.ics_fields.specs.Days.{days_before_year, year_of, year_day_of, month_of, month_day_of, weekday_of}
use Rattle.ics_fields.proofs.DayLemmas.{year_under_way, days_before_year-next}
use Rattle.ics_fields.specs.Locals.{calendar_end}
use Rattle.ics_fields.specs.Ordinals.{lists_none, lists_none_wide, lists_no_weekday, numbers_of}
use Rattle.ics_fields.specs.Sets.{contains, contains_wide}
use Rattle.ics_fields.specs.declared.frequency.Frequency.{Frequency}
use Rattle.ics_fields.specs.declared.frequency.Frequency.TheVariants.{Secondly, Minutely, Hourly, Daily, Weekly, Monthly, Yearly}
use Rattle.ics_period.specs.declared.effective_rule.EffectiveRule.{EffectiveRule}
use Rattle.ics_period.specs.PeriodNumbers.{day_of, month_number, period}
use Rattle.ics_period.specs.Candidates.{lets, lets_place, lets_date, lets_clock, is_candidate_in, period_in}
use Rattle.ics_period.specs.Ranks.{count, is_beside, is_placed, is_chosen, rank, size}
use Rattle.ics_period.specs.RecurrencePeriods.{month_start, first_local}
use Rattle.ics_period.proofs.ClockLemmas.{same_time}
use Rattle.ics_period.proofs.Counts.{count-same, count-add, count-none, count-from, count_mono, count_most, count_some}
use Rattle.ics_period.proofs.CountBounds.{count_fewer, count_later, both_true, not_earlier, count_cycle, listed_most, in_blocks}
use Rattle.ics_period.proofs.DateLemmas.{weekday_in, weekday_out, weekdays_alone}
use Rattle.ics_period.proofs.MonthDays.{number_let_in}
use Rattle.ics_period.proofs.Months.{month_high, month_positive}
use Rattle.ics_period.proofs.PeriodLemmas.{begun, begins, before_first, before_next, is_short, month_size}
use Rattle.ics_period.proofs.WeekLemmas.{year_day_is}
use Rattle.ics_rule.specs.Inner.Rounds.{seconds_of}
use Rattle.ics_rule.specs.Inner.Filled.{first_day, locals_between}
use Rattle.ics_rule.specs.Inner.OpenPeriods.{lets_own, lets_within, size_of_open, listed_in_month, listed_in_year, of_weekdays, most_days}
use Rattle.ics_rule.proofs.RoundLemmas.{date_alike}
use Rattle.ics_rule.proofs.EachLemmas.{clock_split, within_at, in_period, size_daily}

-- a period of a day or less is one block
pub short_size : (q : EffectiveRule) (start n : ℕ) → 0 < seconds_of q.frequency → seconds_of q.frequency ≤ 86_400 → size q start n ≤ size_of_open q
short_size q start n fine unit =
    let f = q.frequency in
    let w = monday_zero q.week_start in
    let u = seconds_of f in
    let x = period_in q n in
    let most = in_blocks q start n (x + 1) u (nat_le x) (lets_within f q)
    (λ m same. let i = in_period f w m fine unit in omega (arith, i.1, ap (λ y. y * u) same))
    (λ m same on. not_earlier x (m / u) (le-div x m u fine (let i = in_period f w m fine unit in omega (arith, i.0, ap (λ y. y * u) same))))
    (λ m is. sym (within_at q (m / u) (m % u) f fine unit (mod-lt m fine)) ∙ ap (lets_within f q) (div-add-mod' m u)
    ∙ (and_parts (lets_own f q m) (lets_within f q m) (sym (clock_split f q m) ∙ is)).1) in
    omega (arith, most, ap (λ y. y * count u (lets_within f q)) (count_later x 1))

-- a longer period has whole days
pub is_day : (f : Frequency) (w p : ℕ) → (seconds_of f ≡ 0) ⊎ (86_400 < seconds_of f) → first_day f w p * 86_400 ≡ first_local f w p
is_day f w p h = grind arith

days : Frequency → ℕ
days Secondly = 1
days Minutely = 1
days Hourly = 1
days Daily = 1
days Weekly = 7
days Monthly = 31
days Yearly = 366

fits : (f : Frequency) (w p : ℕ) → (seconds_of f ≡ 0) ⊎ (86_400 < seconds_of f) → first_local f w (suc p) ≤ first_local f w p + days f * 86_400
unfolding days
fits Weekly w p h = omega arith
fits Monthly w zero h = let none = days_of_months-zero (pos 0) in omega (arith, none)
fits Monthly w (suc p) h = grind (arith, days_in_month_bounds, month_size)
fits Yearly w p h = is_short Yearly w p
fits f w p h = grind arith

-- the place of a day in its month, and the size of that
month_place : (e : ℕ) → (month_day_of e ≡ e + 1 - month_start (month_number e))
    × (month_start (suc (month_number e)) ≡ month_start (month_number e) + days_in_month (pos (year_of e)) (month_of e))
unfolding month_day_of year_day_of
month_place e =
    let y = year_of e in
    let m = month_of e in
    let p = month_number e - 1 in
    let low = month_positive e in
    let high = month_high e in
    let way = year_under_way e in
    let year : (y * 12 + m - 1) / 12 ≡ y = omega (arith, low, high) in
    let month : (y * 12 + m - 1) % 12 ≡ m - 1 = omega (arith, low, high) in
    let begin : month_start (month_number e) ≡ days_before_year y + days_of_months (pos y) (m - 1) = rw (year, month) refl in
    let same : suc p ≡ month_number e = omega (arith, low) in
    let number : p % 12 + 1 ≡ m = omega (arith, low, high) in
    let size : days_in_month (pos (p / 12)) (p % 12 + 1) ≡ days_in_month (pos y) m =
    ap (λ z. days_in_month (pos z) (p % 12 + 1)) year ∙ ap (λ z. days_in_month (pos y) z) number in (
      omega (arith, begin, way.0),
      omega (arith, month_size p, size, ap month_start same, ap (λ z. month_start (suc z)) same),
    )

-- by its weekdays a rule allows no fewer days
weekday_open : (q : EffectiveRule) (e : ℕ) → lets_date q e ≡ true → lets_date (of_weekdays q) e ≡ true
weekday_open q e is = by (lists_no_weekday q.weekdays || contains q.weekdays.plain (weekday_of e)) refl
  where
    or_last : (a b c : Bool) → c ≡ false → (a || b || not c) ≡ true
    or_last a b c h = grind arith

    numbered : (lists_no_weekday q.weekdays || contains q.weekdays.plain (weekday_of e)) ≡ false → (c : Bool)
        → lists_none (numbers_of q.weekdays (weekday_of e)) ≡ c → lets_date (of_weekdays q) e ≡ true
    numbered day true none = let no = sym is ∙ weekday_out q e day none in absurd cc
    numbered day false some = weekdays_alone (of_weekdays q) e refl
        ∙ or_last (lists_no_weekday q.weekdays) (contains q.weekdays.plain (weekday_of e)) (lists_none (numbers_of q.weekdays (weekday_of e))) some

    by : (b : Bool) → (lists_no_weekday q.weekdays || contains q.weekdays.plain (weekday_of e)) ≡ b → lets_date (of_weekdays q) e ≡ true
    by true day = weekday_in (of_weekdays q) e day refl
    by false day = numbered day (lists_none (numbers_of q.weekdays (weekday_of e))) refl

-- its days that the rule allows
module _ (q : EffectiveRule) (a : ℕ) where
  abbrev is_open : ℕ → Bool
  is_open e = nat_le a e && lets_date q e

  pub from_first : (len : ℕ) → count (a + len) is_open ≡ count len (λ k. lets_date q (a + k))
  from_first len = count-from a len is_open (λ m l. grind (arith, nat_tests))
      ∙ count-same len (λ k. is_open (a + k)) (λ k. lets_date q (a + k)) (λ k l. ap (λ b. b && lets_date q (a + k)) (not_earlier a (a + k) (omega arith)))

  at_most : (len : ℕ) → count (a + len) is_open ≤ len
  at_most len = let from = from_first len in let most = count_most len (λ k. lets_date q (a + k)) in omega (arith, from, most)

  listed_there : (b : Bool) {c : Bool} → b ≡ false → (b || c) ≡ true → c ≡ true
  listed_there b h o = grind arith

  -- where a part lists days, by their numbers from the first and from the last
  listed_days : (front back : ℕ → Bool) {len room : ℕ} → len ≤ room → (b : Bool)
      → (b ≡ false → (k : ℕ) → k < len → lets_date q (a + k) ≡ true → (front (k + 1) || back (len - k)) ≡ true)
      → count (a + len) is_open ≤ cond b room (count (room + 1) front + count (room + 1) back)
  listed_days front back {len = len} short true listed = let most = at_most len in omega (arith, most, short)
  listed_days front back {len = len} {room = room} short false listed =
      let fewer = count_fewer len (λ k. lets_date q (a + k)) (λ k. front (k + 1) || back (len - k)) (listed refl) in
      let early = count_mono (len + 1) (room + 1) front (omega (arith, short)) in
      let late = count_mono (len + 1) (room + 1) back (omega (arith, short)) in
      omega (arith, from_first len, fewer, listed_most front back len, early, late)

  -- where BYMONTHDAY lists days of the month that begins with the first
  module _ (x len : ℕ) (begin : a ≡ month_start x) (end : a + len ≡ month_start (suc x))
      (here : (k : ℕ) → k < len → month_number (a + k) ≡ x) where
    month_day_in : lists_none q.month_days ≡ false → (k : ℕ) → k < len → lets_date q (a + k) ≡ true
        → (contains q.month_days.front (k + 1) || contains q.month_days.back (len - k)) ≡ true
    month_day_in some k l is =
        let e = a + k in
        let allowed : lets_place q.month_days (month_day_of e) (days_in_month (pos (year_of e)) (month_of e)) ≡ true = grind (arith, and_parts) in
        let place = month_place e in
        let own = here k l in
        let day : month_day_of e ≡ k + 1 = omega (arith, place.0, begin, ap month_start own) in
        let back : days_in_month (pos (year_of e)) (month_of e) + 1 - month_day_of e ≡ len - k =
        omega (arith, day, place.1, begin, end, ap month_start own, ap (λ z. month_start (suc z)) own) in
        ap (λ z. contains q.month_days.front z || contains q.month_days.back (len - k)) (sym day)
        ∙ ap (λ z. contains q.month_days.front (month_day_of e) || contains q.month_days.back z) (sym back)
        ∙ listed_there (lists_none q.month_days) some allowed

  -- where BYYEARDAY lists days of the year that begins with the first
  module _ (x len : ℕ) (begin : a ≡ days_before_year x) (end : a + len ≡ days_before_year (suc x))
      (here : (k : ℕ) → k < len → year_of (a + k) ≡ x) where
    year_day_in : lists_none_wide q.year_days ≡ false → (k : ℕ) → k < len → lets_date q (a + k) ≡ true
        → (contains_wide q.year_days.front (k + 1) || contains_wide q.year_days.back (len - k)) ≡ true
    year_day_in some k l is =
        let e = a + k in
        let allowed = number_let_in q e is in
        let place = year_day_is e in
        let next = days_before_year-next x in
        let own = here k l in
        let day : year_day_of e ≡ k + 1 = omega (arith, place, begin, ap days_before_year own) in
        let back : days_in_year (pos (year_of e)) + 1 - year_day_of e ≡ len - k =
        omega (arith, day, next, begin, end, ap (λ z. days_in_year (pos z)) own) in
        ap (λ z. contains_wide q.year_days.front z || contains_wide q.year_days.back (len - k)) (sym day)
        ∙ ap (λ z. contains_wide q.year_days.front (year_day_of e) || contains_wide q.year_days.back z) (sym back)
        ∙ listed_there (lists_none_wide q.year_days) some allowed

  -- in each week at most as many as the weekdays allow
  weeks_of : (k : ℕ) → count (7 * k) (λ j. lets_date (of_weekdays q) (a + j)) ≡ k * count 7 (lets_date (of_weekdays q))
  weeks_of zero =
      let p = λ (j : ℕ). lets_date (of_weekdays q) (a + j) in
      let none = count-none 0 p (λ m l. absurd (omega (arith, l))) in
      let empty = ap (λ x. count x p) (let e : 7 * 0 ≡ 0 = omega arith in e) in
      omega (arith, none, empty)
  weeks_of (suc k) =
      let before = weeks_of k in
      let p = λ (j : ℕ). lets_date (of_weekdays q) (a + j) in
      let sum = ap (λ x. count x p) (let e : 7 * suc k ≡ 7 * k + 7 = omega arith in e) ∙ count-add (7 * k) 7 p in
      let one = count-same 7 (λ j. p (7 * k + j)) (λ j. lets_date (of_weekdays q) (a + 7 * k + j))
      (λ j l. ap (lets_date (of_weekdays q)) (let e : a + (7 * k + j) ≡ a + 7 * k + j = omega arith in e)) in
      let any = count_cycle 7 (lets_date (of_weekdays q))
      (λ m. date_alike (of_weekdays q) refl (omega arith) (m + 7) m (inr (omega arith))) (a + 7 * k) in
      omega (arith, before, sum, one, any)

  among : (len weeks most : ℕ) → len ≤ 7 * weeks → count (a + len) is_open ≤ most
      → count (a + len) is_open ≤ min most (weeks * count 7 (lets_date (of_weekdays q)))
  among len weeks most inside few =
      let up = count_mono (a + len) (a + 7 * weeks) is_open (omega (arith, inside)) in
      let fewer = count_fewer (7 * weeks) (λ k. lets_date q (a + k)) (λ k. lets_date (of_weekdays q) (a + k)) (λ k l is. weekday_open q (a + k) is) in
      omega (arith, up, few, from_first (7 * weeks), fewer, weeks_of weeks)

-- the period of a day
period_at : (f : Frequency) (w p e : ℕ) → (seconds_of f ≡ 0) ⊎ (86_400 < seconds_of f) → first_day f w p ≤ e → e < first_day f w (suc p)
    → period f w (e * 86_400) ≡ p
period_at f w p e long low high =
    let begin = is_day f w p long in
    let end = is_day f w (suc p) long in
    let more = begins f w p (e * 86_400) (omega (arith, begin, low)) in
    let less = before_first f w (suc p) (e * 86_400) (omega (arith, end, high)) in
    omega (arith, more, less)

-- a period from the first day on that has so many days
open_days : (q : EffectiveRule) (x len : ℕ) (f : Frequency) → q.frequency ≡ f → (seconds_of f ≡ 0) ⊎ (86_400 < seconds_of f)
    → first_day f (monday_zero q.week_start) x + len ≡ first_day f (monday_zero q.week_start) (suc x) → len ≤ days f
    → count (first_day f (monday_zero q.week_start) x + len) (is_open q (first_day f (monday_zero q.week_start) x)) ≤ most_days f q
unfolding days
open_days q x len Weekly e long end short =
    let a = first_day Weekly (monday_zero q.week_start) x in
    among q a len 1 7 short (let most = at_most q a len in omega (arith, most, short))
open_days q x len Monthly e long end short =
    let w = monday_zero q.week_start in
    let a = first_day Monthly w x in
    let begin : a ≡ month_start x = omega arith in
    let next : first_day Monthly w (suc x) ≡ month_start (suc x) = omega arith in
    let here = λ (k : ℕ) (l : k < len). (let day : (a + k) * 86_400 / 86_400 ≡ a + k = omega arith in
    sym (ap month_number day) ∙ period_at Monthly w x (a + k) long (omega arith) (omega (arith, l, end))) in
    among q a len 5 (listed_in_month q.month_days) (omega (arith, short))
    (listed_days q a (contains q.month_days.front) (contains q.month_days.back) short (lists_none q.month_days)
    (month_day_in q a x len begin (omega (arith, end, next)) here))
open_days q x len Yearly e long end short =
    let w = monday_zero q.week_start in
    let a = first_day Yearly w x in
    let begin : a ≡ days_before_year x = omega arith in
    let next : first_day Yearly w (suc x) ≡ days_before_year (suc x) = omega arith in
    let here = λ (k : ℕ) (l : k < len). (let day : (a + k) * 86_400 / 86_400 ≡ a + k = omega arith in
    sym (ap year_of day) ∙ period_at Yearly w x (a + k) long (omega arith) (omega (arith, l, end))) in
    among q a len 53 (listed_in_year q.year_days) (omega (arith, short))
    (listed_days q a (contains_wide q.year_days.front) (contains_wide q.year_days.back) short (lists_none_wide q.year_days)
    (year_day_in q a x len begin (omega (arith, end, next)) here))
open_days q x len f e long end short = grind arith

-- the times of a day
pub day_within : (q : EffectiveRule) → count 86_400 (lets_within Daily q) ≡ count 86_400 (lets_clock q)
day_within q = count-same 86_400 (lets_within Daily q) (lets_clock q) (λ k l. sym (clock_split Daily q k))

pub day_times : (q : EffectiveRule) → count 86_400 (lets_clock q) ≡ count 24 (lets q.hours) * count 60 (lets q.minutes) * count 60 (lets q.seconds)
day_times q = sym (day_within q) ∙ size_daily q

-- a longer period has at most the times of a day on each day that is allowed
pub days_size : (q : EffectiveRule) (start n : ℕ) → (seconds_of q.frequency ≡ 0) ⊎ (86_400 < seconds_of q.frequency)
    → size q start n ≤ locals_between q (first_day q.frequency (monday_zero q.week_start) (period_in q n))
    (first_day q.frequency (monday_zero q.week_start) (suc (period_in q n)))
days_size q start n long =
    let f = q.frequency in
    let w = monday_zero q.week_start in
    let x = period_in q n in
    let a = first_day f w x in
    let b = first_day f w (suc x) in
    let day = is_day f w x long in
    let next = is_day f w (suc x) long in
    in_blocks q start n b 86_400 (is_open q a) (lets_clock q)
    (λ m same. let early = before_next f w (suc x) m (omega (arith, same)) in omega (arith, early, next))
    (λ m same on. both_true (nat_le a (day_of m)) (lets_date q (day_of m)) (not_earlier a (day_of m)
    (let late = begun f w x m (omega (arith, same)) in omega (arith, late, day))) on) (λ m is. same_time q m ∙ is)

pub long_size : (q : EffectiveRule) (start n : ℕ) → (seconds_of q.frequency ≡ 0) ⊎ (86_400 < seconds_of q.frequency)
    → size q start n ≤ most_days q.frequency q * count 86_400 (lets_clock q)
long_size q start n long =
    let f = q.frequency in
    let w = monday_zero q.week_start in
    let x = period_in q n in
    let a = first_day f w x in
    let b = first_day f w (suc x) in
    let day = is_day f w x long in
    let next = is_day f w (suc x) long in
    let end = fits f w x long in
    let in_a = begun f w x n (omega arith) in
    let in_b = before_next f w (suc x) n (omega arith) in
    let whole : a + (b - a) ≡ b = omega (arith, day, next, in_a, in_b) in
    let most = days_size q start n long in
    let few = mul-le-mul_right (count 86_400 (lets_clock q)) (open_days q x (b - a) f refl long whole (omega (arith, day, next, end))) in
    let same = ap (λ z. count z (is_open q a) * count 86_400 (lets_clock q)) whole in
    omega (arith, most, few, same)

-- if BYSETPOS lists only greater places, nothing is chosen
pub none_placed : (q : EffectiveRule) (start n most : ℕ) → n < calendar_end → size q start n ≤ most → lists_none_wide q.positions ≡ false
    → ((k : ℕ) → 1 ≤ k → k ≤ most → contains_wide q.positions.front k ≡ false)
    → ((k : ℕ) → 1 ≤ k → k ≤ most → contains_wide q.positions.back k ≡ false) → is_chosen q start n ≡ false
none_placed q start n most inside small some front back = false_from_ne_true (is_chosen q start n) (λ yes.
    let both = and_parts (is_candidate_in q start n) (is_placed q start (lists_none_wide q.positions) n) yes in
    let beside : is_beside q start n n ≡ true = rw (both.0, eq-eqb (period_in q n) (period_in q n) refl) refl in
    let one = count_some (suc n) n (is_beside q start n) (omega arith) beside in
    let up = count_mono (suc n) calendar_end (is_beside q start n) (omega (arith, inside)) in
    let early = front (rank q start n) (omega (arith, one)) (omega (arith, up, small)) in
    let late = back (size q start n + 1 - rank q start n) (omega (arith, up)) (omega (arith, one, small)) in
    let placed : is_placed q start false n ≡ true = ap (λ b. is_placed q start b n) (sym some) ∙ both.1 in
    let not : is_placed q start false n ≡ false = ap (λ b. b || contains_wide q.positions.back (size q start n + 1 - rank q start n)) early ∙ late in
    let no = sym placed ∙ not in absurd cc)
