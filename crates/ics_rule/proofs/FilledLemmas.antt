-- Periods longer than a day that have too few locals for BYSETPOS.
use Rattle.std.proofs.Common.{◌≡◌, ℕ, suc, ◌+◌, ◌-◌, ◌*◌, ◌/◌, ◌%◌, ◌<◌, ◌≤◌, ◌⊎◌, inl, inr, true, false, sym, ap, ◌∙◌, arith}
use Rattle.std.proofs.lemmas.Bool.{cases_lt}
use Rattle.std.proofs.lemmas.Bool.Decides.{nat_tests}
use Rattle.std.proofs.lemmas.Nat.{le-div, div-add-mod'}
use Rattle.std.proofs.Math.Nat.{add-mul, mod-lt}
use Rattle.jiff_core.specs.Weekday.{monday_zero}
use Rattle.ics_fields.specs.Locals.{calendar_end}
use Rattle.ics_fields.specs.Ordinals.{lists_none_wide}
use Rattle.ics_fields.specs.Sets.{contains_wide}
use Rattle.ics_fields.specs.declared.frequency.Frequency.{Frequency}
use Rattle.ics_period.specs.declared.effective_rule.EffectiveRule.{EffectiveRule}
use Rattle.ics_period.specs.Candidates.{lets_date, lets_clock, period_in}
use Rattle.ics_period.specs.Ranks.{count, is_chosen}
use Rattle.ics_period.specs.RecurrencePeriods.{first_local}
use Rattle.ics_period.proofs.Counts.{count-none, count-same, count-suc, count_none_at, count_one}
use Rattle.ics_period.proofs.PeriodLemmas.{begun, begins, before_first, period_mono}
use Rattle.ics_rule.specs.Inner.Filled.{first_day, is_open_from, locals_between, IsPoor}
use Rattle.ics_rule.specs.Inner.Rounds.{seconds_of, calendar_periods}
use Rattle.ics_period.proofs.CycleLemmas.{date_again}
use Rattle.ics_rule.proofs.CalendarRounds.{first_again, some_periods}
use Rattle.ics_rule.proofs.MostLemmas.{days_size, from_first, is_day, none_placed}

-- as many days are allowed k times 400 years later
days_again : (q : EffectiveRule) (k a len : ℕ) → 1 ≤ k
    → count (a + 146_097 * k + len) (is_open_from q (a + 146_097 * k)) ≡ count (a + len) (is_open_from q a)
days_again q k a len some = from_first q (a + 146_097 * k) len ∙ count-same len (λ j. lets_date q (a + 146_097 * k + j)) (λ j. lets_date q (a + j))
    (λ j l. ap (lets_date q) (let e : a + 146_097 * k + j ≡ a + j + 146_097 * k = omega arith in e) ∙ date_again q k (a + j) some)
    ∙ sym (from_first q a len)

day_again : (f : Frequency) (w x k : ℕ) → 2 ≤ x → first_day f w (x + k * calendar_periods f) ≡ first_day f w x + 146_097 * k
day_again f w x k h = let later = first_again f w x k h in
    ap (λ y. y / 86_400) later ∙ (let e : (first_local f w x + k * 12_622_780_800) / 86_400 ≡ first_local f w x / 86_400 + 146_097 * k = omega arith in e)

pub first_mono : (f : Frequency) (w x : ℕ) → first_local f w x ≤ first_local f w (suc x)
first_mono f w x =
    let up = begins f w (suc x) (first_local f w (suc x)) (omega arith) in
    begun f w x (first_local f w (suc x)) (omega (arith, up))

poor_again : (q : EffectiveRule) (least x k : ℕ) → 1 ≤ k → 2 ≤ x → IsPoor q least x → IsPoor q least (x + k * calendar_periods q.frequency)
poor_again q least x k some h poor =
    let f = q.frequency in
    let w = monday_zero q.week_start in
    let a = first_day f w x in
    let b = first_day f w (suc x) in
    let up = first_mono f w x in
    let len = b - a in
    let whole : b ≡ a + len = omega (arith, up) in
    let begin = day_again f w x k h in
    let end : first_day f w (suc (x + k * calendar_periods f)) ≡ a + 146_097 * k + len =
    ap (first_day f w) (let e : suc (x + k * calendar_periods f) ≡ suc x + k * calendar_periods f = omega arith in e)
    ∙ day_again f w (suc x) k (omega (arith, h)) ∙ (let e : b + 146_097 * k ≡ a + 146_097 * k + len = omega (arith, whole) in e) in
    let same = ap (λ z. z * count 86_400 (lets_clock q)) (days_again q k a len some) in
    let own : locals_between q a (a + len) < least = rw whole at poor in
    rw (begin, end) (omega (arith, same, own))

-- so no period is richer than those of a round
pub poor_ever : (q : EffectiveRule) (least begin number : ℕ) → 2 ≤ begin → begin + calendar_periods q.frequency ≤ number
    → ((x : ℕ) → begin ≤ x → x < number → IsPoor q least x) → (x : ℕ) → begin ≤ x → IsPoor q least x
poor_ever q least begin number h long poor x low = elim (cases_lt x number) [
  | inl less ↦ poor x low less
  | inr more ↦
      let p = calendar_periods q.frequency in
      let some = some_periods q.frequency in
      let k = (x - begin) / p in
      let rest = (x - begin) % p in
      let sum = div-add-mod' (x - begin) p in
      let small = mod-lt (x - begin) some in
      let times : 1 ≤ k = le-div 1 (x - begin) p some (omega (arith, more, long)) in
      let same : x ≡ begin + rest + k * p = omega (arith, sum, low) in
      let own = poor_again q least (begin + rest) k times (omega (arith, h)) (poor (begin + rest) (omega arith) (omega (arith, small, long))) in
      rw same own
]

-- a period with too few locals for each place chooses none
module _ (q : EffectiveRule) (start least : ℕ) (long : (seconds_of q.frequency ≡ 0) ⊎ (86_400 < seconds_of q.frequency))
    (some : lists_none_wide q.positions ≡ false) (front : (k : ℕ) → 1 ≤ k → k < least → contains_wide q.positions.front k ≡ false)
    (back : (k : ℕ) → 1 ≤ k → k < least → contains_wide q.positions.back k ≡ false) where
  pub poor_none : (n : ℕ) → n < calendar_end → IsPoor q least (period_in q n) → is_chosen q start n ≡ false
  poor_none n inside poor =
      none_placed q start n (locals_between q (first_day q.frequency (monday_zero q.week_start) (period_in q n))
      (first_day q.frequency (monday_zero q.week_start) (suc (period_in q n)))) inside (days_size q start n long) some
      (λ k low high. front k low (omega (arith, high, poor))) (λ k low high. back k low (omega (arith, high, poor)))

  -- so do the periods from that of a local on and before another
  pub poor_before : (n number day : ℕ) → day ≡ first_day q.frequency (monday_zero q.week_start) number → day * 86_400 < calendar_end
      → ((x : ℕ) → period_in q n ≤ x → x < number → IsPoor q least x) → (m : ℕ) → n ≤ m → m < day * 86_400 → is_chosen q start m ≡ false
  poor_before n number day is early poor m l u =
      let f = q.frequency in
      let w = monday_zero q.week_start in
      let whole = is_day f w number long in
      let same = ap (λ z. z * 86_400) is in
      let low = period_mono f w n m l in
      let high = before_first f w number m (omega (arith, u, whole, same)) in
      poor_none m (omega (arith, u, early)) (poor (period_in q m) low high)

-- Locals counted day by day.
pub none_from : (q : EffectiveRule) (a : ℕ) → locals_between q a a ≡ 0
none_from q a =
    let none = count-none a (is_open_from q a) (λ m l. grind (arith, nat_tests)) in
    let times = ap (λ z. z * count 86_400 (lets_clock q)) none in
    omega (arith, times)

pub day_open : (q : EffectiveRule) (a day : ℕ) → a ≤ day → lets_date q day ≡ true
    → locals_between q a (day + 1) ≡ locals_between q a day + count 86_400 (lets_clock q)
day_open q a day h is =
    let here : is_open_from q a day ≡ true = grind (arith, nat_tests) in
    let one = count-suc day (is_open_from q a) in
    let two = count_one (is_open_from q a day) here in
    let next = ap (λ x. count x (is_open_from q a)) (let e : day + 1 ≡ suc day = omega arith in e) in
    let sum : count (day + 1) (is_open_from q a) ≡ count day (is_open_from q a) + 1 = omega (arith, one, two, next) in
    let times = ap (λ z. z * count 86_400 (lets_clock q)) sum in
    let spread = add-mul (count day (is_open_from q a)) 1 (count 86_400 (lets_clock q)) in
    omega (arith, times, spread)

pub day_closed : (q : EffectiveRule) (a day : ℕ) → lets_date q day ≡ false → locals_between q a (day + 1) ≡ locals_between q a day
day_closed q a day is =
    let here : is_open_from q a day ≡ false = grind arith in
    let one = count-suc day (is_open_from q a) in
    let two = count_none_at (is_open_from q a day) here in
    let next = ap (λ x. count x (is_open_from q a)) (let e : day + 1 ≡ suc day = omega arith in e) in
    let sum : count (day + 1) (is_open_from q a) ≡ count day (is_open_from q a) = omega (arith, one, two, next) in
    ap (λ z. z * count 86_400 (lets_clock q)) sum

-- One period after the other.
pub day_up : (f : Frequency) (w x : ℕ) → first_day f w x ≤ first_day f w (x + 1)
day_up f w x =
    let up = begins f w (x + 1) (first_local f w (x + 1)) (omega arith) in
    let low = begun f w x (first_local f w (x + 1)) (omega (arith, up)) in
    omega (arith, low)

pub one_poor : (q : EffectiveRule) (least number day next : ℕ) → day ≡ first_day q.frequency (monday_zero q.week_start) number
    → next ≡ first_day q.frequency (monday_zero q.week_start) (number + 1) → locals_between q day next < least → IsPoor q least number
one_poor q least number day next is end poor =
    let f = q.frequency in
    let w = monday_zero q.week_start in
    let to : next ≡ first_day f w (suc number) = end ∙ ap (first_day f w) (let e : number + 1 ≡ suc number = omega arith in e) in
    let one = ap (λ z. locals_between q z next) is in
    let two = ap (λ z. locals_between q (first_day f w number) z) to in
    omega (arith, one, two, poor)

pub poor_more : (q : EffectiveRule) (least begin number : ℕ) → ((x : ℕ) → begin ≤ x → x < number → IsPoor q least x) → IsPoor q least number
    → (x : ℕ) → begin ≤ x → x < number + 1 → IsPoor q least x
poor_more q least begin number before own x l u = elim (cases_lt x number) [
  | inl less ↦ before x l less
  | inr more ↦
      let f = q.frequency in
      let w = monday_zero q.week_start in
      let e : number ≡ x = omega (arith, more, u) in
      let same = ap (λ z. locals_between q (first_day f w z) (first_day f w (suc z))) e in
      omega (arith, same, own)
]
