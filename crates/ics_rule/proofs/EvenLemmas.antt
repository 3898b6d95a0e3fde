-- Rounds of periods in which a rule allows as many locals have as many chosen locals.
use Rattle.std.proofs.Common.{◌≡◌, ℕ, zero, suc, ◌+◌, ◌-◌, ◌*◌, ◌/◌, ◌%◌, ◌<◌, ◌≤◌, inl, inr, Bool, true, false, ◌==◌, cond, refl, sym, ap, ◌∙◌}
use Rattle.std.proofs.Common.{Option, Some, None, MatchOption, arith}
use Rattle.std.proofs.lemmas.Bool.{cases_lt, false_from_ne_true}
use Rattle.std.proofs.lemmas.Bool.Decides.{nat_tests}
use Rattle.jiff_core.specs.Weekday.{monday_zero}
use Rattle.ics_fields.specs.declared.frequency.Frequency.TheVariants.{Monthly, Yearly}
use Rattle.ics_fields.specs.Days.{days_before_year}
use Rattle.ics_fields.specs.Ordinals.{lists_none_wide}
use Rattle.ics_fields.proofs.DayLemmas.{days_before_year_low}
use Rattle.ics_period.specs.declared.effective_rule.EffectiveRule.{EffectiveRule}
use Rattle.ics_period.specs.Candidates.{is_stepped, period_in}
use Rattle.ics_period.specs.Ranks.{count, is_chosen}
use Rattle.ics_period.specs.RecurrencePeriods.{first_local}
use Rattle.ics_rule.specs.Inner.OpenPeriods.{chosen_of_size}
use Rattle.ics_rule.specs.Inner.Rounds.{IsFlat, IsRound, IsEvenRound, chosen_to}
use Rattle.ics_period.proofs.Counts.{count-same, count_mono, count_one_more}
use Rattle.ics_period.proofs.RankLemmas.{count_flat}
use Rattle.ics_period.proofs.PeriodLemmas.{begun, begins, before_first, before_next, is_short, period_mono}
use Rattle.ics_rule.proofs.CountLemmas.{first_mono}
use Rattle.ics_period.proofs.IntervalLemmas.{stepped_parts}
use Rattle.ics_rule.proofs.RoundLemmas.{step_repeats}
use Rattle.ics_rule.proofs.FlatLemmas.{allowed_before, month_local, month_adds, month_is, year_is}
use Rattle.ics_rule.proofs.SizeLemmas.{let_at, longest, chosen_adds, size_adds}
use Rattle.ics_period.specs.PeriodNumbers.{rules_end}
use Rattle.ics_period.proofs.Tests.{positive}

-- a period is the start's or later, by a multiple of the interval
abbrev IsStep : EffectiveRule → ℕ → ℕ → Type 0
IsStep q start p = is_stepped (period_in q start) q.interval p ≡ true

-- and begins before the end of the rules
abbrev IsEarly : EffectiveRule → ℕ → Type 0
IsEarly q p = first_local q.frequency (monday_zero q.week_start) p ≤ rules_end

-- so many periods after a step is a step, and it has as many allowed locals
pub record IsEven (q : EffectiveRule) (start periods : ℕ) : Type 0 where
  pub some : 1 ≤ periods
  pub step : (first p : ℕ) → first ≤ p → is_stepped first q.interval (p + periods) ≡ is_stepped first q.interval p
  pub size : (x : ℕ) → 2 ≤ x → IsStep q start x → IsEarly q (x + periods) → count longest (let_at q (x + periods)) ≡ count longest (let_at q x)

-- a function that grows at each number from one on as it does so many later grows as much from round to round
module _ (f : ℕ → ℕ) (periods begin top : ℕ)
    (on : (x : ℕ) → begin ≤ x → x + periods ≤ top → f (suc x) + f (x + periods) ≡ f (suc (x + periods)) + f x) where
  apart : (j : ℕ) → begin + j + periods ≤ suc top → f (begin + j) + f (begin + periods) ≡ f (begin + j + periods) + f begin
  apart zero h = let same : begin + 0 ≡ begin = omega arith in rw same (omega arith)
  apart (suc j) h =
      let one : begin + suc j ≡ suc (begin + j) = omega arith in
      let other : suc (begin + j) + periods ≡ suc (begin + j + periods) = omega arith in
      rw (one, other) (omega (arith, on (begin + j) (omega arith) (omega (arith, h)), apart j (omega (arith, h))))

  all_rounds : {before one : ℕ} → before ≡ f begin → one ≡ f (begin + periods) → before ≤ one
      → (r : ℕ) → begin + r * periods ≤ suc top → before + r * (one - before) ≡ f (begin + r * periods)
  all_rounds eb eo grows zero h = grind arith
  all_rounds {before = before} {one = one} eb eo grows (suc r) h =
      let next : begin + suc r * periods ≡ begin + r * periods + periods = omega arith in
      let more : suc r * (one - before) ≡ r * (one - before) + (one - before) = omega arith in
      rw next (grind (arith, apart (r * periods), all_rounds eb eo grows r))

-- two periods that are both steps or both not, of one size, add as much
as_much : (s : Bool) (a c : ℕ) {m n : ℕ} → (s ≡ true → n ≡ m) → a + cond s m 0 + c ≡ c + cond s n 0 + a
as_much s a c size = grind arith

module _ (q : EffectiveRule) (start : ℕ) where
  abbrev first : ℕ → ℕ
  first p = first_local q.frequency (monday_zero q.week_start) p

  -- a later period begins later
  up : {a b : ℕ} → period_in q start ≤ b → a ≤ b → first a ≤ first b
  up {a = a} {b = b} low order =
      let least = period_mono q.frequency (monday_zero q.week_start) 0 start (omega arith) in first_mono q a b (omega (arith, least, low)) order

  spans : {x : ℕ} → period_in q start ≤ x → first x + (first (suc x) - first x) ≡ first (suc x)
  spans {x = x} low = let more = up {a = x} {b = suc x} (omega (arith, low)) (omega arith) in omega (arith, more)

  adds : {x : ℕ} → period_in q start ≤ x → IsEarly q x → chosen_to q start (suc x) ≡ chosen_to q start x
      + cond (is_stepped (period_in q start) q.interval x) (chosen_of_size q (lists_none_wide q.positions) (count longest (let_at q x))) 0
  adds {x = x} low early = let short = is_short q.frequency (monday_zero q.week_start) x in
      chosen_adds q start x (first (suc x) - first x) (spans low) (omega (arith, early, short))

  module _ (periods : ℕ) (even : IsEven q start periods) where
    -- so many periods later a period adds as much
    steady : {begin top : ℕ} → 2 ≤ begin → period_in q start ≤ begin → IsEarly q top → (x : ℕ) → begin ≤ x → x + periods ≤ top
        → chosen_to q start (suc x) + chosen_to q start (x + periods) ≡ chosen_to q start (suc (x + periods)) + chosen_to q start x
    steady {top = top} some low early x l h =
        let order = up {a = x + periods} {b = top} (omega (arith, low, l, h)) h in
        let high : IsEarly q (x + periods) = omega (arith, order, early) in
        let before = up {a = x} {b = x + periods} (omega (arith, low, l)) (omega arith) in
        rw (
          adds {x = x} (omega (arith, low, l)) (omega (arith, before, high)),
          adds {x = x + periods} (omega (arith, low, l)) high,
          even.step (period_in q start) x (omega (arith, low, l)),
        )
        (as_much (is_stepped (period_in q start) q.interval x) (chosen_to q start x) (chosen_to q start (x + periods))
        (λ step. ap (chosen_of_size q (lists_none_wide q.positions)) (even.size x (omega (arith, some, l)) step high)))

    pub even_is : IsEvenRound q start periods
    even_is = record {
      some = even.some;
      step = even.step;
      total = λ begin rounds before one are.
          let low = (stepped_parts (period_in q start) q.interval begin are.step).0 in
          let order = up {a = begin} {b = begin + periods} (omega (arith, low)) (omega arith) in
          let more = count_mono (first begin) (first (begin + periods)) (is_chosen q start) order in
          let grows : before ≤ one = omega (arith, are.before_first, are.before_second, more) in (
            grows,
            all_rounds (chosen_to q start) periods begin (begin + rounds * periods) (steady are.low low are.early)
                are.before_first are.before_second grows rounds (omega arith),
          );
    }

    -- where nothing is chosen in a round, nothing is later
    pub none_after : {begin : ℕ} → 2 ≤ begin → period_in q start ≤ begin
        → ((n : ℕ) → begin ≤ period_in q n → period_in q n < begin + periods → is_chosen q start n ≡ false)
        → (n : ℕ) → begin ≤ period_in q n → n < rules_end → is_chosen q start n ≡ false
    none_after {begin = begin} some low none n h u = elim (cases_lt (period_in q n) (begin + periods)) [
      | inl near ↦ none n h near
      | inr far ↦ false_from_ne_true (is_chosen q start n) (λ yes.
          let y = period_in q n in
          let j = suc y - (begin + periods) in
          let own = begun q.frequency (monday_zero q.week_start) y n (omega arith) in
          let flat = count_flat (first begin) (first (begin + periods)) (is_chosen q start)
          (up {a = begin} {b = begin + periods} (omega (arith, low)) (omega arith)) (λ m l u. none m
          (begins q.frequency (monday_zero q.week_start) begin m l) (before_first q.frequency (monday_zero q.week_start) (begin + periods) m u)) in
          let same = apart (chosen_to q start) periods begin y (steady some low (omega (arith, own, u))) j (omega (arith, far)) in
          let end = ap (chosen_to q start) (let all : begin + j + periods ≡ suc y = omega (arith, far) in all) in
          let order = up {a = begin + j} {b = y} (omega (arith, low, far)) (omega (arith, far, even.some)) in
          let less = count_mono (first (begin + j)) n (is_chosen q start) (omega (arith, order, own)) in
          let one = count_one_more n n (is_chosen q start) (omega arith) yes in
          let next = before_next q.frequency (monday_zero q.week_start) (suc y) n (omega arith) in
          let more = count_mono (suc n) (first (suc y)) (is_chosen q start) next in
          omega (arith, flat, same, end, less, one, more))
    ]

shift_test : (a b k : ℕ) → (a + k == b + k) ≡ (a == b)
shift_test a b k = grind (arith, nat_tests)

-- what a rule allows in a step it allows a round later
pub even_round : {q : EffectiveRule} {start periods seconds : ℕ} → IsRound q periods seconds → IsEven q start periods
even_round {q = q} {periods = periods} {seconds = seconds} round = record {
  some = round.some;
  step = round.step;
  size = λ x some step high. count-same longest (let_at q (x + periods)) (let_at q x) (λ k l.
      let first = round.first x some in
      let m = first_local q.frequency (monday_zero q.week_start) x + k in
      let later : first_local q.frequency (monday_zero q.week_start) (x + periods) + k ≡ m + seconds = omega (arith, first) in
      rw (later, round.period m, shift_test (period_in q m) x periods, round.let_in m) refl);
}

-- a round of what a rule allows is one
pub even_of_rounds : (q : EffectiveRule) {P : ℕ → Type 0} (o : Option ℕ) → ((k : ℕ) → P k → (seconds : ℕ) × IsRound q k seconds) →
    MatchOption o (Unit {0}) P → MatchOption o (Unit {0}) (λ k. (start : ℕ) → IsEvenRound q start k)
even_of_rounds q None round t = tt
even_of_rounds q (Some k) round t = λ start. even_is q start k (even_round (round k t).1)

-- so is one after which periods add as many allowed locals
even_by : {q : EffectiveRule} {start : ℕ} (steps : ℕ) (size : ℕ → ℕ) → 1 ≤ q.interval → 1 ≤ steps
    → ((x : ℕ) → 1 ≤ x → IsEarly q x → allowed_before q (first_local q.frequency (monday_zero q.week_start) (suc x))
    ≡ allowed_before q (first_local q.frequency (monday_zero q.week_start) x) + size x)
    → ((x : ℕ) → 1 ≤ x → size (x + q.interval * steps) ≡ size x) → IsEvenRound q start (q.interval * steps)
even_by {q = q} {start = start} steps size some positive_steps adds on = even_is q start (q.interval * steps) record {
  some = positive q.interval steps some positive_steps;
  step = step_repeats q.interval steps;
  size = λ x low step high.
      let first = (stepped_parts (period_in q start) q.interval x step).0 in
      let order = up q start {a = x} {b = x + q.interval * steps} (omega (arith, first)) (omega arith) in
      let other = size_is (x + q.interval * steps) (omega (arith, low)) (step_repeats q.interval steps (period_in q start) x first ∙ step) high in
      let one = size_is x (omega (arith, low)) step (omega (arith, order, high)) in
      let same = on x (omega (arith, low)) in
      omega (arith, one, other, same);
}
  where
    size_is : (x : ℕ) → 1 ≤ x → IsStep q start x → IsEarly q x → count longest (let_at q x) ≡ size x
    size_is x low step early =
        let first = (stepped_parts (period_in q start) q.interval x step).0 in
        let all = size_adds q start x _ (spans q start first) in
        let own = adds x low early in
        omega (arith, all, own)

-- twelve months in steps of the interval are one
pub even_months : (q : EffectiveRule) (start : ℕ) → 1 ≤ q.interval → IsFlat q → q.frequency ≡ Monthly → IsEvenRound q start (q.interval * 12)
even_months q start some flat monthly = even_by 12 (λ x. month_adds q flat ((x - 1) % 12)) some (omega arith) adds
    (λ x low. ap (month_adds q flat) (let same : (x + q.interval * 12 - 1) % 12 ≡ (x - 1) % 12 = omega (arith, low) in same))
  where
    adds : (x : ℕ) → 1 ≤ x → IsEarly q x → allowed_before q (first_local q.frequency (monday_zero q.week_start) (suc x))
        ≡ allowed_before q (first_local q.frequency (monday_zero q.week_start) x) + month_adds q flat ((x - 1) % 12)
    adds zero low early = absurd (omega (arith, low))
    adds (suc i) low early =
        let back : suc i - 1 ≡ i = omega arith in
        let first = λ (x : ℕ). ap (λ f. first_local f (monday_zero q.week_start) x) monthly in
        let long = days_before_year_low (i / 12) in
        rw (first (suc (suc i)), first (suc i))
        (month_is q flat i (omega (arith, rw back at (rw (first (suc i)) at early), long))
        ∙ ap (λ x. allowed_before q (month_local i) + month_adds q flat (x % 12)) (sym back))

-- and a year is one
pub even_years : (q : EffectiveRule) (start : ℕ) → 1 ≤ q.interval → IsFlat q → q.frequency ≡ Yearly → IsEvenRound q start (q.interval * 1)
even_years q start some flat yearly = even_by 1 (λ x. first) some (omega arith) (λ x low early.
    let own = λ (y : ℕ). ap (λ f. first_local f (monday_zero q.week_start) y) yearly in
    let long = days_before_year_low x in
    let one = year_is q flat x (omega (arith, rw (own x) at early, long)) in
    let zero = year_is q flat 0 (omega arith) in
    rw (own (suc x), own x) (omega (arith, one, zero))) (λ x low. refl)
  where
    first : ℕ
    first = allowed_before q (days_before_year 1 * 86_400) - allowed_before q (days_before_year 0 * 86_400)
