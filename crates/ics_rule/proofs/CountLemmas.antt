-- What a rule chooses is counted period by period.
use Rattle.std.proofs.Common.{◌≡◌, ◌≢◌, ℕ, suc, ◌+◌, ◌-◌, ◌<◌, ◌≤◌, inl, inr, Bool, true, false, ◌&&◌, Some, refl, sym, ap, ◌∙◌, arith}
use Rattle.std.proofs.lemmas.Bool.{and_right, cases_lt, ne_eqb}
use Rattle.std.proofs.lemmas.Bool.Decides.{nat_tests}
use Rattle.jiff_core.specs.Weekday.{monday_zero}
use Rattle.ics_fields.specs.Ordinals.{lists_none_wide}
use Rattle.ics_period.specs.declared.effective_rule.EffectiveRule.{EffectiveRule}
use Rattle.ics_period.specs.declared.recurrence_period.RecurrencePeriod.{RecurrencePeriod}
use Rattle.ics_rule.specs.declared.cursor.Cursor.{Cursor}
use Rattle.ics_period.specs.Candidates.{is_stepped, period_in}
use Rattle.ics_period.specs.Ranks.{count, is_chosen}
use Rattle.ics_period.specs.RecurrencePeriods.{first_local, IsPeriodOf, is_taken}
use Rattle.ics_rule.specs.Cursors.{IsCounted}
use Rattle.ics_rule.specs.Inner.Searches.{is_few, is_wanted, IsPassed, IsTurned, after_look}
use Rattle.ics_period.proofs.PeriodLemmas.{begun, begins, first_in, period_mono, week_small, before_first}
use Rattle.ics_period.proofs.Counts.{count_between, count-none, count_mono, count_most}
use Rattle.ics_period.proofs.RankLemmas.{count_flat}
use Rattle.ics_period.proofs.IntervalLemmas.{stepped_parts, none_between}
use Rattle.ics_rule.proofs.ChosenLemmas.{no_step, taken_within}
use Rattle.ics_rule.proofs.CursorLemmas.{within_here}
use Rattle.ics_period.specs.PeriodNumbers.{rules_end}

-- a period that lies a multiple of the interval from the start's is not before it
pub step_low : (q : EffectiveRule) (start number : ℕ) → is_stepped (period_in q start) q.interval number ≡ true → period_in q 0 ≤ number
step_low q start number step = grind (arith, nat_tests, period_mono, stepped_parts)

-- before the start's period nothing is chosen
pub none_before_first : (q : EffectiveRule) (start : ℕ) → count (first_local q.frequency (monday_zero q.week_start) (period_in q start)) (is_chosen q start) ≡ 0
none_before_first q start = count-none _ (is_chosen q start) (λ m l. grind (arith, nat_tests, begun, no_step, stepped_parts))

-- a later period begins later
pub first_mono : (q : EffectiveRule) (a b : ℕ) → period_in q 0 ≤ b → a ≤ b →
    first_local q.frequency (monday_zero q.week_start) a ≤ first_local q.frequency (monday_zero q.week_start) b
first_mono q a b low h = grind (arith, nat_tests, begun, first_in, week_small)

module _ (q : EffectiveRule) (start : ℕ) (p : RecurrencePeriod) (own : IsPeriodOf q p) (step : is_stepped (period_in q start) q.interval p.number ≡ true) where
  abbrev taken : ℕ → Bool
  taken = is_taken q.positions (lists_none_wide q.positions) p

  abbrev first : ℕ
  first = first_local q.frequency (monday_zero q.week_start) p.number

  pub none_taken : (m : ℕ) → period_in q m ≢ p.number → taken m ≡ false
  none_taken m other = taken_within start own refl step m ∙ ap (λ x. x && is_chosen q start m) (ne_eqb (period_in q m) p.number other)

  -- up to a local before which a later period has nothing that is chosen, from the period's first local on what is chosen is taken
  pub chosen_before : (n : ℕ) → first ≤ n → ((m : ℕ) → m < n → p.number < period_in q m → is_chosen q start m ≡ false)
      → count n (is_chosen q start) ≡ count first (is_chosen q start) + count n taken
  chosen_before n l none =
      let before = count-none first taken (λ m less. none_taken m (λ e. let late = begun q.frequency (monday_zero q.week_start) p.number m (omega (arith, e)) in
      omega (arith, late, less))) in
      let all = count_between (count n taken) taken (is_chosen q start) l agree (omega (arith, before)) in
      omega (arith, all)
    where
      agree : (m : ℕ) → first ≤ m → m < n → taken m ≡ is_chosen q start m
      agree m low h = elim (cases_lt p.number (period_in q m)) [
        | inl later ↦ none_taken m (λ e. omega (arith, e, later)) ∙ sym (none m h later)
        | inr same ↦ let from = begins q.frequency (monday_zero q.week_start) p.number m low in
            taken_within start own refl step m ∙ within_here q start p.number m (omega (arith, same, from))
      ]

-- the last local of the calendar
abbrev pub last_local : ℕ
last_local = 315_569_519_999

-- The period held is o, and before the next to be looked at nothing more is chosen: `before` locals of o are taken.
pub record IsLeft (q : EffectiveRule) (start c number before total limit : ℕ) (o : RecurrencePeriod) : Type 0 where
  pub quiet_to : ℕ
  pub some : 1 ≤ q.interval
  pub own : IsPeriodOf q o
  pub counted : IsCounted q start c total limit quiet_to o
  pub passed : IsPassed q start (o.number + q.interval) number
  pub reach : first_local q.frequency (monday_zero q.week_start) number ≤ last_local
  pub taken : before ≡ count last_local (is_taken q.positions (lists_none_wide q.positions) o)

chosen_passed : {q : EffectiveRule} {start c number before counted limit : ℕ} {o : RecurrencePeriod} → IsLeft q start c number before counted limit o →
    count (first_local q.frequency (monday_zero q.week_start) number) (is_chosen q start) ≡ counted + before
chosen_passed {q = q} {start = start} {number = number} {o = o} left =
    let low = step_low q start o.number left.counted.step in
    let up = first_mono q o.number number (omega (arith, low, left.passed.up)) (omega (arith, left.passed.up)) in
    let all = chosen_before q start o left.own left.counted.step (first_local q.frequency (monday_zero q.week_start) number) up
    (λ m u later. elim (cases_lt (period_in q m) (o.number + q.interval)) [
      | inl between ↦ no_step q start m (none_between q.interval left.some (period_in q start) o.number (period_in q m) left.counted.step later between)
      | inr past ↦ left.passed.none m past (before_first q.frequency (monday_zero q.week_start) number m u)
    ]) in
    let flat = count_flat (first_local q.frequency (monday_zero q.week_start) number) last_local (is_taken q.positions (lists_none_wide q.positions) o)
    (omega (arith, left.reach)) (λ m l u. none_taken q start o left.own left.counted.step m
    (λ e. let late = begins q.frequency (monday_zero q.week_start) number m l in omega (arith, late, e, left.passed.up, left.some))) in
    omega (arith, all, flat, left.counted.total, left.taken)

-- a count past the limit keeps nothing more
module _ (q : EffectiveRule) (start c limit : ℕ) (most : limit + 1 ≡ c + count (suc start) (is_chosen q start)) where
  pub not_few : (n m : ℕ) → limit ≤ count n (is_chosen q start) → n ≤ m → is_few q start c m ≡ false
  not_few n m h l = grind (arith, nat_tests, count_mono)

  pub are_few : (n : ℕ) → count n (is_chosen q start) < limit → is_few q start c n ≡ true
  are_few n h = grind (arith, nat_tests)

-- the first look, at the start's period
pub turned_first : {q : EffectiveRule} {start c number limit : ℕ} (was : Cursor) {p : RecurrencePeriod} → 1 ≤ c → number ≡ period_in q start →
    is_stepped (period_in q start) q.interval number ≡ true → IsPeriodOf q p × (p.number ≡ number)
    → limit ≡ c - 1 + count (start + 1) (is_taken q.positions (lists_none_wide q.positions) p)
    → IsTurned q start (Some c) number (record (after_look was p 0) { limit = limit }) p
turned_first {q = q} {start = start} was {p = p} positive e step (own, same) limit =
    let here : is_stepped (period_in q start) q.interval p.number ≡ true = rw same step in
    let back : count (first_local q.frequency (monday_zero q.week_start) p.number) (is_chosen q start) ≡ 0 = rw (same, e) (none_before_first q start) in
    let low = begun q.frequency (monday_zero q.week_start) p.number start (omega (arith, same, e)) in
    let chosen = chosen_before q start p own here (start + 1) (omega (arith, low)) (λ m u later. absurd (
    let up = period_mono q.frequency (monday_zero q.week_start) m start (omega (arith, u)) in omega (arith, up, later, same, e))) in
    let one = ap (λ x. count x (is_chosen q start)) (let next : start + 1 ≡ suc start = omega arith in next) in record {
      held = refl;
      product = own;
      number = same;
      counted = record { step = here; total = sym back; most = omega (arith, chosen, back, one, limit, positive); quiet = λ n l u. absurd (omega (arith, u)) };
    }

-- each further look
pub turned_on : {q : EffectiveRule} {start c number before : ℕ} {o p : RecurrencePeriod} (was : Cursor) →
    IsLeft q start c number before was.counted was.limit o → is_stepped (period_in q start) q.interval number ≡ true → IsPeriodOf q p → p.number ≡ number
    → IsTurned q start (Some c) number (after_look was p (was.counted + before)) p
turned_on {q = q} {start = start} was left step product same = record {
  held = refl;
  product = product;
  number = same;
  counted = record {
    step = ap (is_stepped (period_in q start) q.interval) same ∙ step;
    total = rw same (sym (chosen_passed left));
    most = left.counted.most;
    quiet = λ n l u. absurd (omega (arith, u));
  };
}

pub counted_out : {q : EffectiveRule} {start c number before counted limit : ℕ} {o : RecurrencePeriod} →
    IsLeft q start c number before counted limit o → limit ≤ counted + before
    → (n : ℕ) → first_local q.frequency (monday_zero q.week_start) number ≤ n → is_wanted q start (Some c) n ≡ false
counted_out {q = q} {start = start} {c = c} {number = number} {limit = limit} left out n l = and_right (is_chosen q start n) (is_few q start c n)
    (not_few q start c limit left.counted.most (first_local q.frequency (monday_zero q.week_start) number) n
    (let all = chosen_passed left in omega (arith, all, out)) l)

-- a later step than one, up to the period of a place, before which so many locals are chosen
pub record IsCountedStep (q : EffectiveRule) (start number target place chosen : ℕ) : Type 0 where
  pub later : number < target
  pub step : is_stepped (period_in q start) q.interval target ≡ true
  pub top : target ≤ period_in q place
  pub total : chosen ≡ count (first_local q.frequency (monday_zero q.week_start) target) (is_chosen q start)

-- counts stay small
small_total : (q : EffectiveRule) (start : ℕ) {counted first number : ℕ}
    → counted ≡ count (first_local q.frequency (monday_zero q.week_start) first) (is_chosen q start) → first ≤ number
    → is_stepped (period_in q start) q.interval number ≡ true → first_local q.frequency (monday_zero q.week_start) number ≤ rules_end → counted ≤ rules_end
small_total q start total l step h = grind (arith, count_most, first_mono, step_low)

pub counted_small : {q : EffectiveRule} {start c counted limit quiet_to : ℕ} {o : RecurrencePeriod} (number : ℕ)
    → IsCounted q start c counted limit quiet_to o → o.number ≤ number → is_stepped (period_in q start) q.interval number ≡ true
    → first_local q.frequency (monday_zero q.week_start) number ≤ rules_end → counted ≤ rules_end
counted_small {q = q} {start = start} number known l step h = small_total q start known.total l step h
