-- What a rule chooses within a period is what the product that holds the period takes.
use Rattle.std.proofs.Common.{◌≡◌, ℕ, suc, ◌+◌, ◌-◌, ◌<◌, max, Bool, true, false, ◌&&◌, ◌||◌, ◌==◌, refl, sym, ap, ◌∙◌, arith}
use Rattle.std.proofs.lemmas.Bool.{eq-eqb, eqb-true}
use Rattle.ics_fields.specs.declared.ordinals.WideOrdinals.{WideOrdinals}
use Rattle.ics_fields.specs.Ordinals.{lists_none_wide}
use Rattle.ics_period.specs.declared.effective_rule.EffectiveRule.{EffectiveRule}
use Rattle.ics_period.specs.declared.recurrence_period.RecurrencePeriod.{RecurrencePeriod}
use Rattle.ics_period.specs.PeriodNumbers.{day_of}
use Rattle.ics_period.specs.Candidates.{is_stepped, is_candidate_in, period_in, lets_date, lets_clock}
use Rattle.ics_period.specs.Ranks.{count, is_beside, rank, size, is_placed, is_chosen}
use Rattle.ics_period.specs.RecurrencePeriods.{holds, is_let_in, IsPeriodOf, is_taken}
use Rattle.ics_rule.specs.Inner.Searches.{is_chosen_within}
use Rattle.ics_rule.specs.ByTable.{is_nth}
use Rattle.ics_period.proofs.Counts.{count-same, count-suc, count_one}
use Rattle.ics_fields.specs.Locals.{calendar_end}
use Rattle.ics_period.proofs.RankLemmas.{rank_listed, placed_of}
use Rattle.ics_period.proofs.Tests.{keep_true, swapped}

-- outside of the steps nothing is chosen
pub no_step : (q : EffectiveRule) (start n : ℕ) → is_stepped (period_in q start) q.interval (period_in q n) ≡ false → is_chosen q start n ≡ false
no_step q start n e = ap (λ x. x && lets_date q (day_of n) && lets_clock q n && is_placed q start (lists_none_wide q.positions) n) e

-- nor is what a rule leaves out in a step
pub not_let_in : (q : EffectiveRule) (start n : ℕ) →
    (is_stepped (period_in q start) q.interval (period_in q n) ≡ true → (lets_date q (day_of n) && lets_clock q n) ≡ false) → is_chosen q start n ≡ false
not_let_in q start n none = left (is_stepped (period_in q start) q.interval (period_in q n)) (lets_date q (day_of n)) (lets_clock q n) _ none
  where
    left : (s a b p : Bool) → (s ≡ true → (a && b) ≡ false) → (s && a && b && p) ≡ false
    left s a b p h = grind arith

-- the candidates of a period that lies a multiple of the interval from the start's are what the rule lets in there
pub let_in : (q : EffectiveRule) (start number n : ℕ) → is_stepped (period_in q start) q.interval number ≡ true → period_in q n ≡ number →
    is_candidate_in q start n ≡ is_let_in q number n
let_in q start number n step e = grind (arith, eq-eqb)

pub taken_out : (positions : WideOrdinals) (b : Bool) (p : RecurrencePeriod) (n : ℕ) → holds p n ≡ false → is_taken positions b p n ≡ false
taken_out positions b p n e = grind arith

taken_placed : (positions : WideOrdinals) (b : Bool) (p : RecurrencePeriod) (n : ℕ) → is_taken positions b p n ≡ placed_of positions b (holds p) calendar_end n
taken_placed positions b p n = grind arith

-- what stands beside n is what the rule lets in in the period of n
pub beside_let_in : (q : EffectiveRule) (start n m : ℕ) {number : ℕ} → is_stepped (period_in q start) q.interval number ≡ true → period_in q n ≡ number →
    is_beside q start n m ≡ is_let_in q number m
beside_let_in q start n m {number = number} step here = ap (λ x. is_candidate_in q start m && period_in q m == x) here
    ∙ swapped (is_candidate_in q start m) (period_in q m == number) (lets_date q (day_of m) && lets_clock q m)
    (λ e. let_in q start number m step (eqb-true (period_in q m) number e) ∙ ap (λ x. x && (lets_date q (day_of m) && lets_clock q m)) e)

-- the places of n, by the set that stands beside it
module _ (q : EffectiveRule) (start n : ℕ) (set : ℕ → Bool) (same : (m : ℕ) → m < max (suc n) calendar_end → is_beside q start n m ≡ set m) where
  ranked : rank q start n ≡ count (suc n) set
  ranked = count-same (suc n) (is_beside q start n) set (λ m l. same m (omega (arith, l)))

  sized : size q start n ≡ count calendar_end set
  sized = count-same calendar_end (is_beside q start n) set (λ m l. same m (omega (arith, l)))

  -- a candidate is chosen by its place among them
  pub placed_is : is_candidate_in q start n ≡ set n → (b : Bool)
      → (is_candidate_in q start n && is_placed q start b n) ≡ placed_of q.positions b set calendar_end n
  placed_is here true = keep_true (is_candidate_in q start n) ∙ here
  placed_is here false = rw (here, ranked, sized) (rank_listed q.positions set n (count calendar_end set))

  -- they are those of the nth of the set
  nth_placed : set n ≡ true → (b : Bool) → is_placed q start b n ≡ (b || is_nth q.positions set n)
  nth_placed here true = refl
  nth_placed here false =
      let from_end : size q start n + 1 - rank q start n ≡ count calendar_end set - count n set =
      omega (arith, ranked, sized, count-suc n set, count_one (set n) here) in
      rw (from_end, ranked) refl

by_parts : (step i : Bool) {c placed nth : Bool} → c ≡ (step && i) → (step ≡ true → i ≡ true → placed ≡ nth) → (c && placed) ≡ (step && (i && nth))
by_parts step i h l = grind arith

-- a candidate is chosen by its place in the set that stands beside it
module _ (q : EffectiveRule) (start n : ℕ) (step i : Bool) (set : ℕ → Bool) where
  pub chosen_by : is_candidate_in q start n ≡ (step && i) → set n ≡ i
      → (step ≡ true → (m : ℕ) → m < max (suc n) calendar_end → is_beside q start n m ≡ set m)
      → is_chosen q start n ≡ (step && (i && (lists_none_wide q.positions || is_nth q.positions set n)))
  chosen_by candidate here beside = by_parts step i candidate (λ s e. nth_placed q start n set (beside s) (here ∙ e) (lists_none_wide q.positions))

-- what a product of a step takes is what is chosen within its period
module _ {q : EffectiveRule} (start : ℕ) {p : RecurrencePeriod} {number : ℕ} (own : IsPeriodOf q p) (same : p.number ≡ number)
    (step : is_stepped (period_in q start) q.interval number ≡ true) where
  holds_is : (n : ℕ) → holds p n ≡ is_let_in q number n
  holds_is n = own.members n ∙ ap (λ x. is_let_in q x n) same

  pub taken_within : (n : ℕ) → is_taken q.positions (lists_none_wide q.positions) p n ≡ is_chosen_within q start number n
  taken_within n =
      apart (period_in q n == number) (is_chosen q start n)
      (λ e. let here = eqb-true (period_in q n) number e in
      taken_placed q.positions (lists_none_wide q.positions) p n
      ∙ sym (placed_is q start n (holds p) (λ m l. beside_let_in q start n m step here ∙ sym (holds_is m))
      (let_in q start number n step here ∙ sym (holds_is n)) (lists_none_wide q.positions)))
      (λ e. taken_out q.positions (lists_none_wide q.positions) p n (holds_is n ∙ ap (λ x. x && (lets_date q (day_of n) && lets_clock q n)) e))
    where
      apart : (e c : Bool) {t : Bool} → (e ≡ true → t ≡ c) → (e ≡ false → t ≡ false) → t ≡ (e && c)
      apart true c h l = h refl
      apart false c h l = l refl
