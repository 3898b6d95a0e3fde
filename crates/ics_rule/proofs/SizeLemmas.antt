-- Of the size of a period, the number of locals that a rule allows there, depends how many are chosen.
use Rattle.std.proofs.Common.{◌≡◌, ℕ, Bool, true, false, refl, suc, ◌+◌, ◌*◌, ◌<◌, ◌≤◌, ◌⊎◌, inl, inr, ◌&&◌, cond, sym, ap, ◌∙◌, arith}
use Rattle.ics_period.specs.declared.effective_rule.EffectiveRule.{EffectiveRule}
use Rattle.ics_period.specs.Ranks.{count, is_placed, is_chosen}
use Rattle.ics_rule.specs.Inner.OpenPeriods.{chosen_of_size}
use Rattle.ics_period.specs.RecurrencePeriods.{is_listed, first_local, is_let_in}
use Rattle.ics_period.proofs.RankLemmas.{count-ranked, placed_of, count_flat}
use Rattle.std.proofs.lemmas.Bool.{eq-eqb}
use Rattle.std.proofs.lemmas.Bool.Decides.{nat_tests}
use Rattle.jiff_core.specs.Weekday.{monday_zero}
use Rattle.ics_fields.specs.Ordinals.{lists_none_wide}
use Rattle.ics_period.specs.Candidates.{is_stepped, is_candidate_in, period_in}
use Rattle.ics_rule.specs.Inner.Rounds.{chosen_to}
use Rattle.ics_period.proofs.Counts.{count-same, count-add, count-from, count-none}
use Rattle.ics_period.proofs.PeriodLemmas.{begun, begins, is_short, before_first, before_next}
use Rattle.ics_rule.proofs.ChosenLemmas.{no_step, let_in, beside_let_in, placed_is}
use Rattle.ics_rule.proofs.FlatLemmas.{is_allowed, allowed_before}
use Rattle.ics_fields.specs.Locals.{calendar_end}

-- how many they are depends on how many pass
pub size_decides : (q : EffectiveRule) (b : Bool) (test : ℕ → Bool) (len : ℕ)
    → count len (placed_of q.positions b test len) ≡ chosen_of_size q b (count len test)
size_decides q true test len = refl
size_decides q false test len = count-ranked len test (is_listed q.positions (count len test))

-- no period is longer
abbrev pub longest : ℕ
longest = 366 * 86_400

-- what a rule allows in a period, by its place in it
abbrev pub let_at : EffectiveRule → ℕ → ℕ → Bool
let_at q x k = is_let_in q x (first_local q.frequency (monday_zero q.week_start) x + k)

module _ (q : EffectiveRule) (start x len : ℕ)
    (e : first_local q.frequency (monday_zero q.week_start) x + len ≡ first_local q.frequency (monday_zero q.week_start) (suc x)) where
  abbrev a : ℕ
  a = first_local q.frequency (monday_zero q.week_start) x

  abbrev t : ℕ → Bool
  t k = let_at q x k

  here : (k : ℕ) → k < len → period_in q (a + k) ≡ x
  here k l = grind (arith, before_first, begins)

  out : (n : ℕ) → (n < a) ⊎ (a + len ≤ n) → is_let_in q x n ≡ false
  out n h = grind (arith, nat_tests, before_next, begun)

  pub counted : count longest t ≡ count len t
  counted = let short = is_short q.frequency (monday_zero q.week_start) x in
      count_flat len longest t (omega (arith, short, e)) (λ k l u. out (a + k) (inr (omega (arith, l))))

  adds : (test : ℕ → Bool) → count (first_local q.frequency (monday_zero q.week_start) (suc x)) test ≡ count a test + count len (λ k. test (a + k))
  adds test = ap (λ y. count y test) (sym e) ∙ count-add a len test

  -- what the rule allows in the period its size counts
  pub size_adds : allowed_before q (first_local q.frequency (monday_zero q.week_start) (suc x)) ≡ allowed_before q a + count longest t
  size_adds =
      let same = count-same len (λ k. is_allowed q (a + k)) t
      (λ k l. sym (ap (λ y. y && is_allowed q (a + k)) (eq-eqb (period_in q (a + k)) x (here k l)))) in
      omega (arith, adds (is_allowed q), same, counted)

  -- outside of the steps nothing is chosen in it
  pub none_adds : is_stepped (period_in q start) q.interval x ≡ false → chosen_to q start (suc x) ≡ chosen_to q start x
  none_adds apart =
      let none = count-none len (λ k. is_chosen q start (a + k))
      (λ k l. no_step q start (a + k) (ap (is_stepped (period_in q start) q.interval) (here k l) ∙ apart)) in
      omega (arith, adds (is_chosen q start), none)

  -- and a step adds what its size decides
  module _ (step : is_stepped (period_in q start) q.interval x ≡ true) (inside : a + len ≤ calendar_end) where
    chosen_in : (b : Bool) (k : ℕ) → k < len → (is_candidate_in q start (a + k) && is_placed q start b (a + k)) ≡ placed_of q.positions b t len k
    chosen_in b k l = placed_is q start (a + k) (is_let_in q x) (λ m h. beside_let_in q start (a + k) m step (here k l))
        (let_in q start x (a + k) step (here k l)) b ∙ shifted b
      where
        before : (n : ℕ) → count (a + n) (is_let_in q x) ≡ count n t
        before n = count-from a n (is_let_in q x) (λ m h. out m (inl h))

        shifted : (b : Bool) → placed_of q.positions b (is_let_in q x) calendar_end (a + k) ≡ placed_of q.positions b t len k
        shifted true = refl
        shifted false = let all = count_flat (a + len) calendar_end (is_let_in q x) inside (λ m h u. out m (inr h)) ∙ before len in
            rw (before k, all) refl

    pub period_adds : chosen_to q start (suc x) ≡ chosen_to q start x + chosen_of_size q (lists_none_wide q.positions) (count longest t)
    period_adds =
        let same = count-same len (λ k. is_chosen q start (a + k)) (placed_of q.positions (lists_none_wide q.positions) t len)
        (chosen_in (lists_none_wide q.positions)) in
        let decided = size_decides q (lists_none_wide q.positions) t len in
        omega (arith, adds (is_chosen q start), same, decided, ap (chosen_of_size q (lists_none_wide q.positions)) counted)

  -- so a period adds as many as its size decides if it is a step, and else none
  pub chosen_adds : a + len ≤ calendar_end → chosen_to q start (suc x)
      ≡ chosen_to q start x + cond (is_stepped (period_in q start) q.interval x) (chosen_of_size q (lists_none_wide q.positions) (count longest t)) 0
  chosen_adds inside = grind (arith, none_adds, period_adds)
