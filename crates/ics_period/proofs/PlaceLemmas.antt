-- Places in a period, by counting.
use Rattle.std.proofs.Common.{◌≡◌, ℕ, suc, ◌<◌, ◌≤◌, Bool, true, ◌&&◌, ◌==◌, sym}
use Rattle.std.proofs.Common.{ap, ◌∙◌, arith}
use Rattle.std.proofs.lemmas.Bool.{eqb-true}
use Rattle.std.proofs.lemmas.Bool.Decides.{nat_tests}
use Rattle.ics_period.specs.declared.effective_rule.EffectiveRule.{EffectiveRule}
use Rattle.ics_fields.specs.Locals.{calendar_end}
use Rattle.ics_period.specs.Candidates.{is_candidate_in, period_in}
use Rattle.ics_period.specs.Ranks.{count, is_beside, rank, size, HasRank}
use Rattle.ics_period.proofs.Counts.{count_mono, count_one_more}
use Rattle.ics_period.proofs.Tests.{and_true}
use Rattle.ics_period.proofs.RankLemmas.{IsAt, found}

-- no more than one is the k-th
alone : (test : ℕ → Bool) (k m o : ℕ) → IsAt test k m → IsAt test k o → m ≡ o
alone test k m o a b = grind (arith, nat_tests, count_one_more)

module _ (q : EffectiveRule) (start n : ℕ) where
  -- one of them counts the same
  same_rank : (m : ℕ) → is_beside q start n m ≡ true → rank q start m ≡ count (suc m) (is_beside q start n)
  same_rank m e =
      ap (λ p. count (suc m) (λ o. is_candidate_in q start o && period_in q o == p)) (eqb-true (period_in q m) (period_in q n) (and_true e).1)

  ranked : (k m : ℕ) → HasRank q start n k m → IsAt (is_beside q start n) k m
  ranked k m h = (h.0, sym (same_rank m h.0) ∙ h.1)

  pub rank_there : (k : ℕ) → 1 ≤ k → k ≤ size q start n → (m : ℕ) × HasRank q start n k m
  rank_there k low high = let m = found (is_beside q start n) k calendar_end low high in (m.0, (m.1.1.0, same_rank m.0 m.1.1.0 ∙ m.1.1.1))

  pub rank_alone : (k m o : ℕ) → HasRank q start n k m → HasRank q start n k o → m ≡ o
  rank_alone k m o a b = alone (is_beside q start n) k m o (ranked k m a) (ranked k o b)

  pub rank_within : (k m : ℕ) → m < calendar_end → HasRank q start n k m → (1 ≤ k) × (k ≤ size q start n)
  rank_within k m inside h = grind (arith, count_mono (suc m) calendar_end, count_one_more m m, ranked k m h)
