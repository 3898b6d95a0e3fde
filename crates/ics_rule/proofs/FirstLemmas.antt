-- The first members of a rule, by counting.
use Rattle.std.proofs.Common.{◌≡◌, ℕ, zero, suc, ◌+◌, ◌<◌, ◌≤◌, Bool, cond, ◌&&◌, nat_lt, min, Some, None, arith}
use Rattle.std.proofs.lemmas.Bool.Decides.{nat_tests}
use Rattle.ics_period.specs.Recurrence.{Recurrence}
use Rattle.ics_period.specs.PeriodNumbers.{rules_end}
use Rattle.ics_fields.specs.Locals.{number}
use Rattle.ics_period.specs.Ranks.{count}
use Rattle.ics_rule.specs.Kept.{is_in_rule, is_kept}
use Rattle.ics_period.proofs.Counts.{count-suc, count-none}
use Rattle.ics_rule.proofs.NextLemmas.{in_rule_start, in_rule_earlier}

-- ---- the k-th of those that pass

-- ---- the candidates of a period

-- ---- COUNT alone

module _ (r : Recurrence) (c : ℕ) (counted : r.parts.count ≡ Some c) (some : 1 ≤ c) (endless : r.parts.until ≡ None) where
  pub kept_first : (n : ℕ) → n < rules_end → is_kept r n ≡ (is_in_rule r n && nat_lt (count n (is_in_rule r)) c)
  unfolding is_kept
  kept_first n inside =
      let none = count-none (number r.start) (is_in_rule r) (λ m l. in_rule_earlier r m l) in
      grind (arith, nat_tests, counted, endless, in_rule_start)

  pub kept_number : (n : ℕ) → n ≤ rules_end → count n (is_kept r) ≡ min (count n (is_in_rule r)) c
  kept_number zero inside = unfold count in omega arith
  kept_number (suc n) inside =
      rw (count-suc n (is_kept r), count-suc n (is_in_rule r), kept_first n (omega (arith, inside)), kept_number n (omega (arith, inside)))
      (one_more (is_in_rule r n) (count n (is_in_rule r)))
    where
      one_more : (m : Bool) (y : ℕ) → min y c + cond (m && nat_lt y c) 1 0 ≡ min (y + cond m 1 0) c
      one_more m y = grind (arith, nat_tests)
