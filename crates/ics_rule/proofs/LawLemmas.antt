-- What is kept of a rule is in it, and under COUNT it is so many.
use Rattle.std.proofs.Common.{◌≡◌, ℕ, zero, suc, ◌+◌, ◌<◌, ◌≤◌, Bool, true, cond, Some, arith}
use Rattle.std.proofs.lemmas.Bool.{eqb-true, ltb-true}
use Rattle.ics_period.specs.Recurrence.{Recurrence}
use Rattle.ics_period.specs.Ranks.{count}
use Rattle.ics_rule.specs.Kept.{is_in_rule, is_kept}
use Rattle.ics_period.proofs.Counts.{count-none}
use Rattle.ics_period.proofs.Tests.{and_true, or_true}
use Rattle.ics_rule.proofs.NextLemmas.{in_rule_start, in_rule_earlier}

-- what is kept is in the rule
pub kept_in_rule : (r : Recurrence) (n : ℕ) → is_kept r n ≡ true → is_in_rule r n ≡ true
unfolding is_kept
kept_in_rule r n h = grind (arith, and_true, eqb-true, in_rule_start, or_true)

-- under COUNT few members come before it
kept_few : (r : Recurrence) (c n : ℕ) → r.parts.count ≡ Some c → 1 ≤ c → is_kept r n ≡ true → count n (is_in_rule r) < c
unfolding is_kept
kept_few r c n e some h = grind (arith, and_true, count-none, eqb-true, in_rule_earlier, ltb-true, or_true)

count_cases : {x y c : ℕ} (k m : Bool) → (k ≡ true → m ≡ true) → (k ≡ true → y < c) → (x ≤ c) × (x ≤ y) →
    (x + cond k 1 0 ≤ c) × (x + cond k 1 0 ≤ y + cond m 1 0)
count_cases k m h l g = grind arith

-- under COUNT n at most n are kept
pub kept_both : (r : Recurrence) (c : ℕ) → r.parts.count ≡ Some c → 1 ≤ c → (n : ℕ) → (count n (is_kept r) ≤ c) × (count n (is_kept r) ≤ count n (is_in_rule r))
unfolding count
kept_both r c e some zero = (omega arith, omega arith)
kept_both r c e some (suc n) = count_cases (is_kept r n) (is_in_rule r n) (kept_in_rule r n)
    (kept_few r c n e some) (kept_both r c e some n)
