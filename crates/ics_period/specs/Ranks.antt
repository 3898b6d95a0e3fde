-- Places in a period, and the candidates that BYSETPOS allows (RFC 5545, 3.3.10).
use Rattle.std.specs.Prelude.{ℕ, zero, suc, ◌+◌, Bool, true, false, ◌&&◌, ◌==◌, if◌then◌else◌, ◌≡◌}
use Rattle.ics_fields.specs.Ordinals.{lists_none_wide}
use Rattle.ics_period.specs.declared.effective_rule.EffectiveRule.{EffectiveRule}
use Rattle.ics_fields.specs.Locals.{calendar_end}
use Rattle.ics_period.specs.Candidates.{is_candidate_in, lists_wide, period_in}

-- how many numbers below n pass the test
unfoldable pub count : ℕ → (ℕ → Bool) → ℕ
count zero test = 0
count (suc n) test = count n test + (if test n then 1 else 0)

-- a candidate m in the period of n
abbrev pub is_beside : EffectiveRule → ℕ → ℕ → ℕ → Bool
is_beside q start n m = is_candidate_in q start m && period_in q m == period_in q n

-- how many candidates of the period of n are not later than n, and how many the period has; those before the start count too
abbrev pub rank : EffectiveRule → ℕ → ℕ → ℕ
rank q start n = count (suc n) (is_beside q start n)

abbrev pub size : EffectiveRule → ℕ → ℕ → ℕ
size q start n = count calendar_end (is_beside q start n)

-- n is at one of the places that BYSETPOS lists, from the start or from the end of its period, or BYSETPOS is absent
abbrev pub is_placed : EffectiveRule → ℕ → Bool → ℕ → Bool
is_placed q start true n = true
is_placed q start false n = lists_wide q.positions (rank q start n) (size q start n)

-- a candidate that BYSETPOS allows
abbrev pub is_chosen : EffectiveRule → ℕ → ℕ → Bool
is_chosen q start n = is_candidate_in q start n && is_placed q start (lists_none_wide q.positions) n

-- m is a candidate in the period of n, of rank k there
abbrev pub HasRank : EffectiveRule → ℕ → ℕ → ℕ → ℕ → Type 0
HasRank q start n k m = (is_beside q start n m ≡ true) × (rank q start m ≡ k)
