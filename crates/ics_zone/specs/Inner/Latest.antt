-- The last of a set of numbers, of kept locals, and of instants.
use Rattle.std.specs.Prelude.{◌≡◌, ℕ, ◌+◌, ◌<◌, ◌≤◌, Bool, true, false, List, length, Option, MatchOption, slice_index_or, ℤ, ◌<ℤ◌, ◌≤ℤ◌}
use Rattle.std.specs.List.{AllWithin}
use Rattle.ics_period.specs.Recurrence.{Recurrence}
use Rattle.ics_rule.specs.Kept.{is_kept}
use Rattle.ics_rule.specs.Next.{NoneKept}
use Rattle.ics_zone.specs.declared.kept.Known.{Known}

-- no number from one on and before another passes a test
abbrev pub NoneFrom : (ℕ → Bool) → ℕ → ℕ → Type 0
NoneFrom test from end = (n : ℕ) → from ≤ n → n < end → test n ≡ false

-- n is the greatest number, below a given one, that passes a test
pub record IsGreatestBelow (test : ℕ → Bool) (end n : ℕ) : Type 0 where
  pub passes : test n ≡ true
  pub below : n < end
  pub greatest : NoneFrom test (n + 1) end

-- the answer is the greatest number, below a given one, that passes, or None if there is none
abbrev pub IsLastBelow : (ℕ → Bool) → ℕ → Option ℕ → Type 0
IsLastBelow test end o = MatchOption o ((n : ℕ) → n < end → test n ≡ false) (IsGreatestBelow test end)

-- n is the greatest kept local before a bound
pub record IsLastKept (r : Recurrence) (bound n : ℕ) : Type 0 where
  pub kept : is_kept r n ≡ true
  pub in_bound : n < bound
  pub last : NoneKept r (n + 1) bound

-- the last kept local before a bound is the known one, or is after it and before the known end
pub record IsKnownLast (r : Recurrence) (bound : ℕ) (known : Known) : Type 0 where
  pub kept : is_kept r known.last ≡ true
  pub before : known.last < known.end
  pub in_bound : known.end ≤ bound
  pub none : NoneKept r known.end bound

-- no instant is later than one that follows it
abbrev pub IsInOrder : List ℤ → Type 0
IsInOrder list = (j k : ℕ) (d : ℤ) → j ≤ k → k < length list → slice_index_or list j d ≤ℤ slice_index_or list k d

-- the first `passed` instants of the list are not after t, and the others are
pub record IsPassed (list : List ℤ) (t : ℤ) (passed : ℕ) : Type 0 where
  pub bound : passed ≤ length list
  pub before : AllWithin (λ s. s ≤ℤ t) list 0 passed
  pub later : AllWithin (λ s. t <ℤ s) list passed (length list)

-- s is the last of a set of instants that is not after t
pub record IsLast (set : ℤ → Type 0) (t s : ℤ) : Type 0 where
  pub is : set s
  pub not_after : s ≤ℤ t
  pub last : (u : ℤ) → set u → u ≤ℤ t → u ≤ℤ s

-- the answer is the last one, or None and all are after t
abbrev pub IsLastOf : (ℤ → Type 0) → ℤ → Option ℤ → Type 0
IsLastOf set t o = MatchOption o ((u : ℤ) → set u → t <ℤ u) (IsLast set t)

-- the answer is the last one and after an instant, or None and none that is not after t is after that instant
abbrev pub IsLastAfter : (ℤ → Type 0) → ℤ → ℤ → Option ℤ → Type 0
IsLastAfter set after t o = MatchOption o ((u : ℤ) → set u → u ≤ℤ t → u ≤ℤ after) (λ s. IsLast set t s × (after <ℤ s))
