-- The first instant that shows a local is the local less one of the offsets.
use Rattle.std.proofs.Common.{◌≡◌, ◌≢◌, ℕ, ◌+◌, ◌<◌, ◌≤◌, Bool, true, false, sym, ap, ◌∙◌, arith, List, length, get_or, Option, Some, None, Contains}
use Rattle.std.proofs.Common.{ℤ, ◌-ℤ◌, ◌≤ℤ◌, MatchOption}
use Rattle.std.specs.Int.{int_min}
use Rattle.std.proofs.lemmas.Int.{ints, clamps}
use Rattle.std.proofs.lemmas.List.{get_or_default}
use Rattle.ics_zone.specs.Moments.{shown, IsFirstTime}
use Rattle.ics_zone.proofs.Cases.{below_or_at, less_or_not_z}

-- t shows the local, and is not later than those of the local less the first offsets that show it
pub record IsLeastOf (offset : ℤ → ℤ) (local : ℤ) (offsets : List ℤ) (count : ℕ) (t : ℤ) : Type 0 where
  pub shows : shown offset t ≡ local
  pub least : (j : ℕ) (d : ℤ) → j < count → shown offset (local -ℤ get_or offsets j d) ≡ local → t ≤ℤ (local -ℤ get_or offsets j d)

abbrev pub IsFirstOf : (ℤ → ℤ) → ℤ → List ℤ → ℕ → Option ℤ → Type 0
IsFirstOf offset local offsets count found =
    MatchOption found ((j : ℕ) (d : ℤ) → j < count → shown offset (local -ℤ get_or offsets j d) ≢ local) (IsLeastOf offset local offsets count)

module _ (offset : ℤ → ℤ) (local : ℤ) (offsets : List ℤ) (k : ℕ) (e : ℤ) (inside : k < length offsets) where
  abbrev o : ℤ
  o = get_or offsets k e

  -- the instant of this offset, or of one before
  here : (j : ℕ) (d : ℤ) → j ≡ k → get_or offsets j d ≡ o
  here j d same = rw same (get_or_default offsets k d e inside)

  pub first_stays : (found : Option ℤ) → IsFirstOf offset local offsets k found → offset (local -ℤ o) ≢ o → IsFirstOf offset local offsets (k + 1) found
  first_stays found before other = grind (arith, ints, below_or_at, here)

  -- the instant of this offset need not be asked for where it is not earlier
  pub first_early : {r : Bool} (found : Option ℤ) → IsFirstOf offset local offsets k found → (m : ℤ) → m ≡ local -ℤ o
      → MatchOption found (r ≡ false) (λ f. r ≡ true → f ≤ℤ m) → r ≡ true → IsFirstOf offset local offsets (k + 1) found
  first_early found h m l g f = grind (arith, ints, below_or_at, here)

  pub first_moves : {t : ℤ} (found : Option ℤ) (m : ℤ) → IsFirstOf offset local offsets k found → t ≡ local -ℤ o → offset t ≡ o
      → MatchOption found (m ≡ t) (λ f. m ≡ int_min f t) → IsLeastOf offset local offsets (k + 1) m
  first_moves None m before is same min = grind (arith, ints, below_or_at, here)
  first_moves {t = t} (Some f) m before is same min = record {
    shows = grind (arith, ints, clamps, less_or_not_z);
    least = λ j d l shows. let low = before.least j d in let there = here j d in grind (arith, ints, clamps, below_or_at);
  }

-- where each offset is among them, the least is the first instant that shows the local
module _ (offset : ℤ → ℤ) (local : ℤ) (offsets : List ℤ) (contains : (t : ℤ) → Contains offsets (offset t)) (k : ℕ) (all : length offsets ≤ k) where
  candidate : (s : ℤ) → shown offset s ≡ local → s ≡ local -ℤ get_or offsets (contains s).0 (offset s)
  candidate s shows = omega (arith, ints, (contains s).2)

  pub first_found : (found : Option ℤ) → IsFirstOf offset local offsets k found
      → MatchOption found ((t : ℤ) → shown offset t ≢ local) (IsFirstTime offset local)
  first_found None none = λ t shows. let at = contains t in none at.0 (offset t) (omega arith) (ap (shown offset) (sym (candidate t shows)) ∙ shows)
  first_found (Some t) found = record {
    shows = found.shows;
    first = λ s shows. let at = contains s in let is = candidate s shows in let low = found.least at.0 (offset s) in grind (arith, ints);
  }
