-- Sets of small numbers. A set is seen as the number whose binary digits are its members.
use Rattle.std.specs.Prelude.{◌≡◌, ℕ, ◌/◌, ◌%◌, ◌^◌, ◌<◌, ◌≤◌, Bool, ◌==◌, List, [], ◌∷◌, get_or, set, true, false, ◌&&◌, nat_lt, Option, MatchOption, bit_or}

-- n is a member
abbrev pub contains : ℕ → ℕ → Bool
contains s n = s / 2 ^ n % 2 == 1

-- there is no member
abbrev pub is_empty : ℕ → Bool
is_empty s = s == 0

-- the set of n alone
abbrev pub only : ℕ → ℕ
only n = 2 ^ n

-- the set with n added to it
abbrev pub with_number : ℕ → ℕ → ℕ
with_number n s = bit_or s (only n)

-- the same for a list of six words with 64 digits each: members are below 384
abbrev pub contains_wide : List ℕ → ℕ → Bool
contains_wide ws n = nat_lt n 384 && contains (get_or ws (n / 64) 0) (n % 64)

abbrev pub is_empty_wide : List ℕ → Bool
is_empty_wide [] = true
is_empty_wide (w ∷ ws) = is_empty w && is_empty_wide ws

abbrev pub none_wide : List ℕ
none_wide = 0 ∷ 0 ∷ 0 ∷ 0 ∷ 0 ∷ 0 ∷ []

abbrev pub with_wide_number : ℕ → List ℕ → List ℕ
with_wide_number n ws = set ws (n / 64) (with_number (n % 64) (get_or ws (n / 64) 0))

-- each number that passes is between the two
abbrev pub IsWithin : ℕ → ℕ → (ℕ → Bool) → Type 0
IsWithin low high test = (n : ℕ) → test n ≡ true → (low ≤ n) × (n ≤ high)

-- n is the least number, from a given one on, that passes a test
pub record IsLeastFrom (test : ℕ → Bool) (place n : ℕ) : Type 0 where
  pub passes : test n ≡ true
  pub low : place ≤ n
  pub least : (m : ℕ) → place ≤ m → m < n → test m ≡ false

-- the answer is the least number, from a given one on, that passes, or None if there is none
abbrev pub IsNextIn : (ℕ → Bool) → ℕ → Option ℕ → Type 0
IsNextIn test place o = MatchOption o ((m : ℕ) → place ≤ m → test m ≡ false) (λ n. IsLeastFrom test place n)
