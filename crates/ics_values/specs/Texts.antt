-- Tests of how a text begins, and signs.
use Rattle.std.specs.Prelude.{ℕ, Bool, true, false, ◌&&◌, ◌||◌, ◌==◌, List, [], ◌∷◌, drop, ℤ, pos, neg_ℤ, if◌then◌else◌}

-- there is a first byte, and it passes the test
abbrev pub begins : (ℕ → Bool) → List ℕ → Bool
begins p [] = false
begins p (b ∷ bs) = p b

-- whether the text has this prefix
abbrev pub begins_with : List ℕ → List ℕ → Bool
begins_with [] text = true
begins_with (f ∷ fs) [] = false
begins_with (f ∷ fs) (b ∷ bs) = b == f && begins_with fs bs

abbrev pub is_sign : ℕ → Bool
is_sign b = b == 43 || b == 45

abbrev pub is_minus : ℕ → Bool
is_minus b = b == 45

-- the text without the sign that may begin it
abbrev pub unsigned : List ℕ → List ℕ
unsigned text = if begins is_sign text then drop 1 text else text

-- the number, negated if there is a minus
abbrev pub with_sign : Bool → ℕ → ℤ
with_sign negative n = if negative then neg_ℤ (pos n) else pos n
