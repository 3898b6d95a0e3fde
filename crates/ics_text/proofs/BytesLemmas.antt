-- What the tests of bytes tell of separators and quotes.
use Rattle.std.proofs.Common.{◌≡◌, ℕ, Bool, true, false, ◌==◌, arith, List, [], ◌∷◌, map, refl, not, ◌↔◌, IsTrue, bytes_eq}
use Rattle.std.specs.Char.{to_ascii_lowercase}
use Rattle.std.proofs.lemmas.Bool.{and_parts, not-true}
use Rattle.std.proofs.lemmas.Bool.Decides.{nat_tests, same_from_decides}
use Rattle.std.proofs.lemmas.Slice.Eq.{bytes_eq-Decides}
use Rattle.ics_text.specs.Bytes.{is_name_byte, is_quoted_byte, is_plain_byte, is_control, upper, same_name}

pub quoted-no_quote : (b : ℕ) → is_quoted_byte b ≡ true → (b == 34) ≡ false
quoted-no_quote b h = not-true (b == 34) (and_parts (not (b == 34)) (not (is_control b)) h).0

-- a byte without quotes is no quote and no separator
pub record IsNoSign (b : ℕ) : Type 0 where
  pub quote : (b == 34) ≡ false
  pub comma : (b == 44) ≡ false
  pub semicolon : (b == 59) ≡ false

pub plain-no_sign : (b : ℕ) → is_plain_byte b ≡ true → IsNoSign b
plain-no_sign b h = record { quote = grind (arith, nat_tests); comma = grind (arith, nat_tests); semicolon = grind (arith, nat_tests) }

pub name-no_quote : (b : ℕ) → is_name_byte b ≡ true → (b == 34) ≡ false
name-no_quote b h = grind (arith, nat_tests)

pub name-no_semicolon : (b : ℕ) → is_name_byte b ≡ true → (b == 59) ≡ false
name-no_semicolon b h = grind (arith, nat_tests)

-- two letters are one in upper case exactly where they are one in lower case
one_case : (x y : ℕ) → (upper x == upper y) ≡ (to_ascii_lowercase x == to_ascii_lowercase y)
one_case x y = grind (arith, nat_tests)

same_name-lowercase : (a b : List ℕ) → same_name a b ≡ bytes_eq (map to_ascii_lowercase a) (map to_ascii_lowercase b)
same_name-lowercase [] [] = refl
same_name-lowercase [] (y ∷ ys) = refl
same_name-lowercase (x ∷ xs) [] = refl
same_name-lowercase (x ∷ xs) (y ∷ ys) = rw (one_case x y, same_name-lowercase xs ys) refl

-- what std's comparison without case tells
pub same_name-tells : (r : Bool) (a b : List ℕ) → IsTrue r ↔ (map to_ascii_lowercase a ≡ map to_ascii_lowercase b) → r ≡ same_name a b
same_name-tells r a b h =
    rw (same_name-lowercase a b) (same_from_decides r (bytes_eq (map to_ascii_lowercase a) (map to_ascii_lowercase b)) h (bytes_eq-Decides _ _))
