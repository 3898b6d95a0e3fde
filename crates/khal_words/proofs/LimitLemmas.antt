-- What clap takes for `--limit`, and the number that `parse` reads from it.
use Rattle.std.proofs.Common.{◌≡◌, ◌<◌, ◌^◌, ℕ, pos, Bool}
use Rattle.std.proofs.Common.{true, false, List, length, Option, Some, None, Ok, Err, Result}
use Rattle.std.proofs.Common.{option_and_then, arith, refl, ap}
use Rattle.std.specs.Result.{result_ok}
use Rattle.std.specs.Str.Parse.{IsNumeral, ParsesUnsigned, digits_value, starts_with_minus, without_leading_plus}
use Rattle.std.proofs.lemmas.Bool.{false_from_ne_true}
use Rattle.std.proofs.lemmas.Int.{ints}
use Rattle.clap.proofs.ValueTestLemmas.{accepts-Accepts}
use Rattle.clap.specs.declared.builder.value_parser.ValueParser.{ValueParser}
use Rattle.clap.specs.declared.builder.value_parser.ValueParser.TheVariants as vp
use Rattle.clap.specs.Words.{IsSignedIn}
use Rattle.std.specs.Bool.{Decides}
use Rattle.std.proofs.lemmas.Bool.Decides.{Decides-and, Decides-ltb}
use Rattle.std.specs.Prelude.{codes}
use Rattle.khal_words.specs.Entries.{Entries, HasLimit}
use Rattle.khal_words.specs.Limits.{is_number, number_of, IsLimit, IsLimitOf}
use Rattle.khal_words.proofs.CheckedRows.{ReadsIn}
use Rattle.khal_words.proofs.WindowTextLemmas.{own}

abbrev pub limit_range : ValueParser
limit_range = vp.Signed (pos 1) (pos 4_294_967_295)

number-Decides : (digits : List ℕ) → Decides (is_number digits) (IsNumeral 10 digits × (digits_value 10 digits < 2 ^ 32))
number-Decides digits =
    Decides-and _ _ (Decides-and _ _ (Decides-ltb 0 (length digits)) (own.to digits, own.from digits)) (Decides-ltb (digits_value 10 digits) (2 ^ 32))

pub parsed : {E : Type 0} (text : List ℕ) (r : Result ℕ E) → ParsesUnsigned 32 10 text r → result_ok r ≡ number_of text
parsed text (Ok n) h = rw ((number-Decides (without_leading_plus text)).1 h.0) (ap Some h.1)
parsed text (Err e) h = let digits = without_leading_plus text in rw (false_from_ne_true (is_number digits) (λ t. h ((number-Decides digits).0 t))) refl

-- a text that the parser of `--limit` takes
limit_is : (text : List ℕ) → IsSignedIn (pos 1) (pos 4_294_967_295) text → (minus : Bool) → starts_with_minus text ≡ minus → IsLimit text
limit_is text h true minus = let low = rw minus at h.2 in absurd (omega (arith, ints))
limit_is text h false minus =
    let n = rw minus at h in
    (digits_value 10 (without_leading_plus text), rw ((number-Decides (without_leading_plus text)).1 (n.0, omega (arith, ints))) refl, omega (arith, ints))

pub has_limit : (entries : Entries) → ReadsIn (codes "limit") limit_range entries → HasLimit entries
has_limit entries reads text e = limit_is text (accepts-Accepts false limit_range text (rw e at reads.0)) _ refl

-- what is read of a limit that stands, or does not
pub limit_stands : (given : Option (List ℕ)) (result : Option ℕ) → ((text : List ℕ) → given ≡ Some text → IsLimit text) →
    result ≡ option_and_then number_of given → IsLimitOf given result
limit_stands None None has is = tt
limit_stands None (Some n) has is = cc
limit_stands (Some text) result has is = let limit = has text refl in rw (is, limit.1) (limit.1, limit.2)
