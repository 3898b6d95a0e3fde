use Rattle.std.proofs.Common.{◌≡◌, Some, None, Ok, sym, ◌∙◌, ap, subst, lit<, w64, FitsSigned}
use Rattle.std.proofs.lemmas.Int.{to_z-of_z}
use Rattle.std.specs.Fmt.{signed_decimal}
use Rattle.std.specs.Result.{is_ok, result_ok}
use Rattle.std.proofs.lemmas.Str.Pattern.{split_after}
use Rattle.std.proofs.lemmas.Fmt.{parse-signed_decimal}
use Rattle.ics_listing.proofs.TokenLemmas.{no-point}
use Rattle.ics_listing.proofs.token.field.Goals as goal

pub returns-in_err-digits : goal.returns-in_err-digits
returns-in_err-digits c n rest f e =
    absurd (split_after 46 c.args.text.now (signed_decimal n) rest None c.in_err-digits.ensures.cases (lit< tt) e (no-point n f))

pub returns-in_err-number : goal.returns-in_err-number
returns-in_err-number c n rest f e =
    let parts = split_after 46 c.args.text.now (signed_decimal n) rest (Some (c.in_ok-digits.digits, c.in_ok-digits.rest)) c.in_ok-digits.ensures.cases
    (lit< tt) e (no-point n f) in
    let p : c.parse.result ≡ Ok n = parse-signed_decimal w64 n c.in_ok-digits.digits.now c.parse.result f f.sfits parts.0 c.parse.ensures.value.0 in
    let q = c.in_err-number.ensures.variant ∙ ap is_ok p in cc

pub returns : goal.returns
returns c n rest f e =
    let parts = split_after 46 c.args.text.now (signed_decimal n) rest (Some (c.in_ok-digits.digits, c.in_ok-digits.rest)) c.in_ok-digits.ensures.cases
    (lit< tt) e (no-point n f) in
    let p : c.parse.result ≡ Ok n = parse-signed_decimal w64 n c.in_ok-digits.digits.now c.parse.result f f.sfits parts.0 c.parse.ensures.value.0 in
    let same : c.in_ok-number.number ≡ n = let q = c.in_ok-number.ensures.value ∙ ap result_ok p in cc in
    (to_z-of_z w64 c.in_ok-number.number (subst (FitsSigned w64) (sym same) f) ∙ same, parts.1)
