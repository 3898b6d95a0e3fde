use Rattle.std.proofs.lemmas.Grind.{common_steps}
use Rattle.std.proofs.Common.{rules, ◌≡◌, Ok, true, false, sym, ◌∙◌, ap, subst, ⊎_elim, arith, ℤ, FitsSigned, nat_eq, w64, to_z, of_z}
use Rattle.std.proofs.lemmas.Int.{to_z-of_z}
use lib.Pointwise.{pointwise}
use Rattle.std.proofs.lemmas.Cmp.{nat_list_eq_equiv}
use Rattle.hex.specs.Hex.{decode_of, encode_lower}
use Rattle.hex.proofs.HexLemmas.{decode_of-encode_lower, decode_of-ok}
use Rattle.ics_listing.specs.Tokens.{spelling}
use Rattle.ics_listing.specs.declared.token.TokenFault.TheVariants.{BadToken}
use Rattle.ics_listing.proofs.token.Token.read.Goals as goal

pub returns-in-Err-clause-bad : goal.returns-in-Err-clause-bad
returns-in-Err-clause-bad c bad token =
    let key = token.0 in
    let k = token.1 in
    let e = token.2 in
    let parts = c.in-Some.ensures key.start key.recurrence (encode_lower key.uid) k.start k.recurrence e in
    let is_bad : c.fault_of.result ≡ BadToken = cc in
    let other = c.fault_of.ensures is_bad in
    let text : decode_of c.as_bytes.result.now ≡ Ok key.uid = ap decode_of (c.as_bytes.ensures.value ∙ parts.2) ∙ decode_of-encode_lower key.uid k.uid in
    ⊎_elim other (λ d. let q = sym text ∙ d in cc) c.in-Err.ensures.err

back : (z y : ℤ) → z ≡ y → FitsSigned w64 y → to_z w64 (of_z w64 z) ≡ y
back z y e f = to_z-of_z w64 z (subst (FitsSigned w64) (sym e) f) ∙ e

pub returns-else-eq-clause-bad : goal.returns-else-eq-clause-bad
returns-else-eq-clause-bad c bad token =
    let key = token.0 in
    let k = token.1 in
    let e = token.2 in
    let parts = c.in-Some.ensures key.start key.recurrence (encode_lower key.uid) k.start k.recurrence e in
    let text : decode_of c.as_bytes.result.now ≡ Ok key.uid = ap decode_of (c.as_bytes.ensures.value ∙ parts.2) ∙ decode_of-encode_lower key.uid k.uid in
    let uid : c.in-Ok.uid.items ≡ key.uid = let q = sym c.in-Ok.ensures.ok ∙ text in cc in
    let start = back c.in-Some.start key.start parts.0 k.start in
    let recurrence = back c.in-Some.recurrence key.recurrence parts.1 k.recurrence in
    let spelled = c.in_ok-spelled.ensures ∙ (λ i. spelling (record { start = start i; uid = uid i; recurrence = recurrence i })) in
    let same : c.as_str.result.now ≡ c.args.text.now = c.as_str.ensures.value ∙ (spelled ∙ sym e) in
    let yes : c.eq.result ≡ true = c.eq.ensures ∙ (ap (λ t. pointwise nat_eq t c.args.text.now) same ∙ nat_list_eq_equiv.refl c.args.text.now) in
    let no : c.eq.result ≡ false = c.if-eq.false in cc

pub returns-then-eq-clause-key : goal.returns-then-eq-clause-key
returns-then-eq-clause-key c = record {
  start = search rules;
  recurrence = search rules;
  uid = (decode_of-ok c.as_bytes.result.now c.in-Ok.uid.items c.in-Ok.ensures.ok).3;
}

pub returns-in_default-clause-bad : goal.returns-in_default-clause-bad
returns-in_default-clause-bad c = grind (arith, common_steps)

pub returns-in-Err-clause-key : goal.returns-in-Err-clause-key
returns-in-Err-clause-key c = grind (arith, common_steps)
