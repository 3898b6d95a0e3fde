-- The text of parameters is read in one way at most.
use Rattle.std.proofs.Common.{◌≡◌, ℕ, Bool, true, false, ◌==◌, List, [], ◌∷◌, ◌++◌, drop, map, refl, sym, ap, ◌∙◌}
use Rattle.std.specs.List.{AllByRecursion, list_all, take_while}
use Rattle.std.proofs.lemmas.Bool.{and_parts}
use Rattle.ics_text.specs.Bytes.{begins, is_name_byte, is_plain_byte}
use Rattle.ics_text.specs.ContentLines.{Value, Param, value_text, IsValue, IsParam, IsParams, pieces, without_quotes, after_name}
use Rattle.ics_text.proofs.BytesLemmas.{plain-no_sign}
use Rattle.ics_text.proofs.Parameters.{others_text, text_of, pieces-params, pieces-values, without_quotes-value, name-part, values-part}

-- a value begins with a quote exactly where it has quotes
begins-value : (quoted : Bool) (bytes : List ℕ) → IsValue (record { quoted = quoted; bytes = bytes }) →
    begins (λ b. b == 34) (value_text (record { quoted = quoted; bytes = bytes })) ≡ quoted
begins-value true bytes ok = refl
begins-value false [] ok = refl
begins-value false (b ∷ bs) ok = (plain-no_sign b (and_parts (is_plain_byte b) (list_all is_plain_byte bs) ok).0).quote

same-value : (v w : Value) → IsValue v → IsValue w → value_text v ≡ value_text w → v ≡ w
same-value v w ok_v ok_w e =
    let quoted : v.quoted ≡ w.quoted = sym (begins-value v.quoted v.bytes ok_v) ∙ ap (begins (λ b. b == 34)) e ∙ begins-value w.quoted w.bytes ok_w in
    let bytes : v.bytes ≡ w.bytes = sym (without_quotes-value v.quoted v.bytes ok_v) ∙ ap without_quotes e ∙ without_quotes-value w.quoted w.bytes ok_w in
    λ i. record { quoted = quoted i; bytes = bytes i }

-- lists are one where their texts are, if each text has one reading
module _ {A : Type 0} (text : A → List ℕ) (Ok : A → Type 0) (one : (x y : A) → Ok x → Ok y → text x ≡ text y → x ≡ y) where
  same-list : (xs ys : List A) → AllByRecursion Ok xs → AllByRecursion Ok ys → map text xs ≡ map text ys → xs ≡ ys
  same-list [] [] ok_x ok_y e = refl
  same-list [] (y ∷ ys) ok_x ok_y e = cc
  same-list (x ∷ xs) [] ok_x ok_y e = cc
  same-list (x ∷ xs) (y ∷ ys) ok_x ok_y e =
      let first = one x y ok_x.0 ok_y.0 (cc) in
      let more = same-list xs ys ok_x.1 ok_y.1 (cc) in
      cc

same-param : (p q : Param) → IsParam p → IsParam q → text_of p ≡ text_of q → p ≡ q
same-param p q ok_p ok_q e =
    let name : p.name ≡ q.name = sym (name-part p ok_p) ∙ ap (take_while is_name_byte) e ∙ name-part q ok_q in
    let text : value_text p.first ++ others_text p.others ≡ value_text q.first ++ others_text q.others =
    sym (values-part p ok_p) ∙ ap (λ t. drop 1 (after_name t)) e ∙ values-part q ok_q in
    let texts : map value_text (p.first ∷ p.others) ≡ map value_text (q.first ∷ q.others) =
    sym (pieces-values p.first p.others ok_p.first ok_p.others) ∙ ap (pieces 44 false) text ∙ pieces-values q.first q.others ok_q.first ok_q.others in
    let values : p.first ∷ p.others ≡ q.first ∷ q.others =
    same-list value_text IsValue same-value _ _ (ok_p.first, ok_p.others) (ok_q.first, ok_q.others) texts in
    let first : p.first ≡ q.first = cc in
    let others : p.others ≡ q.others = cc in
    λ i. record { name = name i; first = first i; others = others i }

pub same-params : (text : List ℕ) (ps qs : List Param) → IsParams text ps → IsParams text qs → ps ≡ qs
same-params text ps qs p q =
    let texts : [] ∷ map text_of ps ≡ [] ∷ map text_of qs =
    sym (pieces-params ps p.in_order) ∙ ap (pieces 59 false) (sym p.spelled ∙ q.spelled) ∙ pieces-params qs q.in_order in
    same-list text_of IsParam same-param ps qs p.in_order q.in_order (cc)
