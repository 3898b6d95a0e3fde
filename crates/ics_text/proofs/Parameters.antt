-- The search for a parameter finds the first value of the first parameter of its name.
use Rattle.std.proofs.Common.{◌≡◌, ◌≢◌, ℕ, ◌+◌, Bool, true, false, ◌==◌, List, [], ◌∷◌, suc, refl, sym, ap, ◌∙◌, Option, Some, None, add-one}
use Rattle.std.proofs.Common.{◌-◌, ◌++◌, length, drop, map, append_assoc, length-append, arith, not, option_map, inl, inr}
use Rattle.std.proofs.lemmas.Bool.{eqb-true, and_parts, and_right, cases_Bool, ne_eqb}
use Rattle.ics_text.specs.Unfolded.{onto_first}
use Rattle.ics_text.specs.Bytes.{dquote, comma, equals, is_name_byte, is_quoted_byte, is_plain_byte}
use Rattle.ics_text.specs.ContentLines.{pieces, turned, Value, Param, value_text, params_text, IsValue, IsParam, IsParams, first_value, without_quotes}
use Rattle.ics_text.specs.ContentLines.{after_name, first_of_text, value_among, param_of}
use Rattle.ics_text.specs.Inner.Pieces.{cut_from, pieces_by}
use Rattle.std.specs.List.{flat_map, AllByRecursion, list_all, take_while, prefix_len}
use Rattle.std.proofs.Math.Seq.{take-append_seam, drop-append_seam}
use Rattle.ics_text.proofs.BytesLemmas.{quoted-no_quote, plain-no_sign, name-no_quote, name-no_semicolon}
use Rattle.ics_text.proofs.Parting.{prefix_len-front}

onto-by : (sep b : ℕ) (bs : List ℕ) (o : Option ℕ) → onto_first b (pieces_by sep bs o) ≡ pieces_by sep (b ∷ bs) (option_map (λ n. n + 1) o)
onto-by sep b bs None = refl
onto-by sep b bs (Some n) = rw (add-one n, add-one (suc n)) refl

no_quote : (sep b : ℕ) → sep ≢ 34 → (b == sep) ≡ true → (b == dquote) ≡ false
no_quote sep b ne e = ne_eqb b 34 (λ is. ne (sym (eqb-true b sep e) ∙ is))

pub cut-pieces : (sep : ℕ) (quoted : Bool) (text : List ℕ) → sep ≢ 34 → pieces sep quoted text ≡ pieces_by sep text (cut_from sep quoted text)
cut-pieces sep quoted [] ne = refl
cut-pieces sep true (b ∷ bs) ne =
    rw (and_right (b == sep) false refl) (ap (onto_first b) (cut-pieces sep (turned true b) bs ne) ∙ onto-by sep b bs (cut_from sep (turned true b) bs))
cut-pieces sep false (b ∷ bs) ne = elim (cases_Bool (b == sep)) [
  | inl is ↦ rw (is, no_quote sep b ne is) refl
  | inr not ↦ rw not (ap (onto_first b) (cut-pieces sep (turned false b) bs ne) ∙ onto-by sep b bs (cut_from sep (turned false b) bs))
]

-- a text in front of the first piece
abbrev in_front : List ℕ → List (List ℕ) → List (List ℕ)
in_front [] ps = ps
in_front (b ∷ bs) ps = onto_first b (in_front bs ps)

in_front-twice : (a b : List ℕ) (ps : List (List ℕ)) → in_front a (in_front b ps) ≡ in_front (a ++ b) ps
in_front-twice [] b ps = refl
in_front-twice (x ∷ a) b ps = ap (onto_first x) (in_front-twice a b ps)

in_front-empty : (text : List ℕ) (ps : List (List ℕ)) → in_front text ([] ∷ ps) ≡ text ∷ ps
in_front-empty [] ps = refl
in_front-empty (b ∷ bs) ps = ap (onto_first b) (in_front-empty bs ps)

-- no piece ends in the text, and what follows it stands outside quotes
record Passes (sep : ℕ) (text : List ℕ) : Type 0 where
  on : (rest : List ℕ) → pieces sep false (text ++ rest) ≡ in_front text (pieces sep false rest)

passes-both : (sep : ℕ) (a b : List ℕ) → Passes sep a → Passes sep b → Passes sep (a ++ b)
passes-both sep a b p q = record {
  on = λ rest. ap (pieces sep false) (append_assoc a b rest) ∙ p.on (b ++ rest) ∙ ap (in_front a) (q.on rest) ∙ in_front-twice a b (pieces sep false rest);
}

passes-byte : (sep b : ℕ) (bs : List ℕ) → (b == 34) ≡ false → (b == sep) ≡ false → Passes sep bs → Passes sep (b ∷ bs)
passes-byte sep b bs q s p = record { on = λ rest. rw (q, s) (ap (onto_first b) (p.on rest)) }

-- a run of bytes that are no quote and not the separator
passes-run : (sep : ℕ) (ok : ℕ → Bool) (no_quote : (b : ℕ) → ok b ≡ true → (b == 34) ≡ false) (no_sep : (b : ℕ) → ok b ≡ true → (b == sep) ≡ false)
    (bs : List ℕ) → list_all ok bs ≡ true → Passes sep bs
passes-run sep ok no_quote no_sep [] h = record { on = λ rest. refl }
passes-run sep ok no_quote no_sep (b ∷ bs) h =
    let parts = and_parts (ok b) (list_all ok bs) h in
    passes-byte sep b bs (no_quote b parts.0) (no_sep b parts.0) (passes-run sep ok no_quote no_sep bs parts.1)

-- between quotes nothing parts, and the second quote ends that
in_quotes : (sep : ℕ) (bs rest : List ℕ) → list_all is_quoted_byte bs ≡ true →
    pieces sep true (bs ++ 34 ∷ rest) ≡ in_front (bs ++ 34 ∷ []) (pieces sep false rest)
in_quotes sep [] rest h = rw (and_right (34 == sep) false refl) refl
in_quotes sep (b ∷ bs) rest h =
    let parts = and_parts (is_quoted_byte b) (list_all is_quoted_byte bs) h in
    rw (quoted-no_quote b parts.0, and_right (b == sep) false refl)
    (ap (onto_first b) (in_quotes sep bs rest parts.1))

-- nor in a value, where the separator is no quote and no byte of a value without quotes
passes-value : (sep : ℕ) → (34 == sep) ≡ false → ((b : ℕ) → is_plain_byte b ≡ true → (b == sep) ≡ false) → (quoted : Bool) (bytes : List ℕ)
    → IsValue (record { quoted = quoted; bytes = bytes }) → Passes sep (value_text (record { quoted = quoted; bytes = bytes }))
passes-value sep no_quote no_sep false bytes ok = passes-run sep is_plain_byte (λ b h. (plain-no_sign b h).quote) no_sep bytes ok
passes-value sep no_quote no_sep true bytes ok = record {
  on = λ rest. rw (append_assoc bytes (34 ∷ []) rest, no_quote) (ap (onto_first 34) (in_quotes sep bytes rest ok));
}

semicolon-passes : (v : Value) → IsValue v → Passes 59 (value_text v)
semicolon-passes v = passes-value 59 refl (λ b h. (plain-no_sign b h).semicolon) v.quoted v.bytes

comma-passes : (v : Value) → IsValue v → Passes 44 (value_text v)
comma-passes v = passes-value 44 refl (λ b h. (plain-no_sign b h).comma) v.quoted v.bytes

-- the values behind the first, each with its comma
abbrev pub others_text : List Value → List ℕ
others_text vs = flat_map (λ v. comma ∷ value_text v) vs

-- a parameter's text, of which the `;` is left off
abbrev pub text_of : Param → List ℕ
text_of p = p.name ++ (equals ∷ (value_text p.first ++ others_text p.others))

passes-others : (vs : List Value) → AllByRecursion IsValue vs → Passes 59 (others_text vs)
passes-others [] ok = record { on = λ rest. refl }
passes-others (v ∷ vs) ok =
    passes-both 59 (44 ∷ value_text v) (others_text vs)
    (passes-byte 59 44 (value_text v) refl refl (semicolon-passes v ok.0)) (passes-others vs ok.1)

passes-text : (p : Param) → IsParam p → Passes 59 (text_of p)
passes-text p ok =
    passes-both 59 p.name (61 ∷ (value_text p.first ++ others_text p.others))
    (passes-run 59 is_name_byte name-no_quote name-no_semicolon p.name ok.name.bytes)
    (passes-byte 59 61 (value_text p.first ++ others_text p.others) refl refl
    (passes-both 59 (value_text p.first) (others_text p.others)
    (semicolon-passes p.first ok.first) (passes-others p.others ok.others)))

-- the pieces of the parameters are an empty one and the parameters' texts
pub pieces-params : (ps : List Param) → AllByRecursion IsParam ps → pieces 59 false (params_text ps) ≡ [] ∷ map text_of ps
pieces-params [] ok = refl
pieces-params (p ∷ ps) ok = rw (append_assoc p.name (61 ∷ value_text p.first) (others_text p.others))
    (ap (λ (t : List (List ℕ)). [] ∷ t) ((passes-text p ok.0).on (params_text ps) ∙ ap (in_front (text_of p)) (pieces-params ps ok.1)
    ∙ in_front-empty (text_of p) (map text_of ps)))

-- the pieces of the values are the values
pub pieces-values : (v : Value) (vs : List Value) → IsValue v → AllByRecursion IsValue vs →
    pieces 44 false (value_text v ++ others_text vs) ≡ value_text v ∷ map value_text vs
pieces-values v [] ok more = (comma-passes v ok).on [] ∙ in_front-empty (value_text v) []
pieces-values v (w ∷ ws) ok more =
    (comma-passes v ok).on (others_text (w ∷ ws))
    ∙ ap (λ (ts : List (List ℕ)). in_front (value_text v) ([] ∷ ts)) (pieces-values w ws more.0 more.1)
    ∙ in_front-empty (value_text v) (map value_text (w ∷ ws))

pub without_quotes-value : (quoted : Bool) (bytes : List ℕ) → IsValue (record { quoted = quoted; bytes = bytes }) →
    without_quotes (value_text (record { quoted = quoted; bytes = bytes })) ≡ bytes
without_quotes-value true bytes ok =
    let inner : length (34 ∷ (bytes ++ 34 ∷ [])) - 2 ≡ length bytes = omega (arith, length-append bytes (34 ∷ [])) in
    rw inner (take-append_seam bytes (34 ∷ []))
without_quotes-value false [] ok = refl
without_quotes-value false (b ∷ bs) ok = rw ((plain-no_sign b (and_parts (is_plain_byte b) (list_all is_plain_byte bs) ok).0).quote) refl

-- the name of a parameter ends at the equals sign
name-ends : (p : Param) → IsParam p → prefix_len is_name_byte (text_of p) ≡ length p.name
name-ends p ok = prefix_len-front is_name_byte p.name 61 (value_text p.first ++ others_text p.others) ok.name.bytes refl

pub name-part : (p : Param) → IsParam p → take_while is_name_byte (text_of p) ≡ p.name
name-part p ok = rw (name-ends p ok) (take-append_seam p.name (61 ∷ (value_text p.first ++ others_text p.others)))

pub values-part : (p : Param) → IsParam p → drop 1 (after_name (text_of p)) ≡ value_text p.first ++ others_text p.others
values-part p ok = rw (name-ends p ok, drop-append_seam p.name (61 ∷ (value_text p.first ++ others_text p.others))) refl

value-part : (p : Param) → IsParam p → first_of_text (text_of p) ≡ p.first.bytes
value-part p ok = rw (values-part p ok, pieces-values p.first p.others ok.first ok.others) (without_quotes-value p.first.quoted p.first.bytes ok.first)

among-first : (name : List ℕ) (ps : List Param) → AllByRecursion IsParam ps → value_among name (map text_of ps) ≡ first_value name ps
among-first name [] ok = refl
among-first name (p ∷ ps) ok = rw (name-part p ok.0, value-part p ok.0, among-first name ps ok.1) refl

pub param_of-first : (name params : List ℕ) (ps : List Param) → IsParams params ps → param_of name params ≡ first_value name ps
param_of-first name params ps ok = rw (ok.spelled, pieces-params ps ok.in_order) (among-first name ps ok.in_order)
