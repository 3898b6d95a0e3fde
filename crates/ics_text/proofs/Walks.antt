-- The walk to the colon of a content line: where each run of its bytes leads.
use Rattle.std.proofs.Common.{◌≡◌, ℕ, suc, ◌+◌, ◌<◌, Bool, true, false, List, [], ◌∷◌, drop, refl, ap, ◌∙◌, arith, Option, Some, None, one-add}
use Rattle.std.proofs.Common.{inl, inr, option_map, ◌==◌, if◌then◌else◌}
use Rattle.std.specs.List.{prefix_len}
use Rattle.ics_text.specs.Bytes.{begins, is_name_byte, is_quoted_byte, is_plain_byte}
use Rattle.ics_text.specs.ScanSteps.{Start, InName, BeforeParam, InParam, BeforeValue, InPlain, InQuotes, AfterQuotes}
use Rattle.ics_text.specs.ScanSteps.{colon_from}
use Rattle.ics_text.specs.Inner.Runs.{colon_behind, past}
use Rattle.ics_text.proofs.BytesLemmas.{quoted-no_quote}
use Rattle.std.proofs.lemmas.Bool.{cases_Bool}
use Rattle.std.proofs.lemmas.Bool.Decides.{nat_tests}

moved_first : (i : ℕ) (o : Option ℕ) → option_map (λ n. n + 1) (option_map (λ n. n + i) o) ≡ option_map (λ n. n + suc i) o
moved_first i None = refl
moved_first i (Some n) = let e : n + i + 1 ≡ n + suc i = omega arith in ap Some e

unmoved : (o : Option ℕ) → o ≡ option_map (λ n. n + 0) o
unmoved None = refl
unmoved (Some n) = let e : n ≡ n + 0 = omega arith in ap Some e

-- within a run each of its bytes leads on within it, and any other byte is read as behind it
record Runs (within behind : List ℕ → Option ℕ) (p : ℕ → Bool) : Type 0 where
  at_end : within [] ≡ behind []
  on : (b : ℕ) (bs : List ℕ) → p b ≡ true → within (b ∷ bs) ≡ option_map (λ n. n + 1) (within bs)
  off : (b : ℕ) (bs : List ℕ) → p b ≡ false → within (b ∷ bs) ≡ behind (b ∷ bs)

run : (within behind : List ℕ → Option ℕ) (p : ℕ → Bool) → Runs within behind p → (bs : List ℕ) → within bs ≡ past behind bs (Some (prefix_len p bs))
run within behind p r [] = r.at_end ∙ unmoved (behind [])
run within behind p r (b ∷ bs) =
    let len = prefix_len p bs in
    elim (cases_Bool (p b)) [
      | inl e ↦ rw (e, one-add len) (r.on b bs e ∙ ap (option_map (λ n. n + 1)) (run within behind p r bs) ∙ moved_first len (behind (drop len bs)))
      | inr e ↦ rw e (r.off b bs e ∙ unmoved (behind (b ∷ bs)))
    ]

-- a name and what stands behind it
in_name : Runs (λ t. colon_from t InName) colon_behind is_name_byte
in_name = record {
  at_end = refl;
  on = λ b bs h. rw h refl;
  off = λ b bs h. rw h (elim (cases_Bool (b == 59)) [
    | inl e ↦ rw e refl
    | inr e ↦ rw e (elim (cases_Bool (b == 58)) [ inl k ↦ rw k refl | inr k ↦ rw k refl ])
  ]);
}

-- the colon of a line without parameters
pub colon_first : (text : List ℕ) → begins (λ b. b == 58) text ≡ true → colon_behind text ≡ Some 0
colon_first [] h = cc
colon_first (b ∷ bs) h = let is : b ≡ 58 = grind (arith, nat_tests) in rw is refl

-- the name of a parameter and the sign behind it
abbrev pub equals_first : List ℕ → Option ℕ
equals_first [] = None
equals_first (b ∷ bs) = if b == 61 then option_map (λ n. n + 1) (colon_from bs BeforeValue) else None

in_param : Runs (λ t. colon_from t InParam) equals_first is_name_byte
in_param = record {
  at_end = refl;
  on = λ b bs h. rw h refl;
  off = λ b bs h. rw h (elim (cases_Bool (b == 61)) [ inl e ↦ rw e refl | inr e ↦ rw e refl ]);
}

-- the bytes of an unquoted value and what stands behind it
in_plain : Runs (λ t. colon_from t InPlain) (λ t. colon_from t AfterQuotes) is_plain_byte
in_plain = record { at_end = refl; on = λ b bs h. rw h refl; off = λ b bs h. rw h refl }

-- the bytes between quotes and the quote behind them
abbrev pub quote_first : List ℕ → Option ℕ
quote_first [] = None
quote_first (b ∷ bs) = if b == 34 then option_map (λ n. n + 1) (colon_from bs AfterQuotes) else None

in_quotes : Runs (λ t. colon_from t InQuotes) quote_first is_quoted_byte
in_quotes = record {
  at_end = refl;
  on = λ b bs h. rw (h, quoted-no_quote b h) refl;
  off = λ b bs h. rw h (elim (cases_Bool (b == 34)) [ inl e ↦ rw e refl | inr e ↦ rw e refl ]);
}

-- an unquoted value
pub plain_value : (text : List ℕ) → begins (λ b. b == 34) text ≡ false →
    colon_from text BeforeValue ≡ past (λ t. colon_from t AfterQuotes) text (Some (prefix_len is_plain_byte text))
plain_value [] h = refl
plain_value (b ∷ bs) h =
    let same : colon_from (b ∷ bs) BeforeValue ≡ colon_from (b ∷ bs) InPlain = rw h refl in same ∙ run _ _ is_plain_byte in_plain (b ∷ bs)

-- a value in quotes
pub quoted_value : (text : List ℕ) → begins (λ b. b == 34) text ≡ true →
    colon_from text BeforeValue ≡ option_map (λ n. n + 1) (past quote_first (drop 1 text) (Some (prefix_len is_quoted_byte (drop 1 text))))
quoted_value [] h = cc
quoted_value (b ∷ bs) h = rw h (ap (option_map (λ n. n + 1)) (run _ _ is_quoted_byte in_quotes bs))

-- a name that has to be there: its first byte is read as one within it, and without it there is no colon
record Names (before within behind : List ℕ → Option ℕ) : Type 0 where
  at_end : before [] ≡ None
  on : (b : ℕ) (bs : List ℕ) → is_name_byte b ≡ true → before (b ∷ bs) ≡ within (b ∷ bs)
  off : (b : ℕ) (bs : List ℕ) → is_name_byte b ≡ false → before (b ∷ bs) ≡ None
  runs : Runs within behind is_name_byte

nameless : (before within behind : List ℕ → Option ℕ) → Names before within behind → (text : List ℕ) → prefix_len is_name_byte text ≡ 0 → before text ≡ None
nameless before within behind n [] none = n.at_end
nameless before within behind n (b ∷ bs) none = elim (cases_Bool (is_name_byte b)) [
  | inl e ↦ absurd (let some = rw e at none in omega (arith, some))
  | inr e ↦ n.off b bs e
]

named : (before within behind : List ℕ → Option ℕ) → Names before within behind → (text : List ℕ) → 0 < prefix_len is_name_byte text →
    before text ≡ past behind text (Some (prefix_len is_name_byte text))
named before within behind n [] some = absurd (omega arith)
named before within behind n (b ∷ bs) some = elim (cases_Bool (is_name_byte b)) [
  | inl e ↦ n.on b bs e ∙ run within behind is_name_byte n.runs (b ∷ bs)
  | inr e ↦ absurd (let none = rw e at some in omega (arith, none))
]

-- a line begins with the name of its property, behind which it is read as behind a parameter
of_line : Names (λ t. colon_from t Start) (λ t. colon_from t InName) colon_behind
of_line = record { at_end = refl; on = λ b bs e. rw e refl; off = λ b bs e. rw e refl; runs = in_name }

pub no_name : (line : List ℕ) → prefix_len is_name_byte line ≡ 0 → colon_from line Start ≡ None
no_name = nameless _ _ _ of_line

pub over_name : (line : List ℕ) → 0 < prefix_len is_name_byte line → colon_from line Start ≡ past colon_behind line (Some (prefix_len is_name_byte line))
over_name = named _ _ _ of_line

-- a parameter begins with its name, behind which a sign stands
of_param : Names (λ t. colon_from t BeforeParam) (λ t. colon_from t InParam) equals_first
of_param = record { at_end = refl; on = λ b bs e. rw e refl; off = λ b bs e. rw e refl; runs = in_param }

pub no_param_name : (text : List ℕ) → prefix_len is_name_byte text ≡ 0 → colon_from text BeforeParam ≡ None
no_param_name = nameless _ _ _ of_param

pub over_param_name : (text : List ℕ) (len : ℕ) → len ≡ prefix_len is_name_byte text → 0 < len → colon_from text BeforeParam ≡ past equals_first text (Some len)
over_param_name text len is some = rw is (named _ _ _ of_param text (rw is at some))
