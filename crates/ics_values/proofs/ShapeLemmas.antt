-- The shape of a duration's text, and the numbers before its units.
use Rattle.std.proofs.Common.{◌≡◌, ◌≢◌, ℕ, suc, ◌+◌, ◌-◌, ◌*◌, ◌<◌, true, false, ◌==◌, List, [], ◌∷◌, ◌++◌, length, take, drop, refl, sym, ap, ◌∙◌, fold}
use Rattle.std.proofs.Common.{arith, inl, inr, bytes_eq}
use Rattle.std.specs.List.{list_all, list_any}
use Rattle.std.proofs.lemmas.Bool.{cases_Bool, eq-eqb, false_from_ne_true, ne_eqb, true_from_ne_false}
use Rattle.std.proofs.lemmas.Bool.Decides.{nat_tests}
use Rattle.ics_values.specs.Digits.{is_digit, upper, number_of, digit_count}
use Rattle.ics_values.specs.Texts.{begins, begins_with}
use Rattle.ics_values.specs.Inner.Amounts.{IsLetter, IsAmount, capped}
use Rattle.ics_values.specs.Durations.{shape, behind, has_shape, amount_from}

-- no digit is a unit, and what is no digit is no zero
pub upper-unit : (b unit : ℕ) → is_digit b ≡ true → 57 < unit → (upper b == unit) ≡ false
upper-unit b unit h low = grind (arith, nat_tests)

pub upper-not_zero : (b : ℕ) → is_digit b ≡ false → (upper b == 48) ≡ false
upper-not_zero b h = grind (arith, nat_tests)

-- one byte more before a text
digit_count-yes : (b : ℕ) (bs : List ℕ) → is_digit b ≡ true → digit_count (b ∷ bs) ≡ suc (digit_count bs)
digit_count-yes b bs h = rw h (omega arith)

digit_count-no : (b : ℕ) (bs : List ℕ) → is_digit b ≡ false → digit_count (b ∷ bs) ≡ 0
digit_count-no b bs h = rw h refl

-- the digits that begin a text
pub digit_count-digits : (text : List ℕ) → list_all is_digit (take (digit_count text) text) ≡ true
digit_count-digits [] = refl
digit_count-digits (b ∷ bs) = elim (cases_Bool (is_digit b)) [
  | inl h ↦ rw (digit_count-yes b bs h) (rw h (digit_count-digits bs))
  | inr h ↦ rw (digit_count-no b bs h) refl
]

-- all bytes are digits where as many begin the text
pub digit_count-all : (text : List ℕ) → list_all is_digit text ≡ (digit_count text == length text)
digit_count-all [] = refl
digit_count-all (b ∷ bs) = elim (cases_Bool (is_digit b)) [
  | inl h ↦ rw (digit_count-yes b bs h, h) (grind (arith, nat_tests, digit_count-all bs))
  | inr h ↦ rw (digit_count-no b bs h, h) (grind (arith, nat_tests))
]

pub digit_count-none : (text : List ℕ) → begins is_digit text ≡ false → digit_count text ≡ 0
digit_count-none [] h = refl
digit_count-none (b ∷ bs) h = digit_count-no b bs h

pub digit_count-zero : (text : List ℕ) → digit_count text ≡ 0 → begins is_digit text ≡ false
digit_count-zero [] h = refl
digit_count-zero (b ∷ bs) h = false_from_ne_true (is_digit b) (λ k. let e = digit_count-yes b bs k in omega arith)

pub digit_count-some : (text : List ℕ) {n : ℕ} → n ≡ digit_count text → n ≢ 0 → begins is_digit text ≡ true
digit_count-some text is h = true_from_ne_false (begins is_digit text) (λ k. h (is ∙ digit_count-none text k))

-- they are one `0` of its shape
pub shape-digits : (text : List ℕ) → begins is_digit text ≡ true → shape text ≡ 48 ∷ shape (drop (digit_count text) text)
shape-digits [] h = cc
shape-digits (b ∷ bs) h = rw (digit_count-yes b bs h, h) (elim (cases_Bool (begins is_digit bs)) [
  | inl k ↦ rw k (shape-digits bs k)
  | inr k ↦ rw (k, digit_count-none bs k) refl
])

-- and the number before what is behind them
pub amount_from-digits : (unit : ℕ) (text : List ℕ) (n : ℕ) → 57 < unit →
    amount_from unit text n ≡ amount_from unit (drop (digit_count text) text) (fold (λ n b. 10 * n + (b - 48)) n (take (digit_count text) text))
amount_from-digits unit [] n low = refl
amount_from-digits unit (b ∷ bs) n low = elim (cases_Bool (is_digit b)) [
  | inl h ↦ rw (digit_count-yes b bs h, upper-unit b unit h low, h) (amount_from-digits unit bs (10 * n + (b - 48)) low)
  | inr h ↦ rw (digit_count-no b bs h) refl
]

-- the fronts that a shape has not
pub lacks-zero : (unit : ℕ) (text : List ℕ) → begins is_digit text ≡ false → begins_with (48 ∷ unit ∷ []) (shape text) ≡ false
lacks-zero unit [] h = refl
lacks-zero unit (b ∷ bs) h = rw (h, upper-not_zero b h) refl

pub lacks-letter : (letter b : ℕ) (bs : List ℕ) → 57 < letter → (upper b == letter) ≡ false → begins_with (letter ∷ []) (shape (b ∷ bs)) ≡ false
lacks-letter letter b bs low other = elim (cases_Bool (is_digit b)) [
  | inl h ↦ rw (shape-digits (b ∷ bs) h, ne_eqb 48 letter (omega arith)) refl
  | inr h ↦ rw (h, other) refl
]

bytes_eq-front : (front s x : List ℕ) → bytes_eq (front ++ s) (front ++ x) ≡ bytes_eq s x
bytes_eq-front [] s x = refl
bytes_eq-front (f ∷ fs) s x = rw (eq-eqb f f refl) (bytes_eq-front fs s x)

-- what is asked behind a front that is there
any-behind : (front s : List ℕ) (shapes : List (List ℕ)) → list_any (bytes_eq (front ++ s)) (behind front shapes) ≡ list_any (bytes_eq s) shapes
any-behind front s [] = refl
any-behind front s (x ∷ xs) = rw (bytes_eq-front front s x, any-behind front s xs) refl

-- only the empty text has the empty shape
pub shape-some : (text : List ℕ) → (length text == 0) ≡ false → bytes_eq (shape text) [] ≡ false
shape-some [] h = cc
shape-some (b ∷ bs) h = elim (cases_Bool (is_digit b)) [
  | inl d ↦ rw (shape-digits (b ∷ bs) d) refl
  | inr o ↦ rw o refl
]

-- what is behind a number and its unit has none of the shapes
pub no_shape-behind : {unit n : ℕ} {text rest : List ℕ} (shapes : List (List ℕ)) → IsAmount unit text n rest → (length rest == 0) ≡ false →
    has_shape shapes rest ≡ false → has_shape (behind (48 ∷ unit ∷ []) ([] ∷ shapes)) text ≡ false
no_shape-behind {unit = unit} {text = text} {rest = rest} shapes a some none =
    ap (λ s. list_any (bytes_eq s) (behind (48 ∷ unit ∷ []) ([] ∷ shapes))) a.shape
    ∙ any-behind (48 ∷ unit ∷ []) (shape rest) ([] ∷ shapes) ∙ rw (shape-some rest some, none) refl

-- the number before a unit
pub is_amount : (unit : ℕ) (text rest : List ℕ) → 57 < unit → begins is_digit text ≡ true → IsLetter unit (drop (digit_count text) text) rest →
    IsAmount unit text (capped (number_of (take (digit_count text) text))) rest
is_amount unit text rest low h letter = record {
  shape = shape-digits text h ∙ ap (λ s. 48 ∷ s) letter.shape;
  number = ap capped (sym (amount_from-digits unit text 0 low ∙ letter.own (number_of (take (digit_count text) text))));
  others = λ other high ne. amount_from-digits other text 0 high ∙ letter.others other (number_of (take (digit_count text) text)) ne;
}
