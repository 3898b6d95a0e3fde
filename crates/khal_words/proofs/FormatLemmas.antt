-- A text is that of pieces in one way.
use Rattle.std.proofs.Common.{◌≡◌, ℕ, ◌+◌, ◌-◌, ◌<◌, Bool, true, false, Some, List, [], ◌∷◌, ◌++◌, length, take, drop, get_or, if◌then◌else◌, refl, sym, ap}
use Rattle.std.proofs.Common.{ap₂, ◌∙◌, append_assoc, append-nil, add-one, arith, length-append, length-drop}
use Rattle.std.proofs.Math.Seq.{drop-append_seam, drop-cons, take-append_seam}
use Rattle.std.proofs.lemmas.Bool.{and_parts, cond_both, or_parts, not-true, both_ways, eqb-true, lt-ltb}
use Rattle.std.proofs.lemmas.List.{take_all, take-append-drop}
use Rattle.std.proofs.lemmas.List.Quantifiers.{position-Some}
use Rattle.std.specs.Prelude.{◌==◌, not}
use Rattle.std.specs.List.{position, position_or_len}
use Rattle.khal_words.specs.declared.format.Piece.{Piece}
use Rattle.khal_words.specs.declared.format.Piece.TheVariants.{Byte, Field}
use Rattle.khal_words.specs.Formats.{is_brace, is_plain, written, written_piece, IsFormat, OneFormat}

-- no byte of a text without braces is one
plain_parts : (x : ℕ) (xs : List ℕ) → is_plain (x ∷ xs) ≡ true → (is_brace x ≡ false) × (is_plain xs ≡ true)
plain_parts x xs plain = let parts = and_parts (not (is_brace x)) (is_plain xs) plain in (not-true (is_brace x) parts.0, parts.1)

-- a name and a closing brace do not begin with an opening one
no_brace_first : (xs a b : List ℕ) → is_plain xs ≡ true → 123 ∷ a ≡ xs ++ 125 ∷ b → ⊥
no_brace_first [] a b plain e = let first : ◌≡◌ {A = ℕ} 123 125 = cc in absurd (omega arith)
no_brace_first (x ∷ xs) a b plain e = let first : 123 ≡ x = cc in both_ways (is_brace x) (plain_parts x xs plain).0 (ap is_brace (sym first))

closing_after : (xs a : List ℕ) → is_plain xs ≡ true → position_or_len (λ byte. byte == 125) (xs ++ 125 ∷ a) ≡ length xs
closing_after [] a plain = refl
closing_after (x ∷ xs) a plain =
    let other : (x == 125) ≡ false = (or_parts (x == 123) (x == 125) (plain_parts x xs plain).0).1 in
    rw (other, closing_after xs a (plain_parts x xs plain).1) (omega arith)

-- names before closing braces are the same, and so is what comes after them
names_apart : {a b : List ℕ} (xs ys : List ℕ) → is_plain xs ≡ true → is_plain ys ≡ true → xs ++ 125 ∷ a ≡ ys ++ 125 ∷ b → (xs ≡ ys) × (a ≡ b)
names_apart {a = a} {b = b} xs ys p q e =
    let size : length xs ≡ length ys = sym (closing_after xs a p) ∙ (ap (position_or_len (λ byte. byte == 125)) e ∙ closing_after ys b q) in
    let rest : 125 ∷ a ≡ 125 ∷ b = sym (drop-append_seam xs (125 ∷ a)) ∙ ap₂ drop size e ∙ drop-append_seam ys (125 ∷ b) in
    (sym (take-append_seam xs (125 ∷ a)) ∙ ap₂ take size e ∙ take-append_seam ys (125 ∷ b), (cc))

-- the first closing brace after a name is the one behind it
pub closing_behind : (xs a text : List ℕ) → is_plain xs ≡ true → text ≡ xs ++ 125 ∷ a → position (λ byte. byte == 125) text ≡ Some (length xs)
closing_behind xs a text plain is =
    let within : length xs < length (xs ++ 125 ∷ a) = simp length-append (omega arith) in
    rw (is, closing_after xs a plain, lt-ltb (length xs) (length (xs ++ 125 ∷ a)) within)

-- a text with an opening brace before it is a name in braces, where one stands before its first closing brace, and the rest
pub closing_parts : (text name : List ℕ) (end : ℕ) → position (λ byte. byte == 125) text ≡ Some end → take end text ≡ name
    → 123 ∷ text ≡ 123 ∷ ((name ++ 125 ∷ []) ++ take (length text - (end + 1)) (drop (end + 1) text))
closing_parts text name end is named =
    let found = position-Some (λ byte. byte == 125) text end 0 is in
    let here : get_or text end 0 ≡ 125 = eqb-true _ _ found.1 in
    let within : end < length text = found.0 in
    let rest : take (length text - (end + 1)) (drop (end + 1) text) ≡ drop (end + 1) text = take_all _ _ (simp length-drop (omega arith)) in
    let split : drop end text ≡ 125 ∷ drop (end + 1) text = drop-cons text end 0 within ∙ (rw (here, add-one) refl) in
    rw (rest, ← named, append_assoc) (ap (λ t. 123 ∷ t) (sym (take-append-drop end text) ∙ ap (λ t. take end text ++ t) split))

abbrev spelled : Bool → ℕ → List ℕ
spelled brace b = if brace then b ∷ b ∷ [] else b ∷ []

module _ (b : ℕ) (x y : List ℕ) where
  bytes_apart : (c : ℕ) (s t : Bool) → is_brace b ≡ s → is_brace c ≡ t → spelled s b ++ x ≡ spelled t c ++ y → (b ≡ c) × (x ≡ y)
  bytes_apart c true true p q e = ((cc), (cc))
  bytes_apart c false false p q e = ((cc), (cc))
  bytes_apart c s t p q e = absurd (cc)

  no_field : (s : Bool) (xs : List ℕ) → is_plain xs ≡ true → is_brace b ≡ s → spelled s b ++ x ≡ 123 ∷ (xs ++ 125 ∷ y) → ⊥
  no_field true xs plain p e = let first : 123 ≡ b = cc in let after : b ∷ x ≡ xs ++ 125 ∷ y = cc in
      no_brace_first xs x y plain (ap (λ (c : ℕ). c ∷ x) first ∙ after)
  no_field false xs plain p e = let first : b ≡ 123 = cc in both_ways (is_brace b) p (ap is_brace first)

-- pieces that are written alike
abbrev pub Alike : {F : Type 0} → (F → List ℕ) → Piece F → Piece F → Type 0
Alike name (Byte b) (Byte c) = b ≡ c
Alike name (Byte b) (Field g) = ⊥
Alike name (Field f) (Byte c) = ⊥
Alike name (Field f) (Field g) = name f ≡ name g

module _ {F : Type 0} (name : F → List ℕ) (plain : (field : F) → is_plain (name field) ≡ true) where
  behind : (field : F) (x : List ℕ) → written_piece name (Field field) ++ x ≡ 123 ∷ (name field ++ 125 ∷ x)
  behind field x = ap (λ (t : List ℕ). 123 ∷ t) (append_assoc (name field) (125 ∷ []) x)

  -- texts that begin with pieces are the same only where the pieces are, and what comes after them
  pub pieces_apart : (p q : Piece F) (x y : List ℕ) → written_piece name p ++ x ≡ written_piece name q ++ y → Alike name p q × (x ≡ y)
  pieces_apart (Byte b) (Byte c) x y e = bytes_apart b x y c (is_brace b) (is_brace c) refl refl e
  pieces_apart (Byte b) (Field g) x y e = absurd (no_field b x y (is_brace b) (name g) (plain g) refl (e ∙ behind g y))
  pieces_apart (Field f) (Byte c) x y e = absurd (no_field c y x (is_brace c) (name f) (plain f) refl (sym e ∙ behind f x))
  pieces_apart (Field f) (Field g) x y e = names_apart (name f) (name g) (plain f) (plain g) (let whole : 123 ∷ (name f ++ 125 ∷ x) ≡ 123
      ∷ (name g ++ 125 ∷ y) = sym (behind f x) ∙ e ∙ behind g y in (cc))

  pub no_pieces : (p : Piece F) (x : List ℕ) → written_piece name p ++ x ≡ [] → ⊥
  no_pieces (Byte b) x e = cond_both (is_brace b) (b ∷ b ∷ []) (b ∷ []) (λ t. t ++ x ≡ [] → ⊥) (λ _ none. cc) (λ _ none. cc) e
  no_pieces (Field f) x e = cc

  -- what comes after a piece of a format is a format
  pub format_behind : (p : Piece F) (x text : List ℕ) → text ≡ written_piece name p ++ x → IsFormat name text → IsFormat name x
  format_behind p x text is ([], e) = absurd (no_pieces p x (sym is ∙ e))
  format_behind p x text is (q ∷ qs, e) = (qs, (pieces_apart p q x (written name qs) (sym is ∙ e)).1)

  pub written-last : (ps : List (Piece F)) (p : Piece F) → written name (ps ++ p ∷ []) ≡ written name ps ++ written_piece name p
  written-last [] p = append-nil (written_piece name p)
  written-last (q ∷ qs) p = ap (λ t. written_piece name q ++ t) (written-last qs p)
      ∙ sym (append_assoc (written_piece name q) (written name qs) (written_piece name p))

-- a text that begins with no piece is no format, but for the empty one
pub no_format : {F : Type 0} (name : F → List ℕ) (text : List ℕ) → 0 < length text → ((p : Piece F) (x : List ℕ) → text ≡ written_piece name p ++ x → ⊥) →
    IsFormat name text → ⊥
no_format name text some none ([], e) = omega (arith, ap length e)
no_format name text some none (p ∷ ps, e) = none p (written name ps) e

one_piece : {F : Type 0} (name : F → List ℕ) → ((f g : F) → name f ≡ name g → f ≡ g) → (p q : Piece F) → Alike name p q → p ≡ q
one_piece name one (Byte b) (Byte c) e = ap Byte e
one_piece name one (Field f) (Field g) e = ap Field (one f g e)
one_piece name one p q e = absurd assumption

-- where a name is that of one field, a text is of one list of pieces
pub one_list : {F : Type 0} (name : F → List ℕ) → ((field : F) → is_plain (name field) ≡ true) → ((f g : F) → name f ≡ name g → f ≡ g) → OneFormat name
one_list name plain one [] [] e = refl
one_list name plain one [] (q ∷ qs) e = absurd (no_pieces name plain q (written name qs) (sym e))
one_list name plain one (p ∷ ps) [] e = absurd (no_pieces name plain p (written name ps) e)
one_list name plain one (p ∷ ps) (q ∷ qs) e =
    let both = pieces_apart name plain p q (written name ps) (written name qs) e in
    let rest : ps ≡ qs = one_list name plain one ps qs both.1 in
    let first : p ≡ q = one_piece name one p q both.0 in
    cc
