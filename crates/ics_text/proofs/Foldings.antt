-- Unfolding undoes folding.
use Rattle.std.proofs.Common.{◌≡◌, ◌≢◌, ℕ, ◌+◌, Bool, true, false, ◌==◌, List, [], ◌∷◌, ◌++◌, length, map, refl, sym, ap, ◌∙◌, arith}
use Rattle.std.specs.Prelude.{not, filter}
use Rattle.std.specs.List.{AllByRecursion, flat_map}
use Rattle.std.proofs.lemmas.List.{append_assoc, append-nil}
use Rattle.std.proofs.lemmas.List.Folds.{list_all-append}
use Rattle.std.proofs.lemmas.Bool.Decides.{nat_tests}
use Rattle.ics_text.specs.Bytes.{is_blank, is_empty}
use Rattle.ics_text.specs.Unfolded.{physical_lines, numbered, joined, goes_on, is_line, lines_from, unfolded, without_mark}
use Rattle.ics_text.specs.Folding.{Fold, Written, line_end, fold_text, written_text, folded_bytes, is_folded, folded_lines, StandsBefore, AreFolds, IsWritten}
use Rattle.ics_text.proofs.Cuts.{without_cr-append, without_cr-keeps, front}

-- a fold as a physical line
abbrev fold_line : Fold → List ℕ
fold_line f = f.blank ∷ f.bytes

-- the physical lines of a line
abbrev physical_of : Written → List (List ℕ)
physical_of w = w.first ∷ map fold_line w.folds

-- bytes and their line end are one physical line
one_line : (with_cr : Bool) (bytes tail : List ℕ) → StandsBefore with_cr bytes →
    physical_lines (bytes ++ (line_end with_cr ++ tail)) ≡ bytes ∷ physical_lines tail
one_line true bytes tail h =
    ap physical_lines (sym (append_assoc bytes (13 ∷ []) (10 ∷ tail)))
    ∙ front (bytes ++ (13 ∷ [])) tail (rw (list_all-append (λ b. not (b == 10)) bytes (13 ∷ []), h.no_lf) refl)
    ∙ ap (λ line. line ∷ physical_lines tail) (without_cr-append bytes)
one_line false bytes tail h =
    front bytes tail h.no_lf
    ∙ ap (λ line. line ∷ physical_lines tail) (without_cr-keeps bytes (h.no_cr refl))

no_cr-blank : (b : ℕ) (bytes : List ℕ) → is_blank b ≡ true → ((front : List ℕ) → bytes ≢ front ++ (13 ∷ [])) → (front : List ℕ) → b ∷ bytes ≢ front ++ (13 ∷ [])
no_cr-blank b bytes blank h [] = λ e. let same : b ≡ 13 = cc in let no : is_blank 13 ≡ true = rw same at blank in cc
no_cr-blank b bytes blank h (c ∷ front) = λ e. h front cc

stands-blank : (with_cr : Bool) (b : ℕ) (bytes : List ℕ) → is_blank b ≡ true → StandsBefore with_cr bytes → StandsBefore with_cr (b ∷ bytes)
stands-blank with_cr b bytes blank h =
    let other : (b == 10) ≡ false = grind (arith, nat_tests) in
    record { no_lf = rw other h.no_lf; no_cr = λ e. no_cr-blank b bytes blank (h.no_cr e) }

folds-blank : (b : ℕ) (bytes : List ℕ) (fs : List Fold) (with_cr : Bool) → is_blank b ≡ true → AreFolds bytes fs with_cr → AreFolds (b ∷ bytes) fs with_cr
folds-blank b bytes [] with_cr blank h = stands-blank with_cr b bytes blank h
folds-blank b bytes (f ∷ fs) with_cr blank h = (stands-blank f.with_cr b bytes blank h.0, h.1)

joined_text : (end fold folds last tail : List ℕ) → ((end ++ fold) ++ folds ++ last) ++ tail ≡ end ++ (fold ++ ((folds ++ last) ++ tail))
joined_text end fold folds last tail = simp append_assoc

-- the physical lines of a line and of what follows it
lines_of : (bytes : List ℕ) (fs : List Fold) (with_cr : Bool) (tail : List ℕ) → AreFolds bytes fs with_cr →
    physical_lines (bytes ++ ((flat_map fold_text fs ++ line_end with_cr) ++ tail)) ≡ bytes ∷ (map fold_line fs ++ physical_lines tail)
lines_of bytes [] with_cr tail h = one_line with_cr bytes tail h
lines_of bytes (f ∷ fs) with_cr tail h =
    ap (λ t. physical_lines (bytes ++ t)) (joined_text (line_end f.with_cr) (f.blank ∷ f.bytes) (flat_map fold_text fs) (line_end with_cr) tail)
    ∙ one_line f.with_cr bytes ((f.blank ∷ f.bytes) ++ ((flat_map fold_text fs ++ line_end with_cr) ++ tail)) h.0
    ∙ ap (λ lines. bytes ∷ lines) (lines_of (f.blank ∷ f.bytes) fs with_cr tail (folds-blank f.blank f.bytes fs with_cr h.1.0 h.1.1))

all_lines : (ws : List Written) → AllByRecursion IsWritten ws → physical_lines (flat_map written_text ws) ≡ flat_map physical_of ws ++ ([] ∷ [])
all_lines [] h = refl
all_lines (w ∷ ws) h =
    ap physical_lines (append_assoc w.first (flat_map fold_text w.folds ++ line_end w.with_cr) (flat_map written_text ws))
    ∙ lines_of w.first w.folds w.with_cr (flat_map written_text ws) h.0.folds
    ∙ ap (λ lines. w.first ∷ (map fold_line w.folds ++ lines)) (all_lines ws h.1)
    ∙ ap (λ lines. w.first ∷ lines) (sym (append_assoc (map fold_line w.folds) (flat_map physical_of ws) ([] ∷ [])))

-- each fold has its blank
blanks : (bytes : List ℕ) (fs : List Fold) (with_cr : Bool) → AreFolds bytes fs with_cr → AllByRecursion (λ f. is_blank f.blank ≡ true) fs
blanks bytes [] with_cr h = tt
blanks bytes (f ∷ fs) with_cr h = (h.1.0, blanks f.bytes fs with_cr h.1.1)

-- a line is joined of its first bytes and its folds, where what follows does not go on with it
joins : (n : ℕ) (bytes : List ℕ) (fs : List Fold) (rest : List (List ℕ)) → AllByRecursion (λ f. is_blank f.blank ≡ true) fs →
    ((m : ℕ) → goes_on (numbered m rest) ≡ false) →
    joined (numbered n (bytes ∷ (map fold_line fs ++ rest)))
    ≡ record { number = n; bytes = bytes ++ flat_map (λ f. f.bytes) fs; folded = is_folded fs } ∷ joined (numbered (n + 1 + length fs) rest)
joins n bytes [] rest h ends = rw (ends (n + 1))
    (ap (λ b. record { number = n; bytes = b; folded = false } ∷ joined (numbered (n + 1) rest)) (sym (append-nil bytes))
    ∙ ap (λ m. record { number = n; bytes = bytes ++ []; folded = false } ∷ joined (numbered m rest)) (omega arith))
joins n bytes (f ∷ fs) rest h ends = rw (h.0, joins (n + 1) (fold_line f) fs rest h.1 ends)
    (ap (λ m. record { number = n; bytes = bytes ++ (f.bytes ++ flat_map (λ f. f.bytes) fs); folded = true } ∷ joined (numbered m rest)) (omega arith))

-- what follows a line begins with no blank
ends : (ws : List Written) → AllByRecursion IsWritten ws → (m : ℕ) → goes_on (numbered m (flat_map physical_of ws ++ ([] ∷ []))) ≡ false
ends [] h m = refl
ends (w ∷ ws) h m = h.0.front

is_some : (bytes : List ℕ) → bytes ≢ [] → not (is_empty bytes) ≡ true
is_some [] h = absurd (h refl)
is_some (b ∷ bs) h = refl

unfolds : (n : ℕ) (ws : List Written) → AllByRecursion IsWritten ws →
    filter is_line (joined (numbered n (flat_map physical_of ws ++ ([] ∷ [])))) ≡ folded_lines n ws
unfolds n [] h = refl
unfolds n (w ∷ ws) h =
    ap (λ lines. filter is_line (joined (numbered n (w.first ∷ lines)))) (append_assoc (map fold_line w.folds) (flat_map physical_of ws) ([] ∷ []))
    ∙ ap (filter is_line) (joins n w.first w.folds (flat_map physical_of ws ++ ([] ∷ [])) (blanks w.first w.folds w.with_cr h.0.folds) (ends ws h.1))
    ∙ rw (is_some (folded_bytes w) h.0.some)
    (ap (λ lines. record { number = n; bytes = folded_bytes w; folded = is_folded w.folds } ∷ lines) (unfolds (n + 1 + length w.folds) ws h.1))

pub unfolding-folds : (file : List ℕ) (ws : List Written) → AllByRecursion IsWritten ws →
    without_mark file ≡ flat_map written_text ws → unfolded file ≡ folded_lines 1 ws
unfolding-folds file ws h e = ap (λ bytes. lines_from 1 bytes) e ∙ ap (λ lines. filter is_line (joined (numbered 1 lines))) (all_lines ws h) ∙ unfolds 1 ws h
