-- Bytes that are cut behind a line end: the lines of the whole are those of both parts.
use Rattle.std.proofs.Common.{◌≡◌, ℕ, ◌+◌, ◌<◌, Bool, true, false, ◌==◌, ◌&&◌, List, [], ◌∷◌, ◌++◌, length, refl, sym, ap, ◌∙◌, arith}
use Rattle.std.proofs.Common.{append-nil, filter, inl, inr, if◌then◌else◌}
use Rattle.std.proofs.lemmas.Bool.{cases_Bool, eqb-true}
use Rattle.std.proofs.lemmas.List.Elements.{filter-append}
use Rattle.ics_text.specs.Bytes.{begins, cr, is_blank, lf}
use Rattle.ics_text.specs.Cuts.{ends_line}
use Rattle.ics_text.specs.Parts.{last_number}
use Rattle.ics_text.specs.Unfolded.{Line, attach, begins_with_fold, goes_on, is_line, joined, lines_from, numbered, onto_first, physical_lines, unfolded}
use Rattle.ics_text.specs.Unfolded.{without_mark}
use Rattle.ics_text.proofs.Joins.{goes_on-physical}

-- the physical lines that end in the bytes
abbrev ended : List ℕ → List (List ℕ)
ended [] = []
ended (b ∷ bs) =
    let later = ended bs in
    if b == lf then [] ∷ later
    else if b == cr && begins (λ c. c == lf) bs then later
    else onto_first b later

onto-some : (b : ℕ) (lines : List (List ℕ)) → 0 < length (onto_first b lines)
onto-some b [] = omega arith
onto-some b (line ∷ lines) = omega arith

ended-some : (head : List ℕ) → ends_line head ≡ true → 0 < length (ended head)
ended-some [] ends = cc
ended-some (b ∷ []) ends = rw ends (omega arith)
ended-some (b ∷ c ∷ cs) ends = elim (cases_Bool (b == lf)) [
  | inl is ↦ rw is (omega arith)
  | inr not ↦ rw not (elim (cases_Bool ((b == cr) && (c == lf))) [
    | inl h ↦ rw h (ended-some (c ∷ cs) ends)
    | inr h ↦ rw h (onto-some b (ended (c ∷ cs)))
  ])
]

onto-append : (b : ℕ) (lines more : List (List ℕ)) → 0 < length lines → onto_first b (lines ++ more) ≡ onto_first b lines ++ more
onto-append b [] more some = absurd (omega (arith, some))
onto-append b (line ∷ lines) more some = refl

physical-apart : (head rest : List ℕ) → ends_line head ≡ true → physical_lines (head ++ rest) ≡ ended head ++ physical_lines rest
physical-apart [] rest ends = cc
physical-apart (b ∷ []) rest ends = rw ends refl
physical-apart (b ∷ c ∷ cs) rest ends = elim (cases_Bool (b == lf)) [
  | inl is ↦ rw is (ap (λ lines. [] ∷ lines) (physical-apart (c ∷ cs) rest ends))
  | inr not ↦ rw not (elim (cases_Bool ((b == cr) && (c == lf))) [
    | inl h ↦ rw h (physical-apart (c ∷ cs) rest ends)
    | inr h ↦ rw h
        (ap (onto_first b) (physical-apart (c ∷ cs) rest ends)
        ∙ onto-append b (ended (c ∷ cs)) (physical_lines rest) (ended-some (c ∷ cs) ends))
  ])
]

-- behind the last line end an empty line begins
whole-ended : (head : List ℕ) → ends_line head ≡ true → physical_lines head ≡ ended head ++ [] ∷ []
whole-ended head ends = ap physical_lines (sym (append-nil head)) ∙ physical-apart head [] ends

length-ended : (lines : List (List ℕ)) → length (lines ++ [] ∷ []) ≡ length lines + 1
length-ended [] = refl
length-ended (line ∷ lines) = omega (arith, length-ended lines)

numbered-append : (n : ℕ) (lines more : List (List ℕ)) → numbered n (lines ++ more) ≡ numbered n lines ++ numbered (n + length lines) more
numbered-append n [] more = ap (λ m. numbered m more) (omega arith)
numbered-append n (line ∷ lines) more =
    ap (λ later. record { number = n; bytes = line; folded = false } ∷ later)
    (numbered-append (n + 1) lines more ∙ ap (λ m. numbered (n + 1) lines ++ numbered m more) (omega arith))

attach-append : (line : Line) (lines more : List Line) → 0 < length lines → attach line (lines ++ more) ≡ attach line lines ++ more
attach-append line [] more some = absurd (omega (arith, some))
attach-append line (next ∷ lines) more some = refl

joined-some : (line : Line) (lines : List Line) → 0 < length (joined (line ∷ lines))
joined-some line lines = elim (cases_Bool (goes_on lines)) [ inl h ↦ rw h (omega arith) | inr h ↦ rw h (omega arith) ]

joined-append : (lines more : List Line) → goes_on more ≡ false → joined (lines ++ more) ≡ joined lines ++ joined more
joined-append [] more plain = refl
joined-append (line ∷ []) more plain = rw plain refl
joined-append (line ∷ next ∷ lines) more plain = elim (cases_Bool (begins is_blank next.bytes)) [
  | inl h ↦ rw h
      (ap (attach line) (joined-append (next ∷ lines) more plain) ∙ attach-append line (joined (next ∷ lines)) (joined more) (joined-some next lines))
  | inr h ↦ rw h (ap (λ later. line ∷ later) (joined-append (next ∷ lines) more plain))
]

module _ (head rest : List ℕ) (ends : ends_line head ≡ true) where
  -- the lines that end in the first bytes, the first with number n
  abbrev lines_ended : ℕ → List Line
  lines_ended n = filter is_line (joined (numbered n (ended head)))

  lines-by : (n : ℕ) (more : List (List ℕ)) → goes_on (numbered (n + length (ended head)) more) ≡ false →
      filter is_line (joined (numbered n (ended head ++ more))) ≡ lines_ended n ++ filter is_line (joined (numbered (n + length (ended head)) more))
  lines-by n more plain =
      ap (λ lines. filter is_line (joined lines)) (numbered-append n (ended head) more)
      ∙ ap (filter is_line) (joined-append (numbered n (ended head)) (numbered (n + length (ended head)) more) plain)
      ∙ filter-append is_line (joined (numbered n (ended head))) (joined (numbered (n + length (ended head)) more))

  lines-head : (n : ℕ) → lines_from n head ≡ lines_ended n
  lines-head n =
      ap (λ lines. filter is_line (joined (numbered n lines))) (whole-ended head ends) ∙ lines-by n ([] ∷ []) refl ∙ append-nil (lines_ended n)

  behind-last : (breaks : ℕ) → breaks + 1 + length (ended head) ≡ last_number (record { breaks = breaks; bytes = head })
  behind-last breaks = omega (arith, ap length (whole-ended head ends), length-ended (ended head))

  pub lines-apart : (breaks : ℕ) → begins is_blank rest ≡ false →
      lines_from (breaks + 1) (head ++ rest) ≡ lines_from (breaks + 1) head ++ lines_from (last_number (record { breaks = breaks; bytes = head })) rest
  lines-apart breaks plain =
      let n : ℕ = breaks + 1 in
      ap (λ lines. filter is_line (joined (numbered n lines))) (physical-apart head rest ends)
      ∙ lines-by n (physical_lines rest) (goes_on-physical (n + length (ended head)) rest ∙ plain)
      ∙ ap (λ lines. lines ++ lines_from (n + length (ended head)) rest) (sym (lines-head n))
      ∙ ap (λ m. lines_from n head ++ lines_from m rest) (behind-last breaks)

-- THE BYTE ORDER MARK has no LF, so it does not go beyond the first bytes.
abbrev pub IsMarked : List ℕ → List ℕ → Type 0
IsMarked head rest = (without_mark (head ++ rest) ≡ without_mark head ++ rest) × (ends_line (without_mark head) ≡ true)

is_lf : (b : ℕ) → (b == lf) ≡ true → b ≡ 10
is_lf b e = eqb-true b 10 e

-- a third byte of the mark is no LF
behind_mark : (t : Bool) (d : ℕ) (ds : List ℕ) → ends_line (d ∷ ds) ≡ true → (t && ((191 == d) && true)) ≡ true → ends_line ds ≡ true
behind_mark true d [] ends h = let e = is_lf d ends in rw e at h
behind_mark true d (e ∷ es) ends h = ends
behind_mark false d ds ends h = cc

pub marked : (head rest : List ℕ) → ends_line head ≡ true → IsMarked head rest
marked [] rest ends = cc
marked (b ∷ []) rest ends = let e = is_lf b ends in rw e (refl, refl)
marked (b ∷ c ∷ []) rest ends =
    let e = is_lf c ends in rw e (elim (cases_Bool (239 == b)) [ inl h ↦ rw h (refl, refl) | inr h ↦ rw h (refl, refl) ])
marked (b ∷ c ∷ d ∷ ds) rest ends = elim (cases_Bool ((239 == b) && ((187 == c) && ((191 == d) && true)))) [
  | inl h ↦ rw h (refl, by_second (239 == b) h)
  | inr h ↦ rw h (refl, ends)
]
  where
    by_second : (t : Bool) → (t && ((187 == c) && ((191 == d) && true))) ≡ true → ends_line ds ≡ true
    by_second true h = behind_mark (187 == c) d ds ends h
    by_second false h = cc

begins-append : (p : ℕ → Bool) (head rest : List ℕ) → ends_line head ≡ true → begins p (head ++ rest) ≡ begins p head
begins-append p [] rest ends = cc
begins-append p (b ∷ bs) rest ends = refl

pub fold-apart : (head rest : List ℕ) → ends_line head ≡ true → begins_with_fold (head ++ rest) ≡ begins_with_fold head
fold-apart head rest ends =
    let m = marked head rest ends in ap (begins is_blank) m.0 ∙ begins-append is_blank (without_mark head) rest m.1

pub unfolded-apart : (head rest : List ℕ) → ends_line head ≡ true → begins is_blank rest ≡ false → unfolded (head ++ rest)
    ≡ unfolded head ++ lines_from (last_number (record { breaks = 0; bytes = without_mark head })) rest
unfolded-apart head rest ends plain =
    let m = marked head rest ends in ap (lines_from 1) m.0 ∙ lines-apart (without_mark head) rest m.1 0 plain
