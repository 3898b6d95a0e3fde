-- The first round over a file that is cut: what it says of the whole is what it says of the other bytes behind the first.
use Rattle.std.proofs.Common.{◌≡◌, ℕ, ◌+◌, Bool, true, false, cond, List, [], ◌∷◌, ◌++◌, refl, sym, ap, ◌∙◌, append_assoc, append-nil}
use Rattle.std.proofs.Common.{Result, Ok, Err, IfOk, None, subst}
use Rattle.std.proofs.lemmas.Bool.{cond_both, false_from_ne_true}
use Rattle.ics_text.specs.Bytes.{begins, is_blank}
use Rattle.ics_text.specs.Cuts.{ends_line}
use Rattle.ics_text.specs.Parts.{Part, last_number}
use Rattle.ics_text.specs.Unfolded.{Line, begins_with_fold, lines_from, unfolded, without_mark}
use Rattle.ics_values.specs.KeptTexts.{KeptTexts}
use Rattle.ics_components.specs.declared.fault.FaultKind.{FaultKind}
use Rattle.ics_components.specs.declared.fault.FileFault.{FileFault}
use Rattle.ics_components.specs.declared.fault.FileFault.TheVariants as file_fault
use Rattle.ics_components.specs.declared.file_reader.FileReader.{FileReader}
use Rattle.ics_components.specs.declared.first_round.FirstRound.{FirstRound}
use Rattle.ics_components.specs.declared.taken_lines.Place.{Place}
use Rattle.ics_components.specs.declared.taken_lines.Place.TheVariants.{Start, Behind, At}
use Rattle.ics_components.specs.declared.taken_lines.TakenLines.{TakenLines}
use Rattle.ics_components.specs.FileReading.{HasRead, says_at, says_then}
use Rattle.ics_components.specs.FirstFault.{bad_fold}
use Rattle.ics_components.specs.Inner.GoingBehind.{GoesOver}
use Rattle.ics_components.specs.Inner.TakenParts.{BeginsPart, SaysOver, part_at}
use Rattle.ics_components.specs.Kept.{SaysKept}
use Rattle.ics_components.specs.KeptPass.{kept_of, kept_pass, pass_on}
use Rattle.ics_components.specs.ParsedFileSeen.{ParsedFileSeen}
use Rattle.ics_components.specs.ParsedFiles.{IsSoundParsed, nothing_parsed}
use Rattle.ics_components.specs.Pass.{Says, at_end, bottom, parsed_of, pass, unless}
use Rattle.ics_components.proofs.KeptPass.{gathered-says, kept_result, pass-kept, refused-says, sound-kept}
use Rattle.ics_components.proofs.SoundPass.{sound-pass}

-- THE LINES OF A PART are taken, and it is the last.
pub over-err : (keep : KeptTexts) (result : Result (Unit {0}) FileFault) (fault : FileFault) (lines : List Line) (round behind : FirstRound)
    (seen : Unit {0} → ParsedFileSeen) → result ≡ Err fault → GoesOver keep (Err fault) lines round behind → Says seen result (pass_on keep round lines)
over-err keep result fault lines round behind seen is over = rw is (by_fault fault over)
  where
    by_fault : (fault : FileFault) → GoesOver keep (Err fault) lines round behind → Says seen (Err fault) (pass_on keep round lines)
    by_fault file_fault.Memory over = tt
    by_fault (file_fault.At number kind) over = ap (pass_on keep round) (sym (append-nil lines)) ∙ over []

pub over-end : (keep : KeptTexts) (result : Result (Unit {0}) FileFault) (breaks : ℕ) (lines : List Line) (round behind : FirstRound) →
    GoesOver keep (Ok breaks) lines round behind → Says (λ _. behind.parsed) result (unless (at_end behind.stack behind.last) behind.parsed) →
    Says (λ _. behind.parsed) result (pass_on keep round lines)
over-end keep result breaks lines round behind over says =
    subst (Says (λ _. behind.parsed) result) (sym (over []) ∙ ap (pass_on keep round) (append-nil lines)) says

-- THE FIRST BYTES of a file.
pub begins-start : (taken : TakenLines) (bytes : List ℕ) (part : Part) → taken.place ≡ Start → part ≡ record { breaks = 0; bytes = without_mark bytes } →
    (begins_with_fold bytes ≡ true → ⊥) → BeginsPart (Ok part) bytes taken
begins-start taken bytes part at is plain =
    let none = false_from_ne_true (begins_with_fold bytes) plain in
    rw (at, is) (refl, (λ fault e. cc), λ more. rw none refl)

-- WHERE A FILE IS CUT.
pub record Cuts : Type 0 where
  pub lines : (breaks : ℕ) (head rest : List ℕ) → ends_line head ≡ true → begins is_blank rest ≡ false → lines_from (breaks + 1) (head ++ rest)
      ≡ lines_from (breaks + 1) head ++ lines_from (last_number (record { breaks = breaks; bytes = head })) rest
  pub unfolded : (head rest : List ℕ) → ends_line head ≡ true → begins is_blank rest ≡ false → unfolded (head ++ rest)
      ≡ unfolded head ++ lines_from (last_number (record { breaks = 0; bytes = without_mark head })) rest
  pub fold : (head rest : List ℕ) → ends_line head ≡ true → begins_with_fold (head ++ rest) ≡ begins_with_fold head

module _ (cuts : Cuts) (head rest : List ℕ) (ends : ends_line head ≡ true) (plain : begins is_blank rest ≡ false) where
  cut-said : (keep : KeptTexts) (round : FirstRound) (place : Place) (more : List Line) →
      says_at keep round place (head ++ rest) more ≡ says_at keep round place head (lines_from (last_number (part_at place head)) rest ++ more)
  cut-said keep round Start more =
      let lines : unfolded (head ++ rest) ++ more ≡ unfolded head ++ (lines_from (last_number (part_at Start head)) rest ++ more) =
      ap (λ lines. lines ++ more) (cuts.unfolded head rest ends plain) ∙ append_assoc (unfolded head) _ more in
      λ i. cond (cuts.fold head rest ends i) (Err bad_fold) (pass_on keep round (lines i))
  cut-said keep round (Behind breaks) more =
      ap (pass_on keep round)
      (ap (λ lines. lines ++ more) (cuts.lines breaks head rest ends plain) ∙ append_assoc (lines_from (breaks + 1) head) _ more)
  cut-said keep round (At fault) more = refl

  pub taken-behind : (old new : TakenLines) (breaks : ℕ) → SaysOver (Ok breaks) head old new →
      says_then old (head ++ rest) ≡ says_at new.keep new.round (Behind breaks) rest []
  taken-behind old new breaks over =
      cut-said old.keep old.round old.place []
      ∙ over.2 (lines_from (last_number (part_at old.place head)) rest ++ [])
      ∙ (λ i. pass_on (sym over.0 i) new.round (lines_from (sym over.1 i) rest ++ []))

  pub taken-fault : (old new : TakenLines) (number : ℕ) (kind : FaultKind) → SaysOver (Err (file_fault.At number kind)) head old new →
      says_then old (head ++ rest) ≡ Err (record { line = number; kind = kind })
  taken-fault old new number kind over =
      cut-said old.keep old.round old.place [] ∙ over (lines_from (last_number (part_at old.place head)) rest ++ [])

-- WHAT IS KEPT of a file, as it is gathered.
kept-as : (keep : KeptTexts) (file : List ℕ) → kept_of keep file ≡ kept_result keep (parsed_of file)
kept-as keep file = by_test (begins_with_fold file)
  where
    by_test : (t : Bool) → cond t (Err bad_fold) (kept_pass keep (bottom ∷ []) None nothing_parsed (unfolded file))
        ≡ kept_result keep (cond t (Err bad_fold) (pass (bottom ∷ []) None nothing_parsed (unfolded file)))
    by_test true = refl
    by_test false = pass-kept keep (unfolded file) (bottom ∷ []) None nothing_parsed

parsed-sound : (file : List ℕ) → IfOk (parsed_of file) IsSoundParsed
parsed-sound file =
    cond_both (begins_with_fold file) (Err bad_fold) (pass (bottom ∷ []) None nothing_parsed (unfolded file)) (λ said. IfOk said IsSoundParsed) (λ fold. tt)
    (λ plain. sound-pass (unfolded file))

pub kept-says : (keep : KeptTexts) (file : List ℕ) (result : Result ParsedFileSeen FileFault) →
    Says (λ (parsed : ParsedFileSeen). parsed) result (kept_of keep file) → SaysKept keep result (parsed_of file) × IfOk result IsSoundParsed
kept-says keep file (Ok parsed) says =
    let whole = gathered-says keep parsed (parsed_of file) (sym (kept-as keep file) ∙ says) in
    (whole, rw whole.2 (sound-kept keep whole.0 (subst (λ said. IfOk said IsSoundParsed) whole.1 (parsed-sound file))))
kept-says keep file (Err file_fault.Memory) says = (tt, tt)
kept-says keep file (Err (file_fault.At number kind)) says =
    (refused-says keep (record { line = number; kind = kind }) (parsed_of file) (sym (kept-as keep file) ∙ says), tt)

pub finish-says : (keep : KeptTexts) (bytes rest : List ℕ) (reader : FileReader) (result : Result ParsedFileSeen FileFault) → HasRead keep bytes reader →
    rest ≡ reader.carry.items → Says (λ (parsed : ParsedFileSeen). parsed) result (says_then reader.taken rest) →
    SaysKept keep result (parsed_of bytes) × IfOk result IsSoundParsed
finish-says keep bytes rest reader result has is says =
    kept-says keep bytes result
    (subst (Says (λ (parsed : ParsedFileSeen). parsed) result)
    (ap (says_then reader.taken) (is ∙ sym (append-nil reader.carry.items)) ∙ sym (has.says []) ∙ ap (kept_of keep) (append-nil bytes)) says)
