-- What the pass over a file's lines says is what the file is and wants.
use Rattle.std.proofs.Common.{⊎_elim, ◌≡◌, ◌⊎◌, subst, ℕ, Bool, true, false, List, [], ◌∷◌, refl, sym, ap, ◌∙◌, cond, Option, Some, None, Result, Ok, Err}
use Rattle.std.proofs.Common.{inl, inr}
use Rattle.ics_text.specs.Unfolded.{Rises, unfolded, begins_with_fold}
use Rattle.ics_components.specs.declared.fault.FileFault.{FileFault}
use Rattle.ics_components.specs.declared.fault.FileFault.TheVariants.{Memory, At}
use Rattle.ics_calendar.specs.UnresolvedFiles.{IsFaultOf, IsFirstOf}
use Rattle.ics_file.specs.File.{FileSaid}
use Rattle.ics_values.specs.KeptTexts.{KeptTexts}
use Rattle.ics_components.specs.Faults.{stands}
use Rattle.ics_calendar.specs.LaterFaults.{stands_later}
use Rattle.ics_calendar.specs.GivenFiles.{GivenFiles}
use Rattle.ics_components.specs.declared.fault.Fault.{Fault}
use Rattle.ics_components.specs.FirstFault.{Round, first_fault, fault_at_end, bad_fold}
use Rattle.ics_calendar.specs.Files.{later_fault, UnresolvedSaid, IsFile, file_of, unresolved_of, decide, said_of, wanted_on, SaysFile}
use Rattle.ics_calendar.specs.Settled.{unresolved_by, known_in}
use Rattle.ics_components.specs.ParsedFiles.{nothing_parsed}
use Rattle.ics_components.specs.ParsedFileSeen.{ParsedFileSeen}
use Rattle.ics_components.specs.Kept.{SaysKept}
use Rattle.ics_components.specs.Pass.{pass, bottom, parsed_of, unless}
use Rattle.ics_components.specs.PlacedLines.{placed}
use Rattle.ics_calendar.specs.Wanted.{zones_with}
use Rattle.ics_components.proofs.Firsts.{finds, finds-none, found-at-end, found-on-line}
use Rattle.ics_components.proofs.PassLemmas.{pass-whole}
use Rattle.ics_calendar.proofs.Settles.{unresolved-is}

-- THE UNRESOLVED FILE, by what its first round gathers or finds.
abbrev pub unresolved_at : Result ParsedFileSeen Fault → UnresolvedSaid
unresolved_at (Ok g) = unresolved_by (known_in g.zones) g.events g.checks
unresolved_at (Err fault) = record { wants = []; says = λ files. Err fault }

pub parsed : (file : List ℕ) → Rises 0 (unfolded file) → unresolved_of file ≡ unresolved_at (parsed_of file)
parsed file r = by_first (begins_with_fold file) (first_fault (placed file)) refl
  where
    by_first : (t : Bool) (o : Option Fault) → first_fault (placed file) ≡ o →
        record {
          wants = cond t [] (wanted_on o (placed file));
          says = λ files. cond t (Err bad_fold) (decide o (later_fault files (placed file)) (said_of files (placed file)));
        } ≡ unresolved_at (cond t (Err bad_fold) (pass (bottom ∷ []) None nothing_parsed (unfolded file)))
    by_first true o e = refl
    by_first false (Some fault) e = rw (pass-whole (unfolded file) r, e)
    by_first false None e = rw (pass-whole (unfolded file) r, e) (sym (unresolved-is (unfolded file) r e))

-- and the fault that the first round finds first, if it finds one
abbrev Found : Bool → Option Fault → Result ParsedFileSeen Fault → Type 0
Found t o (Ok g) = o ≡ None
Found t o (Err fault) = (t ≡ true) ⊎ (o ≡ Some fault)

found-in : (t : Bool) (o : Option Fault) (g : ParsedFileSeen) → Found t o (cond t (Err bad_fold) (unless o g))
found-in true o g = inl refl
found-in false None g = refl
found-in false (Some fault) g = inr refl

first-parsed : (file : List ℕ) → Rises 0 (unfolded file) → Found (begins_with_fold file) (first_fault (placed file)) (parsed_of file)
first-parsed file r = rw (pass-whole (unfolded file) r) (found-in _ _ _)

pub whole-parsed : (file : List ℕ) (g : ParsedFileSeen) → Rises 0 (unfolded file) → parsed_of file ≡ Ok g → first_fault (placed file) ≡ None
whole-parsed file g r e = subst (Found (begins_with_fold file) (first_fault (placed file))) e (first-parsed file r)

pub first-fault : (file : List ℕ) (fault : Fault) → Rises 0 (unfolded file) → parsed_of file ≡ Err fault → IsFirstOf file fault
first-fault file fault r e =
    let d : unresolved_of file ≡ unresolved_at (Err fault) = parsed file r ∙ ap unresolved_at e in
    record {
      refused = λ files. ap (λ (d : UnresolvedSaid). d.says files) d;
      unasked = ap (λ (d : UnresolvedSaid). d.wants) d;
      found = subst (Found (begins_with_fold file) (first_fault (placed file))) e (first-parsed file r);
    }

pub fault-parsed : (keep : KeptTexts) (file : List ℕ) (fault : FileFault) → Rises 0 (unfolded file) → SaysKept keep (Err fault) (parsed_of file) →
    IsFaultOf file fault
fault-parsed keep file Memory r e = tt
fault-parsed keep file (At line kind) r e = first-fault file (record { line = line; kind = kind }) r e

-- a fault whatever zone files are given is the answer with each
pub fault-says : (file : List ℕ) (fault : FileFault) (files : GivenFiles) → IsFaultOf file fault → SaysFile (Err fault) (file_of files file)
fault-says file Memory files h = tt
fault-says file (At line kind) files h = h.refused files

-- WHAT A FILE IS, by its first faults.
module _ (files : GivenFiles) (file : List ℕ) where
  abbrev later : Round
  later = stands_later (zones_with files (placed file))

  decided : (t : Bool) (first second : Option Fault) → begins_with_fold file ≡ t → first_fault (placed file) ≡ first →
      later_fault files (placed file) ≡ second →
      IsFile files file (cond t (Err bad_fold) (decide first second (said_of files (placed file))))
  decided true first second b e g = inl (b, refl)
  decided false (Some f) second b e g = inr (b, inl (finds stands fault_at_end [] (placed file) f e))
  decided false None (Some f) b e g =
      let none = finds-none stands fault_at_end [] (placed file) e in
      inr (b, inr (none.0, none.1, ⊎_elim (λ r. r) (λ r. let n : None ≡ Some f = r.1 in cc) (finds later (λ b. None) [] (placed file) f g)))
  decided false None None b e g =
      let none = finds-none stands fault_at_end [] (placed file) e in
      (b, none.0, none.1, (finds-none later (λ b. None) [] (placed file) g).0, refl)

  pub is-file : IsFile files file (file_of files file)
  is-file = decided _ _ _ refl refl refl

  -- and it is nothing else
  pub file-is : (answer : Result FileSaid Fault) → IsFile files file answer → file_of files file ≡ answer
  file-is (Err f) (inl h) = rw h.0 (ap (λ (g : Fault). Err g) (sym h.1))
  file-is (Err f) (inr (b, inl (inl r))) = rw (b, found-on-line stands fault_at_end [] (placed file) f r)
  file-is (Err f) (inr (b, inl (inr r))) = rw (b, found-at-end stands fault_at_end [] (placed file) r.0 r.1)
  file-is (Err f) (inr (b, inr r)) =
      rw (b, found-at-end stands fault_at_end [] (placed file) r.0 r.1, found-on-line later (λ b. None) [] (placed file) f r.2)
  file-is (Ok seen) h =
      rw (h.0, found-at-end stands fault_at_end [] (placed file) h.1 h.2, found-at-end later (λ b. None) [] (placed file) h.3 refl)
      (ap (λ (s : FileSaid). Ok s) (sym h.4))
