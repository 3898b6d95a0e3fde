-- What a file wants and gives, by how far it is read.
use Rattle.std.proofs.Common.{◌≡◌, ◌⊎◌, inl, inr, ℕ, Bool, true, false, cond, is_none, List, [], ◌∷◌, refl, Some, None, Ok, Err}
use Rattle.ics_text.specs.Unfolded.{begins_with_fold}
use Rattle.ics_components.specs.EventLines.{with_uids}
use Rattle.ics_components.specs.declared.fault.Fault.{Fault}
use Rattle.ics_components.specs.FirstFault.{first_fault}
use Rattle.ics_components.specs.PlacedLines.{placed}
use Rattle.ics_file.specs.File.{FileSaid}
use Rattle.ics_calendar.specs.Files.{file_of, wanted_names}
use Rattle.ics_calendar.specs.GivenFiles.{GivenFiles}
use Rattle.ics_calendar.specs.Parts.{file_gives, is_parted, names_for_parts, nothing_said, parts_give, parts_want}
use Rattle.ics_calendar.specs.UnresolvedFiles.{IsFirstOf}

none-both : (t : Bool) (none : List (List ℕ)) → cond t none none ≡ none
none-both true none = refl
none-both false none = refl

module _ (name bytes : List ℕ) where
  -- WHAT IT WANTS.
  pub wants-whole : first_fault (placed bytes) ≡ None → names_for_parts name bytes ≡ wanted_names bytes
  wants-whole e = rw e refl

  pub wants-parted : (fault : Fault) → IsFirstOf bytes fault → is_parted bytes ≡ true → names_for_parts name bytes ≡ parts_want (with_uids name (placed bytes))
  wants-parted fault first p = by_found first.found
    where
      by_found : (begins_with_fold bytes ≡ true) ⊎ (first_fault (placed bytes) ≡ Some fault) →
          names_for_parts name bytes ≡ parts_want (with_uids name (placed bytes))
      by_found (inl t) = let never : false ≡ true = rw t at p in cc
      by_found (inr e) = rw (e, p) refl

  pub wants-refused : (fault : Fault) → IsFirstOf bytes fault → is_parted bytes ≡ false → names_for_parts name bytes ≡ []
  wants-refused fault first p = rw (p, first.unasked) (none-both (is_none (first_fault (placed bytes))) [])

  -- WHAT IT GIVES.
  pub gives-all : (files : GivenFiles) (said : FileSaid) → file_of files bytes ≡ Ok said → file_gives files name bytes ≡ record { said = said; faults = [] }
  gives-all files said e = rw e refl

  pub gives-parts : (files : GivenFiles) (fault : Fault) → file_of files bytes ≡ Err fault → is_parted bytes ≡ true →
      file_gives files name bytes ≡ parts_give files (with_uids name (placed bytes)) fault
  gives-parts files fault e p = rw (e, p) refl

  pub gives-none : (files : GivenFiles) (fault : Fault) → file_of files bytes ≡ Err fault → is_parted bytes ≡ false →
      file_gives files name bytes ≡ record { said = nothing_said; faults = fault ∷ [] }
  gives-none files fault e p = rw (e, p) refl
