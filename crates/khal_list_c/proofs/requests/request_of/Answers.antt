use Rattle.std.proofs.Common.{rules, ◌≡◌, ℕ, ℤ, List, Some, Result, Ok, Err, subst, to_z, of_z, w64}
use Rattle.ics_zone.specs.ZoneSaid.{ZoneSaid}
use Rattle.khal_words.specs.Entries.{Entries, entries_of, AreTaken}
use Rattle.khal_list.specs.RequestOf.{AnswerIn, EntriesAnswer}
use Rattle.khal_list.specs.declared.request.Request.{Request}
use Rattle.khal_list.specs.declared.request_fault.RequestFault.{RequestFault}
use Rattle.khal_list.specs.declared.request_fault.RequestFault.TheVariants.{Usage, BadZone, BadWindow, BadToken, BadFormat, Memory}
use Rattle.khal_list_c.specs.Asked.{display_by, RequestBy}
use Rattle.khal_list_c.proofs.requests.request_of.Goals as goal

-- what the entries of words ask for in a zone is what the words ask for, if that is their zone
module _ (file : List ℕ) (words : List (List ℕ)) (now : ℤ) {entries : Entries} {said : ZoneSaid} (taken : AreTaken words)
    (is : entries ≡ entries_of words) (zone : Some said ≡ display_by file entries) where
  stated : (answer : Result Request RequestFault) → EntriesAnswer entries (Some said) now answer
      → EntriesAnswer (entries_of words) (display_by file (entries_of words)) now answer
  stated answer a = subst (λ e. EntriesAnswer e (display_by file e) now answer) is (subst (λ z. EntriesAnswer entries z now answer) zone a)

  answered : (answer : Result Request RequestFault) → AnswerIn entries said now answer → RequestBy file words now answer
  answered (Ok request) a = (taken, stated (Ok request) a)
  answered (Err (Usage text help)) a = absurd a
  answered (Err BadZone) a = absurd a
  answered (Err BadWindow) a = (taken, stated (Err BadWindow) a)
  answered (Err BadToken) a = (taken, stated (Err BadToken) a)
  answered (Err BadFormat) a = (taken, stated (Err BadFormat) a)
  answered (Err Memory) a = a

pub returns : goal.returns
returns c =
    let words = c.in_ok-words.ensures in
    let fits : to_z w64 (of_z w64 c.args.now) ≡ c.args.now = search rules in
    answered c.args.zone_file.now _ c.args.now words.0 words.1 c.in_ok-zone.ensures.zone c.request.result (rw fits at c.request.ensures)
