-- No event of a part without a fault of the first round has two UIDs.
use Rattle.std.proofs.Common.{◌≡◌, ℕ, List, None, subst}
use Rattle.std.specs.List.{Contains}
use Rattle.ics_components.specs.EventLines.{all_events, has_uid, uids_of, with_uids}
use Rattle.ics_components.specs.FirstFault.{first_fault}
use Rattle.ics_components.specs.PlacedLines.{Placed, placed}
use Rattle.ics_calendar.specs.GivenFiles.{GivenFiles}
use Rattle.ics_calendar.specs.Parts.{Part, lines_of, parts_of}
use Rattle.ics_calendar.proofs.OneUid.{AtMostOne, each-part, one, was-kept}
use Rattle.ics_calendar.proofs.PartLaws.{is-here}

-- an event of a part is one of the file
pub part-within : (lines : List Placed) (part : Part) (event : Placed) → Contains (parts_of lines) part → Contains part event →
    Contains (all_events lines) event
part-within lines part event k h =
    each-part lines (λ part. Contains part event → Contains (all_events lines) event) (λ uid u h. (was-kept (has_uid lines uid) (all_events lines) event h).1)
    (λ own i none h. subst (Contains (all_events lines)) (is-here own event h) i) part k h

pub one-each : (files : GivenFiles) (title file : List ℕ) (part : Part) →
    let lines : List Placed = with_uids title (placed file) in
    Contains (parts_of lines) part → first_fault (lines_of lines part) ≡ None → (event : Placed) → Contains part event → AtMostOne (uids_of lines event)
one-each files title file part k free event h =
    one files title file part event h (part-within (with_uids title (placed file)) part event k h) free
