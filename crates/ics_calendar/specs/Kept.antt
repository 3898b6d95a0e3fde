-- WHAT A FILE SAYS AND GIVES where some texts of its events are not kept: the same, with the texts that are kept alone.
use Rattle.std.specs.Prelude.{Result, Ok, Err}
use Rattle.ics_components.specs.declared.fault.Fault.{Fault}
use Rattle.ics_file.specs.File.{FileSaid}
use Rattle.ics_file.specs.Kept.{kept_said}
use Rattle.ics_values.specs.KeptTexts.{KeptTexts}
use Rattle.ics_calendar.specs.Files.{UnresolvedSaid}
use Rattle.ics_calendar.specs.Parts.{Given}

abbrev pub kept_answer : KeptTexts → Result FileSaid Fault → Result FileSaid Fault
kept_answer keep (Ok said) = Ok (kept_said keep said)
kept_answer keep (Err fault) = Err fault

abbrev pub kept_unresolved : KeptTexts → UnresolvedSaid → UnresolvedSaid
kept_unresolved keep file = record file { says = λ files. kept_answer keep (file.says files) }

abbrev pub kept_given : KeptTexts → Given → Given
kept_given keep given = record given { said = kept_said keep given.said }
