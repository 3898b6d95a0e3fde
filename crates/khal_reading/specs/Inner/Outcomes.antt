-- What the code keeps of a read.
use Rattle.std.specs.Prelude.{◌≡◌, ℕ, Bool, List, [], map, Some, None, Err}
use Rattle.std.specs.Option.{option_map}
use Rattle.ics_file.specs.File.{said_by}
use Rattle.ics_event.specs.Kept.{KeptTexts}
use Rattle.ics_components.specs.declared.fault.Fault.{Fault}
use Rattle.ics_calendar.specs.UnresolvedFiles.{unresolved_said}
use Rattle.khal_reading.specs.declared.outcome.Outcome.{Outcome}
use Rattle.khal_reading.specs.declared.outcome.HalfRead.{HalfRead}
use Rattle.khal_reading.specs.declared.outcome.HalfRead.TheVariants.{Whole, InParts, Faulty}
use Rattle.khal_reading.specs.declared.refusal.Refusal as code
use Rattle.khal_reading.specs.declared.refusal.Refusal.TheVariants.{At, Unread}
use Rattle.khal_reading.specs.declared.answered.Answered.{Answered}
use Rattle.khal_ports.specs.declared.fault.SourceFault.TheVariants.{Memory}
use Rattle.khal_ports.specs.Answers.{Answer, Contents, contents_of}
use Rattle.khal_reading.specs.Asked.{Asked}
use Rattle.khal_reading.specs.Errors.{Refusal}
use Rattle.khal_reading.specs.Gives.{FileGives, ReadGives, gives_in_parts, gives_of, kept_gives, read_wants, whole}
use Rattle.khal_ports.specs.Finds.{FindAnswer}
use Rattle.khal_reading.specs.Inner.Learned.{Knows, LearnsSome, Settles}

abbrev pub refusal_of : code.Refusal → Refusal
refusal_of (At line kind) = Some (record { line = line; kind = kind })
refusal_of Unread = None

abbrev pub refusal_by : Fault → code.Refusal
refusal_by fault = At fault.line fault.kind

abbrev pub seen_outcome : Outcome → ReadGives
seen_outcome outcome = record { file = option_map said_by outcome.file; refusals = map refusal_of outcome.refusals.items }

-- what a file gives that is read as far as no zone files are needed
abbrev pub half_gives : HalfRead → FileGives
half_gives (Whole unresolved) =
    record { wants = (unresolved_said unresolved).wants; gives = λ files. whole ((unresolved_said unresolved).says files) }
half_gives (InParts partial keep) = kept_gives keep (gives_in_parts partial.name partial.bytes)
half_gives (Faulty line kind) = record { wants = []; gives = λ files. whole (Err (record { line = line; kind = kind })) }

-- A read came to something, after the names that it wants were asked for.
pub record IsOutcome {Z : Type 0} (finds : Z → List ℕ → FindAnswer → Z →
    Type 0) (keep_going : Bool) (keep : KeptTexts) (name : List ℕ) (answer : Answer) (before after : Z) (known known' : Answered) (outcome : ReadGives) :
    Type 0 where
  pub given : Contents
  pub some : contents_of answer ≡ Some given
  pub settles : (asked : List Asked) → Knows asked known → Settles finds asked (kept_gives keep (gives_of keep_going (name, given))) before after known' outcome

-- It came to nothing: an allocation failed in it, or after it as the names were asked for that it wants.
pub data EndsReading {Z : Type 0} (finds : Z → List ℕ → FindAnswer → Z →
    Type 0) (keep_going : Bool) (name : List ℕ) (answer : Answer) (before after : Z) (known : Answered) : Type 0 where
  InRead : answer ≡ Err Memory → after ≡ before → EndsReading finds keep_going name answer before after known
  AfterRead : (given : Contents) → contents_of answer ≡ Some given
      → ((asked : List Asked) → Knows asked known → LearnsSome finds asked (read_wants keep_going (name, given)) before after) →
      EndsReading finds keep_going name answer before after known
