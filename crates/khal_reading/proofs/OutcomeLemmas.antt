-- What a file comes to.
use Rattle.std.proofs.Common.{◌≡◌, ℕ, Bool, true, false, List, [], ◌++◌, Some, None, Result, Ok, Err, All, if◌then◌else◌, refl, sym, ap, ◌∙◌, subst}
use Rattle.std.specs.BTreeSet.{contains}
use Rattle.std.specs.Cmp.Lexicographic.{slice_cmp, nat_list_eq_equiv}
use Rattle.std.specs.List.{list_any}
use Rattle.std.specs.Ordering.{nat_cmp}
use Rattle.std.proofs.lemmas.Map.Views.{All-from_any}
use Rattle.ics_calendar.specs.Files.{file_of, wanted_names}
use Rattle.ics_calendar.specs.Kept.{kept_answer}
use Rattle.ics_components.specs.declared.fault.Fault.{Fault}
use Rattle.ics_file.specs.File.{FileSaid}
use Rattle.ics_event.specs.Kept.{KeptTexts}
use Rattle.ics_calendar.specs.GivenFiles.{GivenFiles}
use Rattle.ics_calendar.specs.Parts.{file_gives, names_for_parts}
use Rattle.ics_calendar.specs.ZoneTables.{given_by}
use Rattle.khal_reading.specs.declared.answered.Answered.{Answered}
use Rattle.khal_reading.specs.Asked.{given_files, is_unread, Asked}
use Rattle.khal_reading.specs.Gives.{FileGives, Read, ReadGives, given_by_file, gives_of, in_parts, kept_gives, kept_read, unread, whole}
use Rattle.khal_ports.specs.Answers.{contents_of}
use Rattle.khal_ports.specs.Finds.{FindAnswer}
use Rattle.khal_ports.specs.declared.fault.SourceFault.{SourceFault}
use Rattle.khal_ports.specs.declared.fault.SourceFault.TheVariants.{Device, TooLarge, Memory}
use Rattle.khal_reading.specs.Inner.Learned.{Knows, Learns, LearnsSome, Settles, WantedCount}
use Rattle.khal_reading.specs.Inner.Outcomes.{EndsReading, IsOutcome}
use Rattle.khal_reading.proofs.AskedLemmas.{any-kept}
use Rattle.khal_reading.proofs.LearnedLemmas.{learns-none, learns-nothing}

-- zone files that agree on the names that a file wants give it one meaning, whether a run goes on behind faults or not
abbrev pub OnlyWantedCount : Type 0
OnlyWantedCount = (files others : GivenFiles) (file : List ℕ) → All (λ name. files name ≡ others name) (wanted_names file) →
    file_of files file ≡ file_of others file

abbrev pub OnlyNamesForPartsCount : Type 0
OnlyNamesForPartsCount = (files others : GivenFiles) (name file : List ℕ) → All (λ n. files n ≡ others n) (names_for_parts name file) →
    file_gives files name file ≡ file_gives others name file

abbrev pub AllCount : Bool → Type 0
AllCount keep_going = (read : Read) → WantedCount (gives_of keep_going read)

pub all-count : OnlyWantedCount → OnlyNamesForPartsCount → (keep_going : Bool) → AllCount keep_going
all-count count parts keep_going (name, None) = λ files others agree. refl
all-count count parts true (name, Some bytes) = λ files others agree. ap in_parts (parts files others name bytes agree)
all-count count parts false (name, Some bytes) = λ files others agree. ap whole (count files others bytes agree)

-- with the texts that are kept they give it one meaning too
pub kept-count : (keep : KeptTexts) (file : FileGives) → WantedCount file → WantedCount (kept_gives keep file)
kept-count keep file count = λ files others agree. ap (kept_read keep) (count files others agree)

-- what is kept of an accepted file
pub whole-kept : (keep : KeptTexts) (answer : Result FileSaid Fault) → whole (kept_answer keep answer) ≡ kept_read keep (whole answer)
whole-kept keep (Ok said) = refl
whole-kept keep (Err fault) = refl

abbrev pub unread_or : Bool → ReadGives → ReadGives
unread_or lacks gives = if lacks then unread else gives

-- the names that a file wants are asked for
pub asked-settles : {Z : Type 0} (finds : Z → List ℕ → FindAnswer → Z → Type 0) (asked : List Asked) (file : FileGives) (before after : Z)
    (answered : Answered) → WantedCount file → Learns finds asked file.wants before after answered →
    (lacks : Bool) → lacks ≡ list_any (contains (slice_cmp nat_cmp) answered.unread) file.wants
    → {outcome : ReadGives} → outcome ≡ unread_or lacks (file.gives (given_by answered.files)) → Settles finds asked file before after answered outcome
asked-settles finds asked file before after answered count learned lacks is said =
    let all : List Asked = asked ++ learned.more in
    let tested : lacks ≡ list_any (is_unread all) file.wants =
    is ∙ any-kept (contains (slice_cmp nat_cmp) answered.unread) (is_unread all) file.wants (λ name _. learned.knows.unread name) in
    let files : file.gives (given_by answered.files) ≡ file.gives (given_files all) =
    count (given_by answered.files) (given_files all)
    (All-from_any nat_list_eq_equiv (λ name. given_by answered.files name ≡ given_files all name) file.wants (λ name _. learned.knows.files name)) in
    record { learns = learned; outcome_is = rw (← tested, ← files) said }

-- what is settled of a file is settled of what gives the same
pub settles-as : {Z : Type 0} (finds : Z → List ℕ → FindAnswer → Z → Type 0) (asked : List Asked) {file other : FileGives} → file ≡ other
    → WantedCount other → {before after : Z} {answered : Answered} {outcome : ReadGives}
    → (WantedCount file → Settles finds asked file before after answered outcome) → Settles finds asked other before after answered outcome
settles-as finds asked same count {before} {after} {answered} {outcome} settles =
    subst (λ (f : FileGives). Settles finds asked f before after answered outcome) same (settles (subst WantedCount (sym same) count))

-- What a file comes to that is read, and what is asked for where it comes to nothing.
pub is-outcome : {Z : Type 0} {finds : Z → List ℕ → FindAnswer → Z → Type 0} {keep_going : Bool} {keep : KeptTexts} {name bytes : List ℕ}
    {before after : Z} {known known' : Answered} {file : FileGives} {outcome : ReadGives} → file ≡ given_by_file keep_going name bytes
    → ((asked : List Asked) → Knows asked known → Settles finds asked (kept_gives keep file) before after known' outcome)
    → IsOutcome finds keep_going keep name (Ok bytes) before after known known' outcome
is-outcome {finds = finds} {keep = keep} {bytes = bytes} {before} {after} {known' = known'} {outcome = outcome} same settles = record {
  given = Some bytes;
  some = refl;
  settles = λ asked k. subst (λ (f : FileGives). Settles finds asked (kept_gives keep f) before after known' outcome) same (settles asked k);
}

pub ends-behind : {Z : Type 0} {finds : Z → List ℕ → FindAnswer → Z → Type 0} {keep_going : Bool} {name bytes : List ℕ} {before after : Z}
    {known : Answered} {file : FileGives} → file ≡ given_by_file keep_going name bytes
    → ((asked : List Asked) → Knows asked known → LearnsSome finds asked file.wants before after)
    → EndsReading finds keep_going name (Ok bytes) before after known
ends-behind {finds = finds} {bytes = bytes} {before} {after} same learns = EndsReading.AfterRead (Some bytes) refl
    (λ asked k. subst (λ (f : FileGives). LearnsSome finds asked f.wants before after) same (learns asked k))

-- a file that is not read
pub ends-unread : {Z : Type 0} (finds : Z → List ℕ → FindAnswer → Z → Type 0) {keep_going : Bool} {name : List ℕ} (state : Z) {known : Answered}
    (fault : SourceFault) → EndsReading finds keep_going name (Err fault) state state known
ends-unread finds state Memory = EndsReading.InRead refl refl
ends-unread finds state Device = EndsReading.AfterRead None refl (λ asked k. learns-nothing finds asked [] state)
ends-unread finds state TooLarge = EndsReading.AfterRead None refl (λ asked k. learns-nothing finds asked [] state)

pub unread-outcome : {Z : Type 0} (finds : Z → List ℕ → FindAnswer → Z → Type 0) {keep_going : Bool} {keep : KeptTexts} {name : List ℕ} {state : Z}
    {known : Answered} {fault : SourceFault} {outcome : ReadGives} → (outcome ≡ unread) × (contents_of (Err fault) ≡ Some None)
    → IsOutcome finds keep_going keep name (Err fault) state state known known outcome
unread-outcome finds {state = state} {known = known} told = record {
  given = None;
  some = told.1;
  settles = λ asked k. record { learns = learns-none finds asked state known k; outcome_is = told.0 };
}
