-- How far the first round has read. What it has gathered is what it reads of the lines before the one where it stands.
use Rattle.std.proofs.Common.{◌≡◌, ℕ, Bool, true, false, cond, List, [], ◌∷◌, ◌++◌, refl, sym, ap, ◌∙◌, append_assoc, Result, Ok, Err}
use Rattle.std.specs.Prelude.{None, Some}
use Rattle.ics_text.specs.ContentLines.{Parts, content_of}
use Rattle.ics_text.specs.Unfolded.{Line, begins_with_fold, unfolded}
use Rattle.ics_values.specs.KeptTexts.{KeptTexts}
use Rattle.ics_components.specs.declared.fault.Fault.{Fault}
use Rattle.ics_components.specs.declared.first_round.FirstRound.{FirstRound}
use Rattle.ics_components.specs.declared.name.Name.{Name}
use Rattle.ics_components.specs.declared.refused.Refused.{Refused}
use Rattle.ics_components.specs.declared.refused.Refused.TheVariants as refused
use Rattle.ics_components.specs.FirstFault.{bad_fold}
use Rattle.ics_components.specs.Fronts.{IsFrontOf}
use Rattle.ics_components.specs.FrontSeen.{FrontSeen, no_front}
use Rattle.ics_components.specs.Inner.FrontedRound.{IsReadOf}
use Rattle.ics_components.specs.KeptPass.{kept_pass}
use Rattle.ics_components.specs.Inner.GoingBehind.{GoesBehind}
use Rattle.ics_components.specs.Known.{read_name}
use Rattle.ics_components.specs.Inner.Passing.{ReadsOn}
use Rattle.ics_components.specs.Inner.PartsPass.{here}
use Rattle.ics_components.specs.Lines.{Leaves, behind, fault_on, passing}
use Rattle.ics_components.specs.ParsedFileSeen.{ParsedFileSeen}
use Rattle.ics_components.specs.ParsedFiles.{and_line, nothing_parsed}
use Rattle.ics_components.specs.Parted.{LinesRead, Reads, read_behind, read_on}
use Rattle.ics_components.specs.Pass.{bottom, parsed_of, pass}
use Rattle.ics_components.specs.PlacedLines.{Placed, Open, named, path_behind, placed_from}
use Rattle.ics_components.proofs.Blocks.{read-append}
use Rattle.ics_components.proofs.PassedLines.{read-whole}

-- one line
pub goes_there : (keep : KeptTexts) (line : Line) (parts : Parts) (round next : FirstRound) → content_of line.bytes ≡ Some parts →
    fault_on (read_name keep parts) parts round.stack ≡ None → next.stack ≡ behind line.number (read_name keep parts) parts round.stack →
    next.parsed ≡ and_line line.number (passing (read_name keep parts) parts round.stack) round.parsed → next.last ≡ Some line.number →
    GoesBehind keep (Ok tt) line round next
goes_there keep line parts round next is sound stack parsed last = λ lines.
    rw (is, sound) (λ i. kept_pass keep (sym stack i) (sym last i) (sym parsed i) lines)

read-as : (n : Name) (line : Line) (parts : Parts) (round next : FirstRound) → named parts ≡ n → content_of line.bytes ≡ Some parts →
    fault_on n parts round.stack ≡ None → next.stack ≡ behind line.number n parts round.stack →
    next.parsed ≡ and_line line.number (passing n parts round.stack) round.parsed →
    read_on line.number (content_of line.bytes) (Reads round.stack round.parsed) ≡ Reads next.stack next.parsed
read-as n line parts round next own is sound stack parsed = rw (is, own, sound) (λ i. Reads (sym stack i) (sym parsed i))

pub reads_there : (keep : KeptTexts) (line : Line) (parts : Parts) (round next : FirstRound) → content_of line.bytes ≡ Some parts →
    fault_on (read_name keep parts) parts round.stack ≡ None → next.stack ≡ behind line.number (read_name keep parts) parts round.stack →
    next.parsed ≡ and_line line.number (passing (read_name keep parts) parts round.stack) round.parsed → ReadsOn keep (Ok tt) line round next
reads_there keep line parts round next is sound stack parsed = λ all.
    read-as (read_name keep parts) line parts round next (sym (read-whole keep parts all)) is sound stack parsed

pub reads_refused : (keep : KeptTexts) (why : Refused) (line : Line) (round next : FirstRound) → Leaves (Err why) round.parsed next.parsed →
    ReadsOn keep (Err why) line round next
reads_refused keep refused.Memory line round next kept = tt
reads_refused keep (refused.Fault kind) line round next kept = kept

-- from these lines on, of which the last are to come
pub record HasRead (path : List Open) (lines rest : List Line) (round now : FirstRound) : Type 0 where
  pub before : List Placed
  pub there : List Open
  pub parts : placed_from path lines ≡ before ++ placed_from there rest
  pub reads : read_behind (Reads round.stack round.parsed) before ≡ Reads now.stack now.parsed

pub begun : (path : List Open) (lines : List Line) (round : FirstRound) → HasRead path lines lines round round
begun path lines round = record { before = []; there = path; parts = refl; reads = refl }

pub one-further : (path : List Open) (lines rest : List Line) (line : Line) (round now next : FirstRound) →
    HasRead path lines (line ∷ rest) round now →
    read_on line.number (content_of line.bytes) (Reads now.stack now.parsed) ≡ Reads next.stack next.parsed → HasRead path lines rest round next
one-further path lines rest line round now next has on =
    let at : Placed = here line.number (content_of line.bytes) has.there in
    record {
      before = has.before ++ at ∷ [];
      there = path_behind at;
      parts = has.parts ∙ sym (append_assoc has.before (at ∷ []) (placed_from (path_behind at) rest));
      reads =
          read-append has.before (at ∷ []) (Reads round.stack round.parsed)
          ∙ ap (λ (read : LinesRead). read_on at.number at.content read) has.reads
          ∙ on;
    }

pub read-of : (path : List Open) (lines rest : List Line) (round now : FirstRound) (had : ParsedFileSeen) → HasRead path lines rest round now →
    had ≡ now.parsed → IsReadOf (placed_from path lines) round had
read-of path lines rest round now had has e = record {
  before = has.before;
  behind = placed_from has.there rest;
  parts = has.parts;
  frames = now.stack;
  reads = has.reads ∙ ap (Reads now.stack) (sym e);
}

-- what the pass says of a file that begins with no fold
pub read-said : (bytes : List ℕ) (said : Result ParsedFileSeen Fault) → (begins_with_fold bytes ≡ true → ⊥) →
    pass (bottom ∷ []) None nothing_parsed (unfolded bytes) ≡ said → parsed_of bytes ≡ said
read-said bytes said plain e = by_test (begins_with_fold bytes) plain
  where
    by_test : (t : Bool) → (t ≡ true → ⊥) → cond t (Err bad_fold) (pass (bottom ∷ []) None nothing_parsed (unfolded bytes)) ≡ said
    by_test false plain = e
    by_test true plain = absurd (plain refl)

-- NOTHING that is gathered is a front of every file.
pub no-front-of : (lines : List Placed) → IsFrontOf lines no_front
no-front-of lines = record {
  before = [];
  behind = lines;
  parts = refl;
  frames = bottom ∷ [];
  had = nothing_parsed;
  reads = refl;
  events = refl;
  checks = refl;
}

-- what the first round has gathered of a file at its first fault
pub front-of : (lines : List Placed) (round : FirstRound) (had : ParsedFileSeen) (front : FrontSeen) → IsReadOf lines round had →
    Reads round.stack round.parsed ≡ Reads (bottom ∷ []) nothing_parsed → front ≡ record { events = had.events; checks = had.checks } →
    IsFrontOf lines front
front-of lines round had front is begins e = record {
  before = is.before;
  behind = is.behind;
  parts = is.parts;
  frames = is.frames;
  had = had;
  reads = ap (λ (read : LinesRead). read_behind read is.before) (sym begins) ∙ is.reads;
  events = ap (λ (f : FrontSeen). f.events) e;
  checks = ap (λ (f : FrontSeen). f.checks) e;
}
