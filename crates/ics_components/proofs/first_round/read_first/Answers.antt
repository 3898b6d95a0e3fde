use Rattle.std.proofs.Common.{◌≡◌, [], ◌+◌, true, length, arith, rules, ap, subst}
use Rattle.std.proofs.lemmas.Bool.{false≢true}
use Rattle.ics_text.specs.Parts.{Part, lines_left}
use Rattle.ics_text.specs.Unfolded.{begins_with_fold, unfolded}
use Rattle.ics_components.specs.declared.first_round.FirstRound.{FirstRound}
use Rattle.ics_components.specs.Inner.FrontedRound.{IsReadOf}
use Rattle.ics_components.specs.Parted.{Reads}
use Rattle.ics_components.specs.PlacedLines.{placed, placed_from}
use Rattle.ics_components.proofs.KeptPass.{file-gathered, file-refused, sound-gathered}
use Rattle.ics_components.proofs.ReadTo.{front-of, no-front-of}
use Rattle.ics_components.proofs.first_round.read_first.Goals as goal

pub read-requires-clause-lines : goal.read-requires-clause-lines
read-requires-clause-lines c =
    let part = c.in-Ok.part in
    let none = ap (λ (p : Part). p.breaks) c.in-Ok.ensures.part in
    (part.breaks + length part.bytes + 1, omega (arith, c.requires, c.in-Ok.ensures.shorter, none), c.part_numbers_within.ensures.lines part)

-- what is gathered is what is kept of what the pass gathers, and sound
pub returns-in-Ok-read : goal.returns-in-Ok-read
returns-in-Ok-read c =
    let plain : begins_with_fold c.args.bytes.now ≡ true → ⊥ = λ folded. false≢true (c.in-Ok.ensures.refused.1 folded) in
    let said = rw (c.new-round.ensures, c.in-Ok.ensures.part, c.in-Ok-read.is) at c.read.ensures.says in
    rw c.into_parsed.ensures (
      file-gathered c.args.keep c.args.bytes.now plain c.read.new.self.parsed said,
      sound-gathered c.args.keep (unfolded c.args.bytes.now) c.read.new.self.parsed said,
    )

-- the first fault, and what is gathered before it
pub returns-in-Err-At : goal.returns-in-Err-At
returns-in-Err-At c =
    let plain : begins_with_fold c.args.bytes.now ≡ true → ⊥ = λ folded. false≢true (c.in-Ok.ensures.refused.1 folded) in
    let round : FirstRound = c.new-round.result in
    let fault = c.in-Err-At.field-0-is in
    let said = rw fault at (rw (c.in-Err-At.is, c.new-round.ensures, c.in-Ok.ensures.part) at c.read.ensures.says) in
    let to = rw fault at (rw c.in-Err-At.is at c.read.ensures.front []) in (
      file-refused c.args.keep c.args.bytes.now plain _ said,
      λ all.
          front-of (placed c.args.bytes.now) round c.read.new.self.parsed _
          (subst (λ (p : Part). IsReadOf (placed_from [] (lines_left p)) round c.read.new.self.parsed) c.in-Ok.ensures.part (to all))
          (ap (λ (r : FirstRound). Reads r.stack r.parsed) c.new-round.ensures) (rw c.into_parsed-in-Err-At.ensures at c.of-front.ensures),
    )

-- a file that begins with a fold
pub returns-in_default : goal.returns-in_default
returns-in_default c = (search rules, λ all. rw c.none.ensures (no-front-of (placed c.args.bytes.now)))
