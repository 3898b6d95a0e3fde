use Rattle.std.proofs.Common.{Bool, List, Some}
use Rattle.std.proofs.lemmas.Result.{IfOk-weaker}
use Rattle.ics_text.specs.ContentLines.{content_of}
use Rattle.ics_text.specs.ReadLines.{TakesRead}
use Rattle.ics_text.specs.Unfolded.{Line}
use Rattle.ics_components.specs.Inner.BareLines.{GoesBare, StepsBare}
use Rattle.ics_components.specs.Known.{is_known}
use Rattle.ics_components.specs.Inner.PartsPass.{here}
use Rattle.ics_components.proofs.BareLines.{passed_bare, taken_bare}
use Rattle.ics_components.proofs.uid_search.UidSearch.take_next.Goals as goal

pub returns-in-PassedOver : goal.returns-in-PassedOver
returns-in-PassedOver c = λ lines rest passed. passed_bare _ lines rest c.args.self.now.path (rw c.in-PassedOver.is at passed)

pub returns-in-Whole : goal.returns-in-Whole
returns-in-Whole c =
    let line : Line = c.in-Whole.line in
    let path = c.args.self.now.path in
    let behind = c.take_line-bare.new.self.path in
    IfOk-weaker c.take_line-bare.result (λ bare. StepsBare bare (here line.number (content_of line.bytes) path) path behind)
    (λ bare. (lines rest : List Line) → TakesRead is_known lines (Some c.args.line) rest → GoesBare bare lines rest path behind)
    (λ (bare : Bool) s lines rest taken. taken_bare bare line lines rest path behind (rw c.in-Whole.is at taken) s)
    (rw (← c.number.ensures, ← c.bytes.ensures) c.take_line-bare.ensures)
