use Rattle.ics_components.proofs.FileParts.{Cuts, taken-behind, taken-fault}
use Rattle.ics_components.proofs.taken_lines.TakenLines.take.Goals.{in-Ok, in-Err-At}
use Rattle.ics_components.proofs.taken_lines.TakenLines.take.Goals as goal

pub returns-clause-says : goal.returns-clause-says
returns-clause-says c =
    let cuts : Cuts = record { lines = c.lines_apart.ensures; unfolded = c.unfolded_apart.ensures.lines; fold = c.unfolded_apart.ensures.fold } in
    elim c.match-lines.branch [
      | in-Ok w ↦ rw w.self-is (λ rest ends plain.
          taken-behind cuts c.args.head.now rest ends plain c.args.self.now c.lines.new.self w.in-Ok.breaks (rw w.in-Ok.is at c.lines.ensures.over))
      | in-Err-At w ↦ rw w.self-is (λ rest ends plain.
          taken-fault cuts c.args.head.now rest ends plain c.args.self.now c.lines.new.self w.in-Err-At.line w.in-Err-At.kind
          (rw w.in-Err-At.field-0-is at (rw w.in-Err-At.is at c.lines.ensures.over)))
    ]
