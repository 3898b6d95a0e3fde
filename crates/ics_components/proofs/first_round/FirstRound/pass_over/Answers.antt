use Rattle.std.proofs.Common.{Some, refl}
use Rattle.ics_components.proofs.PassedLines.{passed-on, refused-there}
use Rattle.ics_components.proofs.first_round.FirstRound.pass_over.Goals as goal

pub returns-in-Ok : goal.returns-in-Ok
returns-in-Ok c = λ keep lines rest passed.
    passed-on keep c.args.number lines rest c.args.self.now (record c.args.self.now { last = Some c.args.number }) passed c.in-Ok.ensures refl

pub returns-in-Err : goal.returns-in-Err
returns-in-Err c = λ keep lines rest passed. refused-there keep c.args.number lines rest c.args.self.now c.in-Err.refused passed c.in-Err.ensures
