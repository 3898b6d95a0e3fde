use Rattle.std.proofs.Common.{arith, map}
use Rattle.std.proofs.Math.Bridge.{le_prop}
use Rattle.std.proofs.Math.Logic.{∥∥₁_elim}
use Rattle.ics_file.specs.File.{said_by}
use Rattle.ics_starts.specs.Clocks.{display_clock}
use Rattle.ics_series.specs.DaySteps.{agenda_sources, scope_in}
use Rattle.ics_series.specs.Sources.{recurring}
use Rattle.ics_series.proofs.AheadLemmas.{day-masters, held-of-masters}
use Rattle.ics_series.proofs.days.Days.held.Goals as goal

pub returns-clause-most : goal.returns-clause-most
returns-clause-most c = λ masters all.
    let self = c.args.self.now in
    let scope = scope_in (map said_by self.files.now) (display_clock self.display.now) self.bounds self.window self.after in
    ∥∥₁_elim c.args.self.now.masters le_prop (λ are.
    let few = held-of-masters scope.files scope.display (recurring (agenda_sources self.today.agenda)) masters self.today.agenda.apart.1.1
    (day-masters scope self.today.day (recurring (agenda_sources self.today.agenda)) are) all in
    omega (arith, c.held.ensures, few))
