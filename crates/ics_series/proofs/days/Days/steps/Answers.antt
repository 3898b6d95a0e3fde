use Rattle.std.proofs.Common.{arith, map, filter}
use Rattle.std.proofs.Math.Bridge.{le_prop}
use Rattle.std.proofs.Math.Logic.{∥∥₁_elim}
use Rattle.ics_file.specs.File.{said_by}
use Rattle.ics_series.specs.Ahead.{agenda_coming}
use Rattle.ics_days.specs.Today.{is_today}
use Rattle.ics_starts.specs.Clocks.{display_clock}
use Rattle.ics_series.specs.DaySteps.{agenda_sources, scope_in}
use Rattle.ics_days.specs.NearDays.{last_near}
use Rattle.ics_series.proofs.AheadLemmas.{first-day, steps-most}
use Rattle.ics_series.proofs.days.Days.steps.Goals as goal

pub returns-clause-most : goal.returns-clause-most
returns-clause-most c = λ list bound ahead h.
    let self = c.args.self.now in
    let scope = scope_in (map said_by self.files.now) (display_clock self.display.now) self.bounds self.window self.after in
    ∥∥₁_elim c.args.self.now.masters le_prop (λ are.
    let reach = first-day (last_near self.window self.bounds) {day = self.today.day}
    (filter (λ o. is_today (display_clock c.args.self.now.display.now) c.args.self.now.window c.args.self.now.today.day o) (agenda_coming self.today.agenda))
    ahead.later ahead.is
    (λ p m. ((ahead.listing.exact p).0 m).later) in
    let few = steps-most scope self.today.day (agenda_sources self.today.agenda) are self.today.agenda.apart.1.1 (agenda_coming self.today.agenda)
    c.steps.result c.steps.ensures.most self.today.looked self.before self.begun self.past list reach h in
    omega (arith, c.saturating_add.ensures, few))
