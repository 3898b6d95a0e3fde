use Rattle.ics_starts.proofs.RuleStepLemmas.{told-known}
use Rattle.ics_starts.proofs.rule_starts.RuleStarts.stretch_about.Goals as goal

pub returns-then-not-turns_often : goal.returns-then-not-turns_often
returns-then-not-turns_often c = told-known c.args.self.now c.event.view_is c.stretch.ensures
