use Rattle.std.proofs.Common.{slice_get, sym, ap, subst, ◌∙◌}
use Rattle.ics_starts.specs.SeriesStarts.{rule_left, IsReady}
use Rattle.ics_starts.proofs.RuleStepLemmas.{first-left}
use Rattle.ics_starts.proofs.series.first_of_rule.Goals as goal

pub returns-in-Some : goal.returns-in-Some
returns-in-Some c =
    let ready = subst IsReady c.in-Some.is c.requires in
    c.first.ensures ∙ (first-left c.in-Some.starts ready ∙ ap (λ o. slice_get (rule_left o) 0) (sym c.in-Some.is))
