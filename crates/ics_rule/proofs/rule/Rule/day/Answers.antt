use Rattle.std.proofs.Common.{◌∙◌, ap, sym}
use Rattle.ics_period.specs.Recurrence.{Recurrence}
use Rattle.ics_period.specs.EffectiveRules.{effective}
use Rattle.ics_fields.specs.Locals.{number}
use Rattle.ics_rule.proofs.DayLemmas.{times_kept, none_kept}
use Rattle.ics_rule.proofs.rule.Rule.day.Goals as goal

pub returns-then-lets_day : goal.returns-then-lets_day
returns-then-lets_day c = times_kept c.args.self.now c.args.day (rw c.from-from.ensures at (c.is_whole.ensures c.if-not-is_whole.false))
    (c.self.invariant.0 ∙ ap effective c.self.view_is) (c.number-start.ensures.value ∙ ap (λ (r : Recurrence). number r.start) c.self.view_is)
    (sym c.lets_day.ensures ∙ c.if-lets_day.true) c.times_of.ensures

pub returns : goal.returns
returns c = rw (c.new.ensures, c.new-2.ensures, c.new-3.ensures)
    (none_kept c.args.self.now c.args.day (rw c.from-from.ensures at (c.is_whole.ensures c.if-not-is_whole.false))
    (c.self.invariant.0 ∙ ap effective c.self.view_is) (c.number-start.ensures.value ∙ ap (λ (r : Recurrence). number r.start) c.self.view_is)
    (sym c.lets_day.ensures ∙ c.if-lets_day.false))
