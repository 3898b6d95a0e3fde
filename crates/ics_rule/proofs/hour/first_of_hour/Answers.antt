use Rattle.std.proofs.Common.{◌∙◌, ap, sym, arith}
use Rattle.ics_period.specs.EffectiveRules.{effective}
use Rattle.ics_rule.proofs.HourLemmas.{left_out}
use Rattle.ics_rule.proofs.hour.first_of_hour.Goals as goal

pub returns-then-not-lets : goal.returns-then-not-lets
returns-then-not-lets c = left_out c.args.rule.now (c.rule.invariant.0 ∙ ap effective c.rule.view_is) c.args.hour (omega (arith, c.requires.hour))
    (omega (arith, c.requires.start, c.if-start-from.true)) (sym c.lets.ensures ∙ c.if-not-lets.true)
