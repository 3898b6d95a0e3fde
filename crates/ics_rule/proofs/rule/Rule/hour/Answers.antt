use Rattle.std.proofs.Common.{◌∙◌, ap, sym}
use Rattle.std.proofs.lemmas.Bool.{and_parts}
use Rattle.ics_period.specs.EffectiveRules.{effective}
use Rattle.ics_rule.proofs.HourLemmas.{held_times}
use Rattle.ics_rule.proofs.rule.Rule.hour.Goals as goal

pub returns-then-keeps_ends : goal.returns-then-keeps_ends
returns-then-keeps_ends c =
    let both = and_parts c.skips_hours.result c.is_empty.result c.if-coarse.true in
    held_times (c.self.invariant.0 ∙ ap effective c.self.view_is) record {
      early = c.requires;
      coarse = sym c.skips_hours.ensures ∙ both.0;
      free = sym c.is_empty.ensures ∙ both.1;
      ends = c.keeps_ends.ensures c.if-keeps_ends.true;
    }
