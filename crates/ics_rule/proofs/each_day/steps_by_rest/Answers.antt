use Rattle.std.proofs.Common.{rules, ◌+◌, arith}
use Rattle.std.proofs.lemmas.List.Edits.{fill_by_more}
use Rattle.ics_rule.specs.Inner.OpenPeriods.{timely_on}
use Rattle.ics_rule.proofs.each_day.steps_by_rest.Goals as goal

pub loop-j-preserved : goal.loop-j-preserved
loop-j-preserved c = record {
  length = search rules;
  counted = rw c.steps_on-own.ensures.value (fill_by_more (λ k. timely_on c.args.search.now.parts.now c.args.search.now.first (c.args.from + k))
      c.loop-j.steps c.loop-j.j 0 (omega arith) c.loop-j.invariant.counted);
}
