use Rattle.std.proofs.Common.{◌<◌}
use Rattle.ics_rule.specs.Inner.Quiet.{NoneChosen}
use Rattle.ics_fields.specs.Locals.{calendar_end}
use Rattle.ics_rule.proofs.quiet.next_by_date.Given as goal

abbrev pub invariant-loop-steps : goal.invariant-loop-steps
invariant-loop-steps l = record {
  none : NoneChosen l.search.parts.now l.search.start l.from l.at;
  inside : l.at < calendar_end;
}
