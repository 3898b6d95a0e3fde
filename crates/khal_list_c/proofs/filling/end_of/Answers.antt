use Rattle.std.proofs.Common.{rules}
use Rattle.khal_list_c.specs.Clocks.{clock_said}
use Rattle.khal_list_c.proofs.Instances.{none-from}
use Rattle.khal_list_c.proofs.filling.end_of.Goals as goal

pub returns-clause-none : goal.returns-clause-none
returns-clause-none c =
    none-from c.args.said.now.rule (clock_said c.args.clock.now) c.end_by.result c.min.result c.args.before (search rules) c.requires.before (search rules)
