use Rattle.std.proofs.Common.{◌-◌, length, rules}
use Rattle.ics_series.proofs.MarkLemmas.{none-added}
use Rattle.ics_series.proofs.marks.add_places.Goals as goal

pub returns : goal.returns
returns c = none-added c.args.count (c.args.count - length c.args.marks.now.items) c.args.marks.now.items c.requires (search rules)
