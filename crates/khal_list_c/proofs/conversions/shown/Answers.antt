use Rattle.std.proofs.Common.{rules}
use Rattle.khal_list_c.proofs.Instances.{shown_between}
use Rattle.khal_list_c.proofs.conversions.shown.Goals as goal

pub numbered-requires-clause-from : goal.numbered-requires-clause-from
numbered-requires-clause-from c =
    let low = (shown_between c.args.zone.now c.args.instant c.seconds-seconds.result c.requires (search rules)).0 in search (rules, low)

pub numbered-requires-clause-to : goal.numbered-requires-clause-to
numbered-requires-clause-to c =
    let high = (shown_between c.args.zone.now c.args.instant c.seconds-seconds.result c.requires (search rules)).1 in search (rules, high)
