use Rattle.ics_zone.proofs.SixtyLemmas.{shifted_here, shifted_next}
use Rattle.ics_zone.proofs.sixty.shifted.Goals as goal

pub returns-clause-here : goal.returns-clause-here
returns-clause-here c =
    shifted_here c.args.here c.args.next c.args.from c.front.result c.front-2.result c.requires c.front.ensures.members c.front-2.ensures.members
    c.front-2.ensures.bound

pub returns-clause-next : goal.returns-clause-next
returns-clause-next c =
    shifted_next c.args.here c.args.next c.args.from c.front.result c.front-2.result c.requires c.front.ensures.members c.front-2.ensures.members
    c.front-2.ensures.bound
