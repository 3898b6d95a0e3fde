use Rattle.std.proofs.Common.{map, option_map}
use Rattle.ics_listing.specs.Entry.{entry_of}
use Rattle.ics_listing.specs.Inner.Tournament.{turn_of}
use Rattle.ics_listing.proofs.LeadLemmas.{holds-cmp, turn-at}
use Rattle.ics_listing.proofs.TournamentLemmas.{lead-by}
use Rattle.ics_listing.proofs.UidOrderLemmas.{head-order, held-at}
use Rattle.ics_listing.proofs.tournament.goes_first.Goals as goal

pub compare-requires : goal.compare-requires
compare-requires g c =
    let leads = c.args.leads.now in
    let arm = c.in-Some-Some in
    head-order c.args.sorted_from c.args.one c.args.other (map (λ x. option_map entry_of x.head) leads) c.order_by_place-uids.result c.requires.sorted
    (held-at (λ x. x.head) leads c.args.one c.index-leads-one.result c.requires.one arm.is-0)
    (held-at (λ x. x.head) leads c.args.other c.index-leads-other.result c.requires.other arm.is-1)
    c.order_by_place-uids.ensures

pub returns-in-Some-Some : goal.returns-in-Some-Some
returns-in-Some-Some g c =
    let leads = c.args.leads.now in
    let arm = c.in-Some-Some in
    let by = lead-by (map (λ x. turn_of x.unread x.head) leads) c.args.one c.args.other
    (turn-at (λ x. x.unread) (λ x. x.head) (λ x. g.F.Coming.coming x.feed) (λ x. x.ahead) leads c.args.one c.index-leads-one.result c.requires.one arm.is-0)
    (turn-at (λ x. x.unread) (λ x. x.head) (λ x. g.F.Coming.coming x.feed) (λ x. x.ahead) leads c.args.other c.index-leads-other.result c.requires.other
    arm.is-1) in
    cc (by, holds-cmp (entry_of arm.a) (entry_of arm.b), c.compare.ensures, c.cmp.ensures, c.then.ensures, c.is_lt.ensures)
