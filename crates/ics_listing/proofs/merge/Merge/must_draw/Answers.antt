use Rattle.std.proofs.Common.{map, get_or, None, sym, ◌∙◌, ap, option_map}
use Rattle.ics_listing.specs.Entry.{entry_of}
use Rattle.ics_listing.specs.Inner.Tournament.{first_place}
use Rattle.ics_listing.proofs.LeadLemmas.{held-turn}
use Rattle.ics_listing.proofs.UidOrderLemmas.{last-order}
use Rattle.ics_listing.proofs.merge.Merge.must_draw.Goals as goal

pub compare-requires : goal.compare-requires
compare-requires g c =
    let self = c.args.self.now in
    let at = c.first_place-lead.ensures ∙ ap first_place c.deref.ensures.value in
    let held = held-turn (λ x. x.unread) (λ x. x.head) self.leads.items (first_place self.winners.items) (entry_of c.in-Some-Some.first)
    (sym c.first.ensures ∙ ap (option_map entry_of) c.in-Some-Some.is-1) in
    last-order (λ x. x.head) (λ x. g.F.Coming.coming x.feed) self.sorted_from self.source c.first_place-lead.result self.leads.items c.in-Some-Some.last
    c.order_by_place-uids.result
    (rw c.in-Some-Some.is-0 at self.last_sorted)
    (ap (λ i. get_or (map (λ x. option_map entry_of x.head) self.leads.items) i None) at ∙ held.1)
    c.order_by_place-uids.ensures
