use Rattle.std.proofs.Common.{rules, ◌≡◌, ◌<◌, get_or, length, map, None, sym, ◌∙◌, ap, arith, option_map}
use Rattle.std.proofs.lemmas.Bool.{ltb-false}
use Rattle.std.proofs.lemmas.List.{get_or_past, get_or-map, length-map}
use Rattle.ics_listing.specs.Entry.{entry_of}
use Rattle.ics_listing.specs.Inner.Tournament.{first_place, held_by, turn_of}
use Rattle.ics_listing.proofs.LeadLemmas.{turn-held}
use Rattle.ics_listing.proofs.merge.Merge.first.Goals as goal

pub returns-in_err-get : goal.returns-in_err-get
returns-in_err-get g c =
    let leads = c.args.self.now.leads.items in
    let turns = map (λ x. turn_of x.unread x.head) c.args.self.now.leads.items in
    let first : c.first_place.result ≡ first_place c.args.self.now.winners.items = c.first_place.ensures ∙ ap first_place c.deref-2.ensures.value in
    let past = ltb-false c.first_place.result (length c.deref.result.now) (sym c.in_err-get.ensures.lookup.0) in
    let lent = ap length c.deref.ensures.value in
    ap (option_map entry_of) c.from_residual.ensures
    ∙ sym (ap held_by (get_or_past turns (first_place c.args.self.now.winners.items) None
    (omega (arith, first, past, lent, length-map leads (λ x. turn_of x.unread x.head)))))

pub returns : goal.returns
returns g c =
    let leads = c.args.self.now.leads.items in
    let turns = map (λ x. turn_of x.unread x.head) c.args.self.now.leads.items in
    let lead = c.in_ok-get.field-0.now in
    let first : c.first_place.result ≡ first_place c.args.self.now.winners.items = c.first_place.ensures ∙ ap first_place c.deref-2.ensures.value in
    let within : c.first_place.result < length c.deref.result.now = search rules in
    let read : c.in_ok-get.field-0.now ≡ get_or c.deref.result.now c.first_place.result c.in_ok-get.field-0.now = search rules in
    let lent = ap length c.deref.ensures.value in
    let there = read ∙ ap (λ xs. get_or xs c.first_place.result lead) c.deref.ensures.value in
    sym (ap held_by (get_or-map (λ x. turn_of x.unread x.head) leads c.first_place.result lead None (omega (arith, within, lent))
    ∙ ap (λ x. turn_of x.unread x.head) (sym there)) ∙ turn-held lead.unread lead.head (g.F.Coming.coming lead.feed) lead.ahead)
    ∙ ap (λ i. held_by (get_or turns i None)) first
