use Rattle.std.proofs.lemmas.Grind.{common_steps}
use Rattle.std.proofs.Common.{◌≡◌, ◌<◌, ◌++◌, All, length, map, set, take, drop, ap, arith, sym, subst, ◌∙◌, length-set, option_map}
use Rattle.std.proofs.lemmas.List.{length-map}
use Rattle.ics_listing.specs.Entry.{entry_cmp, entry_of}
use Rattle.ics_listing.specs.Merged.{merged}
use Rattle.ics_listing.specs.Inner.Tournament.{first_place, node_count, turn_of}
use Rattle.ics_listing.specs.Uids.{AreHeadsSorted}
use Rattle.ics_listing.proofs.LeadLemmas.{fewer-drawn, given-read, given-within, past-drawn, settled-drawn, to_come-drawn, to_come-kept, flat-set, near-drawn}
use Rattle.ics_listing.proofs.LeadLemmas.{near-kept, turns-kept, written-back}
use Rattle.ics_listing.proofs.UidOrderLemmas.{fewer-drawn-in, fewer-kept-in, fewer-last, fewer-sorted, heads-sorted}
use Rattle.ics_listing.proofs.merge.Merge.draw_first.Goals as goal

pub index_mut-requires : goal.index_mut-requires
index_mut-requires g c =
    let self = c.args.self.now in
    let within = given-within self.last (map (λ x. turn_of x.unread x.head) self.leads.items) (first_place self.winners.items) c.requires in
    let is = c.first_place-lead.ensures ∙ ap first_place c.deref.ensures.value in
    omega (arith, within, is, length-map self.leads.items (λ x. turn_of x.unread x.head))

pub invariant_of-self : goal.invariant_of-self
invariant_of-self g c =
    let self = c.args.self.now in
    let old = c.index_mut.result.now in
    let new = c.draw.new.self in
    let lead = c.first_place-lead.result in
    let long = length-set self.leads.items lead new in
    let fewer = fewer-kept-in (λ x. x.head) (λ x. g.F.Coming.coming x.feed) old new self.leads.items lead c.index_mut.ensures.value c.in_err-draw.ensures.head
    c.in_err-draw.ensures.rest in
    record {
      counted = self.counted ∙ sym (ap node_count long);
      within = subst (λ n. All (λ l. l < n) self.winners.items) (sym long) self.within;
      settled =
          rw (turns-kept (λ x. x.unread) (λ x. x.head) (λ x. g.F.Coming.coming x.feed) self.leads.items lead old new c.index_mut.ensures.value
          c.in_err-draw.ensures.unread c.in_err-draw.ensures.head) self.settled;
      follows = rw (to_come-kept (λ x. x.unread) (λ x. x.head) (λ x. g.F.Coming.coming x.feed) self.leads.items lead old new c.index_mut.ensures.value self.last
          c.in_err-draw.ensures.head c.in_err-draw.ensures.rest) self.follows;
      near =
          near-kept (λ x. x.head) (λ x. g.F.Coming.coming x.feed) (λ x. g.F.Coming.near x.feed) self.last self.leads.items lead old new
          c.in_err-draw.ensures.head c.in_err-draw.ensures.rest
          (past-drawn self.last old.unread old.head (g.F.Coming.coming old.feed) old.ahead
          (given-read (λ x. x.unread) (λ x. x.head) (λ x. g.F.Coming.coming x.feed) self.leads.items lead old new c.index_mut.ensures.value self.last
          (first_place self.winners.items) (c.first_place-lead.ensures ∙ ap first_place c.deref.ensures.value) c.requires).1)
          c.draw.ensures.near self.near;
      sorted = fewer-sorted fewer self.sorted_from self.sorted;
      last_sorted = fewer-last fewer self.sorted_from self.source self.last self.last_sorted;
    }

pub returns-in_err-draw-clause-same : goal.returns-in_err-draw-clause-same
returns-in_err-draw-clause-same g c =
    let self = c.args.self.now in
    ap (merged entry_cmp) (to_come-kept (λ x. x.unread) (λ x. x.head) (λ x. g.F.Coming.coming x.feed) self.leads.items c.first_place-lead.result
    c.index_mut.result.now c.draw.new.self c.index_mut.ensures.value self.last c.in_err-draw.ensures.head c.in_err-draw.ensures.rest)

pub returns-in_err-draw-clause-sources : goal.returns-in_err-draw-clause-sources
returns-in_err-draw-clause-sources g c =
    flat-set (λ x. g.F.Coming.sources x.feed) c.args.self.now.leads.items c.first_place-lead.result c.draw.new.self c.index_mut.ensures.value
    c.draw.ensures.sources

pub returns-clause-sources : goal.returns-clause-sources
returns-clause-sources g c =
    flat-set (λ x. g.F.Coming.sources x.feed) c.args.self.now.leads.items c.first_place-lead.result c.draw.new.self c.index_mut.ensures.value
    c.draw.ensures.sources

pub replay-requires-clause-sorted : goal.replay-requires-clause-sorted
replay-requires-clause-sorted g c =
    let self = c.args.self.now in
    let lead = c.first_place-lead.result in
    let new = c.draw.new.self in
    let leads = set self.leads.items lead new in
    subst (λ ls. AreHeadsSorted self.sorted_from (map (λ x. option_map entry_of x.head) ls)) (sym c.deref-2.ensures.value)
    (heads-sorted (λ x. x.head) (λ x. g.F.Coming.coming x.feed) self.sorted_from leads
    (fewer-sorted (fewer-drawn-in (λ x. x.head) (λ x. g.F.Coming.coming x.feed) c.index_mut.result.now new self.leads.items lead c.index_mut.ensures.value
    c.in_ok-draw.ensures.drawn) self.sorted_from self.sorted))

pub replay-requires-clause-settled : goal.replay-requires-clause-settled
replay-requires-clause-settled g c =
    let self = c.args.self.now in
    let lead = c.first_place-lead.result in
    let new = c.draw.new.self in
    let winners = self.winners.items in
    let drawn = settled-drawn (λ x. x.unread) (λ x. x.head) (λ x. g.F.Coming.coming x.feed) self.leads.items lead c.index_mut.result.now new
    c.index_mut.ensures.value winners self.settled in
    rw (c.deref_mut.ensures.value, c.deref-2.ensures.value) drawn

pub invariant_of-self-2 : goal.invariant_of-self-2
invariant_of-self-2 g c =
    let self = c.args.self.now in
    let lead = c.first_place-lead.result in
    let new = c.draw.new.self in
    let replayed = c.replay.new.winners in
    let kept = c.replay.auto.winners in
    let back : take self.winners.len (replayed ++ drop (length replayed) self.winners.items) ≡ replayed =
    written-back self.winners.items replayed self.winners.len self.winners.ok.0 (kept ∙ ap length c.deref_mut.ensures.value) in
    let fewer = fewer-drawn-in (λ x. x.head) (λ x. g.F.Coming.coming x.feed) c.index_mut.result.now new self.leads.items lead c.index_mut.ensures.value
    c.in_ok-draw.ensures.drawn in
    record {
      counted = ap length back ∙ (kept ∙ (ap length c.deref_mut.ensures.value
          ∙ (self.counted ∙ sym (ap node_count (length-set self.leads.items lead new)))));
      within = rw (back, ← c.deref-2.ensures.value) c.replay.ensures.leads;
      settled = rw (back, ← c.deref-2.ensures.value) c.replay.ensures.settled;
      follows =
          rw (to_come-drawn (λ x. x.unread) (λ x. x.head) (λ x. g.F.Coming.coming x.feed) self.leads.items lead c.index_mut.result.now new
          c.index_mut.ensures.value c.in_ok-draw.ensures.drawn self.last (first_place self.winners.items)
          (c.first_place-lead.ensures ∙ ap first_place c.deref.ensures.value) c.requires c.index_mut.result.now.ahead) self.follows;
      near = near-drawn (λ x. x.head) (λ x. g.F.Coming.coming x.feed) (λ x. g.F.Coming.near x.feed) self.last self.leads.items lead c.index_mut.result.now new
          c.in_ok-draw.ensures.drawn c.draw.ensures.near self.near;
      sorted = fewer-sorted fewer self.sorted_from self.sorted;
      last_sorted = fewer-last fewer self.sorted_from self.source self.last self.last_sorted;
    }

pub returns-clause-same : goal.returns-clause-same
returns-clause-same g c = ap (merged entry_cmp)
    (to_come-drawn (λ x. x.unread) (λ x. x.head) (λ x. g.F.Coming.coming x.feed) c.args.self.now.leads.items c.first_place-lead.result c.index_mut.result.now
    c.draw.new.self c.index_mut.ensures.value
    c.in_ok-draw.ensures.drawn c.args.self.now.last (first_place c.args.self.now.winners.items)
    (c.first_place-lead.ensures ∙ ap first_place c.deref.ensures.value) c.requires c.index_mut.result.now.ahead)

pub returns-clause-fewer : goal.returns-clause-fewer
returns-clause-fewer g c =
    fewer-drawn (λ x. x.unread) (λ x. x.head) (λ x. g.F.Coming.coming x.feed) c.args.self.now.leads.items c.first_place-lead.result c.index_mut.result.now
    c.draw.new.self c.index_mut.ensures.value
    c.in_ok-draw.ensures.drawn c.args.self.now.last (first_place c.args.self.now.winners.items)
    (c.first_place-lead.ensures ∙ ap first_place c.deref.ensures.value) c.requires c.in_ok-draw.ensures.read

pub replay-requires-clause-lead : goal.replay-requires-clause-lead
replay-requires-clause-lead g c = grind (arith, common_steps)
