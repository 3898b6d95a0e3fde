use Rattle.std.proofs.Common.{◌<◌, All, length, map, refl, sym, subst, ap, ◌∙◌, arith, option_map}
use Rattle.std.proofs.Math.Seq.{map-set_same}
use Rattle.std.proofs.lemmas.List.Elements.{All-from_recursion}
use Rattle.ics_listing.specs.Entry.{entry_cmp, entry_of}
use Rattle.ics_listing.specs.Leads.{listed, AreNear}
use Rattle.ics_listing.specs.Merged.{merged}
use Rattle.ics_listing.specs.Inner.Tournament.{node_count, turn_of, AreSettled}
use Rattle.ics_listing.specs.Uids.{AreHeadsSorted, AreSortedFrom}
use Rattle.ics_listing.proofs.LeadLemmas.{all-set, flat-set, fresh-lists, fresh-near}
use Rattle.ics_listing.proofs.UidOrderLemmas.{heads-sorted}
use Rattle.ics_listing.proofs.merge.Merge.begin.Goals as goal

pub loop-place-init : goal.loop-place-init
loop-place-init g c =
    record {
      coming = fresh-lists (λ x. x.head) (λ x. g.F.Coming.coming x.feed) (λ x. g.F.Coming.near x.feed) c.args.leads.items c.requires.fresh;
      sources = refl;
      near = fresh-near (λ x. x.head) (λ x. g.F.Coming.coming x.feed) (λ x. g.F.Coming.near x.feed) c.args.leads.items c.requires.fresh;
    }

pub loop-place-preserved : goal.loop-place-preserved
loop-place-preserved g c =
    let leads = c.loop-place.leads.items in
    let place = c.loop-place.place in
    let new = c.read_by.new.self in
    let value = c.index_mut.ensures.value in
    record {
      coming = map-set_same (λ x. listed x.head (g.F.Coming.coming x.feed)) leads place new c.index_mut.result.now
          (c.read_by.ensures.list ∙ ap (λ x. listed x.head (g.F.Coming.coming x.feed)) value) ∙ c.loop-place.invariant.coming;
      sources = flat-set (λ x. g.F.Coming.sources x.feed) leads place new value c.read_by.ensures.sources ∙ c.loop-place.invariant.sources;
      near = all-set (λ x. AreNear (g.F.Coming.near x.feed) (listed x.head (g.F.Coming.coming x.feed))) leads place new c.loop-place.invariant.near
          (c.read_by.ensures.near (subst (λ x. AreNear (g.F.Coming.near x.feed) (listed x.head (g.F.Coming.coming x.feed))) (sym value)
          (All-from_recursion (λ x. AreNear (g.F.Coming.near x.feed) (listed x.head (g.F.Coming.coming x.feed))) leads c.loop-place.invariant.near place
          c.index_mut.result.now (omega (arith, c.len.ensures, c.loop-place-test.true)))));
    }

pub winners-requires : goal.winners-requires
winners-requires g c =
    subst (λ ls. AreHeadsSorted c.args.sorted_from (map (λ x. option_map entry_of x.head) ls)) (sym c.deref.ensures.value)
    (heads-sorted (λ x. x.head) (λ x. g.F.Coming.coming x.feed) c.args.sorted_from c.loop-place.leads.items
    (subst (AreSortedFrom c.args.sorted_from) (sym c.loop-place.invariant.coming) c.requires.sorted))

pub invariant_of-self : goal.invariant_of-self
invariant_of-self g c =
    let lent = c.deref.ensures.value in
    let made = c.in_ok-winners.ensures in
    record {
      counted = made.length ∙ ap (λ leads. node_count (length leads)) lent;
      within = subst (λ leads. All (λ lead. lead < length leads) c.in_ok-winners.winners.items) lent made.leads;
      settled = subst (λ leads. AreSettled (map (λ x. turn_of x.unread x.head) leads) c.in_ok-winners.winners.items) lent made.settled;
      follows = tt;
      near = c.loop-place.invariant.near;
      sorted = subst (AreSortedFrom c.args.sorted_from) (sym c.loop-place.invariant.coming) c.requires.sorted;
      last_sorted = tt;
    }

pub returns : goal.returns
returns g c = record {
  coming = ap (merged entry_cmp) c.loop-place.invariant.coming;
  sources = c.loop-place.invariant.sources;
  err = tt;
}
