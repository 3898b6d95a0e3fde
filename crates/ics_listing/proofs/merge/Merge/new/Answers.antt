use Rattle.std.proofs.Common.{◌≡◌, [], ◌∷◌, ◌++◌, map-id, map, arith, refl, sym, subst, ap, ◌∙◌}
use Rattle.std.specs.List.{flat_map, AllByRecursion}
use Rattle.std.proofs.lemmas.Iterator.Adapters.{YieldsList-from_vec}
use Rattle.std.proofs.lemmas.Iterator.Consumers.{YieldsList-end}
use Rattle.std.proofs.lemmas.List.{length-map, map-append}
use Rattle.std.proofs.lemmas.List.Concat.{flat_map-append}
use Rattle.ics_listing.specs.Entry.{entry_cmp}
use Rattle.ics_listing.specs.Leads.{IsFresh}
use Rattle.ics_listing.specs.Merged.{merged}
use Rattle.ics_listing.proofs.LeadLemmas.{all-pushed}
use Rattle.ics_listing.proofs.UidOrderLemmas.{none-sorted}
use Rattle.ics_listing.proofs.merge.Merge.new.Goals as goal

pub loop-feed-preserved : goal.loop-feed-preserved
loop-feed-preserved g c =
    let more = c.in_ok-push.ensures.items in
    let feed = c.in-Some.feed in
    let made = c.of.ensures in
    record {
      coming = ap (map (λ x. g.F.Coming.coming x.feed)) more
          ∙ (map-append (λ x. g.F.Coming.coming x.feed) c.loop-feed.leads.items _
          ∙ ((λ i. c.loop-feed.invariant.coming i ++ g.F.Coming.coming (made.feed i) ∷ [])
          ∙ sym (map-append g.F.Coming.coming c.loop-feed.yielded (feed ∷ []))));
      sources = ap (flat_map (λ x. g.F.Coming.sources x.feed)) more
          ∙ (flat_map-append (λ x. g.F.Coming.sources x.feed) c.loop-feed.leads.items _
          ∙ ((λ i. c.loop-feed.invariant.sources i ++ (g.F.Coming.sources (made.feed i) ++ []))
          ∙ sym (flat_map-append g.F.Coming.sources c.loop-feed.yielded (feed ∷ []))));
      fresh = subst (AllByRecursion (λ x. IsFresh (g.F.Coming.near x.feed) x.head (g.F.Coming.coming x.feed))) (sym more)
          (all-pushed (λ x. IsFresh (g.F.Coming.near x.feed) x.head (g.F.Coming.coming x.feed)) c.loop-feed.leads.items _ c.loop-feed.invariant.fresh
          made.fresh);
    }

pub begin-requires : goal.begin-requires
begin-requires g c = λ k. (
  (refl, tt),
  (
    c.loop-feed.invariant.fresh,
    none-sorted c.len-none.result (map (λ x. g.F.Coming.coming x.feed) c.loop-feed.leads.items)
        (omega (arith, length-map c.loop-feed.leads.items (λ x. g.F.Coming.coming x.feed), c.len-none.ensures)),
  ),
)

pub returns : goal.returns
returns g c =
    let all : c.loop-feed.yielded ≡ c.args.feeds.items = sym (map-id c.loop-feed.yielded)
    ∙ (YieldsList-end (YieldsList-from_vec c.args.feeds.items (cc) (cc)) c.loop-feed.yielded _ c.loop-feed.yielded_by c.next.result c.next.new.self
    c.in-None.is c.next.ensures.steps).0 in
    record {
      coming = c.in_ok-begin.ensures.coming ∙ ap (merged entry_cmp) (c.loop-feed.invariant.coming ∙ ap (map g.F.Coming.coming) all);
      sources = c.in_ok-begin.ensures.sources ∙ (c.loop-feed.invariant.sources ∙ ap (flat_map g.F.Coming.sources) all);
    }
