use Rattle.std.proofs.Common.{◌∙◌, None, map, ap, length, sym, subst, arith}
use Rattle.std.specs.List.{AllByRecursion}
use Rattle.std.proofs.lemmas.List.{length-map}
use Rattle.ics_listing.specs.Inner.Tournament.{node_count}
use Rattle.ics_listing.specs.Leads.{listed, past, AreNear}
use Rattle.ics_listing.proofs.UidOrderLemmas.{none-sorted}
use Rattle.ics_listing.proofs.merge.Merge.none.Goals as goal

pub invariant_of-result : goal.invariant_of-result
invariant_of-result g c =
    let none = c.new.ensures.items in
    let leads = ap length none in
    let winners = ap length c.new-2.ensures.items in
    record {
      counted = winners ∙ sym (ap node_count leads);
      within = λ k d l. absurd (omega (arith, l, winners));
      settled = λ node p l. absurd (omega (arith, l, winners));
      follows = tt;
      near = subst (AllByRecursion (λ x. AreNear (g.F.Coming.near x.feed) (past None (listed x.head (g.F.Coming.coming x.feed))))) (sym none) tt;
      sorted = none-sorted 0 (map (λ x. listed x.head (g.F.Coming.coming x.feed)) c.new.result.items)
          (omega (arith, leads, length-map c.new.result.items (λ x. listed x.head (g.F.Coming.coming x.feed))));
      last_sorted = tt;
    }
