use Rattle.std.proofs.Common.{◌≡◌, map, sum_by}
use Rattle.std.specs.List.{flat_map}
use Rattle.ics_listing.specs.Entry.{entry_cmp}
use Rattle.ics_listing.specs.Leads.{listed, past, to_draw}
use Rattle.ics_listing.specs.Merged.{merged}
use Rattle.ics_listing.proofs.merge.Merge.skip_given.Given as goal

abbrev pub invariant-loop-self : goal.invariant-loop-self
invariant-loop-self g l = record {
  same :
      merged entry_cmp (map (λ x. past l.self.last (listed x.head (g.F.Coming.coming x.feed))) l.self.leads.items)
      ≡ merged entry_cmp (map (λ x. past l.fn.self.last (listed x.head (g.F.Coming.coming x.feed))) l.fn.self.leads.items);
  sources : flat_map (λ x. g.F.Coming.sources x.feed) l.self.leads.items ≡ flat_map (λ x. g.F.Coming.sources x.feed) l.fn.self.leads.items;
}

abbrev pub decreases-loop-self : goal.decreases-loop-self
decreases-loop-self g l = sum_by (λ x. to_draw x.unread (listed x.head (g.F.Coming.coming x.feed))) l.self.leads.items
