use Rattle.std.proofs.Common.{◌≡◌, ◌-◌, length, map}
use Rattle.std.specs.List.{flat_map, AllByRecursion}
use Rattle.ics_listing.specs.Leads.{listed, AreNear}
use Rattle.ics_listing.proofs.merge.Merge.begin.Given as goal

abbrev pub invariant-loop-place : goal.invariant-loop-place
invariant-loop-place g l = record {
  coming : map (λ x. listed x.head (g.F.Coming.coming x.feed)) l.leads.items ≡ map (λ x. g.F.Coming.coming x.feed) l.fn.leads.items;
  sources : flat_map (λ x. g.F.Coming.sources x.feed) l.leads.items ≡ flat_map (λ x. g.F.Coming.sources x.feed) l.fn.leads.items;
  near : AllByRecursion (λ x. AreNear (g.F.Coming.near x.feed) (listed x.head (g.F.Coming.coming x.feed))) l.leads.items;
}

abbrev pub decreases-loop-place : goal.decreases-loop-place
decreases-loop-place g l = length l.leads.items - l.place
