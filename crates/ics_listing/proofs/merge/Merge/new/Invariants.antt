use Rattle.std.proofs.Common.{◌≡◌, map}
use Rattle.std.specs.List.{flat_map, AllByRecursion}
use Rattle.ics_listing.specs.Leads.{IsFresh}
use Rattle.ics_listing.proofs.merge.Merge.new.Given as goal

abbrev pub invariant-loop-feed : goal.invariant-loop-feed
invariant-loop-feed g l = record {
  coming : map (λ x. g.F.Coming.coming x.feed) l.leads.items ≡ map g.F.Coming.coming l.yielded;
  sources : flat_map (λ x. g.F.Coming.sources x.feed) l.leads.items ≡ flat_map g.F.Coming.sources l.yielded;
  fresh : AllByRecursion (λ x. IsFresh (g.F.Coming.near x.feed) x.head (g.F.Coming.coming x.feed)) l.leads.items;
}
