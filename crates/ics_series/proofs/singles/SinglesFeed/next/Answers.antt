use Rattle.std.proofs.lemmas.Grind.{common_steps}
use Rattle.std.proofs.Common.{◌≡◌, true, map, arith}
use Rattle.std.specs.Vec.Iter.{into_iter_items}
use Rattle.ics_starts.specs.SingleEvents.{is_single, single_entry}
use Rattle.ics_listing.proofs.ListingLemmas.{all-in}
use Rattle.ics_series.proofs.singles.SinglesFeed.next.Goals as goal

pub returns-in-Some-clause-near : goal.returns-in-Some-clause-near
returns-in-Some-clause-near c = all-in (λ o. is_single o.event ≡ true) (map single_entry (into_iter_items c.args.self.now.rest)) c.args.self.now.single

pub returns-in-None-clause-ok : goal.returns-in-None-clause-ok
returns-in-None-clause-ok c = grind (arith, common_steps)

pub returns-in-None-clause-near : goal.returns-in-None-clause-near
returns-in-None-clause-near c = grind (arith, common_steps)
