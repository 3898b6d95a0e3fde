use Rattle.std.proofs.Common.{◌≡◌, true, map, arith}
use Rattle.std.specs.Vec.Iter.{into_iter_items}
use Rattle.std.proofs.lemmas.Int.{ints}
use Rattle.ics_starts.specs.SingleEvents.{is_single, single_entry}
use Rattle.ics_listing.proofs.ListingLemmas.{all-in}
use Rattle.ics_series.proofs.SinglesLemmas.{singles-late}
use Rattle.ics_series.proofs.singles.SinglesBegins.from.Goals as goal

pub returns-clause-from : goal.returns-clause-from
returns-clause-from c = λ o m. omega (arith, ints, singles-late (into_iter_items c.args.self.now.rest) o m)

pub returns-clause-near : goal.returns-clause-near
returns-clause-near c = all-in (λ o. is_single o.event ≡ true) (map single_entry (into_iter_items c.args.self.now.rest)) c.args.self.now.single
