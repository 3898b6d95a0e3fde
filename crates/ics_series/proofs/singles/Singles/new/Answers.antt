use Rattle.std.proofs.Common.{◌≡◌, true, map, rules, option_map}
use Rattle.std.specs.Ordering.{on}
use Rattle.std.proofs.lemmas.Cmp.{on_total}
use Rattle.ics_listing.specs.Entry.{entry_cmp, key_rank}
use Rattle.ics_starts.specs.SingleEvents.{is_single, single_entry}
use Rattle.ics_listing.specs.Inner.EntryLaws.{entry_total}
use Rattle.ics_series.proofs.OverrideLemmas.{overrides-sorted}
use Rattle.ics_series.proofs.SinglesLemmas.{singles-listing}
use Rattle.ics_listing.proofs.ListingLemmas.{climbs-by, in-all}
use Rattle.ics_series.proofs.singles.Singles.new.Goals as goal

pub to_come-requires-clause-overrides : goal.to_come-requires-clause-overrides
to_come-requires-clause-overrides c =
    overrides-sorted c.args.overrides.now c.requires.chosen c.requires.overrides

pub invariant_of-result : goal.invariant_of-result
invariant_of-result c =
    let listing = singles-listing c.args.window.now (option_map (λ key. key_rank key.now) c.args.after) c.args.overrides.now c.requires.chosen
    c.requires.overrides c.in_ok-singles.ensures c.sort_unstable_by.ensures.permutation
    (climbs-by (on single_entry entry_cmp) (on_total single_entry entry_total) c.sort_unstable_by.new.self.items c.sort_unstable_by.ensures.sorted
    (λ f a r f' k. search rules)) in
    record {
      single = rw c.into_iter.ensures.rest
          (in-all (λ o. is_single o.event ≡ true) (map single_entry c.sort_unstable_by.new.self.items) (λ o m. ((listing.exact o).0 m).1));
      rising = rw c.into_iter.ensures.rest listing.rises;
    }

pub returns : goal.returns
returns c =
    let listing = singles-listing c.args.window.now (option_map (λ key. key_rank key.now) c.args.after) c.args.overrides.now c.requires.chosen
    c.requires.overrides c.in_ok-singles.ensures c.sort_unstable_by.ensures.permutation
    (climbs-by (on single_entry entry_cmp) (on_total single_entry entry_total) c.sort_unstable_by.new.self.items c.sort_unstable_by.ensures.sorted
    (λ f a r f' k. search rules)) in
    rw c.into_iter.ensures.rest listing
