use Rattle.std.proofs.Common.{◌≡◌, ◌++◌, false, pos, arith, refl, subst, sym, w64, to_z, of_z, List, SFits}
use Rattle.std.proofs.lemmas.Int.{int_max_is, ints}
use Rattle.ics_listing.specs.Entry.{entry_cmp, Entry}
use Rattle.ics_listing.specs.FeedSources.{Recurring}
use Rattle.ics_listing.specs.Listing.{IsIn, IsListing}
use Rattle.ics_starts.specs.FileZones.{clocks_in}
use Rattle.ics_starts.specs.SeriesFeed.{series_left, series_of}
use Rattle.ics_continued.specs.Inner.Kept.{recurring_of, IsAsked}
use Rattle.ics_continued.specs.Lasting.{known_left, lasting_entries}
use Rattle.ics_continued.proofs.ContinuedLemmas.{fresh, moved, same-source, IsSound}
use Rattle.ics_continued.proofs.continued.Continued.new.Goals as goal

pub invariant_of-result : goal.invariant_of-result
invariant_of-result c =
    let fits : SFits w64 c.args.since = c.ranges.since in
    let since : to_z w64 (of_z w64 c.args.since) ≡ c.args.since = omega (arith, ints) in
    let m : Recurring = record {
      clocks = clocks_in c.args.zones;
      event = c.args.event.now;
      window = c.args.window;
      since = c.args.since;
      replaced = c.args.replaced;
    } in
    let series = c.in_ok-series.series in
    let known = c.new-2.result.items in
    let found : List Entry = series_of series (series_left series) in
    let coming : List Entry = known_left series.event.now 0 known ++ found in
    let listing : IsListing entry_cmp (IsAsked m c.args.since) coming =
    subst (λ xs. IsListing entry_cmp (IsAsked m c.args.since) (lasting_entries series.event.now xs ++ found)) (sym c.new-2.ensures.items)
    (rw since at c.in_ok-series.ensures.listing) in
    let by = to_z w64 (of_z w64 c.args.by) in
    let gap = pos 9_223_372_036_854_775_807 in
    let s = subst (λ t. IsSound known c.new-3.result.items t by gap false (recurring_of series) coming) (sym since)
    (moved (same-source series m (rw since at c.in_ok-series.ensures.sources)) refl
    (fresh known m coming {by = by} {gap = gap} c.new-3.ensures.items listing (λ l n. absurd (subst (IsIn l) c.new-2.ensures.items n))
    (omega (arith, ints)) (omega (arith, ints, int_max_is c.args.since c.args.window.to)))) in
    record { rising = s.rising; kept = s.kept; done = s.done; before = s.before; later = s.later; begun = s.begun }
