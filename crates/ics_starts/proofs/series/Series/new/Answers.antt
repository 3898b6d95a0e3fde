use Rattle.std.proofs.Common.{◌≡◌, ◌∙◌, ap, arith, subst, get_or, w64, to_z, of_z, SFits}
use Rattle.std.proofs.lemmas.Int.{ints}
use Rattle.std.proofs.lemmas.List.Elements.{Contains-get_or}
use Rattle.ics_listing.specs.declared.start.Start.{Start}
use Rattle.ics_listing.specs.KnownStarts.{listed_left}
use Rattle.ics_listing.specs.Listing.{IsIn}
use Rattle.ics_listing.proofs.ListingLemmas.{in-contains}
use Rattle.ics_starts.specs.Clocks.{clock_of}
use Rattle.ics_starts.specs.FileZones.{clocks_in}
use Rattle.ics_starts.specs.SeriesStarts.{first_asked, given_of, left, listed_apart, HasOwnRule}
use Rattle.ics_starts.proofs.BegunLemmas.{has-ruled, start-apart, start-in, starts-since}
use Rattle.ics_starts.proofs.SeriesLemmas.{series-listing}
use Rattle.ics_starts.proofs.series.Series.new.Goals as goal

pub starts_by_rule-requires-clause-listed : goal.starts_by_rule-requires-clause-listed
starts_by_rule-requires-clause-listed c =
    let event = c.args.event.now in
    let fits : SFits w64 c.args.since = c.ranges.since in
    let since : to_z w64 (of_z w64 c.args.since) ≡ c.args.since = omega (arith, ints) in
    let given : c.in_ok-listed.listed.items ≡ listed_apart (clocks_in c.args.zones) c.args.window event c.args.since event.rule =
    c.in_ok-listed.ensures.starts ∙ ap (λ t. listed_apart (clocks_in c.args.zones) c.args.window event t event.rule) since in
    λ k d l.
    let s : Start = get_or c.deref.result.now k d in
    let there : IsIn s c.deref.result.now = in-contains s c.deref.result.now (Contains-get_or c.deref.result.now k d l) in
    start-in c.args.zones c.args.window event c.requires.own s
    (start-apart c.args.zones c.args.window event c.args.since event.rule s (subst (IsIn s) (c.deref.ensures.value ∙ given) there))

pub invariant_of-result-2 : goal.invariant_of-result-2
invariant_of-result-2 c =
    let w = c.args.window in
    let event = c.args.event.now in
    let clocks = clocks_in c.args.zones in
    let fits : SFits w64 c.args.since = c.ranges.since in
    let since : to_z w64 (of_z w64 c.args.since) ≡ c.args.since = omega (arith, ints) in
    let sound = c.requires.own.is_event in
    let given : c.in_ok-listed.listed.items ≡ listed_apart (clocks_in c.args.zones) c.args.window event c.args.since event.rule =
    c.in_ok-listed.ensures.starts ∙ ap (λ t. listed_apart (clocks_in c.args.zones) c.args.window event t event.rule) since in
    let firsts = rw given at c.in_ok-new.ensures in
    let ruled = rw (since, c.deref.ensures.value ∙ given) at c.in_ok-rule_starts.ensures.from in
    let starts = starts-since c.args.zones w event sound c.args.since (listed_left c.in_ok-new.field-0) firsts c.in_ok-rule_starts.rule_starts ruled in
    let listing = series-listing clocks w event c.args.since c.args.replaced
    (left c.in_ok-rule_starts.rule_starts c.in_ok-new.field-0) starts in
    record {
      first_is = tt;
      own = c.requires.own;
      taken_out = c.in_ok-listed.ensures.exclusions;
      ends_are = c.new-2.ensures (clock_of clocks event.start);
      dates_are = tt;
      known = λ s m. start-in c.args.zones w event c.requires.own s (starts.are s m);
      listed_known = λ s m. start-in c.args.zones w event c.requires.own s (start-apart c.args.zones w event c.args.since event.rule s (firsts.are s m));
      ruled = rw (since, c.replaced.view_is)
          (has-ruled c.args.zones w event sound c.args.since c.args.replaced c.in_ok-rule_starts.rule_starts
          (given_of clocks w event c.args.since c.args.replaced (left c.in_ok-rule_starts.rule_starts c.in_ok-new.field-0)) ruled listing);
      own_rule = subst (λ xs. HasOwnRule c.args.zones event w (first_asked clocks w event (to_z w64 (of_z w64 c.args.since)) xs)
          c.in_ok-rule_starts.rule_starts) (c.deref.ensures.value ∙ c.in_ok-listed.ensures.starts) c.in_ok-rule_starts.ensures.own;
      rising = rw (since, c.replaced.view_is) listing.rises;
    }

pub returns-clause-listing : goal.returns-clause-listing
returns-clause-listing c =
    let w = c.args.window in
    let event = c.args.event.now in
    let clocks = clocks_in c.args.zones in
    let fits : SFits w64 c.args.since = c.ranges.since in
    let since : to_z w64 (of_z w64 c.args.since) ≡ c.args.since = omega (arith, ints) in
    let sound = c.requires.own.is_event in
    let given : c.in_ok-listed.listed.items ≡ listed_apart (clocks_in c.args.zones) c.args.window event c.args.since event.rule =
    c.in_ok-listed.ensures.starts ∙ ap (λ t. listed_apart (clocks_in c.args.zones) c.args.window event t event.rule) since in
    let firsts = rw given at c.in_ok-new.ensures in
    let ruled = rw (since, c.deref.ensures.value ∙ given) at c.in_ok-rule_starts.ensures.from in
    let starts = starts-since c.args.zones w event sound c.args.since (listed_left c.in_ok-new.field-0) firsts c.in_ok-rule_starts.rule_starts ruled in
    rw (since, c.replaced.view_is)
    (series-listing clocks w event c.args.since c.args.replaced (left c.in_ok-rule_starts.rule_starts c.in_ok-new.field-0) starts)
