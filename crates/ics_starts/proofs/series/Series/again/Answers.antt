use Rattle.std.proofs.Common.{◌≡◌, ◌∙◌, ap, arith, refl, subst, sym, get_or, w64, to_z, of_z, SFits}
use Rattle.std.proofs.lemmas.Int.{ints}
use Rattle.std.proofs.lemmas.List.Elements.{Contains-get_or}
use Rattle.ics_listing.specs.declared.start.Start.{Start}
use Rattle.ics_listing.specs.KnownStarts.{listed_left}
use Rattle.ics_listing.specs.Listing.{IsIn}
use Rattle.ics_listing.proofs.ListingLemmas.{in-contains}
use Rattle.ics_starts.specs.Clocks.{clock_of}
use Rattle.ics_starts.specs.FileZones.{clocks_in}
use Rattle.ics_starts.specs.SeriesStarts.{first_of, given_of, left, listed_apart, HasOwnRule}
use Rattle.ics_starts.proofs.BeginLemmas.{own-rule}
use Rattle.ics_starts.proofs.BegunLemmas.{has-ruled, start-apart, start-in, starts-since}
use Rattle.ics_starts.proofs.SeriesLemmas.{series-listing}
use Rattle.ics_starts.proofs.series.Series.again.Goals as goal

pub begin_of_rule-begin-requires-clause-listed : goal.begin_of_rule-begin-requires-clause-listed
begin_of_rule-begin-requires-clause-listed c =
    let z = c.args.self.now.zones in
    let own = c.args.self.now.own in
    let event = c.args.self.now.event.now in
    let fits : SFits w64 c.args.since = c.ranges.since in
    let since : to_z w64 (of_z w64 c.args.since) ≡ c.args.since = omega (arith, ints) in
    let given : c.in_ok-listed.listed.items ≡ listed_apart (clocks_in z) c.args.window event c.args.since event.rule =
    c.in_ok-listed.ensures.starts ∙ ap (λ t. listed_apart (clocks_in z) c.args.window event t event.rule) since in
    λ k d l.
    let s : Start = get_or c.deref.result.now k d in
    let there : IsIn s c.deref.result.now = in-contains s c.deref.result.now (Contains-get_or c.deref.result.now k d l) in
    start-in z c.args.window event own s
    (start-apart z c.args.window event c.args.since event.rule s (subst (IsIn s) (c.deref.ensures.value ∙ given) there))

pub begin_again-requires-clause-rule : goal.begin_again-requires-clause-rule
begin_again-requires-clause-rule c =
    let s = c.args.self.now in
    own-rule s.zones s.window _ s.rule_starts s.own_rule refl

pub invariant_of-self-2 : goal.invariant_of-self-2
invariant_of-self-2 c =
    let w = c.args.window in
    let z = c.args.self.now.zones in
    let own = c.args.self.now.own in
    let event = c.args.self.now.event.now in
    let clocks = clocks_in z in
    let fits : SFits w64 c.args.since = c.ranges.since in
    let since : to_z w64 (of_z w64 c.args.since) ≡ c.args.since = omega (arith, ints) in
    let sound = own.is_event in
    let given : c.in_ok-listed.listed.items ≡ listed_apart (clocks_in z) c.args.window event c.args.since event.rule =
    c.in_ok-listed.ensures.starts ∙ ap (λ t. listed_apart (clocks_in z) c.args.window event t event.rule) since in
    let firsts = rw given at c.in_ok-starts.ensures in
    let begin = rw (since, c.deref.ensures.value ∙ given) at c.begin_of_rule-begin.ensures in
    let ruled = c.begin_again.ensures.from c.args.since (listed_apart clocks w event c.args.since event.rule) begin in
    let starts = starts-since z w event sound c.args.since (listed_left c.in_ok-starts.starts) firsts c.begin_again.new.rule ruled in
    let listing = series-listing clocks w event c.args.since c.args.self.now.replaced (left c.begin_again.new.rule c.in_ok-starts.starts) starts in
    record {
      first_is = tt;
      own = own;
      taken_out = c.in_ok-listed.ensures.exclusions;
      ends_are = c.new-2.ensures (clock_of clocks event.start);
      dates_are = c.place_dates.ensures;
      known = λ s m. start-in z w event own s (starts.are s m);
      listed_known = λ s m. start-in z w event own s (start-apart z w event c.args.since event.rule s (firsts.are s m));
      ruled = rw since
          (has-ruled z w event sound c.args.since c.args.self.now.replaced c.begin_again.new.rule
          (given_of clocks w event c.args.since c.args.self.now.replaced (left c.begin_again.new.rule c.in_ok-starts.starts)) ruled listing);
      own_rule = subst (λ t. HasOwnRule z event w (first_of clocks w event t) c.begin_again.new.rule) (sym since)
          (c.begin_again.ensures.own (first_of clocks w event c.args.since) begin);
      rising = rw since listing.rises;
    }

pub returns-clause-listing : goal.returns-clause-listing
returns-clause-listing c =
    let w = c.args.window in
    let z = c.args.self.now.zones in
    let own = c.args.self.now.own in
    let event = c.args.self.now.event.now in
    let clocks = clocks_in z in
    let fits : SFits w64 c.args.since = c.ranges.since in
    let since : to_z w64 (of_z w64 c.args.since) ≡ c.args.since = omega (arith, ints) in
    let sound = own.is_event in
    let given : c.in_ok-listed.listed.items ≡ listed_apart (clocks_in z) c.args.window event c.args.since event.rule =
    c.in_ok-listed.ensures.starts ∙ ap (λ t. listed_apart (clocks_in z) c.args.window event t event.rule) since in
    let firsts = rw given at c.in_ok-starts.ensures in
    let begin = rw (since, c.deref.ensures.value ∙ given) at c.begin_of_rule-begin.ensures in
    let ruled = c.begin_again.ensures.from c.args.since (listed_apart clocks w event c.args.since event.rule) begin in
    let starts = starts-since z w event sound c.args.since (listed_left c.in_ok-starts.starts) firsts c.begin_again.new.rule ruled in
    rw since (series-listing clocks w event c.args.since c.args.self.now.replaced (left c.begin_again.new.rule c.in_ok-starts.starts) starts)
