use Rattle.std.proofs.Common.{◌≡◌, ◌∙◌, ◌++◌, false, ap, arith, filter, pos, subst, sym, w64, to_z, of_z, SFits}
use Rattle.std.proofs.lemmas.Int.{ints}
use Rattle.ics_listing.proofs.Cases.{moment-back}
use Rattle.ics_starts.specs.SeriesFeed.{series_left, series_of}
use Rattle.ics_continued.specs.Inner.Kept.{recurring_of}
use Rattle.ics_continued.specs.Lasting.{is_carried, known_left}
use Rattle.ics_continued.proofs.ContinuedLemmas.{listing-again, moved-by, sound-again, IsBegunAgain, IsSound}
use Rattle.ics_continued.proofs.continued.Continued.again.Goals as goal

pub invariant_of-self : goal.invariant_of-self
invariant_of-self c =
    let s = moved-by c.args.self.now c.again.new.self c.in_err-again.ensures.still c.again.ensures.event c.in_err-again.ensures.err in
    record { rising = s.rising; kept = s.kept; done = s.done; before = s.before; later = s.later; begun = s.begun }

pub invariant_of-self-2 : goal.invariant_of-self-2
invariant_of-self-2 c =
    let old = c.args.self.now in
    let new = c.again.new.self in
    let fits : SFits w64 c.args.since = c.ranges.since in
    let since : to_z w64 (of_z w64 c.args.since) ≡ c.args.since = omega (arith, ints) in
    let begin = moment-back c.begin_for-begin.result c.begin_for-begin.type_inv in
    let starts : new.since ≡ c.begin_for-begin.result = c.in_ok-again.ensures.since ∙ begin in
    let at : to_z w64 (of_z w64 c.begin_for-begin.result) ≡ new.since = sym c.in_ok-again.ensures.since in
    let event : c.event-event.result ≡ old.series.event = c.event-event.ensures ∙ c.in_ok-again.ensures.event in
    let is : IsBegunAgain old new c.args.window c.args.since c.carry_on.new.known.items = record {
      sources = rw at at c.in_ok-again.ensures.sources;
      event = c.in_ok-again.ensures.event;
      sought = rw at at c.in_ok-again.ensures.listing;
      are = c.carry_on.ensures
          ∙ (λ i. filter (is_carried ((event i).now) c.args.window (since i) (at i)) ((c.swap.ensures.x_after i).items));
      all = rw (since, sym starts) at c.begin_for-begin.ensures.all;
      later = rw (since, sym starts) at c.begin_for-begin.ensures.later;
      begun = rw (since, sym starts) at c.begin_for-begin.ensures.begun;
    } in
    let by = to_z w64 (of_z w64 c.args.by) in
    let known = c.carry_on.new.known.items in
    let gap = pos 9_223_372_036_854_775_807 in
    let s = subst (λ t. IsSound known c.clear.new.self.items t by gap false (recurring_of new)
    (known_left new.event.now 0 known ++ series_of new (series_left new))) (sym since)
    (sound-again old new c.args.window is by gap c.clear.ensures.items) in
    record { rising = s.rising; kept = s.kept; done = s.done; before = s.before; later = s.later; begun = s.begun }

pub returns-clause-listing : goal.returns-clause-listing
returns-clause-listing c =
    let old = c.args.self.now in
    let new = c.again.new.self in
    let fits : SFits w64 c.args.since = c.ranges.since in
    let since : to_z w64 (of_z w64 c.args.since) ≡ c.args.since = omega (arith, ints) in
    let begin = moment-back c.begin_for-begin.result c.begin_for-begin.type_inv in
    let starts : new.since ≡ c.begin_for-begin.result = c.in_ok-again.ensures.since ∙ begin in
    let at : to_z w64 (of_z w64 c.begin_for-begin.result) ≡ new.since = sym c.in_ok-again.ensures.since in
    let event : c.event-event.result ≡ old.series.event = c.event-event.ensures ∙ c.in_ok-again.ensures.event in
    let is : IsBegunAgain old new c.args.window c.args.since c.carry_on.new.known.items = record {
      sources = rw at at c.in_ok-again.ensures.sources;
      event = c.in_ok-again.ensures.event;
      sought = rw at at c.in_ok-again.ensures.listing;
      are = c.carry_on.ensures
          ∙ (λ i. filter (is_carried ((event i).now) c.args.window (since i) (at i)) ((c.swap.ensures.x_after i).items));
      all = rw (since, sym starts) at c.begin_for-begin.ensures.all;
      later = rw (since, sym starts) at c.begin_for-begin.ensures.later;
      begun = rw (since, sym starts) at c.begin_for-begin.ensures.begun;
    } in
    listing-again old new c.args.window is
