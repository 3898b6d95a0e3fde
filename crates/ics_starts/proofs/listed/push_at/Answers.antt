use Rattle.std.proofs.Common.{◌≡◌, ◌+◌, ◌<◌, ◌≤ℤ◌, ◌++◌, ℤ, Bool, true, false, None, Some, List, [], ◌∷◌, length, get_or, refl, sym, ◌∙◌, ap, subst, arith}
use Rattle.std.proofs.Common.{drop, slice_get, if◌then◌else◌, rules, to_z, of_z, w64, SFits}
use Rattle.std.proofs.lemmas.Int.{ints}
use Rattle.std.proofs.lemmas.Grind.{common_steps}
use Rattle.std.proofs.lemmas.List.{append-nil}
use Rattle.ics_event.specs.declared.event.Event.{Event}
use Rattle.ics_event.specs.Event.{Rdate, Time}
use Rattle.ics_listing.proofs.Cases.{moment-back, some-same}
use Rattle.ics_listing.specs.declared.start.StartSource.TheVariants.{Listed}
use Rattle.ics_listing.specs.declared.start.Start.{Start}
use Rattle.ics_starts.specs.Clocks.{instant}
use Rattle.ics_starts.specs.Exclusions.{is_among}
use Rattle.ics_starts.specs.Found.{counts, listed_from, start_by, AreRunning}
use Rattle.ics_starts.specs.Inner.ByLocal.{count_in, place_in, AreCounting}
use Rattle.ics_starts.specs.Starts.{given_by}
use Rattle.ics_listing.specs.StartTimes.{time_of}
use Rattle.ics_starts.specs.FileZones.{clocks_in, IsTimeOf}
use Rattle.ics_starts.proofs.NearLemmas.{both-back, to-end, to-place, value-at}
use Rattle.ics_starts.proofs.SoughtLemmas.{counts-before, counts-not, counts-same, listed-step}
use Rattle.ics_starts.proofs.ZoneLemmas.{given-time}
use Rattle.ics_starts.proofs.listed.push_at.Goals as goal

if-none : (b : Bool) (t : ℤ) → None ≡ (if b then Some t else None) → b ≡ false
if-none true t e = let f : None ≡ Some t = e in absurd cc
if-none false t e = refl

if-some : (b : Bool) (x t : ℤ) → Some x ≡ (if b then Some t else None) → (b ≡ true) × (x ≡ t)
if-some true x t e = (refl, some-same x t e)
if-some false x t e = let f : Some x ≡ None = e in absurd cc

pub counted-requires-clause-time : goal.counted-requires-clause-time
counted-requires-clause-time c =
    let event = c.args.event.now in
    let near = c.args.near in
    let k = c.loop-k.k in
    let r = c.index-rdates-place.result in
    let below : k < count_in near = subst (λ n. k < n) c.count-k-end.ensures c.loop-k-test.true in
    let there : slice_get event.rdates (place_in near k) ≡ Some r =
    value-at c.rdates-rdates.ensures.value c.at-place.ensures (c.requires.counting.within k below) c.index-rdates-place.is in
    let given : c.given_by-given.result ≡ given_by event.start r = c.given_by-given.ensures ∙ ap (λ (v : Event). given_by v.start r) c.event.view_is in
    subst (IsTimeOf c.args.zones.zones.now) (sym (c.time_of.ensures ∙ ap time_of given))
    (given-time c.args.zones event (Listed (place_in near k)) (given_by event.start r) c.requires.event (r, there, refl))

pub loop-k-preserved-in_default : goal.loop-k-preserved-in_default
loop-k-preserved-in_default c =
    let event = c.args.event.now in
    let clocks = clocks_in c.args.zones in
    let w = c.args.window.now in
    let since = to_z w64 (of_z w64 c.args.since) in
    let from = to_z w64 (of_z w64 c.args.from) in
    let running = c.args.running.now in
    let near = c.args.near in
    let k = c.loop-k.k in
    let place = c.at-place.result in
    let r = c.index-rdates-place.result in
    let below : k < count_in near = subst (λ n. k < n) c.count-k-end.ensures c.loop-k-test.true in
    let here : place ≡ place_in near k = c.at-place.ensures in
    let there : place < length event.rdates = let l = c.requires.counting.within k below in omega (arith, l, here) in
    let item : r ≡ get_or event.rdates place r = c.index-rdates-place.is ∙ ap (λ (xs : List Rdate). get_or xs place r) c.rdates-rdates.ensures.value in
    let given : c.given_by-given.result ≡ given_by event.start r = c.given_by-given.ensures ∙ ap (λ (v : Event). given_by v.start r) c.event.view_is in
    let same : c.time_of.result ≡ time_of (given_by event.start r) = c.time_of.ensures ∙ ap time_of given in
    let begin = sym (moment-back c.args.since c.ranges.since.sfits) in
    let back = sym (moment-back c.args.from c.ranges.from.sfits) in
    let are = both-back (λ s f. AreRunning clocks w event s f running) begin back c.requires.running in
    let counting = both-back (λ s f. AreCounting clocks w event s f near) begin back c.requires.counting in
    let skip = to-place (record { counting = counting; up = c.requires.up; passed = c.loop-k.invariant.passed }) place
    (omega (arith, c.if-place-next.false)) here below in
    let told : counts w from c.time_of.result (is_among running (instant clocks c.time_of.result)) ≡ false =
    if-none _ (instant clocks c.time_of.result) (sym c.in_default.is ∙ c.counted.ensures.counted) in
    let time = time_of (given_by event.start r) in
    let step = listed-step clocks w since from event place event.rdates false there item
    (counts-not c.args.zones w event since from time (is_among running (instant clocks time)) (counts-same c.args.zones w event since from running are time)
    (subst (λ (x : Time). counts w from x (is_among running (instant clocks x)) ≡ false) same told)) in
    record {
      known = c.counted.ensures.known;
      within = omega (arith, there);
      passed = λ j l. let up = c.requires.up j k (omega (arith, l)) below in omega (arith, up, here);
      starts = sym (ap (λ (xs : List Start). c.loop-k.starts.items ++ xs) (skip ∙ step)) ∙ c.loop-k.invariant.starts;
    }

pub loop-k-preserved-then-moment-since : goal.loop-k-preserved-then-moment-since
loop-k-preserved-then-moment-since c =
    let event = c.args.event.now in
    let clocks = clocks_in c.args.zones in
    let w = c.args.window.now in
    let since = to_z w64 (of_z w64 c.args.since) in
    let from = to_z w64 (of_z w64 c.args.from) in
    let running = c.args.running.now in
    let near = c.args.near in
    let k = c.loop-k.k in
    let place = c.at-place.result in
    let r = c.index-rdates-place.result in
    let below : k < count_in near = subst (λ n. k < n) c.count-k-end.ensures c.loop-k-test.true in
    let here : place ≡ place_in near k = c.at-place.ensures in
    let there : place < length event.rdates = let l = c.requires.counting.within k below in omega (arith, l, here) in
    let item : r ≡ get_or event.rdates place r = c.index-rdates-place.is ∙ ap (λ (xs : List Rdate). get_or xs place r) c.rdates-rdates.ensures.value in
    let given : c.given_by-given.result ≡ given_by event.start r = c.given_by-given.ensures ∙ ap (λ (v : Event). given_by v.start r) c.event.view_is in
    let same : c.time_of.result ≡ time_of (given_by event.start r) = c.time_of.ensures ∙ ap time_of given in
    let begin = sym (moment-back c.args.since c.ranges.since.sfits) in
    let back = sym (moment-back c.args.from c.ranges.from.sfits) in
    let counting = both-back (λ s f. AreCounting clocks w event s f near) begin back c.requires.counting in
    let skip = to-place (record { counting = counting; up = c.requires.up; passed = c.loop-k.invariant.passed }) place
    (omega (arith, c.if-place-next.false)) here below in
    let told = if-some (counts w from c.time_of.result (is_among running (instant clocks c.time_of.result))) c.in-Some.moment
    (instant clocks c.time_of.result) (sym c.in-Some.is ∙ c.counted.ensures.counted) in
    let fits : SFits w64 c.in-Some.moment = search rules in
    let moment : to_z w64 (of_z w64 c.in-Some.moment) ≡ instant clocks (time_of (given_by event.start r)) =
    moment-back c.in-Some.moment fits.sfits ∙ (told.1 ∙ ap (instant clocks) same) in
    let step = listed-step clocks w since from event place event.rdates false there item
    (counts-before c.args.zones w event since from (time_of (given_by event.start r)) (omega (arith, ints, moment, c.if-moment-since.true))) in
    record {
      known = c.counted.ensures.known;
      within = omega (arith, there);
      passed = λ j l. let up = c.requires.up j k (omega (arith, l)) below in omega (arith, up, here);
      starts = sym (ap (λ (xs : List Start). c.loop-k.starts.items ++ xs) (skip ∙ step)) ∙ c.loop-k.invariant.starts;
    }

pub loop-k-preserved : goal.loop-k-preserved
loop-k-preserved c =
    let event = c.args.event.now in
    let clocks = clocks_in c.args.zones in
    let w = c.args.window.now in
    let since = to_z w64 (of_z w64 c.args.since) in
    let from = to_z w64 (of_z w64 c.args.from) in
    let running = c.args.running.now in
    let near = c.args.near in
    let k = c.loop-k.k in
    let place = c.at-place.result in
    let r = c.index-rdates-place.result in
    let below : k < count_in near = subst (λ n. k < n) c.count-k-end.ensures c.loop-k-test.true in
    let here : place ≡ place_in near k = c.at-place.ensures in
    let there : place < length event.rdates = let l = c.requires.counting.within k below in omega (arith, l, here) in
    let item : r ≡ get_or event.rdates place r = c.index-rdates-place.is ∙ ap (λ (xs : List Rdate). get_or xs place r) c.rdates-rdates.ensures.value in
    let given : c.given_by-given.result ≡ given_by event.start r = c.given_by-given.ensures ∙ ap (λ (v : Event). given_by v.start r) c.event.view_is in
    let same : c.time_of.result ≡ time_of (given_by event.start r) = c.time_of.ensures ∙ ap time_of given in
    let begin = sym (moment-back c.args.since c.ranges.since.sfits) in
    let back = sym (moment-back c.args.from c.ranges.from.sfits) in
    let are = both-back (λ s f. AreRunning clocks w event s f running) begin back c.requires.running in
    let counting = both-back (λ s f. AreCounting clocks w event s f near) begin back c.requires.counting in
    let skip = to-place (record { counting = counting; up = c.requires.up; passed = c.loop-k.invariant.passed }) place
    (omega (arith, c.if-place-next.false)) here below in
    let told = if-some (counts w from c.time_of.result (is_among running (instant clocks c.time_of.result))) c.in-Some.moment
    (instant clocks c.time_of.result) (sym c.in-Some.is ∙ c.counted.ensures.counted) in
    let fits : SFits w64 c.in-Some.moment = search rules in
    let moment : to_z w64 (of_z w64 c.in-Some.moment) ≡ instant clocks (time_of (given_by event.start r)) =
    moment-back c.in-Some.moment fits.sfits ∙ (told.1 ∙ ap (instant clocks) same) in
    let late : since ≤ℤ instant clocks (time_of (given_by event.start r)) = omega (arith, ints, moment, c.if-moment-since.false) in
    let step = listed-step clocks w since from event place event.rdates true there item
    (sym (counts-same c.args.zones w event since from running are (time_of (given_by event.start r)) late)
    ∙ subst (λ (x : Time). counts w from x (is_among running (instant clocks x)) ≡ true) same told.0) in
    let rest = listed_from clocks w since from event (place + 1) (drop (place + 1) event.rdates) in
    let start : Start = record { moment = to_z w64 (of_z w64 c.in-Some.moment); source = Listed place; given = c.given_by-given.result } in
    let pushed : c.push.new.self.items ≡ c.loop-k.starts.items ++ (start ∷ []) = c.in_ok-push.ensures.items in
    let is : start ≡ start_by clocks (Listed place) (given_by event.start r) = λ i. record { moment = moment i; source = Listed place; given = given i } in
    let more : c.push.new.self.items ++ rest ≡ c.loop-k.starts.items ++ (start ∷ rest) = grind (arith, common_steps, pushed) in
    record {
      known = c.counted.ensures.known;
      within = omega (arith, there);
      passed = λ j l. let up = c.requires.up j k (omega (arith, l)) below in omega (arith, up, here);
      starts = more ∙ (ap (λ (s : Start). c.loop-k.starts.items ++ (s ∷ rest)) is
          ∙ (sym (ap (λ (xs : List Start). c.loop-k.starts.items ++ xs) (skip ∙ step)) ∙ c.loop-k.invariant.starts));
    }

pub returns-clause-starts : goal.returns-clause-starts
returns-clause-starts c =
    let event = c.args.event.now in
    let clocks = clocks_in c.args.zones in
    let w = c.args.window.now in
    let begin = moment-back c.args.since c.ranges.since.sfits in
    let back = moment-back c.args.from c.ranges.from.sfits in
    let counting = both-back (λ s f. AreCounting clocks w event s f c.args.near) (sym begin) (sym back) c.requires.counting in
    let none = to-end (record { counting = counting; up = c.requires.up; passed = c.loop-k.invariant.passed }) c.loop-k.invariant.within
    (let over = c.loop-k-test.false in let count = c.count-k-end.ensures in omega (arith, over, count)) in
    sym (append-nil c.loop-k.starts.items)
    ∙ (sym (ap (λ (xs : List Start). c.loop-k.starts.items ++ xs) none)
    ∙ (c.loop-k.invariant.starts
    ∙ both-back (λ s f. c.args.starts.now.items
    ++ listed_from clocks w (to_z w64 (of_z w64 c.args.since)) (to_z w64 (of_z w64 c.args.from)) event 0 event.rdates
    ≡ c.args.starts.now.items ++ listed_from clocks w s f event 0 event.rdates) begin back refl))
