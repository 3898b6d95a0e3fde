use Rattle.std.proofs.Common.{◌≡◌, ◌++◌, List, length, sym, ◌∙◌, ap, arith, subst, to_z, of_z, w64}
use Rattle.std.specs.Result.{IfOk}
use Rattle.std.proofs.lemmas.Int.{ints}
use Rattle.std.proofs.lemmas.List.{length-map}
use Rattle.ics_event.specs.declared.event.Event.{Event}
use Rattle.ics_event.specs.Event.{Rdate}
use Rattle.ics_listing.proofs.Cases.{moment-back}
use Rattle.ics_listing.specs.StartTimes.{time_of}
use Rattle.ics_starts.specs.FileZones.{clocks_in}
use Rattle.ics_starts.specs.Found.{listed_from, AreRunning}
use Rattle.ics_starts.specs.Inner.ByLocal.{local_in, rdate_locals, AreKnown}
use Rattle.ics_starts.specs.Starts.{given_by}
use Rattle.ics_starts.proofs.NearLemmas.{both-back, counting-near}
use Rattle.ics_starts.proofs.listed.push_listed.Goals as goal

-- there are as many locals as RDATEs
locals-counted : (event : Event) {rdates : List Rdate} → rdates ≡ event.rdates → length (rdate_locals event) ≡ length rdates
locals-counted event is =
    length-map event.rdates (λ r. local_in (time_of (given_by event.start r))) ∙ sym (ap (λ (xs : List Rdate). length xs) is)

pub push_at-requires-clause-up : goal.push_at-requires-clause-up
push_at-requires-clause-up c =
    let event = c.args.event.now in
    let from = to_z w64 (of_z w64 c.args.from) in
    let to = to_z w64 (of_z w64 c.args.window.now.to) in
    let known = c.or_all-near.ensures (rdate_locals event) from c.args.running.now to (locals-counted event c.rdates.ensures.value)
    c.in_ok-given.ensures in
    known.up

pub push_at-requires-clause-counting : goal.push_at-requires-clause-counting
push_at-requires-clause-counting c =
    let w = c.args.window.now in
    let event = c.args.event.now in
    let running = c.args.running.now in
    let from = to_z w64 (of_z w64 c.args.from) in
    let to = to_z w64 (of_z w64 w.to) in
    let end : to ≡ w.to = omega (arith, ints, w.not_early, w.ordered, w.not_late) in
    let begin = sym (moment-back c.args.since c.ranges.since.sfits) in
    let back = sym (moment-back c.args.from c.ranges.from.sfits) in
    let are = both-back (λ s f. AreRunning (clocks_in c.args.zones) w event s f running) begin back c.requires.running in
    let known = c.or_all-near.ensures (rdate_locals event) from running to (locals-counted event c.rdates.ensures.value)
    c.in_ok-given.ensures in
    counting-near c.args.zones w event are (omega (arith, ints, c.requires.soon, c.ranges.from))
    (subst (λ t. AreKnown (rdate_locals event) from running t c.or_all-near.result) end known)

pub returns-clause-starts : goal.returns-clause-starts
returns-clause-starts c =
    let event = c.args.event.now in
    both-back
    (λ s f. IfOk c.push_at.result
    (λ x. c.push_at.new.starts.items ≡ c.args.starts.now.items ++ listed_from (clocks_in c.args.zones) c.args.window.now s f event 0 event.rdates))
    (moment-back c.args.since c.ranges.since.sfits) (moment-back c.args.from c.ranges.from.sfits) c.push_at.ensures.starts
