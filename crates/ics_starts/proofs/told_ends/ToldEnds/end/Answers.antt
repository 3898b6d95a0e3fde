use Rattle.std.proofs.Common.{◌≡◌, ◌∙◌, ap, refl, sym, arith, rules, w64, SFits}
use Rattle.std.specs.Int.{int_max}
use Rattle.std.proofs.lemmas.Int.{int_max_is, ints, to_z-of_z}
use Rattle.ics_event.specs.declared.event.Event.{Event}
use Rattle.ics_listing.specs.StartTimes.{time_of}
use Rattle.ics_values.specs.declared.time.Length.TheVariants.{Lasting}
use Rattle.ics_starts.specs.Clocks.{clock_of, instant}
use Rattle.ics_starts.specs.FileZones.{clocks_in}
use Rattle.ics_starts.specs.Finish.{end_by, end_of, finish, later_by}
use Rattle.ics_listing.proofs.StartOrderLemmas.{rdate-time}
use Rattle.ics_starts.proofs.InstantLemmas.{lasting, late}
use Rattle.ics_starts.proofs.told_ends.ToldEnds.end.Goals as goal

pub later_by-requires-clause-late : goal.later_by-requires-clause-late
later_by-requires-clause-late c =
    let from = late c.args.zones (time_of c.args.start.given) (rdate-time c.args.start.given c.requires.start.value) in
    omega (arith, ints, c.requires.start.moment, from)

pub returns-then-have_one_clock-clause-told : goal.returns-then-have_one_clock-clause-told
returns-then-have_one_clock-clause-told c =
    let clocks = clocks_in c.args.zones in
    let s = c.args.start in
    let given = c.in-At.given in
    let event = c.args.event.now in
    let is = c.event.view_is in
    let duration = c.in_default-Lasting.duration in
    let clock : clock_of clocks given ≡ clock_of clocks event.start =
    c.have_one_clock.ensures c.if-have_one_clock.true clocks ∙ ap (λ (e : Event). clock_of clocks e.start) is in
    let moment : instant clocks given ≡ s.moment = sym (c.requires.start.moment ∙ ap (λ g. instant clocks (time_of g)) c.in-At.is) in
    let lasts : event.length ≡ Lasting duration = sym (ap (λ (e : Event). e.length) is) ∙ c.in_default-Lasting.is-1 in
    let end : end_of clocks event s.given ≡ later_by (clock_of clocks event.start) duration s.moment =
    ap (end_of clocks event) c.in-At.is
    ∙ (ap (end_by clocks event.start given event.start.stamp) lasts
    ∙ (lasting clocks event.start given duration event.start.stamp
    (λ day e. c.in_default-Lasting.not-Date-0 day (ap (λ (e : Event). e.start.stamp) is ∙ e))
    ∙ (λ i. later_by (clock i) duration (moment i)))) in
    let by = ap (λ (e : Event). later_by (clock_of clocks e.start) duration s.moment) is in
    let fits : SFits w64 s.moment = search rules in
    let told = c.in_ok-end-in_default-Lasting.ensures in
    let value = simp (to_z-of_z w64 s.moment fits) at told.value in
    let max = c.max.ensures.value in
    let last : finish clocks event s.given ≡ int_max (instant clocks (time_of s.given)) (end_of clocks event s.given) = refl in
    record {
      value = omega (arith, ints, int_max_is, max, c.max.type_inv, last, end, by, value, c.requires.start.moment);
      early = omega (arith, ints, int_max_is, max, c.max.type_inv, told.early, c.requires.early);
    }
