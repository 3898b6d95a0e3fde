use Rattle.std.proofs.Common.{◌≡◌, ◌-ℤ◌, ℤ, pos, Bool, if◌then◌else◌, w64, to_z, of_z, sym, ◌∙◌, ap, subst, arith, SFits}
use Rattle.std.specs.Int.{int_max}
use Rattle.std.proofs.lemmas.Int.{ints}
use Rattle.ics_listing.proofs.Cases.{moment-back}
use Rattle.ics_event.specs.declared.event.Event.{Event}
use Rattle.ics_zone.specs.declared.bounds.Bounds.{Bounds}
use Rattle.ics_starts.specs.FileZones.{clocks_in}
use Rattle.ics_starts.specs.Found.{first_met}
use Rattle.ics_starts.specs.Leeway.{rule_late}
use Rattle.ics_starts.specs.SeriesStarts.{IsFirstGiven}
use Rattle.ics_starts.proofs.EndedLemmas.{given-from}
use Rattle.ics_starts.proofs.InstantLemmas.{bounds-apart}
use Rattle.ics_starts.proofs.starts.first_given.Goals as goal
use Rattle.ics_starts.proofs.starts.first_given.Goals.{then-window, else-window}

pub rule_late-late-requires-clause-order : goal.rule_late-late-requires-clause-order
rule_late-late-requires-clause-order c = omega (arith, ints, (bounds-apart c.args.bounds c.requires.bounds).0)

abbrev late_by : Bool → Event → Bounds → ℤ
late_by started event b = if started then pos 0 else rule_late b event

pub returns : goal.returns
returns c =
    let w = c.args.window.now in
    let event = c.args.event.now in
    let zones = c.args.zones in
    let b = c.args.bounds in
    let clocks = clocks_in zones in
    let met = c.first_met in
    let fits : SFits w64 c.args.since = c.ranges.since in
    let since : to_z w64 (of_z w64 c.args.since) ≡ c.args.since = omega (arith, ints) in
    let value = moment-back c.max.result c.max.type_inv ∙ c.max.ensures.value in
    let given = given-from zones w event c.args.since b c.requires.bounds in
    let late : to_z w64 (of_z w64 (to_z w64 (of_z w64 c.first_met.result) -ℤ to_z w64 c.if-window.late-bits))
    ≡ first_met clocks w event -ℤ late_by w.notstarted event b =
    elim c.if-window.branch [
      | then-window k ↦
          omega (arith, ints, met.type_inv, met.ensures.value, met.ensures.late, met.ensures.early, k.late-is, w.not_early, w.not_late, w.ordered)
          ∙ ap (λ (x : Bool). first_met clocks w event -ℤ late_by x event b) (sym k.if-window.true)
      | else-window k ↦ let late = k.rule_late-late in
          omega (
            arith,
            ints,
            met.type_inv,
            met.ensures.value,
            met.ensures.late,
            met.ensures.early,
            k.late-is,
            late.ensures.value,
            late.ensures.least,
            late.ensures.most,
            w.not_early,
            w.not_late,
            w.ordered,
          )
          ∙ ap (λ (x : Bool). first_met clocks w event -ℤ late_by x event b) (sym k.if-window.false)
    ] in
    subst (IsFirstGiven clocks w event c.args.since) (sym (value ∙ (λ i. int_max (late i) (since i)))) given
