use Rattle.std.proofs.lemmas.Grind.{common_steps}
use Rattle.std.proofs.Common.{◌≡◌, w64, to_z, of_z, sym, ◌∙◌, ap, subst, arith}
use Rattle.std.specs.Int.{int_min}
use Rattle.std.proofs.lemmas.Int.{ints, int_min_is}
use Rattle.ics_starts.specs.Found.{earlier, earliest_from, IsStartIn}
use Rattle.ics_listing.specs.StartTimes.{time_of}
use Rattle.ics_starts.specs.FileZones.{clocks_in}
use Rattle.ics_listing.proofs.StartOrderLemmas.{rdate-time}
use Rattle.ics_listing.proofs.Cases.{moment-back}
use Rattle.ics_starts.proofs.InstantLemmas.{early, late}
use Rattle.ics_starts.proofs.SoughtLemmas.{earliest-step}
use Rattle.ics_starts.proofs.starts.earliest.Goals as goal
use Rattle.ics_starts.proofs.starts.earliest.Goals.{then-is_span_met, else-is_span_met}

pub loop-start-init : goal.loop-start-init
loop-start-init c =
    let clocks = clocks_in c.args.zones in
    let event = c.args.event.now in
    let w = c.args.window.now in
    let met = c.requires in
    let fits = moment-back c.args.met c.ranges.met.sfits in
    record {
      rest = ap (λ t. earliest_from clocks w event t c.args.starts.now) (fits ∙ met.met);
      late = omega (arith, ints, fits, met.late);
      early = omega (arith, ints, fits, met.early, w.ordered);
    }

pub loop-start-preserved : goal.loop-start-preserved
loop-start-preserved c =
    let clocks = clocks_in c.args.zones in
    let event = c.args.event.now in
    let w = c.args.window.now in
    let starts = c.args.starts.now in
    let k = c.loop-start.start-index in
    let s = c.start-item.result in
    let least = to_z w64 c.loop-start.earliest-bits in
    let start : IsStartIn c.args.zones s = subst (IsStartIn c.args.zones) (sym c.start-item.is) (c.requires.starts k s c.loop-start-test.true) in
    let time = rdate-time s.given start.value in
    let fits : to_z w64 (of_z w64 c.start-item.result.moment) ≡ c.start-item.result.moment =
    omega (arith, ints, start.moment, late c.args.zones (time_of s.given) time, early c.args.zones (time_of s.given) time) in
    elim c.if-is_span_met.branch [
      | then-is_span_met b ↦
          let new : to_z w64 c.if-is_span_met.earliest-bits ≡ int_min (to_z w64 c.loop-start.earliest-bits) c.start-item.result.moment =
          omega (arith, ints, b.earliest-is, b.min-earliest.type_inv, b.min-earliest.ensures.value, fits, int_min_is) in
          record {
            rest = earliest-step clocks w event least starts k c.loop-start-test.true c.start-item.is
                (new ∙ ap (λ x. earlier x least s.moment) (sym b.if-is_span_met.true ∙ c.is_span_met.ensures)) ∙ c.loop-start.invariant.rest;
            late = omega (arith, ints, new, fits, start.moment, late c.args.zones (time_of s.given) time, c.loop-start.invariant.late, int_min_is);
            early = omega (arith, ints, new, fits, c.loop-start.invariant.early, int_min_is);
          }
      | else-is_span_met b ↦ record {
        rest = earliest-step clocks w event least starts k c.loop-start-test.true c.start-item.is
            (b.earliest-is ∙ ap (λ x. earlier x least s.moment) (sym b.if-is_span_met.false ∙ c.is_span_met.ensures)) ∙ c.loop-start.invariant.rest;
        late = omega (arith, ints, b.earliest-is, c.loop-start.invariant.late);
        early = omega (arith, ints, b.earliest-is, c.loop-start.invariant.early);
      }
    ]

pub returns : goal.returns
returns c = record { value = grind (arith, ints, common_steps); late = grind (arith, ints, common_steps); early = grind (arith, ints, common_steps) }
