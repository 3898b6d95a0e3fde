use Rattle.std.proofs.Common.{arith, ap, length, ◌∙◌}
use Rattle.std.proofs.lemmas.Int.{ints, clamps}
use Rattle.ics_zone.specs.Inner.ZoneOnsets.{IsSteady}
use Rattle.ics_zone.specs.ZoneOffsets.{zone_offset}
use Rattle.ics_zone.proofs.WalkLemmas.{steady_pushed}
use Rattle.ics_zone.proofs.observed.Observed.first_span.Goals as goal
use Rattle.ics_zone.proofs.observed.Observed.first_span.Goals.{then-begin-near+in_ok-ok, else-begin-near}

-- the span about the instant, clipped, and pushed on an empty list; else the list is empty
pub returns : goal.returns
returns c =
    let empty = ap length c.new-spans.ensures.items in
    elim c.if-begin-near.branch [
      | then-begin-near+in_ok-ok w ↦ (
          let steady : IsSteady (zone_offset c.args.self.now.said.items) w.clipped.result.from w.clipped.result.next w.clipped.result.offset =
          λ t low high. w.clipped.ensures.offset ∙ w.steady_about-first.ensures t (omega (arith, ints, clamps, low, w.clipped.ensures.from))
          (omega (arith, ints, clamps, high, w.clipped.ensures.next)) in
          rw w.spans-is (steady_pushed c.new-spans.result.items w.clipped.result _ w.push.ensures.items (λ k d h. absurd (omega (arith, h, empty))) steady))
      | else-begin-near w ↦ rw w.spans-is (λ k d h. absurd (omega (arith, h, empty)))
    ]
