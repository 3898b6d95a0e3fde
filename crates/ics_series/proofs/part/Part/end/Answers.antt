use Rattle.std.proofs.Common.{◌≡◌, Option, Vec, Global, ap, rules, sym, subst, to_z, of_z, w64}
use Rattle.ics_series.specs.Inner.Kept.{IsOfMaster, IsPartOf}
use Rattle.ics_series.specs.Inner.Ended.{AreMovedOff, IsOverPart}
use Rattle.ics_series.specs.Inner.Marks.{StayMarks}
use Rattle.ics_days.specs.declared.span.Span.{Span}
use Rattle.ics_starts.specs.declared.mark.Mark.{Mark}
use Rattle.ics_series.proofs.OverLemmas.{kept-rest, moved-as, moved_none, stay_none}
use Rattle.ics_series.proofs.part.Part.end.Goals as goal
use Rattle.ics_series.proofs.part.Part.end.Goals.{then-far, else-far}

pub move_off-requires : goal.move_off-requires
move_off-requires c =
    let fits : to_z w64 (of_z w64 c.least_lasting-least.result) ≡ c.least_lasting-least.result = search rules in
    record { least = rw fits (rw c.deref.ensures at c.least_lasting-least.ensures) }

pub returns-clause-kept : goal.returns-clause-kept
returns-clause-kept c = λ files display part.
    let own : IsOfMaster files display c.in-Series.placed.series.value = subst (IsPartOf files display) c.in-Series.is part in
    kept-rest files display (subst (IsOfMaster files display) (sym c.deref_mut.ensures.value) own)
    c.rest.ensures.zones c.rest.ensures.event c.rest.ensures.replaced

pub returns-clause-spans : goal.returns-clause-spans
returns-clause-spans c =
    let Are = AreMovedOff c.args.versions.now c.args.near.now (λ s day. IsOverPart s day c.args.floor c.args.by c.args.self) c.args.spans.now.items in
    let fits : to_z w64 (of_z w64 c.args.by) ≡ c.args.by = search rules in
    elim c.if-far.branch [
      | then-far w ↦ subst Are (sym (ap (λ (p : Vec Span Global). p.items) w.spans-is))
          (moved-as (rw fits at w.move_off.ensures.spans) (λ s day. subst (IsOverPart s day c.args.floor c.args.by) c.in-Series.is))
      | else-far w ↦ subst Are (sym (ap (λ (p : Vec Span Global). p.items) w.spans-is)) (moved_none c.args.spans.now.items)
    ]

pub returns-clause-marks : goal.returns-clause-marks
returns-clause-marks c =
    let Stay = StayMarks c.args.versions.now (λ files display. IsPartOf files display c.args.self) c.args.marks.now.items in
    elim c.if-far.branch [
      | then-far w ↦ subst Stay (sym (ap (λ (p : Vec (Option Mark) Global). p.items) w.marks-is)) (record {
        still = λ files display chosen part are.
            w.move_off.ensures.marks.still files display chosen (subst (IsPartOf files display) c.in-Series.is part) are;
      })
      | else-far w ↦ subst Stay (sym (ap (λ (p : Vec (Option Mark) Global). p.items) w.marks-is)) (stay_none c.args.marks.now.items)
    ]
