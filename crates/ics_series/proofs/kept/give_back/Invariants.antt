use Rattle.std.specs.Prelude.{ℤ, length, List}
use Rattle.std.specs.List.{AllByRecursion}
use Rattle.ics_file.specs.File.{FileSaid}
use Rattle.ics_listing.specs.FileClocks.{Clock}
use Rattle.ics_series.specs.DaySteps.{Scope}
use Rattle.ics_series.specs.Inner.Ended.{AreMovedOff, IsOverPart}
use Rattle.ics_series.specs.Inner.Kept.{AreKept, IsPartOf}
use Rattle.ics_series.specs.Inner.Marks.{StayMarks}
use Rattle.ics_series.proofs.kept.give_back.Given as goal

abbrev pub invariant-loop-lead : goal.invariant-loop-lead
invariant-loop-lead l = record {
  kept : (files : List FileSaid) (display : Clock) → AllByRecursion (λ x. IsPartOf files display x.feed) l.initial.leads.items
      → AreKept files display l.initial.kept.items → AreKept files display l.kept.items;
  spans : AreMovedOff l.versions l.near (λ s day. AllByRecursion (λ x. IsOverPart s day l.floor l.by x.feed) l.initial.leads.items)
      l.initial.spans.items l.spans.items;
  marks : StayMarks l.versions (λ files display. AllByRecursion (λ x. IsPartOf files display x.feed) l.initial.leads.items)
      l.initial.marks.items l.marks.items;
  parts : (files : List FileSaid) (display : Clock) → AllByRecursion (λ x. IsPartOf files display x.feed) l.initial.leads.items
      → AllByRecursion (λ x. IsPartOf files display x.feed) l.leads.items;
  over : (s : Scope) (day : ℤ) → AllByRecursion (λ x. IsOverPart s day l.floor l.by x.feed) l.initial.leads.items
      → AllByRecursion (λ x. IsOverPart s day l.floor l.by x.feed) l.leads.items;
}

abbrev pub decreases-loop-lead : goal.decreases-loop-lead
decreases-loop-lead l = length l.leads.items
