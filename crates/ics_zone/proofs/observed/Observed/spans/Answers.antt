use Rattle.std.proofs.Common.{◌≡◌, refl, Option, Some, None, IfSome, Contains, ℤ}
use Rattle.ics_zone.specs.declared.spans.SpanList.{SpanList}
use Rattle.ics_zone.specs.declared.spans.Spans.{Spans}
use Rattle.ics_zone.specs.Moments.{moment_by}
use Rattle.ics_zone.specs.Spans.{AreSpans}
use Rattle.ics_zone.specs.ZoneOffsets.{zone_offset}
use Rattle.ics_zone.specs.Inner.Walks.{IsShort}
use Rattle.ics_zone.specs.Inner.ZoneBounds.{zone_short}
use Rattle.ics_zone.specs.Inner.ZoneOnsets.{AreSteady}
use Rattle.ics_zone.proofs.observed.Observed.spans.Goals as goal

of_list : (offset : ℤ → ℤ) (list : SpanList) → AreSteady offset list.steady.items → IsShort offset → ((t : ℤ) → Contains list.offsets.items (offset t))
    → (o : Option Spans) → IfSome o (λ s. s.list.value ≡ list) → IfSome o (AreSpans offset (moment_by offset))
of_list offset list steady short offsets None e = tt
of_list offset list steady short offsets (Some s) e = record { steady = rw e steady; short = short; offsets = rw e offsets; moments = λ local. refl }

pub returns : goal.returns
returns c =
    let known = rw c.self.view_is at c.self.invariant in
    let same = c.in-Ok.ensures.items_if_clones_equal (λ x y e. e) in
    let offsets : (t : ℤ) → Contains c.in-Ok.offsets.items (zone_offset c.args.self.now.said.items t) =
    rw (same, c.as_slice.ensures.value) known.all_offsets in
    of_list (zone_offset c.args.self.now.said.items) _ c.listed_on-until.ensures (zone_short c.args.self.now) offsets c.of.result c.of.ensures
