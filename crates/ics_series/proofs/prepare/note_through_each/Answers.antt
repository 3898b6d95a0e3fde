use Rattle.std.proofs.Common.{◌≡◌, length, map, sym, ap, ◌∙◌, subst, arith}
use Rattle.ics_file.specs.File.{AreEventsOf}
use Rattle.ics_file.specs.declared.events.FileEvents.{FileEvents}
use Rattle.ics_zone.specs.ZoneSaid.{zone_said}
use Rattle.ics_series.proofs.prepare.note_through_each.Goals as goal

pub invariant_of-file : goal.invariant_of-file
invariant_of-file c = subst (λ (f : FileEvents). AreEventsOf (map zone_said f.zones) f.events) (c.file.view_is ∙ sym c.loop-k.invariant) c.file.invariant

pub index-event-requires : goal.index-event-requires
index-event-requires c =
    let count : length c.file.inside.events.items ≡ length c.loop-k.file-inside.events.items =
    ap (λ (f : FileEvents). length f.events) (c.file.view_is ∙ sym c.loop-k.invariant) in
    omega (arith, count, c.loop-k-test.true, c.len-k-end.ensures, c.file.inside.events.ok.0, c.loop-k.file-inside.events.ok.0)
