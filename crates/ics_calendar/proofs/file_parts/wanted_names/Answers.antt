use Rattle.std.proofs.Common.{sym, ◌∙◌}
use Rattle.std.proofs.lemmas.List.{append-nil}
use Rattle.ics_calendar.specs.Inner.SoundParts.{is_sound}
use Rattle.ics_calendar.specs.ZoneTables.{known_by}
use Rattle.ics_calendar.proofs.PartsGiven.{unknown-push}
use Rattle.ics_calendar.proofs.file_parts.wanted_names.Goals as goal
use Rattle.ics_calendar.proofs.file_parts.wanted_names.Goals.{then-is_sound+in_ok-add, else-is_sound}

pub loop-sound-preserved : goal.loop-sound-preserved
loop-sound-preserved c =
    let index = (known_by c.args.table.now).index in
    let more = unknown-push index (is_sound c.args.faults.now) c.args.events.now c.loop-sound.sound-index c.sound-item.result c.sound-item.is
    c.loop-sound-test.true in
    let sound = sym (λ i. is_sound c.args.faults.now (c.sound.view_is i).part) ∙ sym (λ i. is_sound c.args.faults.now (c.sound-inside.view_is i).part)
    ∙ sym c.is_sound.ensures in
    elim c.if-is_sound.branch [
      | then-is_sound+in_ok-add w ↦
          let checks = w.deref.ensures.value ∙ (λ i. (c.sound-inside.view_is i).read.checks) ∙ (λ i. (c.sound.view_is i).read.checks) in
          rw (w.unknown-is, more, sound ∙ w.if-is_sound.true, ← checks) (w.in_ok-add.ensures _ c.loop-sound.invariant)
      | else-is_sound w ↦ rw (w.unknown-is, more, sound ∙ w.if-is_sound.false, append-nil) c.loop-sound.invariant
    ]
