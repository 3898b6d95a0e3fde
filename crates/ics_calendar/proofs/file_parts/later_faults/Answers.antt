use Rattle.std.proofs.Common.{sym, ap, ◌∙◌, subst, cond, ◌==◌, take}
use Rattle.std.specs.List.{All}
use Rattle.std.specs.Option.{option_or}
use Rattle.ics_components.specs.ParsedFiles.{IsSoundCheck, IsSoundParsed}
use Rattle.ics_calendar.specs.Inner.SoundParts.{SoundEventSeen}
use Rattle.ics_calendar.specs.Settled.{first_judged}
use Rattle.ics_calendar.specs.Inner.SoundParts.{later_of}
use Rattle.ics_calendar.specs.ZoneTables.{known_by}
use Rattle.ics_calendar.proofs.PartsGiven.{later-more}
use Rattle.ics_calendar.proofs.file_parts.later_faults.Goals as goal

pub first_judged-fault-requires : goal.first_judged-fault-requires
first_judged-fault-requires c =
    let checks = c.deref.ensures.value ∙ (λ i. (c.sound-inside.view_is i).read.checks) ∙ (λ i. (c.sound.view_is i).read.checks) in
    let sound = subst (λ (sound : SoundEventSeen). IsSoundParsed sound.read) (sym c.sound-item.is)
    (c.requires c.loop-sound.sound-index c.sound-item.result c.loop-sound-test.true) in
    subst (λ checks. All (λ w. IsSoundCheck w.check) checks) (sym checks) sound.sound

pub loop-sound-preserved : goal.loop-sound-preserved
loop-sound-preserved c =
    let known = known_by c.args.table.now in
    let i = c.loop-sound.sound-index in
    let checks = c.deref.ensures.value ∙ (λ i. (c.sound-inside.view_is i).read.checks) ∙ (λ i. (c.sound.view_is i).read.checks) in
    let fault = c.first_judged-fault.ensures ∙ ap (first_judged known) checks in
    record {
      count = c.note_fault.ensures.count ∙ c.loop-sound.invariant.count;
      each = λ part less.
          let was = c.loop-sound.invariant.each part less in
          c.note_fault.ensures.each part (rw c.loop-sound.invariant.count less)
          ∙ (λ j. cond ((c.sound-inside.view_is j).part == part) (option_or (was j) (fault j)) (was j))
          ∙ (λ j. cond ((c.sound.view_is j).part == part)
          (option_or (later_of known (take i c.args.events.now) part) (first_judged known c.sound-item.result.read.checks))
          (later_of known (take i c.args.events.now) part))
          ∙ sym (later-more known c.args.events.now c.loop-sound.sound-index c.sound-item.result part c.sound-item.is c.loop-sound-test.true);
    }
