use Rattle.std.proofs.Common.{◌≡◌, Some, map}
use Rattle.std.specs.List.{fold}
use Rattle.ics_calendar.specs.Inner.Labels.{AreNumbered}
use Rattle.ics_calendar.specs.Inner.PartsRead.{Numbered, with_key}
use Rattle.ics_calendar.proofs.labels.note_uids.Given as goal

abbrev pub invariant-loop-uid : goal.invariant-loop-uid
invariant-loop-uid l = record {
  kept : (had : Numbered) → AreNumbered had l.fn.by_uid l.fn.faults.items →
      AreNumbered (fold (with_key l.fault) had (map (λ uid. Some uid) l.yielded)) l.by_uid l.faults.items;
  part : (had : Numbered) → AreNumbered had l.fn.by_uid l.fn.faults.items → had.part ≡ 0 →
      l.last ≡ (fold (with_key l.fault) had (map (λ uid. Some uid) l.yielded)).part;
}
