use Rattle.std.proofs.Common.{◌≡◌, ◌++◌}
use Rattle.std.specs.List.{flat_map}
use Rattle.ics_calendar.specs.Inner.SoundParts.{checks_of}
use Rattle.ics_calendar.proofs.file_parts.gathered.Given as goal

abbrev pub invariant-loop-one : goal.invariant-loop-one
invariant-loop-one l = record {
  events : flat_map (λ own. own.items) l.events.items ++ flat_map (λ sound. sound.read.events) l.one-iterator.rest.items
      ≡ flat_map (λ sound. sound.read.events) l.fn.sound.items;
  checks : l.checks.items ++ checks_of l.one-iterator.rest.items ≡ checks_of l.fn.sound.items;
}
