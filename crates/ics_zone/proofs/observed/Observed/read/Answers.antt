use Rattle.std.proofs.lemmas.Grind.{common_steps}
use Rattle.std.proofs.Common.{rules, ◌<◌, length, arith}
use Rattle.ics_zone.specs.declared.zone_observances.ZoneObservances.{ZoneObservances}
use Rattle.ics_zone.proofs.JumpLemmas.{offsets_found}
use Rattle.ics_zone.proofs.ReadLemmas.{zone_bounds}
use Rattle.ics_zone.proofs.observed.Observed.read.Goals as goal

pub invariant_of-zone : goal.invariant_of-zone
invariant_of-zone c = record { in_bounds = zone_bounds c.args.observances.items c.requires }

pub invariant_of-result : goal.invariant_of-result
invariant_of-result c =
    let zone : ZoneObservances = record { said = c.args.observances; in_bounds = zone_bounds c.args.observances.items c.requires } in
    let there : 0 < length c.args.observances.items = search rules in
    let asked = rw c.deref-2.ensures.value at c.in-Ok.ensures in
    let have = rw c.deref-3.ensures.value at c.in-Ok-offsets_of.ensures in
    record {
      some = there;
      asked = asked;
      all_offsets = offsets_found zone there c.in-Ok-offsets_of.offsets.items have;
      spans = λ k d h. absurd (omega arith);
      each_second = λ k d h. absurd (omega arith);
    }

pub returns-then-is_empty-clause-none : goal.returns-then-is_empty-clause-none
returns-then-is_empty-clause-none c = grind (arith, common_steps)

pub returns-then-is_empty-clause-fine : goal.returns-then-is_empty-clause-fine
returns-then-is_empty-clause-fine c = grind (arith, common_steps)
