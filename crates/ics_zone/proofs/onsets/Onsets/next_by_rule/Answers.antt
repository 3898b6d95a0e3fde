use Rattle.std.proofs.lemmas.Grind.{common_steps}
use Rattle.std.proofs.Common.{rules, SFits, w32, w64, arith}
use Rattle.std.proofs.lemmas.Int.{to_z-of_z, ints}
use Rattle.ics_zone.proofs.KeptLemmas.{next_of_rule, no_next_of_rule}
use Rattle.ics_zone.proofs.onsets.Onsets.next_by_rule.Goals as goal

pub returns-in-Some-next_near : goal.returns-in-Some-next_near
returns-in-Some-next_near c =
    let from : SFits w32 c.args.self.now.offset_from = search rules in
    let shown = simp (to_z-of_z, c.ranges.limit) at c.shown_to-end.ensures in
    let past = simp (to_z-of_z, from, c.ranges.after) at c.shown_by-from.ensures in
    let next = next_of_rule c.args.self.now c.in-Some.is shown past c.in-Some-next_near.ensures (simp to_z-of_z at c.instant.ensures) in
    rw (to_z-of_z w64 c.instant.result (search rules)) (record { after = next.0; bound = next.1.0; next = next.1.1.0; is = λ less. next.1.1.1 })

pub returns-in-None : goal.returns-in-None
returns-in-None c =
    let from : SFits w32 c.args.self.now.offset_from = search rules in
    let shown = simp (to_z-of_z, c.ranges.limit) at c.shown_to-end.ensures in
    let past = simp (to_z-of_z, from, c.ranges.after) at c.shown_by-from.ensures in
    rw (to_z-of_z w64 c.args.limit c.ranges.limit) (record {
      after = c.requires.limit;
      bound = omega (arith, ints);
      next = no_next_of_rule c.args.self.now c.in-Some.is shown past c.in-None.ensures;
      is = λ less. absurd (omega (arith, ints));
    })

pub returns-in_default : goal.returns-in_default
returns-in_default c = rw (to_z-of_z w64 c.args.limit c.ranges.limit)
    (record { after = c.requires.limit; bound = omega (arith, ints); next = grind (arith, common_steps); is = λ less. absurd (omega (arith, ints)) })

pub shown_by-from-requires : goal.shown_by-from-requires
shown_by-from-requires c = rw (to_z-of_z w32 c.args.self.now.offset_from (search rules)) c.requires.sound.from_in
