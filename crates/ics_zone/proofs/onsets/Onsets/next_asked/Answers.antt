use Rattle.std.proofs.Common.{rules, inl, inr, SFits, w64, arith}
use Rattle.std.proofs.lemmas.Int.{ints, to_z-of_z}
use Rattle.ics_zone.specs.Inner.OnsetSets.{Has}
use Rattle.ics_zone.proofs.KeptLemmas.{earlier_of, is_of}
use Rattle.ics_zone.proofs.onsets.Onsets.next_asked.Goals as goal

pub returns-then-with_rule : goal.returns-then-with_rule
returns-then-with_rule c =
    let after : SFits w64 c.args.after = c.ranges.after in
    let limit : SFits w64 c.args.limit = c.ranges.limit in
    let kept : SFits w64 c.next_by_rule-kept.result = search rules in
    let bound = simp to_z-of_z at c.next_listed.ensures.bound in
    rw (to_z-of_z w64 c.next_listed.result (search rules)) (record {
      after = simp to_z-of_z at c.next_listed.ensures.after;
      bound = omega (arith, ints, bound, c.next_by_rule-kept.ensures.bound);
      next = λ t asked late.
          let contains : Has c.args.self.now t = elim asked [ inl l ↦ inl l | inr r ↦ inr r.1 ] in
          earlier_of c.args.self.now c.args.after bound (simp to_z-of_z at c.next_listed.ensures.next)
          (simp to_z-of_z at c.next_by_rule-kept.ensures.next) t contains late;
      is = is_of c.args.self.now bound (simp to_z-of_z at c.next_listed.ensures.is) (simp to_z-of_z at c.next_by_rule-kept.ensures.is);
    })
