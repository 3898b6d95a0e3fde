use Rattle.std.proofs.Common.{arith}
use Rattle.std.proofs.lemmas.Bool.Decides.{nat_tests}
use Rattle.std.proofs.lemmas.Grind.{common_steps}
use Rattle.std.proofs.Math.Nat.{mod-le}
use Rattle.ics_period.proofs.ScanLemmas.{in_word}
use Rattle.ics_period.proofs.steps.classes_of.Goals as goal
use Rattle.ics_period.proofs.steps.classes_of.Goals.{then-contains, else-contains}

pub loop-second-preserved : goal.loop-second-preserved
loop-second-preserved c = elim c.if-contains.branch [
  | then-contains w ↦ record {
    size = grind (arith, common_steps);
    members = λ s l on. grind (arith, nat_tests, common_steps, mod-le, w.insert.ensures.members s, c.loop-second.invariant.members s);
  }
  | else-contains w ↦ record {
    size = grind (arith, common_steps);
    members = λ s l on. grind (arith, nat_tests, in_word, c.loop-second.invariant.members s);
  }
]
