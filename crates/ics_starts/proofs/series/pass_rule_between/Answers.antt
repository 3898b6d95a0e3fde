use Rattle.std.proofs.Common.{Some, subst, sym, w64}
use Rattle.std.proofs.lemmas.Int.{to_z-of_z}
use Rattle.ics_starts.specs.SeriesStarts.{AreLeapt}
use Rattle.ics_starts.proofs.series.pass_rule_between.Goals as goal

pub returns-in-Some : goal.returns-in-Some
returns-in-Some c =
    let leapt = simp (to_z-of_z w64 c.args.from c.ranges.from, to_z-of_z w64 c.args.to c.ranges.to) at c.pass_between.ensures in
    subst (λ rule. AreLeapt c.args.from c.args.to rule (Some c.pass_between.new.self)) (sym c.in-Some.is) leapt
