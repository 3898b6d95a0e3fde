use Rattle.std.proofs.Common.{arith}
use Rattle.std.proofs.lemmas.Int.{int_max_is, int_min_is, ints}
use Rattle.ics_zone.proofs.bounds.Bounds.with_rule.Goals as goal

pub returns-in-Some-clause-rule : goal.returns-in-Some-clause-rule
returns-in-Some-clause-rule c =
    let one = c.with-bounds.ensures in
    let two = c.with.ensures in
    record {
      standard = (omega (arith, ints, one.least, two.least, int_min_is), omega (arith, ints, one.most, two.most, int_max_is));
      daylight = rw c.in-Some.is (omega (arith, ints, two.least, int_min_is), omega (arith, ints, two.most, int_max_is));
    }

pub returns-in-Some-clause-most : goal.returns-in-Some-clause-most
returns-in-Some-clause-most c = omega (arith, ints, c.with-bounds.ensures.most, c.with.ensures.most, int_max_is)
