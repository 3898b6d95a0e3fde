use Rattle.std.proofs.Common.{arith}
use Rattle.std.proofs.lemmas.Int.{ints}
use Rattle.ics_starts.proofs.starts.seconds_back.Goals as goal

pub returns : goal.returns
returns c =
    let late = c.seconds_late.ensures in
    let least = c.requires in
    record {
      value = omega (arith, ints, late.value, late.least, late.most, least);
      least = omega (arith, ints, late.value, late.least, late.most, least);
      most = omega (arith, ints, late.value, late.least, late.most, least);
    }
