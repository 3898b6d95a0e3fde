use Rattle.std.proofs.Common.{◌≡◌, arith, rules, to_z, of_z, w32, w64}
use Rattle.std.proofs.lemmas.Int.{ints}
use Rattle.ics_series.proofs.days.begin_after.Goals as goal

pub returns : goal.returns
returns c =
    let day-fits : to_z w32 (of_z w32 c.args.day) ≡ c.args.day = search rules in
    let from-fits : to_z w64 (of_z w64 c.from-next.result) ≡ c.from-next.result = search rules in
    omega (arith, ints, c.from-next.ensures, day-fits, from-fits, c.ranges.day, c.requires.ordered, c.requires.least_short, c.requires.most_short)
