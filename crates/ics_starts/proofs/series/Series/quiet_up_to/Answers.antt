use Rattle.std.proofs.Common.{◌≡◌, ◌≤ℤ◌, arith, rules, to_z, of_z, w64}
use Rattle.std.proofs.lemmas.Int.{int_min_is, ints}
use Rattle.ics_starts.proofs.series.Series.quiet_up_to.Goals as goal

pub returns-clause-to : goal.returns-clause-to
returns-clause-to c =
    let fits : to_z w64 (of_z w64 c.quiet.result) ≡ c.quiet.result = search rules in
    let most-fits : to_z w64 (of_z w64 c.args.most) ≡ c.args.most = search rules in
    let least : c.min.result ≤ℤ c.quiet.result = omega (arith, ints, int_min_is, c.min.ensures.value, c.min.type_inv, fits, most-fits) in
    λ o of end from. let to = c.quiet.ensures.to o of end from in omega (arith, ints, least, to)
