use Rattle.std.proofs.Common.{rules, ◌≡◌, ◌*◌, arith, w64}
use Rattle.std.proofs.lemmas.Int.{ints, to_z-of_z}
use Rattle.ics_fields.specs.Days.{day_index}
use Rattle.ics_zone.proofs.RepeatLemmas.{by_date, by_local, until_date, until_local}
use Rattle.ics_zone.proofs.rounds.last_by.Goals as goal

pub returns-in-Local-clause-lets : goal.returns-in-Local-clause-lets
returns-in-Local-clause-lets c =
    let at = simp (to_z-of_z, c.ranges.offset) at c.instant.ensures in
    let bound = c.min.ensures.other_bound in
    rw (to_z-of_z w64 c.min.result (search rules))
    (λ n h. until_local c.args.until c.in-Local.local n c.in-Local.is
    (by_local c.args.offset c.instant.result n c.number.result _ at c.number.ensures.value (omega (arith, ints, h, bound))))

pub returns-in-Date-clause-lets : goal.returns-in-Date-clause-lets
returns-in-Date-clause-lets c =
    let at = simp (to_z-of_z, c.ranges.offset) at c.instant-in-Date.ensures in
    let bound = c.min-in-Date.ensures.other_bound in
    let same : c.number-in-Date.result ≡ day_index c.in-Date.day * 86_400 = search rules in
    rw (to_z-of_z w64 c.min-in-Date.result (search rules))
    (λ n h. until_date c.args.until c.in-Date.day n c.in-Date.is
    (by_date c.args.offset c.instant-in-Date.result n c.number-in-Date.result _ at same (omega (arith, ints, h, bound))))
