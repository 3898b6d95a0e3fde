use Rattle.std.proofs.Common.{◌+◌, ◌*◌, ◌/◌, inl, inr, arith}
use Rattle.std.proofs.lemmas.Bool.{cases_lt}
use Rattle.ics_zone.proofs.NearLemmas.{last_of_day}
use Rattle.ics_zone.proofs.near.last_of_day.Goals as goal

pub returns-in-Some-last_second : goal.returns-in-Some-last_second
returns-in-Some-last_second c =
    let end = c.min-end.ensures in
    let n = c.args.kept / 86_400 * 86_400 + c.in-Some-last_second.second in
    let last = last_of_day c.args.rule.now (c.args.kept / 86_400) c.in-Some.times c.in-Some.ensures c.min-end.result c.in-Some-last_second.second
    (omega (arith, end, c.requires.early)) (omega (arith, end)) c.in-Some-last_second.ensures in
    rw c.from.ensures (record {
      kept = last.kept;
      later = elim (cases_lt n c.args.kept) [
        | inl less ↦ absurd (
            let none = last.last c.args.kept (omega (arith, less)) (omega (arith, end, c.requires.early)) in
            let kept = c.requires.kept in
            cc)
        | inr more ↦ more
      ];
      early = omega (arith, end, last.in_bound);
    })
