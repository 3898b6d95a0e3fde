use Rattle.std.proofs.Common.{rules, arith, ◌≡◌, sym, w32, w64, to_z, of_z}
use Rattle.std.proofs.lemmas.Int.{ints, to_z-of_z}
use Rattle.ics_zone.proofs.GapLemmas.{not_greater}
use Rattle.ics_zone.proofs.seconds.OffsetEachSecond.gap.Goals as goal

pub returns-then-at-next : goal.returns-then-at-next
returns-then-at-next c = λ offset short told contains unshown.
    let from : to_z w64 (of_z w64 c.args.unshown.from) ≡ c.args.unshown.from = to_z-of_z w64 c.args.unshown.from (search rules) in
    let most = not_greater c.args.offsets.now c.greatest.ensures contains in
    let read = c.in_ok-jump.ensures.jump offset told (rw (← to_z-of_z w32 c.greatest.result (search rules)) at most) in
    c.skipped.ensures offset short unshown (rw from at read)
    (λ t low high. sym (c.same_to-next.ensures.same offset told t (omega (arith, ints, low)) (omega (arith, ints, high))))
