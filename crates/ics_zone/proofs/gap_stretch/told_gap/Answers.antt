use Rattle.std.proofs.Common.{rules, ◌≡◌, w32, w64, to_z, of_z}
use Rattle.std.proofs.lemmas.Int.{to_z-of_z}
use Rattle.ics_zone.proofs.GapLemmas.{not_greater}
use Rattle.ics_zone.proofs.gap_stretch.told_gap.Goals as goal

pub returns : goal.returns
returns c = λ offset short all contains unshown.
    let from : to_z w64 (of_z w64 c.args.unshown.from) ≡ c.args.unshown.from = to_z-of_z w64 c.args.unshown.from (search rules) in
    let most = not_greater c.args.offsets.now c.greatest.ensures contains in
    let read = c.in_ok-jump.ensures.jump offset all (rw (← to_z-of_z w32 c.greatest.result (search rules)) at most) in
    c.skipped.ensures offset short unshown (rw from at read) (c.in_ok-span.ensures.steady offset all)
