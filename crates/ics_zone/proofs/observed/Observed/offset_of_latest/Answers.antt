use Rattle.std.proofs.Common.{rules, refl, w32}
use Rattle.std.proofs.lemmas.Int.{to_z-of_z}
use Rattle.ics_zone.proofs.ZoneSteps.{all_sound}
use Rattle.ics_zone.proofs.JumpLemmas.{is_offset, latest_is, none_is}
use Rattle.ics_zone.proofs.observed.Observed.offset_of_latest.Goals as goal

pub latest_of-requires : goal.latest_of-requires
latest_of-requires c = rw c.deref.ensures.value (all_sound _ _ c.self.invariant.asked)

pub first_offset-requires-clause-sound : goal.first_offset-requires-clause-sound
first_offset-requires-clause-sound c = rw c.deref-in-None.ensures.value (all_sound _ _ c.self.invariant.asked)

pub returns-in-Some : goal.returns-in-Some
returns-in-Some c =
    let known = rw c.self.view_is at c.self.invariant in
    let found = rw c.deref.ensures.value at (simp (to_z-of_z, c.ranges.moment) at c.latest_of.ensures) in
    let latest = rw c.in-Some.is at (found c.args.self.now.said.items known.asked) in
    let value = latest_is c.args.self.now known.some c.args.moment c.in-Some.latest latest in
    rw (to_z-of_z w32 c.in-Some.latest.offset (search rules), value)
    (record { means = is_offset c.args.self.now known.some c.args.moment; value = refl; hint = λ early. (latest.observance, latest.onset) })

pub returns-in-None : goal.returns-in-None
returns-in-None c =
    let known = rw c.self.view_is at c.self.invariant in
    let found = rw c.deref.ensures.value at (simp (to_z-of_z, c.ranges.moment) at c.latest_of.ensures) in
    let first = rw c.deref-in-None.ensures.value at c.first_offset.ensures in
    let value = none_is c.args.self.now known.some c.args.moment c.first_offset.result
    (rw c.in-None.is at (found c.args.self.now.said.items known.asked)) (first c.args.self.now.said.items known.asked) in
    rw (to_z-of_z w32 c.first_offset.result (search rules), value)
    (record { means = is_offset c.args.self.now known.some c.args.moment; value = refl; hint = c.requires })
