use Rattle.std.proofs.Common.{rules, w32, w64}
use Rattle.std.proofs.lemmas.Int.{to_z-of_z}
use Rattle.ics_zone.proofs.ZoneSteps.{all_sound}
use Rattle.ics_zone.proofs.JumpLemmas.{steady_before, steady_since}
use Rattle.ics_zone.proofs.observed.Observed.steady_about.Goals as goal

pub next_change-requires-clause-sound : goal.next_change-requires-clause-sound
next_change-requires-clause-sound c = rw c.deref.ensures.value (all_sound _ _ c.self.invariant.asked)

pub returns-in-Some : goal.returns-in-Some
returns-in-Some c =
    let known = rw c.self.view_is at c.self.invariant in
    let found = rw c.in-Some.is at (simp (to_z-of_z, c.ranges.near) at c.latest_about.ensures) in
    let offset = to_z-of_z w32 c.in-Some.latest.offset (search rules) in
    let kept = rw (c.deref.ensures.value, offset) at (simp (to_z-of_z, c.ranges.near) at c.next_change.ensures) in
    rw (to_z-of_z w64 c.next_change.result (search rules), to_z-of_z w64 c.in-Some.latest.at (search rules), offset)
    (steady_since c.args.self.now known.some c.args.near c.next_change.result c.in-Some.latest (kept c.args.self.now.said.items known.asked) found)

pub first_offset-offset-requires-clause-sound : goal.first_offset-offset-requires-clause-sound
first_offset-offset-requires-clause-sound c = rw c.deref-in-None.ensures.value (all_sound _ _ c.self.invariant.asked)

pub next_change-requires-in-None-clause-sound : goal.next_change-requires-in-None-clause-sound
next_change-requires-in-None-clause-sound c = rw c.deref-in-None-2.ensures.value (all_sound _ _ c.self.invariant.asked)

pub returns-in-None : goal.returns-in-None
returns-in-None c =
    let known = rw c.self.view_is at c.self.invariant in
    let found = rw c.in-None.is at (simp (to_z-of_z, c.ranges.near) at c.latest_about.ensures) in
    let offset = to_z-of_z w32 c.first_offset-offset.result (search rules) in
    let kept = rw (c.deref-in-None-2.ensures.value, offset) at (simp (to_z-of_z, c.ranges.near) at c.next_change-in-None.ensures) in
    let first = rw c.deref-in-None.ensures.value at c.first_offset-offset.ensures in
    rw (to_z-of_z w64 c.next_change-in-None.result (search rules), offset)
    (steady_before c.args.self.now known.some c.args.near c.next_change-in-None.result _ c.first_offset-offset.result found
    (kept c.args.self.now.said.items known.asked) (first c.args.self.now.said.items known.asked))
