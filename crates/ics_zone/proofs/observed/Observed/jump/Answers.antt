use Rattle.std.proofs.Common.{rules, arith, ℤ, pos, ◌+ℤ◌, ◌<ℤ◌, SFits, w64, to_z, of_z}
use Rattle.std.proofs.lemmas.Int.{ints, to_z-of_z}
use Rattle.ics_zone.specs.Moments.{shown}
use Rattle.ics_zone.specs.ZoneOffsets.{zone_offset}
use Rattle.ics_zone.specs.Inner.ZoneBounds.{zone_short}
use Rattle.ics_zone.proofs.ZoneSteps.{all_sound}
use Rattle.ics_zone.proofs.JumpLemmas.{jump_at_next, earlier_at_next, earlier_before_next, past_clear, natural_less}
use Rattle.ics_zone.proofs.observed.Observed.jump.Goals as goal
use Rattle.ics_zone.proofs.observed.Observed.jump.Goals.{After-is_past}

pub loop-after-init : goal.loop-after-init
loop-after-init c = record {
  low = omega (arith, ints);
  high = omega (arith, ints);
  earlier = λ t h. let bound = zone_short c.args.self.now t in omega (arith, ints);
}

pub next_past-after-requires-clause-sound : goal.next_past-after-requires-clause-sound
next_past-after-requires-clause-sound c = rw c.deref.ensures.value (all_sound _ _ c.self.invariant.asked)

-- before the next onset that shows a later local the clock shows earlier ones
before_next : (c : After-is_past) (s : ℤ) → s <ℤ c.next_past-after.result → shown (zone_offset c.args.self.now.said.items) s <ℤ c.args.seconds
before_next c =
    let known = rw c.self.view_is at c.self.invariant in
    let none = rw c.deref.ensures.value at (simp (to_z-of_z, c.ranges.seconds) at c.next_past-after.ensures.next) in
    earlier_before_next c.args.self.now known.some c.args.seconds c.requires.skipped (to_z w64 c.loop-after.after-bits) c.next_past-after.result
    (simp (to_z-of_z, c.ranges.seconds) at c.loop-after.invariant.earlier)
    (past_clear c.args.self.now.said.items c.args.seconds _ _ (none c.args.self.now.said.items known.asked))

pub returns-then-is_past-clause-jump : goal.returns-then-is_past-clause-jump
returns-then-is_past-clause-jump c =
    let next : SFits w64 c.next_past-after.result = search rules in
    rw (to_z-of_z w64 c.next_past-after.result next)
    (jump_at_next (zone_offset c.args.self.now.said.items) c.args.seconds c.requires.skipped c.next_past-after.result
    (before_next (goal.at.returns-then-is_past-clause-jump c).After-is_past)
    (rw c.if-is_past.true at (simp (to_z-of_z, next, c.ranges.seconds) at c.is_past.ensures)))

pub loop-after-smaller : goal.loop-after-smaller
loop-after-smaller c = natural_less (to_z w64 (of_z w64 c.args.seconds) +ℤ pos 86_401) (to_z w64 c.loop-after.after-bits)
    (to_z w64 (of_z w64 c.clear_hours-after.result)) (omega (arith, ints)) (omega (arith, ints))

pub loop-after-preserved : goal.loop-after-preserved
loop-after-preserved c =
    rw (to_z-of_z w64 c.clear_hours-after.result (search rules))
    (record { low = omega (arith, ints); high = omega (arith, ints); earlier = c.clear_hours-after.ensures.earlier })

pub clear_hours-after-requires-clause-earlier : goal.clear_hours-after-requires-clause-earlier
clear_hours-after-requires-clause-earlier c =
    let next : SFits w64 c.next_past-after.result = search rules in
    rw (to_z-of_z w64 c.next_past-after.result next, to_z-of_z w64 c.args.seconds c.ranges.seconds)
    (earlier_at_next (zone_offset c.args.self.now.said.items) c.args.seconds c.requires.skipped c.next_past-after.result
    (before_next (goal.at.clear_hours-after-requires-clause-earlier c).After-is_past)
    (rw c.if-is_past.false at (simp (to_z-of_z, next, c.ranges.seconds) at c.is_past.ensures)))

pub returns-clause-jump : goal.returns-clause-jump
returns-clause-jump c =
    let bound = zone_short c.args.self.now (to_z w64 c.loop-after.after-bits) in
    let less = c.loop-after.invariant.earlier (to_z w64 c.loop-after.after-bits) (omega (arith, ints)) in
    absurd (omega (arith, ints))
