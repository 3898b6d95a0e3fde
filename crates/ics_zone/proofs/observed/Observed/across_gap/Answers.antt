use Rattle.std.proofs.Common.{rules, arith, ◌≡◌, pos, ◌-ℤ◌, w64, to_z, of_z}
use Rattle.std.proofs.lemmas.Int.{ints, to_z-of_z}
use Rattle.ics_zone.specs.ZoneOffsets.{zone_offset}
use Rattle.ics_zone.specs.Inner.ZoneBounds.{zone_short}
use Rattle.ics_zone.proofs.observed.Observed.across_gap.Goals as goal

pub returns-in-Some : goal.returns-in-Some
returns-in-Some c =
    let short = zone_short c.args.self.now (c.in-Some.jump.at -ℤ pos 1) in
    let read = simp (to_z-of_z, c.ranges.seconds) at c.in-Some.ensures in
    record {
      skipped = c.requires.skipped;
      past = c.in-Some.jump.at;
      is_later = read.jump.is_later;
      first = read.jump.first;
      before = omega (arith, ints, read.before, c.from.ensures);
    }

pub returns : goal.returns
returns c =
    let at : to_z w64 (of_z w64 (to_z w64 (of_z w64 c.jump-past.result) -ℤ pos 1)) ≡ c.jump-past.result -ℤ pos 1 = omega (arith, ints) in
    let short = zone_short c.args.self.now (c.jump-past.result -ℤ pos 1) in
    let before : c.offset.result ≡ zone_offset c.args.self.now.said.items (c.jump-past.result -ℤ pos 1) = search (rules, at, c.offset.ensures.value) in
    let jump = simp (to_z-of_z, c.ranges.seconds) at c.jump-past.ensures.jump in
    record { skipped = c.requires.skipped; past = c.jump-past.result; is_later = jump.is_later; first = jump.first; before = omega (arith, ints) }
