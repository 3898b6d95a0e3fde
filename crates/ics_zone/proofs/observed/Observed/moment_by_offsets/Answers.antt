use Rattle.std.proofs.Common.{rules, inl, inr, w64}
use Rattle.std.proofs.lemmas.Int.{to_z-of_z}
use Rattle.ics_zone.proofs.observed.Observed.moment_by_offsets.Goals as goal

pub returns-in-Some : goal.returns-in-Some
returns-in-Some c = rw (to_z-of_z w64 c.in-Some.moment (search rules)) (inl (simp (to_z-of_z, c.ranges.seconds) at c.in-Some.ensures))

pub returns-in-None : goal.returns-in-None
returns-in-None c = rw (to_z-of_z w64 c.across_gap.result (search rules)) (inr (simp (to_z-of_z, c.ranges.seconds) at c.across_gap.ensures))
