use Rattle.std.proofs.Common.{rules, inl, inr, SFits, w64}
use Rattle.std.proofs.lemmas.Int.{to_z-of_z}
use Rattle.ics_zone.specs.Moments.{IsMomentOf}
use Rattle.ics_zone.proofs.observed.Observed.instant_of.Goals as goal

pub returns-then-is_some : goal.returns-then-is_some
returns-then-is_some c =
    let fits : SFits w64 c.args.seconds = search rules in
    let is : IsMomentOf c.args.self.now.said.items c.args.seconds c.moment_by_offsets.result =
    simp to_z-of_z at c.moment_by_offsets.ensures in
    rw (to_z-of_z w64 c.moment_by_offsets.result (search rules)) is

pub returns-in-Some : goal.returns-in-Some
returns-in-Some c =
    let fits : SFits w64 c.args.seconds = search rules in
    let is : IsMomentOf c.args.self.now.said.items c.args.seconds c.in-Some.moment =
    inl (simp to_z-of_z at c.in-Some.ensures) in
    rw (to_z-of_z w64 c.in-Some.moment (search rules)) is

pub returns-in-Some-held_moment : goal.returns-in-Some-held_moment
returns-in-Some-held_moment c =
    let fits : SFits w64 c.args.seconds = search rules in
    let is : IsMomentOf c.args.self.now.said.items c.args.seconds c.in-Some-held_moment.moment = simp to_z-of_z at c.in-Some-held_moment.ensures in
    rw (to_z-of_z w64 c.in-Some-held_moment.moment (search rules)) is

pub returns-in-Some-near_moment : goal.returns-in-Some-near_moment
returns-in-Some-near_moment c =
    let fits : SFits w64 c.args.seconds = search rules in
    let is : IsMomentOf c.args.self.now.said.items c.args.seconds c.in-Some-near_moment.moment =
    simp to_z-of_z at c.in-Some-near_moment.ensures in
    rw (to_z-of_z w64 c.in-Some-near_moment.moment (search rules)) is

pub returns-in-Some-first_time : goal.returns-in-Some-first_time
returns-in-Some-first_time c =
    let fits : SFits w64 c.args.seconds = search rules in
    let is : IsMomentOf c.args.self.now.said.items c.args.seconds c.in-Some-first_time.moment =
    inl (simp to_z-of_z at c.in-Some-first_time.ensures) in
    rw (to_z-of_z w64 c.in-Some-first_time.moment (search rules)) is

pub returns-in-None : goal.returns-in-None
returns-in-None c =
    let fits : SFits w64 c.args.seconds = search rules in
    let is : IsMomentOf c.args.self.now.said.items c.args.seconds c.across_gap.result = inr (simp to_z-of_z at c.across_gap.ensures) in
    rw (to_z-of_z w64 c.across_gap.result (search rules)) is
