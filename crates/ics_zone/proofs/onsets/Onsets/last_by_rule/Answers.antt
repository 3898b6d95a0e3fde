use Rattle.std.proofs.Common.{rules, SFits, w32, w64}
use Rattle.std.proofs.lemmas.Int.{to_z-of_z}
use Rattle.ics_zone.proofs.KeptLemmas.{last_of_rule, none_of_rule}
use Rattle.ics_zone.proofs.onsets.Onsets.last_by_rule.Goals as goal

pub returns-in-Some-last_kept : goal.returns-in-Some-last_kept
returns-in-Some-last_kept c =
    let from : SFits w32 c.args.self.now.offset_from = search rules in
    let shown = simp (to_z-of_z, c.ranges.moment) at c.shown_to-end.ensures in
    rw (to_z-of_z w64 c.instant.result (search rules))
    (last_of_rule c.args.self.now c.in-Some.is shown c.in-Some-last_kept.ensures (simp to_z-of_z at c.instant.ensures))

pub returns-in-None : goal.returns-in-None
returns-in-None c = none_of_rule c.args.self.now c.in-Some.is (rw (to_z-of_z w64 c.args.moment c.ranges.moment) at c.shown_to-end.ensures) c.in-None.ensures
