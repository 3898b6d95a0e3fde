use Rattle.std.proofs.Common.{rules, ◌-◌, ◌<◌, length, subst, sym}
use Rattle.ics_zone.specs.Inner.OnsetSets.{Has, IsGap}
use Rattle.ics_zone.proofs.FoundLemmas.{gaps_of}
use Rattle.ics_zone.proofs.onsets.Onsets.listed_gap.Goals as goal

pub returns-then-moment-gap-clause-gap : goal.returns-then-moment-gap-clause-gap
returns-then-moment-gap-clause-gap c =
    let inside : c.partition_point-passed.result - 1 < length c.args.self.now.gaps.items = search rules in
    subst (IsGap (Has c.args.self.now)) (sym c.index-gap.ensures)
    (gaps_of c.args.self.now c.requires.gaps (c.partition_point-passed.result - 1) c.index-gap.result.now inside)
