use Rattle.std.proofs.Common.{rules, SFits, w64}
use Rattle.std.proofs.lemmas.Int.{to_z-of_z}
use Rattle.ics_zone.proofs.FoundLemmas.{now_found, now_found_of}
use Rattle.ics_zone.proofs.onsets.Onsets.find.Goals as goal

pub returns-clause-sound : goal.returns-clause-sound
returns-clause-sound c =
    let begin : SFits w64 c.begin_by-begin.result = search rules in
    rw (
      to_z-of_z w64 c.begin_by-begin.result begin,
      to_z-of_z w64 c.list_between-end.result (search rules),
      to_z-of_z w64 c.min-first.result (search rules),
      to_z-of_z w64 c.max-last.result (search rules),
    )
    (now_found c.args.self.now c.begin_by-begin.result c.list_between-end.result c.min-first.result c.max-last.result c.list_between-end.new.found
    (simp (to_z-of_z, begin) at c.list_between-end.ensures) c.list_gaps-gaps.result c.list_gaps-gaps.ensures c.requires.sound)

pub returns-clause-same : goal.returns-clause-same
returns-clause-same c =
    let begin : SFits w64 c.begin_by-begin.result = search rules in
    rw (
      to_z-of_z w64 c.begin_by-begin.result begin,
      to_z-of_z w64 c.list_between-end.result (search rules),
      to_z-of_z w64 c.min-first.result (search rules),
      to_z-of_z w64 c.max-last.result (search rules),
    )
    (now_found_of c.args.self.now c.begin_by-begin.result c.list_between-end.result c.min-first.result c.max-last.result c.list_between-end.new.found
    (simp (to_z-of_z, begin) at c.list_between-end.ensures) c.list_gaps-gaps.result c.list_gaps-gaps.ensures)
