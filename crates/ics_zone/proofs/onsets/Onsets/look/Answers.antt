use Rattle.std.proofs.Common.{rules, w64}
use Rattle.std.proofs.lemmas.Int.{to_z-of_z}
use Rattle.ics_zone.proofs.FoundLemmas.{gaps_of, none_found, now_found, now_found_of}
use Rattle.ics_zone.proofs.onsets.Onsets.look.Goals as goal

pub returns-clause-sound : goal.returns-clause-sound
returns-clause-sound c =
    rw (to_z-of_z w64 c.args.after c.ranges.after, to_z-of_z w64 c.next-next.result (search rules))
    (now_found c.args.self.now c.args.after c.next-next.result _ _ c.clear.new.self
    (none_found _ c.args.after c.next-next.result _ c.clear.ensures.items (simp (to_z-of_z, c.ranges.after) at c.next-next.ensures.next)) _
    (gaps_of c.args.self.now c.requires.sound.gaps) c.requires.sound)

pub returns-clause-same : goal.returns-clause-same
returns-clause-same c =
    rw (to_z-of_z w64 c.args.after c.ranges.after, to_z-of_z w64 c.next-next.result (search rules))
    (now_found_of c.args.self.now c.args.after c.next-next.result _ _ c.clear.new.self
    (none_found _ c.args.after c.next-next.result _ c.clear.ensures.items (simp (to_z-of_z, c.ranges.after) at c.next-next.ensures.next)) _
    (gaps_of c.args.self.now c.requires.sound.gaps))
