use Rattle.std.proofs.Common.{◌≡◌, rules, arith, SFits, w32, w64, to_z}
use Rattle.std.proofs.lemmas.Int.{ints, to_z-of_z}
use Rattle.ics_zone.specs.Observances.{instant_by}
use Rattle.ics_zone.proofs.OnsetGapLemmas.{EndOf, gap_of, gap_of_none}
use Rattle.ics_zone.proofs.onsets.Onsets.gap_to.Goals.{Joined-next, in-Some, in-None}
use Rattle.ics_zone.proofs.onsets.Onsets.gap_to.Goals as goal

-- the end is the instant of the next local, if there is one
end : (c : Joined-next) → EndOf c.args.self.now.offset_from c.args.to c.args.next (to_z w64 c.match-next.end-bits)
end c =
    let from : SFits w32 c.args.self.now.offset_from = search rules in
    elim c.match-next.branch [
      | in-Some w ↦ rw (w.in-Some.is, w.end-is, to_z-of_z w64 w.instant-end.result (search rules)) (simp (to_z-of_z, from) at w.instant-end.ensures)
      | in-None w ↦ rw (w.in-None.is, w.end-is) (to_z-of_z w64 c.args.to c.ranges.to)
    ]

pub returns-then-last-end : goal.returns-then-last-end
returns-then-last-end c =
    let from : SFits w32 c.args.self.now.offset_from = search rules in
    let fits : SFits w64 c.instant-last.result = search rules in
    let at : c.instant-last.result ≡ instant_by c.args.self.now.offset_from c.args.last = simp (to_z-of_z, from) at c.instant-last.ensures in
    rw (to_z-of_z w64 c.instant-last.result fits, at) (gap_of_none c.args.self.now c.args.rule.now c.requires.rule c.args.to c.args.last c.args.next
    c.requires.gap (to_z w64 c.match-next.end-bits)
    (omega (arith, ints, at, simp (to_z-of_z, fits) at c.if-last-end.true)))

pub returns : goal.returns
returns c =
    let from : SFits w32 c.args.self.now.offset_from = search rules in
    let fits : SFits w64 c.instant-last.result = search rules in
    let at : c.instant-last.result ≡ instant_by c.args.self.now.offset_from c.args.last = simp (to_z-of_z, from) at c.instant-last.ensures in
    let next = simp (to_z-of_z, fits) at c.next_listed.ensures in
    rw (to_z-of_z w64 c.instant-last.result fits, to_z-of_z w64 c.next_listed.result (search rules), at)
    (gap_of c.args.self.now c.args.rule.now c.requires.rule c.args.to c.args.last c.args.next
    c.requires.gap (to_z w64 c.match-next.end-bits) c.next_listed.result
    (end (goal.at.returns c).Joined-next) next.bound (rw at at next.next))
