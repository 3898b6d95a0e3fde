use Rattle.std.proofs.Common.{rules, arith, SFits, w64}
use Rattle.std.proofs.lemmas.Int.{ints, to_z-of_z}
use Rattle.ics_zone.proofs.RepeatLemmas.{later_gap}
use Rattle.ics_zone.proofs.onsets.Onsets.gap_later.Goals as goal

pub shifted-requires-clause-high : goal.shifted-requires-clause-high
shifted-requires-clause-high c = let low = c.in_ok-gap.ensures.last in let high = c.requires.high in omega (arith, ints, low, high)

pub shifted-requires-clause-to : goal.shifted-requires-clause-to
shifted-requires-clause-to c =
    let to : SFits w64 c.args.self.now.round.to = search rules in
    rw (to_z-of_z w64 c.args.self.now.round.to to)
    (let up = c.requires.to in let low = c.requires.low in let back = c.requires.rounds.1 in omega (arith, ints, up, low, back))

pub returns-clause-gap : goal.returns-clause-gap
returns-clause-gap c =
    let to : SFits w64 c.args.self.now.round.to = search rules in
    let back = c.requires.rounds.1 in
    let last = c.shifted.ensures.last in
    let next = c.shifted.ensures.next in
    let low = c.in_ok-gap.ensures.last in
    let listed = c.end_of_listed.ensures in
    later_gap c.args.self.now c.requires.sound c.requires.rounds.0 c.in_ok-gap.gap c.shifted.result c.args.moment c.in_ok-gap.ensures.gap
    (λ t h. let up = listed t h in omega (arith, ints, up))
    (omega (arith, ints))
    (omega (arith, ints, back, last))
    (omega (arith, ints, last, low))
    c.requires.until c.requires.to c.requires.high
    (omega (arith, ints, back, next))
    (simp (to_z-of_z, to) at c.shifted.ensures.to)

pub returns-clause-last : goal.returns-clause-last
returns-clause-last c = let last = c.shifted.ensures.last in let low = c.in_ok-gap.ensures.last in omega (arith, ints, last, low)

pub returns-clause-next : goal.returns-clause-next
returns-clause-next c =
    let to : SFits w64 c.args.self.now.round.to = search rules in
    let past = c.in_ok-gap.ensures.next in
    (simp (to_z-of_z, to) at c.shifted.ensures.about) c.args.moment (omega (arith, ints, past)) c.requires.to c.requires.high
