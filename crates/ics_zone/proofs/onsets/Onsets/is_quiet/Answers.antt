use Rattle.std.proofs.Common.{rules, arith, SFits, w64}
use Rattle.std.proofs.lemmas.Int.{ints, to_z-of_z}
use Rattle.ics_zone.proofs.FoundLemmas.{known_quiet}
use Rattle.ics_zone.proofs.onsets.Onsets.is_quiet.Goals as goal

pub returns-in-Some : goal.returns-in-Some
returns-in-Some c = λ e t h late.
    let to : SFits w64 c.args.self.now.known_to = search rules in
    let from : SFits w64 c.args.self.now.known_from = search rules in
    let below = simp (to_z-of_z, c.ranges.moment, to) at c.if-moment-self.false in
    let above = simp (to_z-of_z, c.ranges.after, from) at c.if-after-self.false in
    let is = simp (to_z-of_z, c.ranges.moment) at c.last_found.ensures in
    let last : SFits w64 c.in-Some.last = search rules in
    let low = simp (to_z-of_z, c.ranges.after, last) at e in
    known_quiet c.args.self.now c.requires c.args.moment (omega (arith, ints, below)) c.args.after (omega (arith, ints, above)) c.last_found.result is
    (rw c.in-Some.is (omega (arith, ints, low))) t h late

pub returns-in-None : goal.returns-in-None
returns-in-None c = λ e t h late.
    let to : SFits w64 c.args.self.now.known_to = search rules in
    let from : SFits w64 c.args.self.now.known_from = search rules in
    let below = simp (to_z-of_z, c.ranges.moment, to) at c.if-moment-self.false in
    let above = simp (to_z-of_z, c.ranges.after, from) at c.if-after-self.false in
    let is = simp (to_z-of_z, c.ranges.moment) at c.last_found.ensures in
    known_quiet c.args.self.now c.requires c.args.moment (omega (arith, ints, below)) c.args.after (omega (arith, ints, above)) c.last_found.result is
    (rw c.in-None.is tt) t h late
