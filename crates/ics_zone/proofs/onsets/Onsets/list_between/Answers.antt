use Rattle.std.proofs.Common.{rules, arith, w64, SFits, to_z, of_z, [], ◌∷◌, ◌++◌, ◌≡◌}
use Rattle.std.proofs.lemmas.Int.{ints, to_z-of_z}
use Rattle.ics_zone.specs.Inner.OnsetSets.{Has}
use Rattle.ics_zone.proofs.JumpLemmas.{natural_less}
use Rattle.ics_zone.proofs.FoundLemmas.{asked_of, none_listed, listed_more, listed_on, found_to_next, found_to_end}
use Rattle.ics_zone.proofs.onsets.Onsets.list_between.Goals.{else-at-to-via-then-at-to+else-not-add_found, else-at-to-via-else-at-to}
use Rattle.ics_zone.proofs.onsets.Onsets.list_between.Goals as goal

pub loop-at-init : goal.loop-at-init
loop-at-init c = rw (to_z-of_z w64 c.args.from c.ranges.from, to_z-of_z w64 c.args.to c.ranges.to)
    (none_listed (Has c.args.self.now) c.args.from c.args.to c.args.found.now.items c.requires.empty)

pub loop-at-smaller : goal.loop-at-smaller
loop-at-smaller c = natural_less (to_z w64 (of_z w64 c.args.to)) (to_z w64 c.loop-at.at-bits) (to_z w64 (of_z w64 c.next_asked-at.result))
    (omega (arith, ints)) (omega (arith, ints))

pub loop-at-preserved : goal.loop-at-preserved
loop-at-preserved c =
    let s = c.args.self.now in
    let next = c.next_asked-at.result in
    let fits : SFits w64 next = search rules in
    let to = to_z-of_z w64 c.args.to c.ranges.to in
    let before = rw (to_z-of_z w64 c.args.from c.ranges.from, to) at c.loop-at.invariant in
    rw (to_z-of_z w64 c.args.from c.ranges.from, to, to_z-of_z w64 next fits) (elim c.else-at-to.branch [
      | else-at-to-via-then-at-to+else-not-add_found w ↦ (
          let items : w.add_found.new.found.items ≡ c.loop-at.found.items ++ next ∷ [] =
          simp (to_z-of_z, fits) at (w.add_found.ensures.yes w.if-not-add_found.false) in
          rw (w.found-is, items) (listed_more (Has s) c.args.from (to_z w64 c.loop-at.at-bits) c.args.to c.loop-at.found.items before next
          c.next_asked-at.ensures.after (λ t h late. c.next_asked-at.ensures.next t (asked_of s t h) late)
          (c.next_asked-at.ensures.is (omega (arith, ints))) (omega (arith, ints))))
      | else-at-to-via-else-at-to w ↦
          rw w.found-is (listed_on (Has s) c.args.from (to_z w64 c.loop-at.at-bits) c.args.to c.loop-at.found.items before next
          c.next_asked-at.ensures.after (λ t h late. c.next_asked-at.ensures.next t (asked_of s t h) late) (omega (arith, ints)))
    ])

pub returns : goal.returns
returns c =
    let from = to_z-of_z w64 c.args.from c.ranges.from in
    let to = to_z-of_z w64 c.args.to c.ranges.to in
    let listed = rw (from, to) at c.loop-at.invariant in
    rw to (found_to_end (Has c.args.self.now) c.args.from (to_z w64 c.loop-at.at-bits) c.args.to c.loop-at.found.items listed (omega (arith, ints)))

-- the list is full
pub returns-then-not-add_found : goal.returns-then-not-add_found
returns-then-not-add_found c =
    let s = c.args.self.now in
    let next = c.next_asked-at.result in
    let fits : SFits w64 next = search rules in
    let from = to_z-of_z w64 c.args.from c.ranges.from in
    let to = to_z-of_z w64 c.args.to c.ranges.to in
    let before = rw (from, to) at c.loop-at.invariant in
    rw (c.add_found.ensures.no c.if-not-add_found.true, to_z-of_z w64 next fits) (found_to_next (Has s) c.args.from (to_z w64 c.loop-at.at-bits) c.args.to
    c.loop-at.found.items before next c.next_asked-at.ensures.after (λ t h late. c.next_asked-at.ensures.next t (asked_of s t h) late) (omega (arith, ints)))
