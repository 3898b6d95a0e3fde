use Rattle.std.proofs.Common.{rules, arith, inl, refl, subst, ◌<◌, ◌≡◌, ◌++◌, ◌∷◌, [], length, get_or, SFits, w64, to_z, of_z, pos, ◌-ℤ◌, ◌≤ℤ◌}
use Rattle.std.proofs.lemmas.Int.{ints, to_z-of_z}
use Rattle.std.proofs.lemmas.List.{get_or_default}
use Rattle.ics_zone.specs.Inner.Tables.{onset_number}
use Rattle.ics_zone.proofs.TableLemmas.{stay_one, known_more, complete_at, listed_to}
use Rattle.ics_zone.proofs.table.add_listed.Goals as goal

pub loop-k-init : goal.loop-k-init
loop-k-init c =
    let before : to_z w64 (of_z w64 (to_z w64 (of_z w64 c.args.from) -ℤ pos 1)) ≡ c.args.from -ℤ pos 1 = omega (arith, ints) in
    let passed = rw (before, c.deref.ensures.value) at c.passed-begin.ensures in
    rw (to_z-of_z w64 c.args.from c.ranges.from) (record {
      late = λ j d low high. let late = passed.later j d low high in omega (arith, ints);
      known = λ n h. inl h;
      stay = λ n h. h;
      complete = λ j d less late. absurd (let early = passed.before j d (omega arith) less in omega (arith, ints));
    })

pub add_onset-requires-clause-at : goal.add_onset-requires-clause-at
add_onset-requires-clause-at c =
    let listed = c.args.one.now.listed.items in
    let at = get_or listed c.loop-k.k (pos 0) in
    let inside : c.loop-k.k < length listed = omega (arith, c.loop-k-test.true, c.len-k-end.ensures) in
    let is : c.index-at.result.now ≡ at = search (rules, get_or_default, c.index-at.ensures, inside) in
    let late = rw (to_z-of_z w64 c.args.from c.ranges.from) at (c.loop-k.invariant.late c.loop-k.k (pos 0) (omega arith) inside) in
    omega (arith, ints, is, late, c.if-at-last.false, c.requires.from, c.requires.last)

pub loop-k-preserved : goal.loop-k-preserved
loop-k-preserved c =
    let listed = c.args.one.now.listed.items in
    let at = get_or listed c.loop-k.k (pos 0) in
    let inside : c.loop-k.k < length listed = omega (arith, c.loop-k-test.true, c.len-k-end.ensures) in
    let is : c.index-at.result.now ≡ at = search (rules, get_or_default, c.index-at.ensures, inside) in
    let fits : SFits w64 c.index-at.result.now = search rules in
    let items : c.add_onset.new.list.items ≡ c.loop-k.list.items ++ onset_number at c.args.place ∷ [] =
    subst (λ t. c.add_onset.new.list.items ≡ c.loop-k.list.items ++ onset_number t c.args.place ∷ []) is
    (simp (to_z-of_z, fits) at (c.add_onset.ensures c.if-not-add_onset.false)) in
    let before = simp (to_z-of_z, c.ranges.from, c.ranges.last) at c.loop-k.invariant in
    let early : at ≤ℤ c.args.last = omega (arith, ints, is, c.if-at-last.false) in
    rw (to_z-of_z w64 c.args.from c.ranges.from, to_z-of_z w64 c.args.last c.ranges.last) (record {
      late = λ j d low high. before.late j d (omega arith) high;
      known = known_more c.args.one.now c.args.place c.args.from at c.loop-k.list.items c.add_onset.new.list.items items refl
          c.args.list.now.items c.args.last (inl (c.loop-k.k, inside, search rules)) (before.late c.loop-k.k (pos 0) (omega arith) inside) early before.known;
      stay = λ n h. stay_one c.args.one.now c.args.place c.args.from at c.loop-k.list.items c.add_onset.new.list.items items refl n (before.stay n h);
      complete = complete_at c.args.one.now c.args.place c.args.from at c.loop-k.list.items c.add_onset.new.list.items items refl listed c.loop-k.k
          refl inside before.complete;
    })

-- the next is too late
pub returns-then-at-last-clause-known : goal.returns-then-at-last-clause-known
returns-then-at-last-clause-known c = λ e. simp (to_z-of_z, c.ranges.from, c.ranges.last) at c.loop-k.invariant.known

pub returns-then-at-last-clause-complete : goal.returns-then-at-last-clause-complete
returns-then-at-last-clause-complete c = λ e t there late early.
    let before = simp (to_z-of_z, c.ranges.from) at c.loop-k.invariant.complete in
    let listed = c.args.one.now.listed.items in
    listed_to c.args.place c.args.from c.args.last listed c.loop-k.list.items c.requires.sound.in_order c.loop-k.k
    (λ inside.
    let is : c.index-at.result.now ≡ get_or listed c.loop-k.k (pos 0) = search (rules, get_or_default, c.index-at.ensures, inside) in
    omega (arith, ints, is, c.if-at-last.true)) before t there late early

-- there is no next
pub returns-clause-known : goal.returns-clause-known
returns-clause-known c = λ e. simp (to_z-of_z, c.ranges.from, c.ranges.last) at c.loop-k.invariant.known

pub returns-clause-complete : goal.returns-clause-complete
returns-clause-complete c = λ e t there late early.
    let before = simp (to_z-of_z, c.ranges.from) at c.loop-k.invariant.complete in
    listed_to c.args.place c.args.from c.args.last c.args.one.now.listed.items c.loop-k.list.items c.requires.sound.in_order c.loop-k.k
    (λ inside. absurd (omega (arith, inside, c.loop-k-test.false, c.len-k-end.ensures))) before t there late early
