use Rattle.std.proofs.Common.{rules, arith, inl, inr, subst, sym, ◌≡◌, ◌∙◌, ◌++◌, ◌∷◌, [], SFits, w32, w64}
use Rattle.std.proofs.lemmas.Bool.{cases_lt, false≢true}
use Rattle.std.proofs.lemmas.Int.{to_z-of_z}
use Rattle.std.proofs.lemmas.List.Elements.{Contains-append_left}
use Rattle.ics_fields.specs.Locals.{number}
use Rattle.ics_rule.specs.Cursors.{place_of}
use Rattle.ics_zone.specs.Observances.{instant_by}
use Rattle.ics_zone.specs.Inner.Tables.{onset_number}
use Rattle.ics_zone.proofs.TableLemmas.{kept_known, kept_complete}
use Rattle.ics_zone.proofs.table.add_locals.Goals as goal

pub loop-local-init : goal.loop-local-init
loop-local-init c = record {
  own = c.at-cursor.ensures.own;
  ahead = omega (arith, c.at-cursor.ensures.place, c.numbered.ensures.value);
  known = λ n h. inl h;
  stay = λ n h. h;
  complete = λ k kept late early. absurd (omega (arith, c.at-cursor.ensures.place, c.numbered.ensures.value));
}

pub loop-local-smaller : goal.loop-local-smaller
loop-local-smaller c =
    let next = c.in-Some.ensures.next in
    omega (arith, next.0.from_place, next.0.in_bound, next.1, c.numbered-bound.ensures.value, c.requires.end)

pub loop-local-preserved : goal.loop-local-preserved
loop-local-preserved c =
    let next = c.in-Some.ensures.next in
    let bound = rw c.numbered-bound.ensures.value at next.0 in
    let l = c.loop-local in
    let local = number c.in-Some.local in
    let fits : SFits w64 c.instant-at.result = search rules in
    let is : c.instant-at.result ≡ instant_by c.args.offset local = simp (to_z-of_z, c.ranges.offset, c.number.ensures.value) at c.instant-at.ensures in
    let items : c.add_onset.new.list.items ≡ l.list.items ++ onset_number (instant_by c.args.offset local) c.args.place ∷ [] =
    subst (λ t. c.add_onset.new.list.items ≡ l.list.items ++ onset_number t c.args.place ∷ []) is
    (simp (to_z-of_z, fits) at (c.add_onset.ensures c.if-not-add_onset.false)) in
    let before = simp (to_z-of_z, c.ranges.offset) at l.invariant in
    rw (to_z-of_z w32 c.args.offset c.ranges.offset) (record {
      own = c.in-Some.ensures.own;
      ahead = omega (arith, before.ahead, next.0.from_place, next.1);
      known = kept_known c.args.rule.now c.args.offset c.args.place c.args.from c.args.end (place_of l.cursor) local l.list.items c.add_onset.new.list.items
          items bound c.args.list.now.items before.ahead before.known;
      stay = λ n h. rw items (Contains-append_left l.list.items (onset_number (instant_by c.args.offset local) c.args.place ∷ []) n (before.stay n h));
      complete = rw next.1 (kept_complete c.args.rule.now c.args.offset c.args.place c.args.from c.args.end (place_of l.cursor) local l.list.items
          c.add_onset.new.list.items items bound before.complete);
    })

pub returns-clause-known : goal.returns-clause-known
returns-clause-known c = λ e. simp (to_z-of_z, c.ranges.offset) at c.loop-local.invariant.known

pub returns-clause-complete : goal.returns-clause-complete
returns-clause-complete c = λ e k kept late early. elim (cases_lt k (place_of c.loop-local.cursor)) [
  | inl before ↦ (simp (to_z-of_z, c.ranges.offset) at c.loop-local.invariant.complete) k kept late before
  | inr after ↦ absurd (
      let none = c.in_default.ensures.next.0 k after (omega (arith, early, c.numbered-bound.ensures.value)) in
      false≢true (sym none ∙ kept))
]
