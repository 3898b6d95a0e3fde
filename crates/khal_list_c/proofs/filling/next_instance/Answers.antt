use Rattle.std.proofs.Common.{◌≡◌, ◌∙◌, true, false, ap, arith, subst, sym}
use Rattle.ics_fields.specs.Locals.{number}
use Rattle.ics_rule.specs.Cursors.{place_of}
use Rattle.khal_list_c.specs.Clocks.{clock_said}
use Rattle.khal_list_c.specs.Times.{NoneOf, is_by_instant, is_instance}
use Rattle.khal_list_c.proofs.Instances.{allowed, next-of, none-on, none-past, refused, started}
use Rattle.khal_list_c.proofs.filling.next_instance.Goals as goal
use Rattle.khal_list_c.proofs.filling.next_instance.Goals.{then-number-start-via-then-number-start, then-number-start-via-else-number-start+then-allows}

pub returns-in_default-clause-next : goal.returns-in_default-clause-next
returns-in_default-clause-next c =
    none-on c.args.said.now.rule (clock_said c.args.clock.now) (place_of c.args.cursor.now) (place_of c.loop-count.cursor) (number c.args.before)
    c.loop-count.invariant.1.1.1 c.in_default.ensures.next.0

pub returns-then-number-start-clause-next : goal.returns-then-number-start-clause-next
returns-then-number-start-clause-next c =
    let r = c.args.said.now.rule in
    let clock = clock_said c.args.clock.now in
    let n = number c.in-Some.local in
    let answer = c.in-Some.ensures.next in (
      next-of r clock (place_of c.args.cursor.now) (place_of c.loop-count.cursor) (number c.args.before) n c.loop-count.invariant.1.1.0
          c.loop-count.invariant.1.1.1 answer.0
          (elim c.then-number-start.branch [
            | then-number-start-via-then-number-start w ↦ started r clock n answer.0.kept
                (sym c.number.ensures.value ∙ w.if-number-start.true ∙ c.number-start.ensures.value ∙ ap number c.requires.start)
            | then-number-start-via-else-number-start+then-allows w ↦ allowed r clock n answer.0.kept
                (subst (λ u. is_by_instant u clock n ≡ true) c.requires.until (sym w.if-allows.ensures))
          ]),
      answer.1,
    )

pub loop-count-preserved : goal.loop-count-preserved
loop-count-preserved c =
    let r = c.args.said.now.rule in
    let clock = clock_said c.args.clock.now in
    let n = number c.in-Some.local in
    let answer = c.in-Some.ensures.next in
    let low = answer.0.from_place in
    let at = answer.1 in
    let more = c.loop-count.invariant.1.0 in
    let up = c.loop-count.invariant.1.1.0 in (
      c.next.ensures.own,
      (
        omega (arith, low, at, more),
        (
          omega (arith, low, at, up),
          subst (λ k. NoneOf (is_instance r clock) (place_of c.args.cursor.now) k) (sym at)
              (none-past r clock (place_of c.args.cursor.now) (place_of c.loop-count.cursor) (number c.args.before) n c.loop-count.invariant.1.1.1 answer.0
              (refused r clock n
              (λ same. c.if-number-start.false (c.number.ensures.value ∙ same ∙ sym (c.number-start.ensures.value ∙ ap number c.requires.start)))
              (subst (λ u. is_by_instant u clock n ≡ false) c.requires.until (sym c.if-allows.ensures)))),
        ),
      ),
    )
