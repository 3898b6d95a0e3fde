use Rattle.std.proofs.Common.{arith, subst, sym, ap, ◌+◌, ◌∙◌}
use Rattle.ics_fields.specs.Locals.{number}
use Rattle.ics_rule.specs.Cursors.{place_of}
use Rattle.khal_list_c.specs.Clocks.{clock_said}
use Rattle.khal_list_c.specs.Times.{IsNextOf, NoneOf, is_instance, place}
use Rattle.khal_list_c.proofs.Instances.{none-both, widened}
use Rattle.khal_list_c.proofs.Steps.{Fills-more}
use Rattle.khal_list_c.proofs.filling.fill.Goals as goal

pub returns-in-None : goal.returns-in-None
returns-in-None c =
    let test = is_instance c.args.said.now.rule (clock_said c.args.clock.now) in record {
      room = omega arith;
      each = c.loop-i.invariant.1.1;
      all = λ more. none-both test (place c.args.from c.loop-i.times c.loop-i.i) c.end_of.result c.args.before
          (subst (λ n. NoneOf test n c.end_of.result) c.loop-i.invariant.1.0
          (subst (λ n. NoneOf test (place_of c.loop-i.cursor) n) c.numbered-end.ensures.value c.in-None.ensures.next)) c.end_of.ensures.none;
    }

pub loop-i-preserved : goal.loop-i-preserved
loop-i-preserved c =
    let answer = c.in-Some.ensures.next in
    let at = c.loop-i.invariant.1.0 in
    let test = is_instance c.args.said.now.rule (clock_said c.args.clock.now) in
    let early = c.end_of.ensures.early in
    let is = c.numbered-end.ensures.value in (
      c.next_instance.ensures.own,
      Fills-more test c.args.from c.args.before c.loop-i.times c.loop-i.i c.number.result _ (omega arith)
          (answer.1 ∙ ap (λ n. n + 1) (sym c.number.ensures.value)) c.loop-i.invariant.1.1
          (subst (λ n. IsNextOf test n c.args.before c.number.result) at
          (subst (λ n. IsNextOf test (place_of c.loop-i.cursor) c.args.before n) (sym c.number.ensures.value)
          (widened test (place_of c.loop-i.cursor) (number c.numbered-end.result) c.args.before (number c.in-Some.local) (omega (arith, early, is)) answer.0))),
    )
