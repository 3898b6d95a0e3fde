use Rattle.std.proofs.Common.{◌≡◌, ◌∙◌, ◌+◌, ◌*◌, ◌<◌, Bool, ℕ, true, false, subst, sym, ap, arith}
use Rattle.ics_fields.specs.declared.frequency.Frequency.{Frequency}
use Rattle.ics_period.specs.declared.effective_rule.EffectiveRule.{EffectiveRule}
use Rattle.ics_period.specs.Candidates.{is_stepped}
use Rattle.ics_period.proofs.Counts.{count_mono, count_between}
use Rattle.ics_rule.specs.Inner.Rounds.{seconds_of}
use Rattle.ics_rule.specs.Inner.OpenPeriods.{lets_own, is_timely}
use Rattle.ics_period.proofs.StepWalks.{walk_first, walk_small, walk_on, walk_past, walk_done}
use Rattle.ics_rule.proofs.OpenLemmas.{own_second}
use Rattle.ics_period.proofs.DayWalkLemmas.{one_out}
use Rattle.ics_rule.proofs.open_periods.steps_let_in.Goals as goal

-- whether the parts allow a period, where the seconds of one are known
owns : (f : Frequency) (q : EffectiveRule) (n : ℕ) {u : ℕ} {b : Bool} → u ≡ seconds_of f → b ≡ lets_own f q (n * u) → lets_own f q (n * seconds_of f) ≡ b
owns f q n e h = ap (λ x. lets_own f q (n * x)) (sym e) ∙ sym h

pub overflow_sub-result : goal.overflow_sub-result
overflow_sub-result c = grind (arith, count_mono)

pub returns-then-lets_all_times : goal.returns-then-lets_all_times
returns-then-lets_all_times c =
    let steps = is_stepped c.args.search.now.first c.args.search.now.parts.now.interval in
    let some = count_mono c.args.from c.args.before steps c.requires.order in
    count_between _ steps (is_timely c.args.search.now.parts.now c.args.search.now.first) c.requires.order
    (λ m l h. let all = c.lets_all_times.ensures c.if-lets_all_times.true (m * seconds_of c.args.search.now.parts.now.frequency) in grind (arith, all))
    (omega (arith, some, c.steps_before.ensures, c.steps_before-then-lets_all_times.ensures))

pub loop-number-init : goal.loop-number-init
loop-number-init c = walk_first c.args.search.now.interval c.requires.order c.next_step-number.ensures

pub overflow_add-total : goal.overflow_add-total
overflow_add-total c = let small = walk_small c.loop-number.invariant in omega (arith, small, c.loop-number-test.true, c.requires.before)

pub loop-number-preserved-then-lets_own : goal.loop-number-preserved-then-lets_own
loop-number-preserved-then-lets_own c =
    let q = c.args.search.now.parts.now in walk_on c.loop-number.invariant true
    (owns q.frequency q c.loop-number.number c.seconds_of-unit.ensures.value c.lets_own.ensures ∙ c.if-lets_own.true) (omega arith) c.loop-number-test.true

pub loop-number-preserved-then-is_closed_minute : goal.loop-number-preserved-then-is_closed_minute
loop-number-preserved-then-is_closed_minute c =
    let q = c.args.search.now.parts.now in
    let own = owns q.frequency q c.loop-number.number c.seconds_of-unit.ensures.value c.lets_own.ensures ∙ c.if-lets_own.false in
    walk_past c.loop-number.invariant own
    (λ j h. one_out (λ m. lets_own q.frequency q (m * seconds_of q.frequency)) c.loop-number.number own
    (λ i l. own_second q.frequency q (c.loop-number.number + i) (sym c.seconds_of-unit.ensures.value ∙ c.if-unit-eq1.true)
    (c.next_open_second.ensures.none (c.loop-number.number + i) (omega arith) (omega (arith, l)))) j (subst (λ x. j < x) c.max-closed.ensures h))
    (omega (arith, c.max-closed.ensures)) c.next_step-number-then-is_closed_minute.ensures c.loop-number-test.true

pub loop-number-preserved : goal.loop-number-preserved
loop-number-preserved c =
    let q = c.args.search.now.parts.now in walk_on c.loop-number.invariant false
    (owns q.frequency q c.loop-number.number c.seconds_of-unit.ensures.value c.lets_own.ensures ∙ c.if-lets_own.false) (omega arith) c.loop-number-test.true

pub returns : goal.returns
returns c = walk_done c.loop-number.invariant c.loop-number-test.false
