use Rattle.std.proofs.Common.{◌≡◌, ℕ, ◌<◌, nat_lt, arith}
use Rattle.ics_fields.specs.Locals.{number}
use Rattle.ics_period.specs.PeriodNumbers.{rules_end}
use Rattle.ics_period.specs.EffectiveRules.{effective}
use Rattle.ics_rule.specs.Kept.{is_by_until}
use Rattle.ics_rule.proofs.CursorLemmas.{not_wanted}
use Rattle.ics_rule.proofs.NextLemmas.{kept_earlier, none_kept}
use Rattle.ics_rule.proofs.cursor.Cursor.quiet_number.Goals as goal
use Rattle.ics_rule.proofs.cursor.Cursor.quiet_number.Goals.{After-min-stop}

pub returns-then-self-start-clause-none : goal.returns-then-self-start-clause-none
returns-then-self-start-clause-none c = λ n l u. kept_earlier c.args.rule.now n (omega (arith, u, c.requires.start))

-- from after the start on UNTIL is known
after : (c : After-min-stop) → number c.args.rule.now.start < c.args.self.now.place
after c = omega (arith, c.requires.start, c.if-self-start.false)

ends : (c : After-min-stop) → (n : ℕ) → n < rules_end → is_by_until c.args.rule.now.kind c.args.rule.now.parts.until n ≡ nat_lt n c.until_end.result
ends c n h = let ends = c.until_end.ensures n h in grind arith

pub returns-then-stop-self-clause-none : goal.returns-then-stop-self-clause-none
returns-then-stop-self-clause-none c =
    let at = (goal.at.returns-then-stop-self-clause-none c).After-min-stop in
    none_kept c.args.rule.now c.args.self.now.place rules_end c.until_end.result (after at) (omega arith) (ends at)
    (λ n l u. absurd (omega (arith, l, u, c.min-stop.ensures, c.if-stop-self.true)))

pub returns-then-is_counted_out-clause-none : goal.returns-then-is_counted_out-clause-none
returns-then-is_counted_out-clause-none c =
    let at = (goal.at.returns-then-is_counted_out-clause-none c).After-min-stop in
    none_kept c.args.rule.now c.args.self.now.place rules_end c.until_end.result (after at) (omega arith) (ends at)
    (λ n l u. let is = c.is_counted_out.ensures.out c.if-is_counted_out.true n l in grind arith)

pub returns-then-chooses_none-clause-none : goal.returns-then-chooses_none-clause-none
returns-then-chooses_none-clause-none c =
    let r = c.args.rule.now in
    let at = (goal.at.returns-then-chooses_none-clause-none c).After-min-stop in
    none_kept r c.args.self.now.place rules_end c.until_end.result (after at) (omega arith) (ends at)
    (λ n l u. let is = c.chooses_none.ensures c.if-chooses_none.true c.of-search.result.start n (omega (arith, u)) in
    not_wanted (effective r) (number r.start) r.parts.count n (grind arith))

pub returns-clause-none : goal.returns-clause-none
returns-clause-none c =
    let r = c.args.rule.now in
    let at = (goal.at.returns-clause-none c).After-min-stop in
    none_kept r c.args.self.now.place c.min.result c.until_end.result (after at) (omega (arith, c.min.ensures)) (ends at)
    (λ n l u. let is = c.next_possible.ensures.none n l (omega (arith, u, c.min.ensures)) in
    not_wanted (effective r) (number r.start) r.parts.count n (grind arith))
