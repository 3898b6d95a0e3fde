use Rattle.std.proofs.Common.{◌≡◌, ℕ, ◌+◌, ◌<◌, ◌≤◌, nat_lt, max, MatchOption, refl, arith}
use Rattle.ics_fields.specs.Locals.{number}
use Rattle.ics_period.specs.PeriodNumbers.{rules_end}
use Rattle.ics_rule.specs.Kept.{is_by_until}
use Rattle.ics_rule.proofs.NextLemmas.{next_start, kept_earlier, none_kept, next_kept, kept_answer}
use Rattle.ics_rule.proofs.CursorLemmas.{own_at, own_moved, looked_found, looked_walked}
use Rattle.ics_rule.proofs.cursor.Cursor.next_number.Goals as goal
use Rattle.ics_rule.proofs.cursor.Cursor.next_number.Goals.{After-min-stop}

pub returns-then-start-end-clause-next : goal.returns-then-start-end-clause-next
returns-then-start-end-clause-next c = rw c.requires.start (
  next_start c.args.rule.now c.args.self.now.place c.args.end (omega (arith, c.requires.start, c.if-place-start.true))
      (omega (arith, c.requires.start, c.if-start-end.true)),
  refl,
)

pub returns-then-start-end-clause-own : goal.returns-then-start-end-clause-own
returns-then-start-end-clause-own c = own_at (c.args.start + 1)
    c.requires.own (omega (arith, c.if-place-start.true)) (omega (arith, c.if-start-end.true, c.requires.end))

pub returns-then-place-start-clause-next : goal.returns-then-place-start-clause-next
returns-then-place-start-clause-next c = grind (arith, kept_earlier)

pub returns-then-place-start-clause-own : goal.returns-then-place-start-clause-own
returns-then-place-start-clause-own c = own_at c.max-self.result
    c.requires.own (omega (arith, c.max-self.ensures)) (omega (arith, c.max-self.ensures, c.requires.own.inside, c.requires.end))

-- a search goes from after the start to UNTIL and the bound
after : (c : After-min-stop) → number c.args.rule.now.start < c.args.self.now.place
after c = omega (arith, c.requires.start, c.if-place-start.false)

ends : (c : After-min-stop) → (n : ℕ) → n < rules_end → is_by_until c.args.rule.now.kind c.args.rule.now.parts.until n ≡ nat_lt n c.until_end.result
ends c n h = let ends = c.until_end.ensures n h in grind arith

pub returns-then-stop-place-clause-next : goal.returns-then-stop-place-clause-next
returns-then-stop-place-clause-next c =
    let at = (goal.at.returns-then-stop-place-clause-next c).After-min-stop in (
      none_kept c.args.rule.now c.args.self.now.place c.args.end c.until_end.result (after at) c.requires.end (ends at)
          (λ n l u. absurd (omega (arith, l, u, c.min-stop.ensures, c.if-stop-place.true))),
      c.max-self-then-stop-place.ensures,
    )

pub returns-then-stop-place-clause-own : goal.returns-then-stop-place-clause-own
returns-then-stop-place-clause-own c = own_at c.max-self-then-stop-place.result
    c.requires.own (omega (arith, c.max-self-then-stop-place.ensures))
    (omega (arith, c.max-self-then-stop-place.ensures, c.requires.own.inside, c.requires.end))

pub returns-then-n-stop-clause-next : goal.returns-then-n-stop-clause-next
returns-then-n-stop-clause-next c =
    let at = (goal.at.returns-then-n-stop-clause-next c).After-min-stop in (
      next_kept c.args.rule.now c.args.self.now.place c.args.end c.until_end.result (after at) c.requires.end (ends at) c.in-Some.n
          (rw c.requires.start at c.in-Some.ensures.next) (omega (arith, c.min-stop.ensures, c.if-n-stop.true)),
      refl,
    )

pub returns-then-n-stop-clause-own : goal.returns-then-n-stop-clause-own
returns-then-n-stop-clause-own c = let walked = c.in-Some.ensures.walked in
    own_moved {n = c.in-Some.n} (c.in-Some.n + 1) walked.moved walked.found.0 (omega arith) walked.counted
    (omega (arith, c.requires.end, c.min-stop.ensures, c.if-n-stop.true))

pub returns-then-n-stop-clause-looked : goal.returns-then-n-stop-clause-looked
returns-then-n-stop-clause-looked c = λ a b h few. looked_found c.in-Some.ensures.walked
    (omega (arith, c.in-Some.ensures.next.low, c.if-place-start.false)) (omega (arith, c.in-Some.ensures.next.low)) (omega (arith, h)) few

pub returns-then-n-stop-clause-counts : goal.returns-then-n-stop-clause-counts
returns-then-n-stop-clause-counts c = λ after later. let walked = c.in-Some.ensures.walked in grind arith

pub returns-then-n-stop-clause-rise : goal.returns-then-n-stop-clause-rise
returns-then-n-stop-clause-rise c = let looks = c.in-Some.ensures.walked.moved.looks in grind arith

pub returns-clause-next : goal.returns-clause-next
returns-clause-next c =
    let at = (goal.at.returns-clause-next c).After-min-stop in
    let past : MatchOption c.search.result (Unit {0}) (λ n. c.min-stop.result ≤ n) = grind arith in
    let end : c.args.end ≡ max c.args.self.now.place c.args.end = omega (arith, c.min-stop.ensures, c.if-stop-place.false) in (
      kept_answer c.args.rule.now c.args.self.now.place c.args.end c.until_end.result (after at) c.requires.end (ends at)
          c.search.result (rw (c.requires.start, c.min-stop.ensures) at c.search.ensures.next) (rw c.min-stop.ensures at past),
      end,
    )

pub returns-clause-own : goal.returns-clause-own
returns-clause-own c = let walked = c.search.ensures.walked in
    own_moved {n = c.min-stop.result} c.args.end walked.moved walked.held (omega (arith, c.min-stop.ensures)) walked.counted (omega (arith, c.requires.end))

pub returns-clause-looked : goal.returns-clause-looked
returns-clause-looked c = λ a b h few. looked_walked c.args.end c.search.ensures.walked
    (omega (arith, c.if-stop-place.false, c.min-stop.ensures)) (omega (arith, c.min-stop.ensures, h)) few

pub returns-clause-rise : goal.returns-clause-rise
returns-clause-rise c = let looks = c.search.ensures.walked.moved.looks in grind arith
