use Rattle.std.proofs.Common.{◌+◌, max, inl, inr, arith}
use Rattle.std.proofs.lemmas.Bool.{cases_lt}
use Rattle.ics_fields.specs.Locals.{number}
use Rattle.ics_rule.specs.Cursors.{place_of}
use Rattle.ics_rule.specs.Next.{NoneKept}
use Rattle.ics_starts.proofs.rule_starts.RuleStarts.later_than.Goals as goal
use Rattle.ics_starts.proofs.rule_starts.RuleStarts.later_than.Goals.{After-quiet-later}

-- none is kept behind the local, up to the one that was found first
none-behind : (c : After-quiet-later)
    → NoneKept c.args.self.now.rule (max (place_of c.args.self.now.cursor) (number c.args.local + 1)) (number c.quiet-later.result)
none-behind c = λ n on less.
    (rw c.get-2.ensures at c.quiet-later.ensures.none) n
    (omega (arith, on, c.pass.ensures.place, c.numbered.ensures.value, c.number-behind.ensures.value)) less

pub returns-then-later-gt0-clause-none : goal.returns-then-later-gt0-clause-none
returns-then-later-gt0-clause-none c = none-behind (goal.at.returns-then-later-gt0-clause-none c).After-quiet-later

pub returns-clause-none : goal.returns-clause-none
returns-clause-none c = λ n on less. elim (cases_lt n (number c.quiet-later.result)) [
  | inl before ↦ none-behind (goal.at.returns-clause-none c).After-quiet-later n on before
  | inr past ↦
      let place = c.pass.ensures.place in
      (rw c.get-4.ensures at c.quiet.ensures.none) n
      (omega (arith, on, past, c.pass-2.ensures.place, c.quiet-later.ensures.place, place, c.numbered.ensures.value, c.number-behind.ensures.value)) less
]
