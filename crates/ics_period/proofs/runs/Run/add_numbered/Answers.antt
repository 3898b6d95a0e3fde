use Rattle.std.proofs.Common.{◌∙◌, ◌+◌, ◌-◌, ◌*◌, ◌≤◌, ◌<◌, arith}
use Rattle.std.proofs.lemmas.Bool.Decides.{nat_tests}
use Rattle.ics_fields.specs.Sets.{contains, contains_wide}
use Rattle.ics_period.proofs.RunLemmas.{number_added, number_done, listed_within}
use Rattle.ics_period.proofs.runs.Run.add_numbered.Goals as goal
use Rattle.ics_period.proofs.runs.Run.add_numbered.Goals.{In-Some}

inside : (c : In-Some) → (1 ≤ c.in-Some.n) × (c.first_on-first.result + 7 * (c.in-Some.n - 1) < c.args.self.len)
inside c = grind (arith, listed_within)

pub loop-n-init : goal.loop-n-init
loop-n-init c = grind (arith, nat_tests)

pub insert-requires : goal.insert-requires
insert-requires c = grind (arith, inside)

pub loop-n-preserved : goal.loop-n-preserved
loop-n-preserved c = let i = inside (goal.at.loop-n-preserved c).In-Some in (
  λ m. c.insert.ensures.members m
      ∙ number_added c.args.self (contains c.listed-listed.result) c.args.weekday c.first_on-first.result c.loop-n.from m (contains_wide c.args.days.now m)
      (contains_wide c.loop-n.days m) c.first_on-first.ensures.place c.first_on-first.ensures.early
      c.in-Some.n i.0 i.1 c.in-Some.ensures.next (c.loop-n.invariant.0 m),
  omega arith,
)

pub returns : goal.returns
returns c = λ m. number_done c.args.self (contains c.listed-listed.result) c.args.weekday c.first_on-first.result c.loop-n.from m
    (contains_wide c.args.days.now m) (contains_wide c.loop-n.days m) c.first_on-first.ensures.place c.first_on-first.ensures.early
    c.args.numbers.now c.days_from.ensures (omega (arith, c.first_on-first.ensures.early, c.requires.run.some)) c.in_default.ensures.next
    c.listed-listed.ensures
    (c.loop-n.invariant.0 m)
