use Rattle.std.proofs.Common.{◌∙◌, ◌≤◌, arith}
use Rattle.std.proofs.lemmas.Bool.Decides.{nat_tests}
use Rattle.ics_fields.specs.Sets.{contains, contains_wide}
use Rattle.ics_period.specs.Candidates.{lists}
use Rattle.ics_period.proofs.RunLemmas.{day_added, day_done, listed_within}
use Rattle.ics_period.proofs.runs.Run.add_month_days.Goals as goal
use Rattle.ics_period.proofs.runs.Run.add_month_days.Goals.{In-Some}

inside : (c : In-Some) → (1 ≤ c.in-Some.n) × (c.in-Some.n ≤ c.args.self.len)
inside c = grind (arith, listed_within)

pub loop-n-init : goal.loop-n-init
loop-n-init c = grind (arith, nat_tests)

pub insert-requires : goal.insert-requires
insert-requires c = grind (arith, inside)

pub loop-n-preserved : goal.loop-n-preserved
loop-n-preserved c = let i = inside (goal.at.loop-n-preserved c).In-Some in (
  λ m. c.insert.ensures.members m ∙ day_added c.args.self (contains c.listed-listed.result) c.loop-n.from m (contains_wide c.args.days.now m)
      (contains_wide c.loop-n.days m) c.in-Some.n i.0 i.1 c.in-Some.ensures.next (c.loop-n.invariant.0 m),
  omega arith,
)

pub returns : goal.returns
returns c = λ m. day_done c.args.self (contains c.listed-listed.result) c.loop-n.from m (contains_wide c.args.days.now m) (contains_wide c.loop-n.days m)
    (λ n. lists c.args.month_days.now n c.args.self.len) c.in_default.ensures.next c.listed-listed.ensures (c.loop-n.invariant.0 m)
