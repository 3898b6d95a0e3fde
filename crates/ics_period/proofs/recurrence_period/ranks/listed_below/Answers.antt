use Rattle.std.proofs.Common.{◌≡◌, ◌+◌, ◌≤◌, arith}
use Rattle.ics_period.specs.Ranks.{count}
use Rattle.ics_period.specs.RecurrencePeriods.{is_listed}
use Rattle.ics_period.proofs.Counts.{count_most}
use Rattle.ics_period.proofs.RankLemmas.{count_listed, is_twice}
use Rattle.ics_period.proofs.recurrence_period.ranks.listed_below.Goals as goal
use Rattle.ics_period.proofs.recurrence_period.ranks.listed_below.Goals.{After-members_between-back}

all : (c : After-members_between-back) → (count c.args.k (is_listed c.args.positions.now c.args.size)
    + count c.args.k (is_twice c.args.positions.now c.args.size) ≡ c.members_between-front.result + c.members_between-back.result)
    × (count c.args.k (is_twice c.args.positions.now c.args.size) ≤ c.members_between-back.result)
all c = count_listed c.args.positions.now c.args.size c.args.k c.members_between-front.result c.members_between-back.result c.requires.some
    c.members_between-front.ensures.value c.members_between-back.ensures.value

pub returns-then-back-eq0-clause-value : goal.returns-then-back-eq0-clause-value
returns-then-back-eq0-clause-value c =
    let sum = all (goal.at.returns-then-back-eq0-clause-value c).After-members_between-back in
    omega (arith, sum, c.if-back-eq0.true)

pub returns-then-back-eq0-clause-bound : goal.returns-then-back-eq0-clause-bound
returns-then-back-eq0-clause-bound c =
    omega (arith, returns-then-back-eq0-clause-value c, count_most c.args.k (is_listed c.args.positions.now c.args.size))

pub overflow_sub-result : goal.overflow_sub-result
overflow_sub-result c =
    let sum = all (goal.at.overflow_sub-result c).After-members_between-back in
    omega (arith, sum, c.listed_twice.ensures)

pub returns-clause-value : goal.returns-clause-value
returns-clause-value c =
    let sum = all (goal.at.returns-clause-value c).After-members_between-back in
    omega (arith, sum, c.listed_twice.ensures)

pub returns-clause-bound : goal.returns-clause-bound
returns-clause-bound c =
    omega (arith, returns-clause-value c, count_most c.args.k (is_listed c.args.positions.now c.args.size))
