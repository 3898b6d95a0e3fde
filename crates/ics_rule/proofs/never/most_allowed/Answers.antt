use Rattle.std.proofs.Common.{◌≡◌, ◌<◌, ◌≤◌, ◌*◌, ◌⊎◌, ◌∙◌, ap, arith}
use Rattle.ics_rule.specs.Inner.Rounds.{seconds_of}
use Rattle.ics_rule.specs.Inner.OpenPeriods.{most_days}
use Rattle.ics_rule.proofs.MostLemmas.{short_size, long_size}
use Rattle.ics_rule.proofs.never.most_allowed.Goals as goal

pub returns-then-unit-gt86400 : goal.returns-then-unit-gt86400
returns-then-unit-gt86400 c = λ start n.
    let q = c.args.parts.now in
    let unit = c.seconds_of-unit.ensures.value in
    let long : (seconds_of q.frequency ≡ 0) ⊎ (86_400 < seconds_of q.frequency) = grind arith in
    let most = long_size q start n long in
    let same = ap (λ x. x * c.times_of_day.result) c.most_days.ensures.value ∙ ap (λ x. most_days q.frequency q * x) c.times_of_day.ensures.value in
    omega (arith, most, same)

pub returns-else-unit-gt86400 : goal.returns-else-unit-gt86400
returns-else-unit-gt86400 c = λ start n.
    let q = c.args.parts.now in
    let unit = c.seconds_of-unit.ensures.value in
    let fine : 0 < seconds_of q.frequency = grind arith in
    let short : seconds_of q.frequency ≤ 86_400 = grind arith in
    let most = short_size q start n fine short in
    omega (arith, most, c.size_of_open.ensures.value)
