use Rattle.std.proofs.Common.{◌≡◌, arith}
use Rattle.ics_rule.specs.Inner.Rounds.{seconds_of}
use Rattle.ics_rule.proofs.EvenLemmas.{even_of_rounds, even_months, even_years}
use Rattle.ics_rule.proofs.rounds.even_round_of.Goals as goal
use Rattle.ics_rule.proofs.rounds.even_round_of.Goals.{in-Yearly, in_default}

pub returns : goal.returns
returns c = λ start.
    let flat = c.is_flat.ensures c.if-not-is_flat.false in
    let even : seconds_of c.args.search.now.parts.now.frequency ≡ 0 = omega (arith, c.seconds_of.ensures.value, c.if-seconds_of-gt0.false) in
    elim c.match-parts.branch [
      | in-Yearly w ↦ rw w.steps-is (even_years c.args.search.now.parts.now start c.args.search.now.interval flat w.in-Yearly.is)
      | in_default w ↦ rw w.steps-is
          (even_months c.args.search.now.parts.now start c.args.search.now.interval flat (let other = w.in_default.not-Yearly in grind arith))
    ]

pub returns-then-seconds_of-gt0 : goal.returns-then-seconds_of-gt0
returns-then-seconds_of-gt0 c = even_of_rounds c.args.search.now.parts.now c.round_of.result (λ k t. t) c.round_of.ensures
