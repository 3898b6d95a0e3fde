use Rattle.std.proofs.Common.{◌≡◌, ◌+◌, ◌*◌, ◌/◌, ◌%◌, inl, inr, ap, ◌∙◌, arith}
use Rattle.std.proofs.lemmas.Bool.{and_parts, cases_lt}
use Rattle.std.proofs.lemmas.Bool.Decides.{nat_tests}
use Rattle.std.proofs.lemmas.Nat.{div-add-mod', div_below}
use Rattle.std.proofs.Math.Nat.{mod-eq_of_lt}
use Rattle.ics_fields.specs.Sets.{contains}
use Rattle.ics_period.specs.RecurrencePeriods.{has_time}
use Rattle.ics_period.specs.Inner.StepRounds.{product, is_reached}
use Rattle.ics_period.proofs.ScanLemmas.{in_word}
use Rattle.ics_period.proofs.steps.Round.least.Goals as goal
use Rattle.ics_period.proofs.steps.Round.least.Goals.{then-contains, else-contains}

pub loop-day-preserved : goal.loop-day-preserved
loop-day-preserved c =
    let clock = c.args.self.now.clock in
    let day = c.loop-day.day in elim c.if-contains.branch [
      | then-contains w ↦ record {
        most = omega (arith, w.least-is, w.least_of_day-least.ensures.less, c.loop-day.invariant.most);
        low = λ p l may met. elim (cases_lt (p / clock.per_day) day) [
          | inl early ↦ omega (arith, w.least-is, w.least_of_day-least.ensures.less, c.loop-day.invariant.low p early may met)
          | inr late ↦ (let time = p % clock.per_day in
              let same : day ≡ p / clock.per_day = omega (arith, l, late) in
              let sum : day * clock.per_day + time ≡ p = ap (λ d. d * clock.per_day + time) same ∙ div-add-mod' p clock.per_day in
              let parts = and_parts (contains clock.days (p / clock.per_day % clock.cycle)) (has_time clock.hours clock.minutes clock.seconds time) may in
              let low = w.least_of_day-least.ensures.low time parts.1 (ap (is_reached c.args.self.now) sum ∙ met) in
              omega (arith, w.least-is, low, ap (product c.args.self.now) sum))
        ];
      }
      | else-contains w ↦ record {
        most = omega (arith, w.least-is, c.loop-day.invariant.most);
        low = λ p l may met. elim (cases_lt (p / clock.per_day) day) [
          | inl early ↦ omega (arith, w.least-is, c.loop-day.invariant.low p early may met)
          | inr late ↦ absurd (let same : p / clock.per_day ≡ day = omega (arith, l, late) in
              let here : p / clock.per_day % clock.cycle ≡ day = ap (λ d. d % clock.cycle) same ∙ mod-eq_of_lt c.loop-day-test.true in
              grind (arith, nat_tests, in_word, clock.a_week))
        ];
      }
    ]

pub returns-clause-low : goal.returns-clause-low
returns-clause-low c = λ p l may met.
    let r = c.args.self.now in
    let below = div_below p r.clock.per_day r.clock.cycle (omega (arith, r.clock.some)) (omega (arith, l, r.periods_are)) in
    c.loop-day.invariant.low p (omega (arith, below, c.loop-day-test.false)) may met
