use Rattle.std.proofs.Common.{◌≡◌, ◌≤◌, ◌+◌, ◌*◌, ◌/◌, ◌%◌, ap, ◌∙◌, arith}
use Rattle.std.proofs.lemmas.Bool.{and_parts}
use Rattle.ics_fields.specs.Sets.{contains}
use Rattle.ics_period.specs.RecurrencePeriods.{has_minute}
use Rattle.ics_period.specs.Inner.StepRounds.{product, is_reached}
use Rattle.ics_period.proofs.StepsLemmas.{scan_on}
use Rattle.ics_period.proofs.steps.Round.least_of_day.Goals as goal

pub loop-minute-preserved : goal.loop-minute-preserved
loop-minute-preserved c = record {
  less = omega (arith, c.least_of_minute-least.ensures.less, c.loop-minute.invariant.less);
  low = λ t l on met.
      let r = c.args.self.now in
      let parts = and_parts (has_minute r.clock.hours r.clock.minutes (t / 60)) (contains r.clock.seconds (t % 60)) on in
      scan_on (has_minute r.clock.hours r.clock.minutes) (c.least_of_minute-least.result ≤ product r (c.args.begin + t)) c.in-Some.ensures.next
      (λ early. omega (arith, c.least_of_minute-least.ensures.less, c.loop-minute.invariant.low t early on met))
      (λ last. let sum : c.args.begin + c.in-Some.minute * 60 + t % 60 ≡ c.args.begin + t = omega (arith, last) in
      let low = c.least_of_minute-least.ensures.low (t % 60) (omega arith) parts.1 (ap (is_reached r) sum ∙ met) in
      omega (arith, low, ap (product r) sum)) l parts.0;
  inside = omega (arith, c.in-Some.ensures.small);
}
