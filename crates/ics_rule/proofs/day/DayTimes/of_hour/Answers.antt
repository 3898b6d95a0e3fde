use Rattle.std.proofs.Common.{◌≡◌, ℕ, ◌∙◌, ◌/◌, ◌&&◌, ap, sym, arith, nat_lt}
use Rattle.std.proofs.lemmas.Bool.{lt-ltb, and_parts}
use Rattle.ics_fields.specs.Sets.{contains}
use Rattle.ics_fields.proofs.SetLemmas.{has_none}
use Rattle.ics_period.specs.PeriodNumbers.{day_of, hour_of, minute_of, second_of}
use Rattle.ics_rule.proofs.day.DayTimes.of_hour.Goals as goal

pub returns-then-contains : goal.returns-then-contains
returns-then-contains c = λ r h at day n in_hour.
    let self = c.args.self.now in
    let here : day_of n ≡ h / 24 = omega (arith, in_hour) in
    let hour : hour_of n ≡ c.args.hour = omega (arith, in_hour, at) in
    let has = (and_parts (nat_lt c.args.hour 64) (contains c.args.self.now.hours c.args.hour) (sym c.contains.ensures ∙ c.if-contains.true)).1 in
    day.kept n here ∙ ap (λ b. b && contains self.minutes (minute_of n) && contains self.seconds (second_of n)) (ap (contains self.hours) hour ∙ has)

pub returns-else-contains : goal.returns-else-contains
returns-else-contains c = λ r h at day n in_hour.
    let self = c.args.self.now in
    let here : day_of n ≡ h / 24 = omega (arith, in_hour) in
    let hour : hour_of n ≡ c.args.hour = omega (arith, in_hour, at) in
    let lacks = sym (ap (λ b. b && contains c.args.self.now.hours c.args.hour) (lt-ltb c.args.hour 64 (omega (arith, at))))
    ∙ sym c.contains.ensures ∙ c.if-contains.false in
    day.kept n here ∙ ap (λ b. b && contains self.minutes (minute_of n) && contains self.seconds (second_of n)) (ap (contains self.hours) hour ∙ lacks)
    ∙ sym (ap (λ b. b && contains c.new-else-contains.result (second_of n))
    (ap (λ (s : ℕ). contains s (minute_of n)) c.new.ensures ∙ has_none (minute_of n)))
