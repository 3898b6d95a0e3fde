use Rattle.std.proofs.Common.{◌≡◌, ◌∙◌, ◌&&◌, ◌-ℤ◌, pos, not, int_lt, rules, w32, w64, to_z, of_z, sym, ap, arith, SFits}
use Rattle.std.proofs.lemmas.Int.{ints}
use Rattle.ics_starts.specs.RuleFeed.{held_in, settled_in}
use Rattle.ics_starts.specs.RuleStarts.{is_ready}
use Rattle.ics_starts.proofs.RuleStepLemmas.{day-back, day-days, end-days}
use Rattle.ics_starts.proofs.rule_starts.RuleStarts.is_behind.Goals as goal
use Rattle.ics_starts.proofs.rule_starts.RuleStarts.is_behind.Goals.{After-settled-settled}

settled : (c : After-settled-settled) → to_z w64 (of_z w64 c.settled-settled.result) ≡ settled_in c.args.self.now
settled c =
    let fits : SFits w64 c.settled-settled.result = search rules in
    omega (arith, ints, c.settled-settled.ensures)

-- what is tested, as it is read back
open-is : (c : After-settled-settled) → (int_lt (to_z w32 (of_z w32 c.args.self.now.day)) (to_z w32 (of_z w32 c.args.self.now.end))
    && int_lt (to_z w64 (of_z w64 c.settled-settled.result)) (to_z w64 (of_z w64 (to_z w64 (of_z w64 c.args.self.now.window.to) -ℤ pos 1))))
    ≡ (int_lt c.args.self.now.day c.args.self.now.end && int_lt (settled_in c.args.self.now) (c.args.self.now.window.to -ℤ pos 1))
open-is c =
    let s = c.args.self.now in
    let day = day-back s.day (day-days s) in
    let end = day-back s.end (end-days s) in
    let last : to_z w64 (of_z w64 (to_z w64 (of_z w64 c.args.self.now.window.to) -ℤ pos 1)) ≡ c.args.self.now.window.to -ℤ pos 1 =
    omega (arith, ints, s.window.ordered, s.window.not_early, s.window.not_late) in
    λ i. int_lt (day i) (end i) && int_lt (settled c i) (last i)

pub returns-then-is_open : goal.returns-then-is_open
returns-then-is_open c =
    let s = c.args.self.now in
    let at = (goal.at.returns-then-is_open c).After-settled-settled in
    let ready : c.is_ready.result ≡ is_ready (settled_in s) (held_in s) = c.is_ready.ensures ∙ ap (λ t. is_ready t (held_in s)) (settled at) in
    let opened = sym c.if-is_open.true ∙ open-is at in
    λ i. opened i && not (ready i)

pub returns-else-is_open : goal.returns-else-is_open
returns-else-is_open c =
    let s = c.args.self.now in
    let closed = sym c.if-is_open.false ∙ open-is (goal.at.returns-else-is_open c).After-settled-settled in
    c.if-is_open.false ∙ ap (λ b. b && not (is_ready (settled_in s) (held_in s))) closed
