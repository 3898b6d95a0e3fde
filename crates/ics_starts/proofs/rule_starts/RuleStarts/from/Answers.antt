use Rattle.std.proofs.Common.{rules, w64, to_z, of_z, ◌≡◌, ◌∙◌, sym, arith, SFits}
use Rattle.std.proofs.lemmas.Int.{int_min_is, ints}
use Rattle.ics_starts.specs.RuleFeed.{held_in, settled_in}
use Rattle.ics_listing.proofs.FirstLemmas.{first-least, none-first}
use Rattle.ics_starts.proofs.RuleStepLemmas.{left-from}
use Rattle.ics_starts.proofs.rule_starts.RuleStarts.from.Goals as goal

pub returns-in-None : goal.returns-in-None
returns-in-None c =
    let s = c.args.self.now in
    let fits : SFits w64 c.settled-settled.result = search rules in
    let back : to_z w64 (of_z w64 c.settled-settled.result) ≡ settled_in c.args.self.now = omega (arith, ints, c.settled-settled.ensures) in
    left-from s (to_z w64 (of_z w64 c.settled-settled.result)) (λ t m. absurd (none-first (held_in s) (sym c.in-None.is ∙ c.first.ensures) t m))
    (omega (arith, ints, back))

pub returns-in-Some : goal.returns-in-Some
returns-in-Some c =
    let s = c.args.self.now in
    let fits : SFits w64 c.in-Some.first.moment = search rules in
    let fits2 : SFits w64 c.settled-settled.result = search rules in
    let one : to_z w64 (of_z w64 c.in-Some.first.moment) ≡ c.in-Some.first.moment = omega (arith, ints) in
    let other : to_z w64 (of_z w64 c.settled-settled.result) ≡ settled_in c.args.self.now = omega (arith, ints, c.settled-settled.ensures) in
    left-from s (to_z w64 (of_z w64 c.min.result))
    (λ t m. let least = first-least (held_in s) s.rises c.in-Some.first (sym c.in-Some.is ∙ c.first.ensures) t m in
    omega (arith, ints, int_min_is, c.min.ensures, one, other, least))
    (omega (arith, ints, int_min_is, c.min.ensures, one, other))
