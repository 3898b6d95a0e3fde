use Rattle.std.proofs.Common.{rules, ◌≡◌, ◌&&◌, ◌-ℤ◌, ◌∙◌, ℤ, arith, nat_eq, w64, to_z, of_z, int_lt, int_le, int_eq, SFits}
use Rattle.std.proofs.lemmas.Int.{ints}
use Rattle.ics_days.proofs.date.is_meant.Goals as goal

same-value : (a b : ℤ) → SFits w64 a → SFits w64 b → nat_eq (of_z w64 a) (of_z w64 b) ≡ int_eq a b
same-value a b f g = search rules

pub returns : goal.returns
returns c =
    let s = c.args.stretch in
    let from : to_z w64 (of_z w64 c.args.stretch.from) ≡ c.args.stretch.from = search rules in
    let to : to_z w64 (of_z w64 c.args.stretch.to) ≡ c.args.stretch.to = search rules in
    let offset : to_z w64 (of_z w64 c.args.stretch.offset) ≡ c.args.stretch.offset = search rules in
    let local : to_z w64 (of_z w64 c.args.local) ≡ c.args.local = search rules in
    let fits : SFits w64 (c.args.local -ℤ c.args.stretch.offset) = omega (arith, ints, c.requires.local.0, c.requires.local.1, c.requires.short) in
    let at = same-value (c.args.local -ℤ c.args.stretch.offset) c.args.moment fits c.ranges.moment in
    λ i. int_le (from i) (local i) && int_lt (local i) (to i) && ((λ j. nat_eq (of_z w64 (local j -ℤ offset j)) (of_z w64 c.args.moment)) ∙ at) i
