use Rattle.std.proofs.Common.{◌≡◌, ◌≤ℤ◌, ◌-ℤ◌, rules, w64, to_z, of_z, arith, SFits}
use Rattle.std.proofs.lemmas.Int.{ints}
use Rattle.ics_starts.proofs.rule_starts.shown_from.Goals as goal

pub returns-then-next-stretch : goal.returns-then-next-stretch
returns-then-next-stretch c = λ clock s local on before. absurd (omega (arith, ints, on, before))

pub overflow_sub-means : goal.overflow_sub-means
overflow_sub-means c = omega (arith, ints, c.requires.next, c.requires.short)

pub returns-then-means-moment : goal.returns-then-means-moment
returns-then-means-moment c = λ clock s local on before. absurd (omega (arith, ints, on, before))

pub returns : goal.returns
returns c = λ clock s local on before.
    let years = c.requires.next in
    let short = c.requires.short in
    let from : c.args.stretch.from ≤ℤ local = omega (arith, ints, on, c.if-next-stretch.false) in
    let back : to_z w64 (of_z w64 (to_z w64 (of_z w64 c.args.next) -ℤ to_z w64 (of_z w64 c.args.stretch.offset))) ≡ c.args.next -ℤ c.args.stretch.offset =
    omega (arith, ints, years, short) in
    let fits : SFits w64 c.args.stretch.to = search rules in
    omega (arith, ints, c.if-means-moment.false, back, on, years, s.moments local from (omega (arith, ints, before)))
