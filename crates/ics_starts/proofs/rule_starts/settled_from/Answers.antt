use Rattle.std.proofs.Common.{◌≡◌, ◌≤ℤ◌, ◌-ℤ◌, ◌+ℤ◌, pos, rules, true, false, w64, to_z, of_z, sym, ◌∙◌, ap, arith, SFits}
use Rattle.std.proofs.lemmas.Int.{int_min_is, ints}
use Rattle.std.specs.Int.{int_min}
use Rattle.ics_starts.specs.Clocks.{is_in}
use Rattle.ics_starts.specs.RuleStarts.{settled_from}
use Rattle.ics_starts.proofs.StretchLemmas.{inside}
use Rattle.ics_starts.proofs.rule_starts.settled_from.Goals as goal
use Rattle.ics_starts.proofs.rule_starts.settled_from.Goals.{After-min-reached}

within : (c : After-min-reached) → is_in c.args.stretch c.args.local ≡ true
within c =
    let years = c.requires.local in
    let here : to_z w64 (of_z w64 c.args.local) ≡ c.args.local = omega (arith, ints, years) in
    ap (is_in c.args.stretch) (sym here) ∙ (sym c.is_in.ensures ∙ c.if-is_in.true)

-- what is reached, as it is read back
reached : (c : After-min-reached) → c.min-reached.result ≡ int_min (c.args.local -ℤ c.args.stretch.offset +ℤ c.args.most) c.args.stretch.to
reached c =
    let most = c.requires.most in
    let short = c.requires.short in
    let years = c.requires.local in
    let fits : SFits w64 c.args.stretch.to = search rules in
    let to : to_z w64 (of_z w64 c.args.stretch.to) ≡ c.args.stretch.to = omega (arith, ints) in
    let own : to_z w64 (of_z w64 (to_z w64 (of_z w64 (to_z w64 (of_z w64 c.args.local) -ℤ to_z w64 (of_z w64 c.args.stretch.offset)))
    +ℤ to_z w64 (of_z w64 c.args.most))) ≡ c.args.local -ℤ c.args.stretch.offset +ℤ c.args.most = omega (arith, ints, most, short, years) in
    c.min-reached.ensures.value ∙ (λ i. int_min (own i) (to i))

-- it is near the first local
near : (c : After-min-reached) → ((c.args.local -ℤ pos 200_000) ≤ℤ c.min-reached.result) × (c.min-reached.result ≤ℤ (c.args.local +ℤ pos 200_000))
near c =
    let s = c.args.stretch in
    let least = int_min_is (c.args.local -ℤ s.offset +ℤ c.args.most) s.to in
    let past = (inside s c.args.local (within c)).1 in
    let most = c.requires.most in
    let short = c.requires.short in
    (omega (arith, ints, reached c, least, past, most, short), omega (arith, ints, reached c, least, most, short))

pub overflow_sub-result : goal.overflow_sub-result
overflow_sub-result c =
    let years = c.requires.local in
    let most = c.requires.most in
    omega (arith, ints, near (goal.at.overflow_sub-result c).After-min-reached, years, most)

pub overflow_sub-result-then-is_in : goal.overflow_sub-result-then-is_in
overflow_sub-result-then-is_in c =
    let years = c.requires.local in
    let most = c.requires.most in
    omega (arith, ints, near (goal.at.overflow_sub-result-then-is_in c).After-min-reached, years, most)

pub returns-then-is_in : goal.returns-then-is_in
unfolding settled_from
returns-then-is_in c =
    let at = (goal.at.returns-then-is_in c).After-min-reached in
    let years = c.requires.local in
    let most = c.requires.most in
    rw (within at) (omega (arith, ints, reached at, near at, years, most))

pub returns : goal.returns
unfolding settled_from
returns c =
    let most = c.requires.most in
    let years = c.requires.local in
    let here : to_z w64 (of_z w64 c.args.local) ≡ c.args.local = omega (arith, ints, years) in
    let apart : is_in c.args.stretch c.args.local ≡ false = ap (is_in c.args.stretch) (sym here) ∙ (sym c.is_in.ensures ∙ c.if-is_in.false) in
    rw apart (omega (arith, ints, here, most, years))
