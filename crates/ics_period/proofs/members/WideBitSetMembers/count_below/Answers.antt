use Rattle.std.proofs.Common.{◌≡◌, ◌+◌, ◌*◌, ◌/◌, ◌%◌, ap, ◌∙◌, arith}
use Rattle.std.proofs.lemmas.Nat.{div-add-mod'}
use Rattle.ics_fields.specs.Sets.{contains_wide}
use Rattle.ics_period.specs.Ranks.{count}
use Rattle.ics_period.proofs.Counts.{count_most, count_to_word}
use Rattle.ics_period.proofs.ProductCounts.{count_zero}
use Rattle.ics_period.proofs.members.WideBitSetMembers.count_below.Goals as goal

pub loop-place-init : goal.loop-place-init
loop-place-init c = grind (arith, count_zero)

pub overflow_add-total : goal.overflow_add-total
overflow_add-total c = grind (arith, count_most)

pub overflow_add-result : goal.overflow_add-result
overflow_add-result c = grind (arith, count_most)

pub loop-place-preserved : goal.loop-place-preserved
loop-place-preserved c =
    let next : c.loop-place.place * 64 + 64 ≡ (c.loop-place.place + 1) * 64 = omega arith in
    count_to_word c.args.self.now c.loop-place.place 64 (omega (arith, c.requires)) (omega arith) c.loop-place.invariant c.word.ensures c.ones_below.ensures
    ∙ ap (λ m. count m (contains_wide c.args.self.now)) next

pub returns-then-rest-eq0 : goal.returns-then-rest-eq0
returns-then-rest-eq0 c =
    let whole : c.loop-place.place * 64 ≡ c.args.n = omega (arith, c.if-rest-eq0.true) in
    c.loop-place.invariant ∙ ap (λ m. count m (contains_wide c.args.self.now)) whole

pub returns : goal.returns
returns c =
    let last : c.loop-place.place ≡ c.args.n / 64 = omega arith in
    count_to_word c.args.self.now (c.args.n / 64) (c.args.n % 64) (omega (arith, c.requires, c.if-rest-eq0.false)) (omega arith)
    (c.loop-place.invariant ∙ ap (λ p. count (p * 64) (contains_wide c.args.self.now)) last) c.word-2.ensures c.ones_below-2.ensures
    ∙ ap (λ m. count m (contains_wide c.args.self.now)) (div-add-mod' c.args.n 64)
