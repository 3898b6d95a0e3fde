use Rattle.std.proofs.Common.{rules, arith, ◌≡◌, inl, inr, sym, ap, ◌∙◌, ◌+ℤ◌, ◌-ℤ◌, ◌≤ℤ◌, to_z, of_z, w32, w64}
use Rattle.std.proofs.lemmas.Int.{ints, int_min_is, to_z-of_z}
use Rattle.ics_zone.proofs.StretchLemmas.{cut_span}
use Rattle.ics_zone.proofs.stretches.narrowed.Goals as goal

pub overflow_add-min : goal.overflow_add-min
overflow_add-min c = let min = c.min-2.ensures in omega (arith, ints, min.value, int_min_is)

pub returns-then-span-offset-clause-shown : goal.returns-then-span-offset-clause-shown
returns-then-span-offset-clause-shown c = λ clock steady local low high.
    let seconds : c.from-seconds.result ≡ c.args.offset = simp (to_z-of_z, c.ranges.offset) at c.from-seconds.ensures in
    let wide : to_z w64 (of_z w64 c.from-seconds.result) ≡ c.from-seconds.result = to_z-of_z w64 c.from-seconds.result (search rules) in
    let start : to_z w64 (of_z w64 c.args.stretch.from) ≡ c.args.stretch.from = to_z-of_z w64 c.args.stretch.from (search rules) in
    let end : to_z w64 (of_z w64 c.min-to.result) ≡ c.min-to.result = to_z-of_z w64 c.min-to.result (search rules) in
    let at : to_z w64 (of_z w64 (to_z w64 (of_z w64 c.args.stretch.from) -ℤ to_z w64 (of_z w64 c.from-seconds.result)))
    ≡ c.args.stretch.from -ℤ c.from-seconds.result = omega (arith, ints) in
    let sum : to_z w64 (of_z w64 (to_z w64 (of_z w64 c.min-2.result) +ℤ to_z w64 (of_z w64 c.from-seconds.result)))
    ≡ c.min-2.result +ℤ c.from-seconds.result = let min = c.min-2.ensures in omega (arith, ints, min.value, int_min_is) in
    let from : c.args.span.now.from ≤ℤ (c.args.stretch.from -ℤ c.from-seconds.result) = omega (arith, ints) in
    let to : c.min-to.result ≤ℤ (c.min-2.result +ℤ c.from-seconds.result) = let min = c.min-to.ensures.other_bound in omega (arith, ints) in
    let near : c.min-2.result ≤ℤ c.args.span.now.next = let min = c.min-2.ensures.self_bound in omega (arith, ints) in
    let here = cut_span steady seconds from to near local (rw start at low) (rw end at high) in
    let value : c.args.span.now.offset ≡ c.args.offset =
    sym (to_z-of_z w32 c.args.span.now.offset (search rules)) ∙ ap (to_z w32) c.if-span-offset.true ∙ to_z-of_z w32 c.args.offset c.ranges.offset in
    inl (wide ∙ seconds, sym here ∙ value)

pub returns-else-span-offset-clause-shown : goal.returns-else-span-offset-clause-shown
returns-else-span-offset-clause-shown c = λ clock steady local low high.
    let seconds : c.from-seconds.result ≡ c.args.offset = simp (to_z-of_z, c.ranges.offset) at c.from-seconds.ensures in
    let wide : to_z w64 (of_z w64 c.from-seconds.result) ≡ c.from-seconds.result = to_z-of_z w64 c.from-seconds.result (search rules) in
    let start : to_z w64 (of_z w64 c.args.stretch.from) ≡ c.args.stretch.from = to_z-of_z w64 c.args.stretch.from (search rules) in
    let end : to_z w64 (of_z w64 c.min-to.result) ≡ c.min-to.result = to_z-of_z w64 c.min-to.result (search rules) in
    let at : to_z w64 (of_z w64 (to_z w64 (of_z w64 c.args.stretch.from) -ℤ to_z w64 (of_z w64 c.from-seconds.result)))
    ≡ c.args.stretch.from -ℤ c.from-seconds.result = omega (arith, ints) in
    let sum : to_z w64 (of_z w64 (to_z w64 (of_z w64 c.min-2.result) +ℤ to_z w64 (of_z w64 c.from-seconds.result)))
    ≡ c.min-2.result +ℤ c.from-seconds.result = let min = c.min-2.ensures in omega (arith, ints, min.value, int_min_is) in
    let from : c.args.span.now.from ≤ℤ (c.args.stretch.from -ℤ c.from-seconds.result) = omega (arith, ints) in
    let to : c.min-to.result ≤ℤ (c.min-2.result +ℤ c.from-seconds.result) = let min = c.min-to.ensures.other_bound in omega (arith, ints) in
    let near : c.min-2.result ≤ℤ c.args.span.now.next = let min = c.min-2.ensures.self_bound in omega (arith, ints) in
    let here = cut_span steady seconds from to near local (rw start at low) (rw end at high) in
    inr (to_z-of_z w64 c.args.stretch.offset (search rules), λ shows. omega (arith, ints, here, shows, c.if-span-offset.false))
