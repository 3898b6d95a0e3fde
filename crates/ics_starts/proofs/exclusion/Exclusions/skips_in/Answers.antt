use Rattle.std.proofs.Common.{◌≡◌, ◌≤ℤ◌, ◌<ℤ◌, ◌+ℤ◌, ◌-ℤ◌, ◌∙◌, ap, arith}
use Rattle.std.proofs.lemmas.Int.{int_min_is, ints}
use Rattle.ics_fields.specs.Locals.{day_of_local}
use Rattle.ics_starts.specs.Clocks.{local_at}
use Rattle.ics_starts.specs.Exclusions.{is_among}
use Rattle.ics_starts.proofs.ExclusionLemmas.{apart-back}
use Rattle.ics_starts.proofs.exclusion.Exclusions.skips_in.Goals as goal

pub overflow_add-next : goal.overflow_add-next
overflow_add-next c = omega (arith, ints, apart-back c.requires.offset c.requires.shown, c.requires.offset, c.requires.shown, c.requires.next)

pub run_end-requires : goal.run_end-requires
run_end-requires c =
    let moved = apart-back c.requires.offset c.requires.shown in (
      omega (arith, ints, moved, c.requires.offset, c.requires.shown, c.requires.next),
      omega (arith, ints, moved, c.requires.offset, c.requires.shown, c.requires.next),
    )

pub overflow_sub-run_end : goal.overflow_sub-run_end
overflow_sub-run_end c =
    omega (arith, ints, apart-back c.requires.offset c.requires.shown, c.requires.offset, c.requires.shown, c.run_end.ensures.near)

pub returns-then-next-stretch : goal.returns-then-next-stretch
returns-then-next-stretch c = λ clock s local on before. absurd (omega (arith, ints, on, before))

pub returns : goal.returns
returns c = λ clock s local on before.
    let moved = apart-back c.requires.offset c.requires.shown in
    let off = c.requires.offset in
    let by = c.requires.shown in
    let min = c.min.ensures.value in
    let near = c.run_end.ensures.near in
    let from : c.args.stretch.from ≤ℤ local = omega (arith, ints, on, c.if-next-stretch.false) in
    let to : local <ℤ c.args.stretch.to = omega (arith, ints, before, int_min_is, min) in
    let at : local_at clock (clock.moment local) ≡ local +ℤ (c.args.stretch.shown -ℤ c.args.stretch.offset) =
    ap (local_at clock) (s.moments local from to) ∙ omega (arith, ints, s.offsets local from to) in
    ap (λ x. is_among c.args.self.now.days.items (day_of_local x)) at
    ∙ c.run_end.ensures.removed (local +ℤ (c.args.stretch.shown -ℤ c.args.stretch.offset))
    (omega (arith, ints, on, moved, off, by, c.requires.next)) (omega (arith, ints, before, int_min_is, min, moved, off, by, near))
