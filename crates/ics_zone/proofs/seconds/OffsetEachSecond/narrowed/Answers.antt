use Rattle.std.proofs.Common.{rules, arith, ◌≡◌, inl, inr, ◌∙◌, to_z, of_z, w32, w64}
use Rattle.std.proofs.lemmas.Int.{ints, to_z-of_z}
use Rattle.ics_zone.proofs.seconds.OffsetEachSecond.narrowed.Goals as goal

pub returns-then-branch-offset-clause-shown : goal.returns-then-branch-offset-clause-shown
returns-then-branch-offset-clause-shown c = λ clock told local low high.
    let seconds : c.from-seconds.result ≡ c.args.offset = simp (to_z-of_z, c.ranges.offset) at c.from-seconds.ensures in
    let wide : to_z w64 (of_z w64 c.from-seconds.result) ≡ c.from-seconds.result = to_z-of_z w64 c.from-seconds.result (search rules) in
    inl (
      wide ∙ seconds,
      simp (to_z-of_z w32 c.args.offset c.ranges.offset) at (c.shown_to-shown.ensures.same clock told local (omega (arith, ints, low))
          (omega (arith, ints, high))),
    )

pub returns-else-branch-offset-clause-shown : goal.returns-else-branch-offset-clause-shown
returns-else-branch-offset-clause-shown c = λ clock told local low high. inr (
  to_z-of_z w64 c.args.stretch.offset (search rules),
  simp (to_z-of_z w32 c.args.offset c.ranges.offset) at (c.shown_to-unshown.ensures.same clock told local (omega (arith, ints, low))
      (omega (arith, ints, high))),
)
