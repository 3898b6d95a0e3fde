use Rattle.std.proofs.Common.{rules, ◌≡◌, ◌⊎◌, inl, inr, Bool, false, ℤ, arith, pos, ◌+ℤ◌, ◌<ℤ◌, ◌≤ℤ◌, SFits, w64}
use Rattle.std.proofs.lemmas.Int.{ints, to_z-of_z}
use Rattle.ics_zone.proofs.Cases.{less_or_not_z}
use Rattle.ics_zone.proofs.latest.has_not_less.Goals.{then-is_at_once, else-is_at_once}
use Rattle.ics_zone.proofs.latest.has_not_less.Goals as goal

at_or_before : (t at : ℤ) (b : Bool) → t ≤ℤ at → b ≡ false → (t <ℤ at) ⊎ ((t ≡ at) × (b ≡ false))
at_or_before t at b l e = grind (arith, ints, less_or_not_z)

pub returns-then-after-limit : goal.returns-then-after-limit
returns-then-after-limit c = λ e t h early.
    let limit : SFits w64 (c.args.moment +ℤ pos 1) = search rules in
    let small : SFits w64 c.next.result = search rules in
    let not_less = simp (to_z-of_z, limit, small, c.ranges.moment) at e in
    let out : t ≤ℤ c.if-is_at_once.after = elim (less_or_not_z c.if-is_at_once.after t) [
      | inl past ↦ absurd (let low = c.next.ensures.next t h (omega (arith, ints)) in omega (arith, ints, not_less))
      | inr more ↦ more
    ] in
    elim c.if-is_at_once.branch [
      | then-is_at_once w ↦ inl (omega (arith, ints))
      | else-is_at_once w ↦ at_or_before t c.args.at c.args.is_at_once (omega (arith, ints)) w.if-is_at_once.false
    ]

pub returns-else-after-limit : goal.returns-else-after-limit
returns-else-after-limit c = λ e t h early.
    let limit : SFits w64 (c.args.moment +ℤ pos 1) = search rules in
    let not_less = simp (to_z-of_z, limit, c.ranges.moment) at c.if-after-limit.false in
    elim c.if-is_at_once.branch [
      | then-is_at_once w ↦ inl (omega (arith, ints, not_less))
      | else-is_at_once w ↦ at_or_before t c.args.at c.args.is_at_once (omega (arith, ints, not_less)) w.if-is_at_once.false
    ]
