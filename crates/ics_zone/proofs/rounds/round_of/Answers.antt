use Rattle.std.proofs.Common.{rules, ◌≡◌, ◌≤ℤ◌, ℕ, true, arith, subst, w64}
use Rattle.std.proofs.lemmas.Int.{ints, to_z-of_z}
use Rattle.ics_fields.specs.RuleParts.{RuleParts}
use Rattle.ics_period.specs.declared.kind.Kind.TheVariants.{DateTime}
use Rattle.ics_rule.specs.Kept.{is_by_until}
use Rattle.ics_zone.specs.Observances.{instant_by}
use Rattle.ics_zone.proofs.RepeatLemmas.{repeated}
use Rattle.ics_zone.proofs.rounds.round_of.Goals as goal

pub returns : goal.returns
returns c =
    let at = simp (to_z-of_z, c.ranges.offset) at c.instant.ensures in
    let lets = subst (λ (p : RuleParts). (n : ℕ) → instant_by c.args.offset n ≤ℤ c.last_of.result → is_by_until DateTime p.until n ≡ true) c.parts.view_is
    (simp (to_z-of_z, c.ranges.offset) at c.last_of.ensures.lets) in
    let low = c.max.ensures.self_bound in
    let after = c.max.ensures.other_bound in
    rw (to_z-of_z w64 c.max.result (search rules), to_z-of_z w64 c.last_of.result (search rules))
    (repeated c.args.offset c.args.start c.args.parts.now _ c.requires.offset c.in-Some.ensures (omega (arith, ints, low)) (omega (arith, ints, at, after))
    c.last_of.ensures.bound lets)
