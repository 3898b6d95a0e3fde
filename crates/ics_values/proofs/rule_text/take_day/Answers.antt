use Rattle.std.proofs.Common.{ℕ, arith, rules, ◌≤◌}
use Rattle.ics_fields.specs.Ordinals.{numbers_of}
use Rattle.ics_fields.specs.RuleParts.{ArePlaces}
use Rattle.ics_fields.specs.Sets.{contains, IsWithin}
use Rattle.ics_fields.proofs.PlaceLemmas.{numbered_more, weekdays_more}
use Rattle.ics_values.proofs.rule_text.take_day.Goals as goal

pub invariant_of-parts : goal.invariant_of-parts
invariant_of-parts c =
    let weekdays : IsWithin 0 6 (contains c.insert.new.self.plain) =
    rw c.insert.ensures (weekdays_more c.in_ok-day.day.weekday c.parts.inside.weekdays c.parts.invariant.weekdays) in
    let numbered : (w : ℕ) → ArePlaces (numbers_of c.insert.new.self w) 53 = rw c.insert.ensures c.parts.invariant.numbered in
    assumption (weekdays, numbered, c.parts.invariant)

pub invariant_of-parts-in-Some : goal.invariant_of-parts-in-Some
invariant_of-parts-in-Some c =
    let first : 1 ≤ c.in-Some.n = search rules in
    let last : c.in-Some.n ≤ 53 = search rules in
    let weekdays : IsWithin 0 6 (contains c.add_numbered.new.self.plain) = rw c.add_numbered.ensures c.parts.invariant.weekdays in
    let numbered : (w : ℕ) → ArePlaces (numbers_of c.add_numbered.new.self w) 53 =
    rw c.add_numbered.ensures (numbered_more c.in_ok-day.day.weekday _ c.parts.inside.weekdays
    (record { first = omega (arith, first, last); last = omega (arith, last) }) c.parts.invariant.numbered) in
    assumption (weekdays, numbered, c.parts.invariant)
