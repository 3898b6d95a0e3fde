use Rattle.std.proofs.lemmas.Grind.{common_steps}
use Rattle.std.proofs.Common.{rules, ◌≡◌, ◌∙◌, ap, pos, ◌*ℤ◌, arith, SFits, w32, w64}
use Rattle.std.proofs.lemmas.Int.{ints, to_z-of_z}
use Rattle.ics_fields.specs.Locals.{midnight}
use Rattle.ics_zone.specs.ZoneSaid.{display_said, said_moment}
use Rattle.ics_starts.proofs.instants.instant.Goals as goal

pub returns-in-Date : goal.returns-in-Date
returns-in-Date c =
    let small : SFits w64 c.moment.result = search rules in
    let day : SFits w32 c.in-Date.day = search rules in
    let value = simp to_z-of_z at c.moment.ensures.value in
    let same : midnight c.in-Date.day ≡ c.in-Date.day *ℤ pos 86_400 = omega (arith, ints) in
    rw (to_z-of_z w64 c.moment.result small, c.in-Date.is) (value ∙ ap (said_moment (display_said c.args.zones.display.now)) same)

pub returns-in-Floating : goal.returns-in-Floating
returns-in-Floating c = grind (arith, ints, common_steps)

pub returns-in-Zoned : goal.returns-in-Zoned
returns-in-Zoned c = grind (arith, ints, common_steps)
