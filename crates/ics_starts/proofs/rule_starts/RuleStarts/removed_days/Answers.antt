use Rattle.std.proofs.Common.{◌-ℤ◌, pos, rules, arith, w64, SFits}
use Rattle.std.proofs.lemmas.Int.{ints}
use Rattle.ics_fields.specs.Locals.{year_number}
use Rattle.ics_starts.specs.Clocks.{clock_of}
use Rattle.ics_starts.specs.FileZones.{clocks_in}
use Rattle.ics_starts.proofs.SettledLemmas.{no-date}
use Rattle.ics_starts.proofs.TakenLemmas.{day-taken}
use Rattle.ics_starts.proofs.rule_starts.RuleStarts.removed_days.Goals as goal

pub returns-in-Date : goal.returns-in-Date
returns-in-Date c = λ n l u. let from : SFits w64 c.args.from = c.ranges.from in absurd (omega (arith, ints, l, u))

pub returns-in_default : goal.returns-in_default
returns-in_default c = λ n l u.
    let s = c.args.self.now in
    let from : SFits w64 c.args.from = c.ranges.from in
    let fits : SFits w64 c.skips.result = search rules in
    day-taken s c.args.exclusions.now.instants.items c.args.exclusions.now.days.items (no-date c.event.view_is c.in_default.not-Date) n
    (c.skips.ensures (clock_of (clocks_in s.zones) s.event.now.start) s.rule_of.bounded s.stretched (pos n -ℤ pos (year_number 1_970))
    (omega (arith, ints, l)) (omega (arith, ints, u)))
