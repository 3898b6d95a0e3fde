use Rattle.std.proofs.Common.{◌-ℤ◌, pos, arith}
use Rattle.std.proofs.lemmas.Int.{int_max_is, ints}
use Rattle.ics_fields.specs.Locals.{year_number}
use Rattle.ics_starts.specs.Clocks.{clock_of}
use Rattle.ics_starts.specs.FileZones.{clocks_in}
use Rattle.ics_starts.proofs.RuleStepLemmas.{next-years}
use Rattle.ics_starts.proofs.SettledLemmas.{moment-read, no-date}
use Rattle.ics_starts.proofs.rule_starts.RuleStarts.past_end.Goals as goal

pub returns-in-Date : goal.returns-in-Date
returns-in-Date c = λ n l u. absurd (omega (arith, ints, l, u, c.args.self.now.reached.next_read, next-years c.args.self.now))

pub shown_from-requires-clause-next : goal.shown_from-requires-clause-next
shown_from-requires-clause-next c = let years = next-years c.args.self.now in (omega (arith, ints, years), omega (arith, ints, years))

pub shown_from-requires-clause-short : goal.shown_from-requires-clause-short
shown_from-requires-clause-short c = c.args.self.now.stretched.short

pub returns-in_default : goal.returns-in_default
returns-in_default c = λ n l u.
    let s = c.args.self.now in
    let w = s.window in
    let at = moment-read (clocks_in s.zones) s.event.now (no-date c.event.view_is c.in_default.not-Date) n in
    let late = c.shown_from.ensures (clock_of (clocks_in s.zones) s.event.now.start) s.stretched (pos n -ℤ pos (year_number 1_970))
    (omega (arith, ints, s.reached.next_read, l, next-years s)) (omega (arith, ints, u)) in
    let max = c.max.ensures.value in
    record {
      first = omega (arith, ints, at, late, max, int_max_is, c.max.type_inv, w.ordered, w.not_early, w.not_late);
      second = omega (arith, ints, at, late, max, int_max_is, c.max.type_inv);
    }
