use Rattle.std.proofs.Common.{◌-ℤ◌, pos, arith}
use Rattle.std.proofs.lemmas.Int.{int_min_is, ints}
use Rattle.ics_fields.specs.Locals.{year_number}
use Rattle.ics_starts.specs.Clocks.{clock_of}
use Rattle.ics_starts.specs.FileZones.{clocks_in}
use Rattle.ics_starts.proofs.RuleStepLemmas.{next-years}
use Rattle.ics_starts.proofs.SettledLemmas.{moment-read, no-date}
use Rattle.ics_starts.proofs.rule_starts.RuleStarts.end_between.Goals as goal

pub returns-in-Date : goal.returns-in-Date
returns-in-Date c = λ n l u. absurd (omega (arith, ints, l, u, c.args.self.now.reached.next_read, next-years c.args.self.now))

pub shown_before-early-requires-clause-short : goal.shown_before-early-requires-clause-short
shown_before-early-requires-clause-short c = c.args.self.now.stretched.short

pub shown_from-requires-clause-next : goal.shown_from-requires-clause-next
shown_from-requires-clause-next c = let years = next-years c.args.self.now in (omega (arith, ints, years), omega (arith, ints, years))

pub shown_from-requires-clause-short : goal.shown_from-requires-clause-short
shown_from-requires-clause-short c = c.args.self.now.stretched.short

pub returns-in_default : goal.returns-in_default
returns-in_default c = λ n l u.
    let s = c.args.self.now in
    let clock = clock_of (clocks_in s.zones) s.event.now.start in
    let local = pos n -ℤ pos (year_number 1_970) in
    let at = moment-read (clocks_in s.zones) s.event.now (no-date c.event.view_is c.in_default.not-Date) n in
    let min = c.min in
    let last = min.ensures.value in
    let early = c.shown_before-early.ensures.early clock s.stretched local (omega (arith, ints, s.reached.next_read, l, next-years s))
    (omega (arith, ints, u, last, int_min_is, min.type_inv, c.shown_before-early.type_inv)) in
    let late = c.shown_from.ensures clock s.stretched local (omega (arith, ints, s.reached.next_read, l, next-years s))
    (omega (arith, ints, u, last, int_min_is, min.type_inv, c.shown_from.type_inv)) in
    let back = c.requires in
    record { from = omega (arith, ints, at, late); before = omega (arith, ints, at, early, back) }
