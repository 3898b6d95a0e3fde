use Rattle.std.proofs.Common.{◌-ℤ◌, pos, ⊎_elim, arith}
use Rattle.std.proofs.lemmas.Int.{int_max_is, ints}
use Rattle.ics_fields.specs.Locals.{year_number}
use Rattle.ics_zone.proofs.Cases.{less_or_not_z}
use Rattle.ics_starts.specs.Clocks.{clock_of}
use Rattle.ics_starts.specs.FileZones.{clocks_in}
use Rattle.ics_starts.proofs.RuleStepLemmas.{next-years, sum-back}
use Rattle.ics_starts.proofs.SettledLemmas.{early-local, moment-read, no-date}
use Rattle.ics_starts.proofs.rule_starts.RuleStarts.end_before.Goals as goal

pub overflow_add-bounded : goal.overflow_add-bounded
overflow_add-bounded c = omega (arith, ints, c.requires, c.args.self.now.rule_of.bounded.least_short)

pub returns-in-Date-clause-early : goal.returns-in-Date-clause-early
returns-in-Date-clause-early c = λ n l u.
    let s = c.args.self.now in
    let local = early-local s.zones s.event.now s.bounds s.rule_of.bounded n in
    omega (arith, ints, local, u, sum-back c.requires s.rule_of.bounded.least_short)

pub returns-in-Date-clause-near : goal.returns-in-Date-clause-near
returns-in-Date-clause-near c =
    let short = c.args.self.now.rule_of.bounded.least_short in
    omega (arith, ints, sum-back c.requires short, short)

pub shown_before-requires-clause-short : goal.shown_before-requires-clause-short
shown_before-requires-clause-short c = c.args.self.now.stretched.short

pub returns-in_default-clause-early : goal.returns-in_default-clause-early
returns-in_default-clause-early c = λ n l u.
    let s = c.args.self.now in
    let sum = sum-back c.requires s.rule_of.bounded.least_short in
    let local = early-local s.zones s.event.now s.bounds s.rule_of.bounded n in
    let at = moment-read (clocks_in s.zones) s.event.now (no-date c.event.view_is c.in_default.not-Date) n in
    let max = c.max.ensures.value in
    ⊎_elim
    (λ shown.
    let early = c.shown_before.ensures.early (clock_of (clocks_in s.zones) s.event.now.start) s.stretched (pos n -ℤ pos (year_number 1_970))
    (omega (arith, ints, s.reached.next_read, l, next-years s)) shown in
    omega (arith, ints, early, at))
    (λ past. omega (arith, ints, local, u, sum, max, int_max_is, past))
    (less_or_not_z (pos n -ℤ pos (year_number 1_970)) c.shown_before.result)

pub returns-in_default-clause-near : goal.returns-in_default-clause-near
returns-in_default-clause-near c =
    let short = c.args.self.now.rule_of.bounded.least_short in
    omega (arith, ints, sum-back c.requires short, short, c.shown_before.ensures.near, c.max.ensures.value, int_max_is)
