use Rattle.std.proofs.Common.{◌≡◌, ℕ, ◌+◌, ◌-◌, false, arith}
use Rattle.std.proofs.lemmas.Bool.Decides.{nat_tests}
use Rattle.std.proofs.Math.Nat.{mod-lt}
use Rattle.ics_fields.specs.Sets.{contains, contains_wide}
use Rattle.ics_period.specs.Inner.NamedWeekdays.{names_weekday}
use Rattle.ics_period.specs.Runs.{has_run, weekday_in, lists_weekday}
use Rattle.ics_period.proofs.RunLemmas.{named_small, unnamed, weekdays_more, weekdays_done}
use Rattle.ics_period.proofs.runs.Run.add_weekdays.Goals as goal
use Rattle.ics_period.proofs.runs.Run.add_weekdays.Goals.{After-named-named}

pub loop-weekday-init : goal.loop-weekday-init
loop-weekday-init c = grind (arith, nat_tests)

pub add_weekday-requires-clause-weekday : goal.add_weekday-requires-clause-weekday
add_weekday-requires-clause-weekday c = named_small c.in-Some.weekday (names_weekday c.args.weekdays.now c.in-Some.weekday)
    (contains c.named-named.result c.in-Some.weekday) c.in-Some.ensures.next.passes (c.named-named.ensures c.in-Some.weekday)

none : (c : After-named-named) (m : ℕ) → contains c.named-named.result (weekday_in c.args.self (m - c.args.self.start)) ≡ false
    → lists_weekday c.args.weekdays.now (weekday_in c.args.self (m - c.args.self.start)) (m - c.args.self.start + 1) c.args.self.len ≡ false
none c m = unnamed c.args.weekdays.now (contains c.named-named.result) c.named-named.ensures (weekday_in c.args.self (m - c.args.self.start))
    (m - c.args.self.start + 1) c.args.self.len (mod-lt (c.args.self.weekday + (m - c.args.self.start)) (omega arith))

pub loop-weekday-preserved : goal.loop-weekday-preserved
loop-weekday-preserved c = λ m. weekdays_more (λ d. lists_weekday c.args.weekdays.now d (m - c.args.self.start + 1) c.args.self.len)
    (contains c.named-named.result) (weekday_in c.args.self (m - c.args.self.start)) (none (goal.at.loop-weekday-preserved c).After-named-named m)
    (contains_wide c.args.days.now m) (has_run c.args.self m) c.in-Some.ensures.next (rw c.weekdays.view_is at (c.add_weekday.ensures m))
    (c.loop-weekday.invariant m)

pub returns : goal.returns
returns c = λ m. weekdays_done (λ d. lists_weekday c.args.weekdays.now d (m - c.args.self.start + 1) c.args.self.len)
    (contains c.named-named.result) (weekday_in c.args.self (m - c.args.self.start)) (none (goal.at.returns c).After-named-named m)
    (contains_wide c.args.days.now m) (has_run c.args.self m) c.in_default.ensures.next (c.loop-weekday.invariant m)
