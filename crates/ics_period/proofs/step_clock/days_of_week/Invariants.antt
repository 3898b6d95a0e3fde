use Rattle.std.proofs.Common.{◌≡◌, ℕ, ◌&&◌, nat_lt}
use Rattle.ics_fields.specs.Days.{weekday_of}
use Rattle.ics_fields.specs.Sets.{contains}
use Rattle.ics_period.specs.Inner.NamedWeekdays.{names_weekday}
use Rattle.ics_period.proofs.step_clock.days_of_week.Given as goal

abbrev pub invariant-loop-day : goal.invariant-loop-day
invariant-loop-day l = (d : ℕ) → contains l.days d ≡ (nat_lt d l.day && names_weekday l.parts.weekdays (weekday_of d))
