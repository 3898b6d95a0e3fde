-- Rules and locals to try the definitions on.
use Rattle.std.proofs.Common.{ℕ, ◌+◌, ◌-◌, ◌*◌, ◌%◌, pos, ◌-ℤ◌, set, arith}
use Rattle.jiff_core.specs.Calendar.{days_of_months}
use Rattle.ics_fields.specs.declared.local.Local.{Local}
use Rattle.ics_fields.specs.declared.ordinals.Weekdays.{Weekdays}
use Rattle.ics_fields.specs.RuleParts.{RuleParts}
use Rattle.ics_fields.specs.Ordinals.{no_ordinals, no_weekdays}
use Rattle.ics_fields.specs.Sets.{only}
use Rattle.ics_fields.specs.Days.{days_before_year}
use Rattle.ics_period.specs.declared.kind.Kind.{Kind}
use Rattle.ics_period.specs.Recurrence.{Recurrence}

-- weekdays without numbers, as a set
abbrev pub on_weekdays : ℕ → Weekdays
on_weekdays s = record no_weekdays { plain = s }

abbrev pub mo : ℕ
mo = 0

abbrev pub tu : ℕ
tu = 1

abbrev pub fr : ℕ
fr = 4

-- the n-th such weekday from the front
abbrev pub nth_weekday : ℕ → ℕ → Weekdays
nth_weekday n w = record no_weekdays { numbered = set no_weekdays.numbered w (record no_ordinals { front = only n }) }

-- a date, and with a time of day a local
abbrev pub date : ℕ → ℕ → ℕ → ℕ
date y m d = days_before_year y + days_of_months (pos y) (m - 1) + d - 1

abbrev pub local : ℕ → ℕ → ℕ → ℕ → ℕ → Local
local y m d h i = record { day = pos (date y m d) -ℤ pos 719_528; second = (h * 3_600 + i * 60) % 86_400; second_in = omega arith }

abbrev pub rule : RuleParts → Local → Kind → Recurrence
rule p l k = record { parts = p; start = l; kind = k }
