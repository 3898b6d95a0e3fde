-- What UNTIL bounds, in the words of RFC 5545, 3.3.10: it bounds the recurrence rule in an inclusive manner and, if it is synchronized with the
-- rule, becomes the last instance.
use Rattle.std.specs.Prelude.{ℕ, ◌+◌, ◌*◌, Bool, true, nat_le, Option, Some, None, ℤ}
use Rattle.ics_fields.specs.declared.until.Until.{Until}
use Rattle.ics_fields.specs.declared.until.Until.TheVariants as until
use Rattle.ics_fields.specs.Days.{day_index}
use Rattle.ics_fields.specs.Locals.{number}
use Rattle.ics_period.specs.declared.kind.Kind.{Kind}
use Rattle.ics_period.specs.declared.kind.Kind.TheVariants.{Date, DateTime}
use Rattle.ics_period.specs.Recurrence.{Recurrence}

abbrev pub last_of_day : ℤ → ℕ
last_of_day day = day_index day * 86_400 + 86_399

-- The last local that UNTIL allows. A DATE allows its whole day, and so does each UNTIL of an event of dates. A DATE-TIME with local time is the last
-- itself. One in UTC bounds the instants of an event of date-times (`until_moment`), and leaves out no local.
abbrev pub last_local : Kind → Option Until → Option ℕ
last_local kind None = None
last_local kind (Some (until.Date day)) = Some (last_of_day day)
last_local Date (Some (until.Local l)) = Some (last_of_day l.day)
last_local Date (Some (until.Utc l)) = Some (last_of_day l.day)
last_local DateTime (Some (until.Local l)) = Some (number l)
last_local DateTime (Some (until.Utc l)) = None

-- no instance is later than the last
abbrev pub is_up_to : Option ℕ → ℕ → Bool
is_up_to None n = true
is_up_to (Some last) n = nat_le n last

abbrev pub is_bounded : Recurrence → ℕ → Bool
is_bounded r n = is_up_to (last_local r.kind r.parts.until) n

-- the rule without UNTIL
abbrev pub without_until : Recurrence → Recurrence
without_until r = record r { parts = record r.parts { until = None } }
