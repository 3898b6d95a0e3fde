-- What COUNT bounds: it ends a rule (RFC 5545, 3.3.10).
use Rattle.std.specs.Prelude.{None}
use Rattle.ics_period.specs.Recurrence.{Recurrence}

-- the rule without COUNT
abbrev pub without_count : Recurrence → Recurrence
without_count r = record r { parts = record r.parts { count = None } }
