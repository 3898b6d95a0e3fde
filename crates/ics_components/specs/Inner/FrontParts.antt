-- How the events before the first fault of a file are taken one by one.
use Rattle.std.specs.Prelude.{◌≡◌, ℕ, Bool, true, false, nat_le, List, [], ◌∷◌, drop, take, Option, Some, None, if◌then◌else◌}
use Rattle.ics_components.specs.declared.parsed_file.CalendarEvent.{CalendarEvent}
use Rattle.ics_components.specs.declared.parsed_file.LineCheck.{LineCheck}
use Rattle.ics_components.specs.FrontSeen.{FrontSeen}
use Rattle.ics_components.specs.ParsedFileSeen.{ParsedFileSeen}

abbrev pub is_some_event : List CalendarEvent → Bool
is_some_event [] = false
is_some_event (event ∷ events) = true

abbrev pub has_events : FrontSeen → Bool
has_events front = is_some_event front.events

-- the line of the next check is not behind that one
abbrev pub is_due : ℕ → List LineCheck → Bool
is_due number [] = false
is_due number (check ∷ checks) = nat_le check.line number

-- the checks up to that line, and those behind it
abbrev pub checks_until : ℕ → List LineCheck → List LineCheck
checks_until number [] = []
checks_until number (check ∷ checks) = if nat_le check.line number then check ∷ checks_until number checks else []

abbrev pub checks_behind : ℕ → List LineCheck → List LineCheck
checks_behind number [] = []
checks_behind number (check ∷ checks) = if nat_le check.line number then checks_behind number checks else check ∷ checks

-- THE NEXT CHECK is taken, if it is due.
abbrev pub TakesCheck : Option LineCheck → ℕ → FrontSeen → FrontSeen → Type 0
TakesCheck None number front behind =
    (behind ≡ front) × (checks_until number front.checks ≡ []) × (checks_behind number front.checks ≡ front.checks)
TakesCheck (Some check) number front behind =
    (front ≡ record behind { checks = check ∷ behind.checks }) × (is_due number front.checks ≡ true)

-- the next event, which ends on that line, as it is gathered, and what is to come behind it
abbrev pub front_read : ℕ → FrontSeen → ParsedFileSeen
front_read number front = record { zones = []; events = take 1 front.events; checks = checks_until number front.checks }

abbrev pub front_behind : ℕ → FrontSeen → FrontSeen
front_behind number front = record { events = drop 1 front.events; checks = checks_behind number front.checks }
