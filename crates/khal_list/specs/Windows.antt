-- The window of a listing: its first instant and the one after its last, by the words, what a display zone says and a
-- clock. Locals and instants are counted in seconds from 1970-01-01T00:00:00.
use Rattle.std.specs.Prelude.{ℤ, pos, ◌+ℤ◌, ◌&&◌, int_le, int_lt, Option, Some, None, option_and_then, if◌then◌else◌}
use Rattle.clap.specs.Words.{Text}
use Rattle.ics_fields.specs.Locals.{midnight, whole_days, year_seconds, day_of_local}
use Rattle.ics_zone.specs.ZoneSaid.{ZoneSaid, said_moment, said_offset}
use Rattle.khal_words.specs.Entries.{Span}
use Rattle.khal_words.specs.WindowTexts.{Named, named}

-- 0001-01-02T00:00, before which no window starts
abbrev pub first_start : ℤ
first_start = year_seconds 1 +ℤ whole_days 1

-- 9800-01-01T00:00, after which no window ends
abbrev pub last_end : ℤ
last_end = year_seconds 9_800

-- the midnight that begins the day of a local
abbrev pub midnight_before : ℤ → ℤ
midnight_before local = midnight (day_of_local local)

-- today's midnight in the zone, by a clock that is within those bounds
abbrev pub today : ZoneSaid → ℤ → Option ℤ
today zone now =
    if int_le first_start now && int_le now last_end
    then Some (midnight_before (now +ℤ said_offset zone now))
    else None

-- the local at which a window starts: a day's midnight, or the local that is named
abbrev pub start_named : Named → Option ℤ
start_named (Named.Day day) = Some (midnight day)
start_named (Named.Local local) = Some local
start_named (Named.Days n) = None

-- the local at which a window ends: the midnight after a day, the local that is named, or a number of days
-- after the start
abbrev pub end_named : ℤ → Named → ℤ
end_named start (Named.Day day) = midnight (day +ℤ pos 1)
end_named start (Named.Local local) = local
end_named start (Named.Days n) = start +ℤ whole_days n

-- the local of a moment, which is not a day
abbrev pub moment_named : Named → Option ℤ
moment_named (Named.Day day) = None
moment_named (Named.Local local) = Some local
moment_named (Named.Days n) = None

-- START's local, or today's midnight if it is left out
abbrev pub start_said : ZoneSaid → ℤ → Option Text → Option ℤ
start_said zone now None = today zone now
start_said zone now (Some text) = option_and_then start_named (named text)

-- the instants of two locals, if the start is not too early, the end not too late, and the instants rise
abbrev pub between : ZoneSaid → ℤ → ℤ → Option (ℤ × ℤ)
between zone start end =
    if (int_le first_start start && int_le end last_end)
    && int_lt (said_moment zone start) (said_moment zone end)
    then Some (said_moment zone start, said_moment zone end)
    else None

-- the one second of a local that is within those bounds
abbrev pub second_at : ZoneSaid → ℤ → Option (ℤ × ℤ)
second_at zone local =
    if int_le first_start local && int_le local last_end
    then Some (said_moment zone local, said_moment zone local +ℤ pos 1)
    else None

-- the ends of the window from a start to what END's text names
abbrev pub ends_from : ZoneSaid → Text → ℤ → Option (ℤ × ℤ)
ends_from zone end start = option_and_then (λ name. between zone start (end_named start name)) (named end)

-- the ends of the window that the words ask for, or none
abbrev pub ends_of : ZoneSaid → ℤ → Span → Option (ℤ × ℤ)
ends_of zone now (Span.At text) = option_and_then (second_at zone) (option_and_then moment_named (named text))
ends_of zone now (Span.FromTo start end) = option_and_then (ends_from zone end) (start_said zone now start)
