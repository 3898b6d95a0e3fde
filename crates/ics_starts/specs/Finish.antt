-- The end of an occurrence (RFC 5545, sections 3.6.1 and 3.8.2).
use Rattle.std.specs.Prelude.{◌≡◌, ◌<ℤ◌, ◌≤ℤ◌, ℤ, pos, ◌+◌, ◌*◌, ◌+ℤ◌, ◌-ℤ◌, ◌*ℤ◌}
use Rattle.std.specs.Int.{int_max}
use Rattle.ics_values.specs.declared.duration.Duration.{Duration}
use Rattle.ics_values.specs.declared.stamp.Stamp.{Stamp}
use Rattle.ics_values.specs.declared.stamp.Stamp.TheVariants.{Date}
use Rattle.ics_event.specs.Event.{Rdate}
use Rattle.ics_values.specs.declared.time.Rdate.TheVariants.{At, Span}
use Rattle.ics_event.specs.Event.{Time}
use Rattle.ics_event.specs.Event.{Length}
use Rattle.ics_values.specs.declared.time.Length.TheVariants.{Open, Until, Lasting}
use Rattle.ics_event.specs.declared.event.Event.{Event}
use Rattle.ics_listing.specs.FileClocks.{Clock, Clocks, day_of}
use Rattle.ics_starts.specs.Clocks.{clock_of, instant, local_at}
use Rattle.ics_fields.specs.Locals.{midnight, whole_days}
use Rattle.ics_fields.specs.declared.local.Local.{Local}
use Rattle.ics_listing.specs.StartTimes.{time_at, time_of}

-- How many days an event that starts on a date lasts: up to its DTEND, or the whole days of its DURATION, and at least one.
abbrev pub days_lasting : ℤ → Length → ℤ
days_lasting first Open = pos 1
days_lasting first (Until end) = int_max (pos 1) (day_of end.stamp -ℤ first)
days_lasting first (Lasting duration) = int_max (pos 1) (pos duration.days)

-- The instant that is a duration later: its days are counted by the clock, and then its hours, minutes and seconds are added.
abbrev pub later_by : Clock → Duration → ℤ → ℤ
later_by clock duration t = clock.moment (local_at clock t +ℤ whole_days duration.days) +ℤ pos duration.seconds

-- The end, by the length of an event with the DTSTART `first`, of an occurrence that starts at the time `given`. From a date it is
-- a midnight of the display zone. From a date-time, a DTEND is as many seconds later as it is after DTSTART.
abbrev pub end_by : Clocks → Time → Time → Stamp → Length → ℤ
end_by clocks first given (Date day) length = clocks.display.moment (midnight (day_of given.stamp +ℤ days_lasting day length))
end_by clocks first given stamp Open = instant clocks given
end_by clocks first given stamp (Until end) = instant clocks given +ℤ (instant clocks end -ℤ instant clocks first)
end_by clocks first given stamp (Lasting duration) = later_by (clock_of clocks given) duration (instant clocks given)

-- The end of a PERIOD that begins at a time: its own end, or its duration later.
abbrev pub span_end : Clocks → Time → Length → ℤ
span_end clocks start Open = instant clocks start
span_end clocks start (Until end) = instant clocks end
span_end clocks start (Lasting duration) = later_by (clock_of clocks start) duration (instant clocks start)

-- The end of an occurrence by what gives its start: for a PERIOD by its own length, and else by the event's.
abbrev pub end_of : Clocks → Event → Rdate → ℤ
end_of clocks event (At given) = end_by clocks event.start given event.start.stamp event.length
end_of clocks event (Span start length) = span_end clocks start length

-- The finish of the event's occurrence whose start this gives. It is never before the start.
abbrev pub finish : Clocks → Event → Rdate → ℤ
finish clocks event given = int_max (instant clocks (time_of given)) (end_of clocks event given)

-- How many seconds an event lasts, if each day has 86,400.
abbrev pub seconds_by : Clocks → Time → Stamp → Length → ℤ
seconds_by clocks first (Date day) length = days_lasting day length *ℤ pos 86_400
seconds_by clocks first stamp Open = pos 0
seconds_by clocks first stamp (Until end) = int_max (pos 0) (instant clocks end -ℤ instant clocks first)
seconds_by clocks first stamp (Lasting duration) = pos (duration.days * 86_400 + duration.seconds)

abbrev pub seconds_lasting : Clocks → Event → ℤ
seconds_lasting clocks event = seconds_by clocks event.start event.start.stamp event.length

-- each occurrence by the rule of the event ends a duration later by the clock of DTSTART
abbrev pub AreLasting : Clocks → Event → Duration → Type 0
AreLasting clocks event duration = (local : Local) → let given = time_at event.start local in
    end_of clocks event (At given) ≡ later_by (clock_of clocks event.start) duration (instant clocks given)

-- what begins at t and ends a duration later by a clock has done so by an instant, but began before it
pub record IsOver (clock : Clock) (duration : Duration) (by t : ℤ) : Type 0 where
  pub begun : t <ℤ by
  pub ended : later_by clock duration t ≤ℤ by

-- so has all that begins from one instant on and before another
abbrev pub AreOver : Clock → Duration → ℤ → ℤ → ℤ → Type 0
AreOver clock duration by from to = (t : ℤ) → from ≤ℤ t → t <ℤ to → IsOver clock duration by t
