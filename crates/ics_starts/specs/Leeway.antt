-- How far about an instant the locals of a rule are read.
use Rattle.std.specs.Prelude.{ℤ, pos, ◌+ℤ◌, ◌-ℤ◌, List, [], ◌∷◌}
use Rattle.ics_event.specs.Event.{Length, Rdate}
use Rattle.ics_event.specs.declared.event.Event.{Event}
use Rattle.ics_fields.specs.Locals.{whole_days}
use Rattle.ics_values.specs.declared.stamp.Stamp.{Stamp}
use Rattle.ics_values.specs.declared.stamp.Stamp.TheVariants.{Date, Floating, Utc, Zoned}
use Rattle.ics_values.specs.declared.time.Length.TheVariants.{Open, Lasting, Until}
use Rattle.ics_zone.specs.declared.bounds.Bounds.{Bounds}

-- How many seconds a local of this kind can be away from its instant. In UTC it is its instant, and no zone moves a local by more than 93,599
-- seconds.
abbrev pub seconds_off : Stamp → ℤ
seconds_off (Date day) = pos 93_600
seconds_off (Floating local) = pos 93_600
seconds_off (Utc local) = pos 0
seconds_off (Zoned local) = pos 93_600

abbrev pub late_by_length : ℤ → Length → ℤ
late_by_length apart Open = pos 0
late_by_length apart (Until end) = pos 0
late_by_length apart (Lasting duration) = apart

-- How many seconds later an occurrence can end than the seconds of the event's length say, where the offsets of DTSTART's clock differ by so many at most.
-- In UTC it ends no later, nor by DTEND, unless an RDATE gives its start: that may have any clock.
abbrev pub late_by : ℤ → List Rdate → Stamp → Length → ℤ
late_by apart [] (Date day) length = apart
late_by apart [] (Floating local) length = late_by_length apart length
late_by apart [] (Utc local) length = pos 0
late_by apart [] (Zoned local) length = late_by_length apart length
late_by apart (rdate ∷ rdates) stamp length = whole_days 4

-- how many seconds later an occurrence of the event can end than the seconds of its length say, whatever the clock of DTSTART
abbrev pub seconds_late : Event → ℤ
seconds_late event = late_by (whole_days 4) event.rdates event.start.stamp event.length

-- how many, where that clock stays between two offsets
abbrev pub late_within : Bounds → Event → ℤ
late_within b event = late_by (b.most -ℤ b.least) event.rdates event.start.stamp event.length

-- and how many an occurrence by the rule can
abbrev pub rule_late : Bounds → Event → ℤ
rule_late b event = late_by (b.most -ℤ b.least) [] event.start.stamp event.length

-- A start that can count from an instant on has its local there or later, or no more than so many seconds earlier.
abbrev pub seconds_back : Event → ℤ
seconds_back event = seconds_off event.start.stamp +ℤ seconds_late event
