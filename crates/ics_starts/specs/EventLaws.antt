-- What is promised of an event of a file has at most one proof.
use Rattle.std.proofs.Props.{props}
use Rattle.std.specs.Coded.{×_prop, Unit-prop}
use Rattle.std.specs.Prelude.{ℕ, List}
use Rattle.ics_values.specs.declared.stamp.Stamp.{Stamp}
use Rattle.ics_values.specs.declared.stamp.Stamp.TheVariants.{Date, Floating, Utc, Zoned}
use Rattle.ics_event.specs.Event.{EndsBelow, IsEnd, IsLength, IsRdate, IsSpan, RdateBelow}
use Rattle.ics_event.specs.declared.event.Event.{Event}
use Rattle.ics_event.specs.Event.{Length}
use Rattle.ics_values.specs.declared.time.Length.TheVariants.{Open, Until, Lasting}
use Rattle.ics_event.specs.Event.{Rdate}
use Rattle.ics_values.specs.declared.time.Rdate.TheVariants.{At, Span}
use Rattle.ics_event.specs.Event.{Time}
use Rattle.ics_zone.specs.declared.zone.ZoneKind.{ZoneKind}
use Rattle.ics_listing.specs.FileClocks.{Clocks}
use Rattle.ics_starts.specs.FileZones.{EndsNear, IsEndOf, IsOwnEvent, IsTimeOf}
use Rattle.ics_starts.specs.declared.zones.FileZones.{FileZones}

pub time-prop : (zones : List ZoneKind) (time : Time) → IsProp (IsTimeOf zones time)
time-prop zones time = hlevel props

end-of-prop : (zones : List ZoneKind) (length : Length) → IsProp (IsEndOf zones length)
end-of-prop zones Open = Unit-prop
end-of-prop zones (Until end) = time-prop zones end
end-of-prop zones (Lasting duration) = Unit-prop

near-prop : (clocks : Clocks) (first : Time) (length : Length) → IsProp (EndsNear clocks first length)
near-prop clocks first Open = Unit-prop
near-prop clocks first (Until end) = hlevel props
near-prop clocks first (Lasting duration) = Unit-prop

⊥-prop : IsProp ⊥
⊥-prop x y = absurd x

end-prop : (a b : Stamp) → IsProp (IsEnd a b)
end-prop (Date a) (Date b) = hlevel props
end-prop (Floating a) (Floating b) = hlevel props
end-prop (Utc a) (Utc b) = hlevel props
end-prop (Utc a) (Zoned b) = Unit-prop
end-prop (Zoned a) (Utc b) = Unit-prop
end-prop (Zoned a) (Zoned b) = Unit-prop
end-prop _ _ = ⊥-prop

length-prop : (first : Stamp) (length : Length) → IsProp (IsLength first length)
length-prop first Open = Unit-prop
length-prop first (Until end) = ×_prop (hlevel props) (end-prop first end.stamp)
length-prop first (Lasting duration) = hlevel props

span-prop : (length : Length) → IsProp (IsSpan length)
span-prop Open = ⊥-prop
span-prop (Until end) = hlevel props
span-prop (Lasting duration) = hlevel props

pub rdate-prop : (rdate : Rdate) → IsProp (IsRdate rdate)
rdate-prop (At time) = hlevel props
rdate-prop (Span start length) = ×_prop (hlevel props) (span-prop length)

ends-below-prop : (zones : ℕ) (length : Length) → IsProp (EndsBelow zones length)
ends-below-prop zones Open = Unit-prop
ends-below-prop zones (Until end) = hlevel props
ends-below-prop zones (Lasting duration) = Unit-prop

pub rdate-below-prop : (zones : ℕ) (rdate : Rdate) → IsProp (RdateBelow zones rdate)
rdate-below-prop zones (At time) = hlevel props
rdate-below-prop zones (Span start length) = ×_prop (hlevel props) (ends-below-prop zones length)

pub own-event-prop : (zones : FileZones) (event : Event) → IsProp (IsOwnEvent zones event)
own-event-prop zones event = hlevel (props, end-of-prop, near-prop, length-prop, rdate-prop, ends-below-prop, rdate-below-prop)
