-- An event of a file, as contracts see it, and what holds of each (RFC 5545, section 3.6.1).
use Rattle.std.specs.Prelude.{◌≡◌, ◌≢◌, ℕ, ◌+◌, ◌*◌, ◌<◌, ◌≤◌, Bool, IsTrue, List, [], Option, is_some, length, IfSome, All, ℤ, pos, ◌≤ℤ◌, ◌+ℤ◌, ◌*ℤ◌}
use Rattle.ics_fields.specs.RuleParts.{RuleParts}
use Rattle.ics_values.specs.Stamps.{stamp_day}
use Rattle.ics_fields.specs.Days.{IsStampDay}
use Rattle.ics_values.specs.declared.duration.Duration.{Duration}
use Rattle.ics_values.specs.declared.stamp.Stamp.{Stamp}
use Rattle.ics_values.specs.declared.stamp.Stamp.TheVariants.{Date, Floating, Utc, Zoned}
pub use Rattle.ics_values.specs.Zoned.{is_zoned}
pub use Rattle.ics_values.specs.Longest.{longest}
pub use Rattle.ics_values.specs.Times.{time_in}
use Rattle.ics_values.specs.declared.text_name.Texts.{Texts}
use Rattle.ics_values.specs.declared.time.Time.{Time as TimeOf}
use Rattle.ics_values.specs.declared.time.Length.{Length as LengthOf}
use Rattle.ics_values.specs.declared.time.Length.TheVariants.{Open, Until, Lasting}
use Rattle.ics_values.specs.declared.time.Rdate.{Rdate as RdateOf}
use Rattle.ics_values.specs.declared.time.Rdate.TheVariants.{At, Span}
use Rattle.ics_fields.specs.Locals.{local_seconds}

-- Times, lengths and values of RDATEs with the indices of their zones.
abbrev pub Time : Type 0
Time = TimeOf ℕ

abbrev pub Length : Type 0
Length = LengthOf ℕ

abbrev pub Rdate : Type 0
Rdate = RdateOf ℕ

-- An event.
pub record EventSeen : Type 0 where
  pub uid : List ℕ
  pub sequence : ℕ
  pub start : Time
  pub length : Length
  pub rule : Option RuleParts
  pub rdates : List Rdate
  pub exdates : List Time
  pub recurrence : Option Time
  pub title : List ℕ
  pub location : List ℕ
  pub description : List ℕ
  pub cancelled : Bool
  pub url : List ℕ

-- Its texts, by the names of their properties, and an event that has these.
abbrev pub texts_in : EventSeen → Texts (List ℕ)
texts_in event = record { title = event.title; location = event.location; description = event.description; url = event.url }

abbrev pub with_texts : Texts (List ℕ) → EventSeen → EventSeen
with_texts texts event =
    record event { title = texts.title; location = texts.location; description = texts.description; url = texts.url }

-- A time whose stamp lies in the years 0001 to 9899, and that has a zone exactly where its stamp is a zoned one.
pub record IsTime (time : Time) : Type 0 where
  pub years : IsStampDay (stamp_day time.stamp)
  pub zone : is_some time.zone ≡ is_zoned time.stamp

-- the seconds of a stamp's local
abbrev pub stamp_seconds : Stamp → ℤ
stamp_seconds (Date day) = day *ℤ pos 86_400
stamp_seconds (Floating local) = local_seconds local
stamp_seconds (Utc local) = local_seconds local
stamp_seconds (Zoned local) = local_seconds local

-- The end is not before the start, nor past the longest event from there.
pub record IsWithin (start end : ℤ) : Type 0 where
  pub forward : start ≤ℤ end
  pub short : end ≤ℤ (start +ℤ pos longest)

-- An end of the same kind as the start and within reach of it. (A zoned one is read as an instant, in its zone.)
abbrev pub IsEnd : Stamp → Stamp → Type 0
IsEnd (Date a) (Date b) = IsWithin (a *ℤ pos 86_400) (b *ℤ pos 86_400)
IsEnd (Floating a) (Floating b) = IsWithin (local_seconds a) (local_seconds b)
IsEnd (Utc a) (Utc b) = IsWithin (local_seconds a) (local_seconds b)
IsEnd (Utc a) (Zoned b) = Unit {0}
IsEnd (Zoned a) (Utc b) = Unit {0}
IsEnd (Zoned a) (Zoned b) = Unit {0}
IsEnd _ _ = ⊥

-- A duration that is not negative, but for zero, nor longer than the longest event.
pub record IsLasting (duration : Duration) : Type 0 where
  pub forward : IsTrue duration.negative → 86_400 * duration.days + duration.seconds ≡ 0
  pub short : 86_400 * duration.days + duration.seconds ≤ longest

abbrev pub IsLength : Stamp → Length → Type 0
IsLength start Open = Unit {0}
IsLength start (Until end) = IsTime end × IsEnd start end.stamp
IsLength start (Lasting duration) = IsLasting duration

-- The length of a PERIOD: an end, which may also lie before its start, or a duration.
abbrev pub IsSpan : Length → Type 0
IsSpan Open = ⊥
IsSpan (Until end) = IsTime end
IsSpan (Lasting duration) = IsLasting duration

abbrev pub IsRdate : Rdate → Type 0
IsRdate (At time) = IsTime time
IsRdate (Span start length) = IsTime start × IsSpan length

-- What holds of each event of a file.
pub record IsEvent (event : EventSeen) : Type 0 where
  pub named : event.uid ≢ []
  pub start : IsTime event.start
  pub length : IsLength event.start.stamp event.length
  pub rdates : All IsRdate event.rdates
  pub exdates : All IsTime event.exdates
  pub recurrence : IfSome event.recurrence IsTime

-- The zones that a time, a length and a value of an RDATE name are among so many.
abbrev pub TimeBelow : ℕ → Time → Type 0
TimeBelow zones time = IfSome time.zone (λ zone. zone < zones)

abbrev pub EndsBelow : ℕ → Length → Type 0
EndsBelow zones (Until end) = TimeBelow zones end
EndsBelow zones _ = Unit {0}

abbrev pub RdateBelow : ℕ → Rdate → Type 0
RdateBelow zones (At time) = TimeBelow zones time
RdateBelow zones (Span start length) = TimeBelow zones start × EndsBelow zones length

-- The zones that an event names are among so many.
pub record HasZonesBelow (zones : ℕ) (event : EventSeen) : Type 0 where
  pub start : TimeBelow zones event.start
  pub length : EndsBelow zones event.length
  pub rdates : All (RdateBelow zones) event.rdates
  pub exdates : All (TimeBelow zones) event.exdates
  pub recurrence : IfSome event.recurrence (TimeBelow zones)
