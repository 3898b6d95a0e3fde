-- What holds of what has ended, where no fault stands on its lines.
use Rattle.std.specs.Prelude.{◌≡◌, ◌≢◌, ℕ, true, false, [], IfSome, List, is_some}
use Rattle.std.specs.List.{All}
use Rattle.ics_values.specs.Stamps.{stamp_day}
use Rattle.ics_values.specs.Zoned.{is_zoned}
use Rattle.ics_fields.specs.Days.{IsStampDay}
use Rattle.ics_values.specs.declared.time.Length.{Length}
use Rattle.ics_values.specs.declared.time.Length.TheVariants.{Open, Until, Lasting}
use Rattle.ics_values.specs.declared.time.Rdate.{Rdate}
use Rattle.ics_values.specs.declared.time.Rdate.TheVariants.{At, Span}
use Rattle.ics_values.specs.declared.time.Time.{Time}
use Rattle.ics_components.specs.declared.event_fields.EventFields.{EventFields}
use Rattle.ics_components.specs.Values.{is_lasting, is_filled, ends_badly}
use Rattle.ics_fields.specs.Observances.{ObservanceSaid, IsObservance, has_finer_rule}
use Rattle.ics_components.specs.declared.deferred_check.DeferredCheck.{DeferredCheck}
use Rattle.ics_components.specs.SecondRound.{time_zone, zone_check, ends_in}

-- A TIME ZONE (RFC 5545, section 3.6.5).

-- It is within the bounds of an observance, and its rule no finer than daily.
pub record IsSoundObservance (observance : ObservanceSaid) : Type 0 where
  pub bounds : IsObservance observance
  pub daily : has_finer_rule observance ≡ false

-- A time zone has an observance.
pub record IsSoundZone (observances : List ObservanceSaid) : Type 0 where
  pub filled : observances ≢ []
  pub sound : All IsSoundObservance observances

-- AN EVENT of a calendar, where P holds of each check that it leaves to the second round: of the zones that its times name, and of its end against its start.
module _ (P : DeferredCheck → Type 0) (calendar : ℕ) where
  -- A time lies in the years of stamps, and it has the name of a zone exactly where its stamp is a zoned one.
  pub record IsSoundTime (time : Time (List ℕ)) : Type 0 where
    pub years : IsStampDay (stamp_day time.stamp)
    pub zone : is_some time.zone ≡ is_zoned time.stamp
    pub known : IfSome (zone_check (time_zone calendar time)) P

  -- The length of a PERIOD: an end, or a duration that an event may have.
  abbrev pub IsSoundSpan : Length (List ℕ) → Type 0
  IsSoundSpan Open = ⊥
  IsSoundSpan (Until end) = IsSoundTime end
  IsSoundSpan (Lasting duration) = is_lasting duration ≡ true

  abbrev pub IsSoundRdate : Rdate (List ℕ) → Type 0
  IsSoundRdate (At time) = IsSoundTime time
  IsSoundRdate (Span start length) = IsSoundTime start × IsSoundSpan length

  -- It has a UID and a start, and its end is not bad, as far as locals say.
  pub record IsSoundEvent (event : EventFields) : Type 0 where
    pub named : is_filled event.uid ≡ true
    pub started : is_some event.start ≡ true
    pub start : IfSome event.start IsSoundTime
    pub end : IfSome event.end IsSoundTime
    pub ends : ends_badly event.start event.end ≡ false
    pub lasting : IfSome event.duration (λ duration. is_lasting duration ≡ true)
    pub rdates : All IsSoundRdate event.rdates
    pub exdates : All IsSoundRdate event.exdates
    pub recurrence : IfSome event.recurrence IsSoundTime
    pub length : IfSome (ends_in calendar event.start event.end) P
