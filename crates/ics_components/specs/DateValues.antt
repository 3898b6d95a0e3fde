-- What the values of an RDATE or an EXDATE say (RFC 5545, sections 3.8.5.1 and 3.8.5.2).
use Rattle.std.specs.Prelude.{◌≡◌, ℕ, Bool, true, false, not, ◌||◌, ◌==◌, List, map, Option, Some, None, is_none, is_some, Result, Ok, Err, if◌then◌else◌}
use Rattle.std.specs.List.{list_any}
use Rattle.ics_values.specs.Periods as period
use Rattle.ics_values.specs.Periods.{first_half, second_half, lasts}
use Rattle.ics_values.specs.RuleTexts.{pieces}
use Rattle.ics_values.specs.Stamps.{is_date_time_form, stamp_of}
use Rattle.ics_values.specs.declared.duration.Duration.{Duration}
use Rattle.ics_values.specs.declared.duration.DurationFault.{DurationFault}
use Rattle.ics_values.specs.declared.period.Period.{Period}
use Rattle.ics_values.specs.declared.period.PeriodEnd.TheVariants as end
use Rattle.ics_values.specs.declared.stamp.Stamp.{Stamp}
use Rattle.ics_values.specs.declared.stamp.Stamp.TheVariants.{Floating}
use Rattle.ics_values.specs.declared.stamp.StampFault.{StampFault}
use Rattle.ics_values.specs.declared.stamp.StampFault.TheVariants as stamp
use Rattle.ics_components.specs.declared.date_list.DateList.{DateList}
use Rattle.ics_values.specs.declared.time.Length.TheVariants as span_length
use Rattle.ics_values.specs.declared.time.Rdate.{Rdate}
use Rattle.ics_values.specs.declared.time.Rdate.TheVariants as rdate
use Rattle.ics_values.specs.Times.{time_in}
use Rattle.ics_components.specs.declared.date_values.Listing.{Listing}
use Rattle.ics_components.specs.declared.date_values.Listing.TheVariants as listing
use Rattle.ics_fields.specs.declared.local.Local.{Local}
use Rattle.ics_values.specs.Zoned.{is_zoned}
use Rattle.ics_components.specs.Values.{zone_name, stamp_in, duration_in, is_bad_stamp, is_far_stamp, lasting_of, is_bad_duration, is_large_duration}

-- A value as its text gives it: a stamp, or a PERIOD with its end or its duration.
pub data DateValue : Type 0 where
  At : Result Stamp StampFault → DateValue
  Between : Result Stamp StampFault → Result Stamp StampFault → DateValue
  Lasting : Result Stamp StampFault → Result Duration DurationFault → DateValue

-- a half of a PERIOD that is a stamp: no DATE
abbrev pub date_time_of : Bool → List ℕ → Result Stamp StampFault
date_time_of zoned text = if is_date_time_form text then stamp_of zoned text else Err stamp.BadStamp

-- A PERIOD, by its halves: the second is a duration if it begins as one, and else a stamp.
abbrev pub period_of : Bool → List ℕ → List ℕ → DateValue
period_of zoned start end =
    if lasts end then Lasting (date_time_of zoned start) (lasting_of end)
    else Between (date_time_of zoned start) (date_time_of zoned end)

abbrev pub has_slash : List ℕ → Bool
has_slash text = list_any (λ b. b == 47) text

-- A value of an RDATE is a stamp, or a PERIOD where it has a `/`, and one of an EXDATE is a stamp; `zoned` says that a TZID stands beside it.
abbrev pub rdate_of : Bool → List ℕ → DateValue
rdate_of zoned text = if has_slash text then period_of zoned (first_half text) (second_half text) else At (stamp_of zoned text)

abbrev pub value_of : Listing → Bool → List ℕ → DateValue
value_of listing.Rdate zoned text = rdate_of zoned text
value_of listing.Exdate zoned text = At (stamp_of zoned text)

-- the values between the commas
abbrev pub values_of : Listing → Bool → List ℕ → List DateValue
values_of listing zoned text = map (value_of listing zoned) (pieces 44 text)

-- which faults a value has
abbrev pub has_bad_stamp : DateValue → Bool
has_bad_stamp (At stamp) = is_bad_stamp stamp
has_bad_stamp (Between start end) = is_bad_stamp start || is_bad_stamp end
has_bad_stamp (Lasting start duration) = is_bad_stamp start

abbrev pub has_far_stamp : DateValue → Bool
has_far_stamp (At stamp) = is_far_stamp stamp
has_far_stamp (Between start end) = is_far_stamp start || is_far_stamp end
has_far_stamp (Lasting start duration) = is_far_stamp start

abbrev pub has_bad_duration : DateValue → Bool
has_bad_duration (Lasting start duration) = is_bad_duration duration
has_bad_duration _ = false

abbrev pub has_large_duration : DateValue → Bool
has_large_duration (Lasting start duration) = is_large_duration duration
has_large_duration _ = false

-- what a value says that has no fault, beside a TZID with that name
abbrev pub rdate_in : Option (List ℕ) → DateValue → Rdate (List ℕ)
rdate_in zone (At stamp) = rdate.At (time_in zone (stamp_in stamp))
rdate_in zone (Between start end) = rdate.Span (time_in zone (stamp_in start)) (span_length.Until (time_in zone (stamp_in end)))
rdate_in zone (Lasting start duration) = rdate.Span (time_in zone (stamp_in start)) (span_length.Lasting (duration_in duration))

-- the values of a line with these parameters and this value, and the name in its TZID
abbrev pub list_of : Listing → List ℕ → List ℕ → DateList
list_of listing params value =
    let zone = zone_name params in record { values = map (rdate_in zone) (values_of listing (is_some zone) value); zone = zone }

-- A value of an RDATE that has no fault, as the reader of periods has it.
abbrev pub period_said : DateValue → Option Period
period_said (Between (Ok start) (Ok stop)) = Some (record { start = start; end = end.At stop })
period_said (Lasting (Ok start) (Ok duration)) = Some (record { start = start; end = end.Lasting duration })
period_said _ = None

abbrev pub is_accepted : DateValue → Bool
is_accepted value = not (has_bad_stamp value || has_far_stamp value || has_bad_duration value || has_large_duration value)

-- The reader of periods, and the reader of an RDATE's values: if both accept a text, they read the same.
abbrev pub OnePeriod : Type 0
OnePeriod =
    (zoned : Bool) (text : List ℕ) (p : Period) → period.period_of zoned text ≡ Ok p → is_accepted (rdate_of zoned text) ≡ true
    → period_said (rdate_of zoned text) ≡ Some p

-- a local stamp beside a TZID
abbrev pub has_zoned : Rdate (List ℕ) → Bool
has_zoned (rdate.At time) = is_zoned time.stamp
has_zoned (rdate.Span start (span_length.Until end)) = is_zoned start.stamp || is_zoned end.stamp
has_zoned (rdate.Span start _) = is_zoned start.stamp

-- the local stamp, read without a TZID, that a value says, if it says one
abbrev pub local_of : Stamp → Option Local
local_of (Floating local) = Some local
local_of _ = None

abbrev pub local_in : Rdate (List ℕ) → Option Local
local_in (rdate.At time) = local_of time.stamp
local_in (rdate.Span start length) = None

abbrev pub is_not_local : DateValue → Bool
is_not_local value = is_none (local_in (rdate_in None value))
