-- The texts of periods, and what they mean (RFC 5545, section 3.3.9).
use Rattle.std.specs.Prelude.{ℕ, Bool, ◌||◌, ◌==◌, List, Result, Ok, Err, if◌then◌else◌}
use Rattle.std.specs.List.{before_first, after_first}
use Rattle.ics_values.specs.Stamps.{is_date_time_form, stamp_of}
use Rattle.ics_fields.specs.Days.{IsStampDay}
use Rattle.ics_values.specs.Texts.{begins, is_sign}
use Rattle.ics_values.specs.Durations.{duration_of, IsDurationRange}
use Rattle.ics_values.specs.declared.stamp.Stamp.{Stamp}
use Rattle.ics_values.specs.declared.stamp.Stamp.TheVariants.{Date, Floating, Utc, Zoned}
use Rattle.ics_values.specs.declared.duration.Duration.{Duration}
use Rattle.ics_values.specs.declared.period.Period.{Period}
use Rattle.ics_values.specs.declared.period.PeriodEnd.{PeriodEnd}
use Rattle.ics_values.specs.declared.period.PeriodEnd.TheVariants.{At, Lasting}
use Rattle.ics_values.specs.declared.stamp.StampFault.{StampFault}
use Rattle.ics_values.specs.declared.stamp.StampFault.TheVariants as stamp
use Rattle.ics_values.specs.declared.duration.DurationFault.{DurationFault}
use Rattle.ics_values.specs.declared.duration.DurationFault.TheVariants as duration
use Rattle.ics_values.specs.declared.period.PeriodFault.{PeriodFault}
use Rattle.ics_values.specs.declared.period.PeriodFault.TheVariants.{BadStamp, BadDuration, YearRange, NumberTooLarge}

abbrev pub first_half : List ℕ → List ℕ
first_half text = before_first (λ b. b == 47) text

-- the text after the first `/`, or nothing if there is none
abbrev pub second_half : List ℕ → List ℕ
second_half text = after_first (λ b. b == 47) text

abbrev pub stamp_half : Result Stamp StampFault → Result Stamp PeriodFault
stamp_half (Ok s) = Ok s
stamp_half (Err stamp.BadStamp) = Err BadStamp
stamp_half (Err stamp.YearRange) = Err YearRange

abbrev pub lasting_end : Result Duration DurationFault → Result PeriodEnd PeriodFault
lasting_end (Ok d) = Ok (Lasting d)
lasting_end (Err duration.BadDuration) = Err BadDuration
lasting_end (Err duration.NumberTooLarge) = Err NumberTooLarge

abbrev pub at_end : Result Stamp PeriodFault → Result PeriodEnd PeriodFault
at_end (Ok s) = Ok (At s)
at_end (Err fault) = Err fault

-- a stamp of a DATE-TIME form
abbrev pub half_of : Bool → List ℕ → Result Stamp PeriodFault
half_of zoned text = if is_date_time_form text then stamp_half (stamp_of zoned text) else Err BadStamp

-- a second half that begins with a sign or `P` is read as a duration, and any other as a stamp
abbrev pub lasts : List ℕ → Bool
lasts text = begins (λ b. is_sign b || b == 80 || b == 112) text

abbrev pub end_of : Bool → List ℕ → Result PeriodEnd PeriodFault
end_of zoned text = if lasts text then lasting_end (duration_of text) else at_end (half_of zoned text)

-- The period, or its fault: that of the first half that is malformed, else YearRange, else NumberTooLarge.
abbrev pub both : Result Stamp PeriodFault → Result PeriodEnd PeriodFault → Result Period PeriodFault
both (Ok start) (Ok end) = Ok (record { start = start; end = end })
both (Ok start) (Err fault) = Err fault
both (Err YearRange) (Ok end) = Err YearRange
both (Err YearRange) (Err BadStamp) = Err BadStamp
both (Err YearRange) (Err BadDuration) = Err BadDuration
both (Err YearRange) (Err _) = Err YearRange
both (Err fault) end = Err fault

abbrev pub period_of : Bool → List ℕ → Result Period PeriodFault
period_of zoned text = both (half_of zoned (first_half text)) (end_of zoned (second_half text))

-- a stamp with a time, of the years 0001 to 9899
abbrev pub IsDateTime : Stamp → Type 0
IsDateTime (Date day) = ⊥
IsDateTime (Floating local) = IsStampDay local.day
IsDateTime (Utc local) = IsStampDay local.day
IsDateTime (Zoned local) = IsStampDay local.day

abbrev pub IsPeriodEnd : PeriodEnd → Type 0
IsPeriodEnd (At stamp) = IsDateTime stamp
IsPeriodEnd (Lasting duration) = IsDurationRange duration
