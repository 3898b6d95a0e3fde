-- What the properties of an event or of an observance say (RFC 5545, sections 3.3 and 3.8).
use Rattle.std.specs.Prelude.{ℕ, ◌+◌, ◌*◌, Bool, true, false, ◌&&◌, ◌||◌, not, ◌==◌, nat_le, List, [], ◌∷◌, map, unwrap_or, codes, Option, Some, is_some}
use Rattle.std.specs.Prelude.{Result, Ok, Err, ℤ, pos, ◌+ℤ◌, ◌*ℤ◌, int_lt, if◌then◌else◌}
use Rattle.std.specs.Result.{result_ok}
use Rattle.std.specs.Str.{bytes_eq}
use Rattle.ics_text.specs.Bytes.{upper}
use Rattle.ics_text.specs.ContentLines.{param_of}
use Rattle.ics_values.specs.Durations.{duration_of}
use Rattle.ics_fields.specs.Observances.{is_finer_than_daily}
use Rattle.ics_fields.specs.RuleParts.{RuleParts, every}
use Rattle.ics_values.specs.Texts.{begins, is_minus}
use Rattle.ics_values.specs.Stamps.{stamp_of}
use Rattle.ics_values.specs.declared.duration.Duration.{Duration}
use Rattle.ics_values.specs.declared.stamp.Stamp.{Stamp}
use Rattle.ics_values.specs.declared.stamp.Stamp.TheVariants.{Date, Floating, Utc, Zoned}
use Rattle.ics_values.specs.declared.stamp.StampFault.{StampFault}
use Rattle.ics_values.specs.declared.stamp.StampFault.TheVariants as stamp
use Rattle.ics_values.specs.declared.duration.DurationFault.{DurationFault}
use Rattle.ics_values.specs.declared.duration.DurationFault.TheVariants as duration
use Rattle.ics_values.specs.declared.integer.IntegerFault.{IntegerFault}
use Rattle.ics_values.specs.declared.integer.IntegerFault.TheVariants as integer
use Rattle.ics_fields.specs.declared.frequency.Frequency.TheVariants.{Daily}
use Rattle.ics_values.specs.declared.offset.BadOffset.{BadOffset}
use Rattle.ics_values.specs.declared.rule_text.RuleFault.{RuleFault}
use Rattle.ics_values.specs.declared.rule_text.RuleFault.TheVariants as rule
use Rattle.ics_values.specs.declared.time.Time.{Time}
use Rattle.ics_values.specs.Times.{time_in}
use Rattle.ics_values.specs.Longest.{longest}
use Rattle.ics_fields.specs.Locals.{local_seconds}

-- the name of the zone that the parameters of a line give
abbrev pub zone_name : List ℕ → Option (List ℕ)
zone_name params = param_of (codes "TZID") params

-- the stamp on a line with these parameters and this value, a zoned one only beside a TZID
abbrev pub stamp_read : List ℕ → List ℕ → Result Stamp StampFault
stamp_read params value = stamp_of (is_some (zone_name params)) value

-- WHAT A LINE SAYS that no fault stands on. Where one does, the file is refused for it, and what stands here in its place says nothing.
abbrev pub stamp_in : Result Stamp StampFault → Stamp
stamp_in stamp = unwrap_or (result_ok stamp) (Date (pos 0))

abbrev pub duration_in : Result Duration DurationFault → Duration
duration_in duration = unwrap_or (result_ok duration) (record { negative = false; days = 0; seconds = 0 })

abbrev pub rule_in : Result RuleParts RuleFault → RuleParts
rule_in rule = unwrap_or (result_ok rule) (every Daily)

abbrev pub time_of : List ℕ → List ℕ → Time (List ℕ)
time_of params value = time_in (zone_name params) (stamp_in (stamp_read params value))

abbrev pub is_bad_stamp : Result Stamp StampFault → Bool
is_bad_stamp (Err stamp.BadStamp) = true
is_bad_stamp _ = false

abbrev pub is_far_stamp : Result Stamp StampFault → Bool
is_far_stamp (Err stamp.YearRange) = true
is_far_stamp _ = false

abbrev pub length_in_seconds : Duration → ℕ
length_in_seconds d = 86_400 * d.days + d.seconds

-- not negative, but for zero, nor longer than the longest event
abbrev pub is_lasting : Duration → Bool
is_lasting d = (not d.negative || (length_in_seconds d == 0)) && nat_le (length_in_seconds d) longest

-- a duration that an event may have, where a negative one is bad also if its numbers are too large
abbrev pub allowed : Bool → Result Duration DurationFault → Result Duration DurationFault
allowed minus (Ok d) = if is_lasting d then Ok d else Err duration.BadDuration
allowed minus (Err duration.BadDuration) = Err duration.BadDuration
allowed minus (Err duration.NumberTooLarge) = if minus then Err duration.BadDuration else Err duration.NumberTooLarge

-- the duration of an event
abbrev pub lasting_of : List ℕ → Result Duration DurationFault
lasting_of text = allowed (begins is_minus text) (duration_of text)

abbrev pub is_bad_duration : Result Duration DurationFault → Bool
is_bad_duration (Err duration.BadDuration) = true
is_bad_duration _ = false

abbrev pub is_large_duration : Result Duration DurationFault → Bool
is_large_duration (Err duration.NumberTooLarge) = true
is_large_duration _ = false

abbrev pub is_large_integer : Result ℕ IntegerFault → Bool
is_large_integer (Err integer.NumberTooLarge) = true
is_large_integer _ = false

abbrev pub is_bad_rule : Result RuleParts RuleFault → Bool
is_bad_rule (Err rule.BadRule) = true
is_bad_rule _ = false

abbrev pub is_large_rule : Result RuleParts RuleFault → Bool
is_large_rule (Err rule.NumberTooLarge) = true
is_large_rule _ = false

-- a rule that repeats more often than daily
abbrev pub is_fine_rule : Result RuleParts RuleFault → Bool
is_fine_rule (Ok parts) = is_finer_than_daily parts.frequency
is_fine_rule (Err fault) = false

abbrev pub is_bad_offset : Result ℤ BadOffset → Bool
is_bad_offset (Ok offset) = false
is_bad_offset (Err fault) = true

-- a SEQUENCE that is no number counts as 0
abbrev pub ok_or_zero : Result ℕ IntegerFault → ℕ
ok_or_zero (Ok n) = n
ok_or_zero (Err fault) = 0

abbrev pub is_cancelled : List ℕ → Bool
is_cancelled text = bytes_eq (map upper text) (codes "CANCELLED")

-- a text that is there and not empty
abbrev pub is_filled : Option (List ℕ) → Bool
is_filled (Some (b ∷ bs)) = true
is_filled _ = false

-- the name of a time's zone, or the empty one
abbrev pub tzid : Time (List ℕ) → List ℕ
tzid time = unwrap_or time.zone []

abbrev pub same_zone : Time (List ℕ) → Time (List ℕ) → Bool
same_zone a b = bytes_eq (tzid a) (tzid b)

-- before the start, or more than the longest event after it
abbrev pub is_out : ℤ → ℤ → Bool
is_out start end = int_lt end start || int_lt (start +ℤ pos longest) end

-- Which ends are bad before any zone is known: one of another kind than the start, and one out of its reach where both are dates, floating, or of one TZID.
abbrev pub is_bad_end : Bool → Stamp → Stamp → Bool
is_bad_end one_zone (Date a) (Date b) = is_out (a *ℤ pos 86_400) (b *ℤ pos 86_400)
is_bad_end one_zone (Floating a) (Floating b) = is_out (local_seconds a) (local_seconds b)
is_bad_end one_zone (Zoned a) (Zoned b) = one_zone && is_out (local_seconds a) (local_seconds b)
is_bad_end one_zone (Zoned a) (Utc b) = false
is_bad_end one_zone (Utc a) (Zoned b) = false
is_bad_end one_zone (Utc a) (Utc b) = false
is_bad_end one_zone _ _ = true

abbrev pub ends_badly : Option (Time (List ℕ)) → Option (Time (List ℕ)) → Bool
ends_badly (Some start) (Some end) = is_bad_end (same_zone start end) start.stamp end.stamp
ends_badly _ _ = false
