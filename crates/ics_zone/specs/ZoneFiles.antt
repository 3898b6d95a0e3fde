-- What the rule of a POSIX TZ string says, and what a zone file does (RFC 9636): a table of transitions, and a rule for what comes after it.
-- Definitions over what jiff reads of the text or the file, so that a zone's answers are a function of the bytes.
use Rattle.std.specs.Prelude.{ℕ, ◌-◌, ◌==◌, ℤ, pos, ◌+ℤ◌, ◌-ℤ◌, ◌*ℤ◌, Bool, true, false, not, ◌&&◌, ◌||◌, nat_le, int_le, int_lt, List, length, get_or, Option}
use Rattle.std.specs.Prelude.{Some, None, Ok, Err, if◌then◌else◌}
use Rattle.std.specs.List.{prefix_len}
use Rattle.std.specs.Ordering.{int_eq}
use Rattle.std.specs.Str.{bytes_eq}
use Rattle.jiff_core.specs.Timestamp.{nanos_of_seconds}
use Rattle.jiff_tz.specs.PosixRule.{match_some, rule_day, first_nanosecond, last_nanosecond, nanos_per_day, clamp_to, saturating_add, saturating_sub, int_same}
use Rattle.jiff_tz.specs.PosixRule.{in_window, in_span}
use Rattle.jiff_tz.specs.PosixText.{DstText, TzText}
pub use Rattle.jiff_tz.specs.TzifReader.{TzifText}
use Rattle.jiff_tz.specs.TzifReader.{Parsed, read_tzif}
use Rattle.jiff_tz.specs.TzifText.{TypeText, TransitionText, civil_start, civil_end, no_row}
use Rattle.jiff_tz.specs.Year.{year_of_nanos}
use Rattle.jiff_tz.specs.declared.info.Dst.{Dst}
use Rattle.jiff_tz.specs.declared.info.Dst.TheVariants.{Yes, No}
use Rattle.jiff_tz.specs.declared.posix.Day.{Day}

-- the nanosecond of a year at which a rule's day and time fall, on a clock at UTC, for a rule's clock so many seconds ahead of UTC
abbrev pub rule_moment : ℤ → ℤ → Day × ℤ → ℤ
rule_moment year ahead at = match_some (rule_day year at.0) (last_nanosecond year) (λ day.
    clamp_to (first_nanosecond year) (last_nanosecond year) (day *ℤ nanos_per_day +ℤ nanos_of_seconds (at.1 -ℤ ahead)))

-- when daylight saving time begins and ends in a year, on a clock at UTC; all the year if it begins with it and ends outside it
abbrev pub daylight_window : ℤ → ℤ → DstText → ℤ × ℤ
daylight_window year standard dst =
    let start : ℤ = rule_moment year standard dst.start in
    let end : ℤ = rule_moment year dst.seconds dst.finish in
    let shifted : ℤ = saturating_add end (nanos_of_seconds standard) in
    if int_same start (first_nanosecond year)
    && (int_lt shifted (first_nanosecond year) || int_lt (last_nanosecond year) shifted)
    then (start, last_nanosecond year)
    else (start, end)

-- what a rule says of standard time and of daylight saving time
abbrev pub standard_type : TzText → TypeText
standard_type rule = record { seconds = rule.std_seconds; dst = No; name = rule.std_name }

abbrev pub daylight_type : DstText → TypeText
daylight_type dst = record { seconds = dst.seconds; dst = Yes; name = dst.name }

-- what holds by a rule at an instant, in nanoseconds
abbrev pub type_by : TzText → Option DstText → ℤ → TypeText
type_by rule None n = standard_type rule
type_by rule (Some dst) n =
    if in_window (daylight_window (year_of_nanos n) rule.std_seconds dst) n then daylight_type dst else standard_type rule

abbrev pub rule_type : TzText → ℤ → TypeText
rule_type rule n = type_by rule rule.dst n

-- how far daylight saving time is ahead of standard time, in nanoseconds
abbrev pub shift : ℤ → ℤ → ℤ
shift standard daylight = nanos_of_seconds daylight -ℤ nanos_of_seconds standard

-- the offset of a local by the compatible strategy, where daylight saving time is behind standard time: standard time in a fold and daylight
-- saving time in a gap
abbrev pub compatible_behind : ℤ → ℤ → ℤ × ℤ → ℤ → ℤ
compatible_behind standard daylight window local =
    if in_window window local then daylight
    else (if in_span (saturating_add window.0 (shift standard daylight)) window.0 local then standard
    else (if in_span window.1 (saturating_sub window.1 (shift standard daylight)) local then daylight
    else standard))

-- the same where daylight saving time is ahead: standard time in a gap
abbrev pub compatible_ahead : ℤ → ℤ → ℤ × ℤ → ℤ → ℤ
compatible_ahead standard daylight window local =
    if not (in_window window local) then standard
    else (if in_span window.0 (saturating_add window.0 (shift standard daylight)) local then standard else daylight)

-- the offset of a local, in nanoseconds, by the compatible strategy
abbrev pub compatible_by : ℤ → ℤ → ℤ × ℤ → ℤ → ℤ
compatible_by standard daylight window local =
    if int_lt daylight standard then compatible_behind standard daylight window local
    else (if int_lt standard daylight then compatible_ahead standard daylight window local else standard)

-- the same by a rule: its two moments are read on the clock that shows the local
abbrev pub rule_reading : ℤ → Option DstText → ℤ → ℤ
rule_reading standard None local = standard
rule_reading standard (Some dst) local =
    let year : ℤ = year_of_nanos local in
    compatible_by standard dst.seconds (rule_moment year (pos 0) dst.start, rule_moment year (pos 0) dst.finish) local

-- the transition at this place of the table
abbrev pub row_at : TzifText → ℕ → TransitionText
row_at file k = get_or file.transitions k (record { second = pos 0; before = file.first.seconds; after = file.first })

-- the offset after so many transitions
abbrev pub offset_after : TzifText → ℕ → ℤ
offset_after file count = if count == 0 then file.first.seconds else (row_at file (count - 1)).after.seconds

-- the rule, where so many transitions are the whole table
abbrev pub rule_after : TzifText → ℕ → Option TzText
rule_after file count = if count == length file.transitions then file.rule else None

-- how many transitions are at or before an instant
abbrev pub count_at : TzifText → ℤ → ℕ
count_at file t = prefix_len (λ row. int_le row.second t) file.transitions

-- the offset at an instant: that of the last transition at or before it and, after the last of all, that of the rule
unfoldable pub file_offset : TzifText → ℤ → ℤ
file_offset file t = match_some (rule_after file (count_at file t)) (offset_after file (count_at file t))
    (λ rule. (rule_type rule (nanos_of_seconds t)).seconds)

-- how many gaps and folds have begun when the clock shows a local
abbrev pub civil_count_at : TzifText → ℤ → ℕ
civil_count_at file local = prefix_len (λ row. int_le (civil_start row) local) file.transitions

-- the local is inside the gap or fold of the last of so many transitions
abbrev pub is_inside : TzifText → ℕ → ℤ → Bool
is_inside file count local = if count == 0 then false else int_lt local (civil_end (row_at file (count - 1)))

-- the offset of a local by the compatible strategy: the one before a gap or fold that the local is inside
abbrev pub reading_after : TzifText → ℕ → ℤ → ℤ
reading_after file count local =
    if is_inside file count local
    then (row_at file (count - 1)).before
    else match_some (rule_after file count) (offset_after file count) (λ rule. rule_reading rule.std_seconds rule.dst (nanos_of_seconds local))

unfoldable pub file_reading : TzifText → ℤ → ℤ
file_reading file local = reading_after file (civil_count_at file local) local

-- the instant of a local by the compatible strategy
abbrev pub file_moment : TzifText → ℤ → ℤ
file_moment file local = local -ℤ file_reading file local

-- two types are the same
abbrev pub is_flag : Dst → Dst → Bool
is_flag Yes Yes = true
is_flag No No = true
is_flag _ _ = false

abbrev pub is_type : TypeText → TypeText → Bool
is_type a b = int_eq a.seconds b.seconds && (is_flag a.dst b.dst && bytes_eq a.name b.name)

-- the table has no transition, or what holds from its last one on holds by the rule too
abbrev pub agrees : Option TzText → List TransitionText → Bool
agrees None rows = true
agrees (Some rule) rows =
    let last : TransitionText = get_or rows (length rows - 1) no_row in
    (length rows == 0) || is_type (rule_type rule (nanos_of_seconds last.second)) last.after

-- the same of what was read
abbrev pub agreed : Parsed TzifText → Option TzifText
agreed (Ok file) = if agrees file.rule file.transitions then Some file else None
agreed (Err fault) = None

-- what jiff reads of the bytes of a zone file, unless it refuses them or there are more than 1,048,576
abbrev pub zone_file : List ℕ → Option TzifText
zone_file bytes = if nat_le (length bytes) 1_048_576 then agreed (read_tzif bytes) else None
