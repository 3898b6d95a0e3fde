-- What holds of the offsets that stand in a rule or in a zone file holds of all that they answer. So all are less than two days.
use Rattle.std.specs.Prelude.{ℕ, ◌-◌, ◌==◌, ℤ, Bool, true, false, length, get_or, Option, Some, None}
use Rattle.std.specs.Prelude.{option_map, IfSome, if◌then◌else◌}
use Rattle.std.proofs.Math.ListN.{get_or-map}
use Rattle.jiff_core.specs.Timestamp.{IsOffsetSeconds, nanos_of_seconds}
use Rattle.jiff_tz.specs.PosixRule.{match_some, in_window}
use Rattle.jiff_tz.specs.PosixText.{DstText, TzText, dst_view, tz_view}
use Rattle.jiff_tz.specs.Tzif.{tzif_view, no_transition}
use Rattle.jiff_tz.specs.TzifReader.{TzifText}
use Rattle.jiff_tz.specs.TzifText.{TransitionText, transition_text}
use Rattle.jiff_tz.specs.Year.{year_of_nanos}
use Rattle.jiff_tz.specs.declared.posix.Dst.{Dst}
use Rattle.jiff_tz.specs.declared.posix.TimeZone.{TimeZone}
use Rattle.jiff_tz.specs.declared.tzif.Tzif.{Tzif}
use Rattle.ics_zone.specs.ZoneFiles.{daylight_window, daylight_type, standard_type, type_by, rule_type, rule_reading, row_at}
use Rattle.ics_zone.specs.ZoneFiles.{offset_after, rule_after, count_at, civil_count_at, is_inside, reading_after, file_offset, file_reading}

-- it holds of standard time and, if there is any, of daylight saving time
pub record HoldsOfRule (P : ℤ → Type 0) (rule : TzText) : Type 0 where
  pub standard : P rule.std_seconds
  pub daylight : IfSome rule.dst (λ dst. P dst.seconds)

-- it holds before a transition and after it
abbrev pub HoldsOfRow : (ℤ → Type 0) → TransitionText → Type 0
HoldsOfRow P row = P row.before × P row.after.seconds

-- it holds of each offset that stands in the table, and in the rule for what comes after it
pub record HoldsOfFile (P : ℤ → Type 0) (file : TzifText) : Type 0 where
  pub first : P file.first.seconds
  pub rows : (k : ℕ) → HoldsOfRow P (row_at file k)
  pub rule : IfSome file.rule (HoldsOfRule P)

module _ (P : ℤ → Type 0) where
  either : (b : Bool) (x y : ℤ) → P x → P y → P (if b then x else y)
  either true x y h k = h
  either false x y h k = k

  reading_holds : (standard : ℤ) (dst : Option DstText) (local : ℤ) → P standard → IfSome dst (λ d. P d.seconds) → P (rule_reading standard dst local)
  reading_holds standard None local own other = own
  reading_holds standard (Some d) local own other = search either depth 12

  pub rule_reading_holds : (rule : TzText) → HoldsOfRule P rule → (local : ℤ) → P (rule_reading rule.std_seconds rule.dst local)
  rule_reading_holds rule h local = reading_holds rule.std_seconds rule.dst local h.standard h.daylight

  pub rule_type_holds : (rule : TzText) → HoldsOfRule P rule → (n : ℤ) → P (rule_type rule n).seconds
  rule_type_holds rule h n = by rule.dst h.daylight
    where
      in_year : (b : Bool) (d : DstText) → P d.seconds → P (if b then daylight_type d else standard_type rule).seconds
      in_year true d k = k
      in_year false d k = h.standard

      by : (dst : Option DstText) → IfSome dst (λ d. P d.seconds) → P (type_by rule dst n).seconds
      by None k = h.standard
      by (Some d) k = in_year (in_window (daylight_window (year_of_nanos n) rule.std_seconds d) n) d k

module _ (P : ℤ → Type 0) (file : TzifText) (h : HoldsOfFile P file) where
  after_holds : (count : ℕ) → P (offset_after file count)
  after_holds count = either P (count == 0) _ _ h.first (h.rows (count - 1)).1

  past_holds : (count : ℕ) (f : TzText → ℤ) → ((rule : TzText) → HoldsOfRule P rule → P (f rule))
      → P (match_some (rule_after file count) (offset_after file count) f)
  past_holds count f of_rule = by (count == length file.transitions) file.rule h.rule
    where
      by : (b : Bool) (rule : Option TzText) → IfSome rule (HoldsOfRule P) → P (match_some (if b then rule else None) (offset_after file count) f)
      by true None k = after_holds count
      by true (Some rule) k = of_rule rule k
      by false rule k = after_holds count

  pub file_offset_holds : (t : ℤ) → P (file_offset file t)
  unfolding file_offset
  file_offset_holds t = past_holds (count_at file t) (λ rule. (rule_type rule (nanos_of_seconds t)).seconds)
      (λ rule k. rule_type_holds P rule k (nanos_of_seconds t))

  reading_after_holds : (count : ℕ) (local : ℤ) → P (reading_after file count local)
  reading_after_holds count local = either P (is_inside file count local) _ _ (h.rows (count - 1)).0
      (past_holds count (λ rule. rule_reading rule.std_seconds rule.dst (nanos_of_seconds local))
      (λ rule k. rule_reading_holds P rule k (nanos_of_seconds local)))

  pub file_reading_holds : (local : ℤ) → P (file_reading file local)
  unfolding file_reading
  file_reading_holds local = reading_after_holds (civil_count_at file local) local

-- each offset that stands there is one of jiff's
rule_of_jiff : (rule : TimeZone) → HoldsOfRule IsOffsetSeconds (tz_view rule)
rule_of_jiff rule = record {
  standard = rule.std_offset.in_range;
  daylight = by rule.dst;
}
  where
    by : (dst : Option Dst) → IfSome (option_map dst_view dst) (λ d. IsOffsetSeconds d.seconds)
    by None = tt
    by (Some d) = d.offset.in_range

pub type_short : (rule : TimeZone) (n : ℤ) → IsOffsetSeconds (rule_type (tz_view rule) n).seconds
type_short rule = rule_type_holds IsOffsetSeconds (tz_view rule) (rule_of_jiff rule)

pub rule_short : (rule : TimeZone) (local : ℤ) → IsOffsetSeconds (rule_reading rule.std_offset.seconds (option_map dst_view rule.dst) local)
rule_short rule = rule_reading_holds IsOffsetSeconds (tz_view rule) (rule_of_jiff rule)

file_of_jiff : (z : Tzif) → HoldsOfFile IsOffsetSeconds (tzif_view z)
file_of_jiff z = record {
  first = z.first.offset.in_range;
  rows = λ k. rw (get_or-map transition_text z.transitions.items k (no_transition z)) (let row = get_or z.transitions.items k (no_transition z) in
      (row.before.in_range, row.after.offset.in_range));
  rule = by z.posix_tz;
}
  where
    by : (rule : Option TimeZone) → IfSome (option_map tz_view rule) (HoldsOfRule IsOffsetSeconds)
    by None = tt
    by (Some rule) = rule_of_jiff rule

pub file_offset_short : (z : Tzif) (t : ℤ) → IsOffsetSeconds (file_offset (tzif_view z) t)
file_offset_short z = file_offset_holds IsOffsetSeconds (tzif_view z) (file_of_jiff z)

pub file_reading_short : (z : Tzif) (local : ℤ) → IsOffsetSeconds (file_reading (tzif_view z) local)
file_reading_short z = file_reading_holds IsOffsetSeconds (tzif_view z) (file_of_jiff z)
