-- What a zone file says is what jiff answers for a table that was read from it.
use Rattle.std.proofs.Common.{Decides, ◌≡◌, ℕ, ◌+◌, ◌-◌, ℤ, pos, Bool, true, false, cond, int_le, List, [], ◌∷◌, map, length}
use Rattle.std.proofs.Common.{Option, Some, None, option_map, refl, sym, ap, ap₂, ◌∙◌, arith, if◌then◌else◌, vec_len}
use Rattle.std.proofs.lemmas.Bool.{and_parts}
use Rattle.std.proofs.lemmas.Bool.Decides.{nat_tests}
use Rattle.std.proofs.lemmas.Slice.Eq.{bytes_eq-Decides}
use Rattle.std.specs.List.{prefix_len}
use Rattle.std.proofs.Math.ListN.{get_or-map}
use Rattle.std.proofs.lemmas.List.{length-map}
use Rattle.jiff.specs.Words.{nanos_of_seconds, civil_nanos, civil_seconds}
use Rattle.jiff.proofs.SpanFacts.{signed_arith}
use Rattle.jiff_core.proofs.DateTimeLemmas.{civil_nanos-civil_seconds}
use Rattle.jiff_core.specs.declared.offset.Offset.{Offset}
use Rattle.jiff_core.specs.declared.civil.datetime.DateTime.{DateTime}
use Rattle.jiff_tz.specs.Ambiguous.{compatible_offset}
use Rattle.jiff_tz.specs.PosixRule as Posix
use Rattle.jiff_tz.specs.PosixRule.{match_some, utc_window, rule_nanos, in_window, dst_info, std_info}
use Rattle.jiff_tz.specs.PosixText.{dst_view, tz_view, day_time_view}
use Rattle.jiff_tz.specs.Tzif as Table
use Rattle.jiff_tz.specs.Tzif.{tzif_view}
use Rattle.jiff_tz.specs.TzifText.{TypeText, TransitionText, transition_text, civil_start}
use Rattle.jiff_tz.specs.TzifAgree.{FooterAgrees, RowAgrees}
use Rattle.jiff_tz.specs.Abbreviation.{abbreviation_text}
use Rattle.jiff_tz.specs.Year.{year_of_nanos}
use Rattle.jiff_tz.proofs.YearLemmas.{year_of_nanos-civil}
use Rattle.jiff_tz.specs.declared.ambiguous.AmbiguousOffset.{AmbiguousOffset}
use Rattle.jiff_tz.specs.declared.info.Dst.{Dst as DstFlag}
use Rattle.jiff_tz.specs.declared.info.OffsetInfo.{OffsetInfo}
use Rattle.jiff_tz.specs.declared.posix.Dst.{Dst}
use Rattle.jiff_tz.specs.declared.posix.TimeZone.{TimeZone}
use Rattle.jiff_tz.specs.declared.tzif.Tzif.{Tzif}
use Rattle.ics_zone.specs.ZoneFiles.{rule_moment, daylight_window, is_inside, rule_type, type_by, rule_reading, compatible_by}
use Rattle.ics_zone.specs.ZoneFiles.{row_at, offset_after, rule_after, count_at, civil_count_at, file_offset, file_reading}
use Rattle.ics_zone.specs.ZoneFiles.{is_flag, is_type, agrees}

pub window_is : (year : ℤ) (d : Dst) (std : Offset) → daylight_window year std.seconds (dst_view d) ≡ utc_window d year std
unfolding utc_window rule_nanos
window_is year d std = refl

-- what holds by a rule, as jiff says it
abbrev info_view : OffsetInfo → TypeText
info_view info = record { seconds = info.offset.seconds; dst = info.dst; name = abbreviation_text info.abbreviation }

pub rule_type_is : (rule : TimeZone) (n : ℤ) → rule_type (tz_view rule) n ≡ info_view (Posix.info_at rule n)
rule_type_is rule n = by rule.dst
  where
    by : (dst : Option Dst) → type_by (tz_view rule) (option_map dst_view dst) n
        ≡ info_view (match_some (Posix.dst_at_by rule.std_offset dst n) (std_info rule) dst_info)
    by None = refl
    by (Some d) = rw (window_is (year_of_nanos n) d rule.std_offset) (grind (arith, nat_tests))

pub rule_offset_is : (rule : TimeZone) (n : ℤ) → (rule_type (tz_view rule) n).seconds ≡ (Posix.offset_at rule n).seconds
rule_offset_is rule n = grind (arith, nat_tests, rule_type_is)

-- the offset that is taken of two cases
of_case : (b : Bool) (x y : AmbiguousOffset) → (compatible_offset (if b then x else y)).seconds
    ≡ (if b then (compatible_offset x).seconds else (compatible_offset y).seconds)
of_case true x y = refl
of_case false x y = refl

same_case : (b : Bool) (x : ℤ) → (if b then x else x) ≡ x
same_case true x = refl
same_case false x = refl

compatible_is : (std dst : Offset) (w : ℤ × ℤ) (n : ℤ) → compatible_by std.seconds dst.seconds w n
    ≡ (compatible_offset (Posix.ambiguous_by std dst w n)).seconds
compatible_is std dst w n = simp (of_case, same_case)

pub rule_reading_is : (std : Offset) (dst : Option Dst) (dt : DateTime) (local : ℤ) → civil_nanos dt ≡ nanos_of_seconds local
    → rule_reading std.seconds (option_map dst_view dst) (nanos_of_seconds local) ≡ (compatible_offset (Posix.ambiguous_at_by std dst dt)).seconds
unfolding rule_nanos
rule_reading_is std None dt local e = refl
rule_reading_is std (Some d) dt local e =
    ap₂ (λ (year : ℤ) (n : ℤ). compatible_by std.seconds d.offset.seconds
    (rule_moment year (pos 0) (day_time_view d.rule.start), rule_moment year (pos 0) (day_time_view d.rule.end)) n)
    (sym (year_of_nanos-civil dt (nanos_of_seconds local) e)) (sym e)
    ∙ compatible_is std d.offset (rule_nanos dt.date.year d.rule.start (pos 0), rule_nanos dt.date.year d.rule.end (pos 0)) (civil_nanos dt)

-- a property of the rows, told of what they say
prefix_len-map : {A B : Type 0} (f : A → B) (p : B → Bool) (xs : List A) → prefix_len p (map f xs) ≡ prefix_len (λ x. p (f x)) xs
prefix_len-map f p [] = refl
prefix_len-map f p (x ∷ xs) = ap (λ (n : ℕ). cond (p (f x)) (1 + n) 0) (prefix_len-map f p xs)

module _ (z : Tzif) where
  row_is : (k : ℕ) → row_at (tzif_view z) k ≡ transition_text (Table.transition_at z k)
  row_is k = get_or-map transition_text z.transitions.items k (Table.no_transition z)

  offset_after_is : (count : ℕ) → offset_after (tzif_view z) count ≡ (Table.type_after z count).offset.seconds
  offset_after_is count = grind (arith, nat_tests, row_is)

  rule_after_is : (count : ℕ) → rule_after (tzif_view z) count ≡ option_map tz_view (Table.rule_after z count)
  rule_after_is count =
      let same : length (map transition_text z.transitions.items) ≡ vec_len z.transitions =
      length-map z.transitions.items transition_text ∙ sym z.transitions.ok.0 in
      rw same (grind (arith, nat_tests))

  -- the offset that jiff gives at an instant
  pub file_offset_is : (t : ℤ) → file_offset (tzif_view z) t ≡ (Table.offset_at z (nanos_of_seconds t)).seconds
  unfolding file_offset
  file_offset_is t =
      let second : Table.floor_second (nanos_of_seconds t) ≡ t = omega (arith, signed_arith) in
      let count : count_at (tzif_view z) t ≡ Table.count_at z t = prefix_len-map transition_text (λ row. int_le row.second t) z.transitions.items in
      rw (second, count, rule_after_is (Table.count_at z t)) (grind (arith, nat_tests, rule_offset_is, offset_after_is))

  -- that of a local, in a part of the table
  inside_is : (count : ℕ) (local : ℤ) → is_inside (tzif_view z) count local ≡ Table.is_inside z count local
  inside_is count local = grind (arith, nat_tests, row_is)

  module _ (dt : DateTime) (local : ℤ) (same : civil_nanos dt ≡ nanos_of_seconds local) where
    past_is : (count : ℕ) → match_some (rule_after (tzif_view z) count) (offset_after (tzif_view z) count)
        (λ r. rule_reading r.std_seconds r.dst (nanos_of_seconds local))
        ≡ (compatible_offset (Table.ambiguous_after z count dt)).seconds
    past_is count = let by = λ (r : TimeZone). rule_reading_is r.std_offset r.dst dt local same in grind (arith, nat_tests, rule_after_is, offset_after_is)

    -- the offset of a local that jiff's compatible strategy takes
    pub file_reading_is : file_reading (tzif_view z) local ≡ (compatible_offset (Table.ambiguous_at z dt)).seconds
    unfolding file_reading
    file_reading_is =
        let second : civil_seconds dt ≡ local = omega (arith, signed_arith, civil_nanos-civil_seconds dt) in
        let count : civil_count_at (tzif_view z) local ≡ Table.civil_count_at z local =
        prefix_len-map transition_text (λ row. int_le (civil_start row) local) z.transitions.items in
        let n = Table.civil_count_at z local in
        rw (second, count, inside_is n local, past_is n, row_is (n - 1), of_case (Table.is_inside z n local)) (grind (arith, nat_tests))

-- two flags, and two types, are the same
is_flag-Decides : (a b : DstFlag) → Decides (is_flag a b) (a ≡ b)
is_flag-Decides a b = grind (arith, nat_tests)

-- the rule agrees with the last transition exactly if jiff's own test says so
row_agrees : (rule : TimeZone) (row : TransitionText)
    → Decides (is_type (rule_type (tz_view rule) (nanos_of_seconds row.second)) row.after) (RowAgrees rule row)
row_agrees rule row = grind (arith, nat_tests, and_parts, bytes_eq-Decides, is_flag-Decides, rule_type_is)

pub agrees-Decides : (rule : TimeZone) (rows : List TransitionText) → Decides (agrees (Some (tz_view rule)) rows) (FooterAgrees rows rule)
agrees-Decides rule rows = (λ e l. grind (arith, nat_tests, row_agrees), λ h. grind (arith, nat_tests, row_agrees))
