-- A clock stays between two offsets, if all that it knows of do.
use Rattle.std.proofs.Common.{◌≡◌, ℕ, ◌+◌, ◌<◌, ◌≤◌, Option, Some, None, MatchOption, List, length, get_or, Contains, inl, inr, ℤ, pos}
use Rattle.std.proofs.Common.{◌-ℤ◌, ◌≤ℤ◌, ◌∙◌, ap, sym, subst, arith, map, option_map, IfSome}
use Rattle.std.proofs.lemmas.Bool.{cases_lt}
use Rattle.std.proofs.lemmas.List.{get_or_default, get_or_past, get_or-map, length-map}
use Rattle.std.proofs.lemmas.Int.{ints}
use Rattle.jiff_core.specs.Calendar.{IsBetween, IsWithin}
use Rattle.jiff_core.specs.Timestamp.{nanos_of_seconds}
use Rattle.jiff_core.specs.declared.offset.Offset.{Offset}
use Rattle.jiff_tz.specs.PosixText.{TzText, tz_view}
use Rattle.jiff_tz.specs.Tzif.{tzif_view}
use Rattle.jiff_tz.specs.TzifReader.{TzifText}
use Rattle.jiff_tz.specs.TzifText.{TransitionText, transition_text, no_row}
use Rattle.jiff_tz.specs.declared.posix.TimeZone.{TimeZone}
use Rattle.jiff_tz.specs.declared.tzif.transition.Transition.{Transition}
use Rattle.ics_zone.specs.Bounds.{HasBounds}
use Rattle.ics_zone.specs.Inner.FileBounds.{HoldsOfRule, HoldsOfRow, HoldsOfFile, rule_type_holds, rule_reading_holds, file_offset_holds}
use Rattle.ics_zone.specs.Inner.FileBounds.{file_reading_holds}
use Rattle.ics_zone.specs.Inner.MomentSearch.{moment_found}
use Rattle.ics_zone.specs.Inner.ZoneBounds.{zone_short}
use Rattle.ics_zone.specs.Moments.{IsMomentBy, zone_moment}
use Rattle.ics_zone.specs.ZoneFiles.{file_offset, file_moment, row_at}
use Rattle.ics_zone.specs.ZoneOffsets.{zone_offset}
use Rattle.ics_zone.specs.ZoneSaid.{jiff_said, said_moment, said_offset}
use Rattle.ics_zone.specs.declared.jiff_zone.JiffZone.TheVariants.{Fixed, Posix, Table}
use Rattle.ics_zone.specs.declared.shared_table.SharedTable.{SharedTable}
use Rattle.ics_zone.specs.declared.zone_observances.ZoneObservances.{ZoneObservances}

module _ (least most : ℤ) where
  read_by : (local offset : ℤ) → IsBetween least most offset → IsBetween (local -ℤ most) (local -ℤ least) (local -ℤ offset)
  read_by local offset k = (omega (arith, ints, k), omega (arith, ints, k))

  meant_by : (offset : ℤ → ℤ) (between : (t : ℤ) → IsBetween least most (offset t)) (local t : ℤ) → IsMomentBy offset local t
      → IsBetween (local -ℤ most) (local -ℤ least) t
  meant_by offset between local t (inl h) = let k = between t in (omega (arith, ints, k, h.shows), omega (arith, ints, k, h.shows))
  meant_by offset between local t (inr h) = let k = between (h.past -ℤ pos 1) in (omega (arith, ints, k, h.before), omega (arith, ints, k, h.before))

  pub rule_bounds : (rule : TimeZone) → HoldsOfRule (IsBetween least most) (tz_view rule) → IsWithin 93_599 least → IsWithin 93_599 most
      → HasBounds (said_offset (jiff_said (Posix rule))) (said_moment (jiff_said (Posix rule))) least most
  unfolding said_offset said_moment jiff_said
  rule_bounds rule in_rule low high = record {
    offsets = λ t. rule_type_holds (IsBetween least most) (tz_view rule) in_rule (nanos_of_seconds t);
    moments = λ local. read_by local _ (rule_reading_holds (IsBetween least most) (tz_view rule) in_rule (nanos_of_seconds local));
    least_short = low;
    most_short = high;
  }

  pub file_bounds : (file : TzifText) → HoldsOfFile (IsBetween least most) file → IsWithin 93_599 least → IsWithin 93_599 most
      → HasBounds (file_offset file) (file_moment file) least most
  file_bounds file in_file low high = record {
    offsets = file_offset_holds (IsBetween least most) file in_file;
    moments = λ local. read_by local _ (file_reading_holds (IsBetween least most) file in_file local);
    least_short = low;
    most_short = high;
  }

  pub zone_bounds : (zone : ZoneObservances) → ((t : ℤ) → IsBetween least most (zone_offset zone.said.items t)) → IsWithin 93_599 least
      → IsWithin 93_599 most → HasBounds (zone_offset zone.said.items) (zone_moment zone.said.items) least most
  zone_bounds zone between low high = record {
    offsets = between;
    moments = λ local. meant_by (zone_offset zone.said.items) between local (zone_moment zone.said.items local)
        (moment_found (zone_offset zone.said.items) (zone_short zone) local);
    least_short = low;
    most_short = high;
  }

pub fixed_bounds : (offset : Offset) (least most : ℤ) → least ≡ offset.seconds → most ≡ offset.seconds
    → HasBounds (said_offset (jiff_said (Fixed offset))) (said_moment (jiff_said (Fixed offset))) least most
unfolding said_offset said_moment jiff_said
fixed_bounds offset least most low high = record {
  offsets = λ t. (omega (arith, ints, low), omega (arith, ints, high));
  moments = λ local. (omega (arith, ints, high), omega (arith, ints, low));
  least_short = rw low offset.in_range;
  most_short = rw high offset.in_range;
}

pub table_bounds : (table : SharedTable) {least most : ℤ} → HasBounds (file_offset (tzif_view table)) (file_moment (tzif_view table)) least most
    → HasBounds (said_offset (jiff_said (Table table))) (said_moment (jiff_said (Table table))) least most
unfolding said_offset said_moment jiff_said
table_bounds table h = record {
  offsets = h.offsets;
  moments = h.moments;
  least_short = h.least_short;
  most_short = h.most_short;
}

-- what lies between two offsets lies between two that reach as far
pub wider : {least most low high x : ℤ} → low ≤ℤ least → most ≤ℤ high → IsBetween least most x → IsBetween low high x
wider down up b = (omega (arith, ints, b, down), omega (arith, ints, b, up))

-- what holds of those before a place, and of the one there, holds of those up to it
more_hold : {X : Type 0} {P Q : X → Type 0} (items : List X) (d : X) (k : ℕ) → ((x : X) → P x → Q x) → ((j : ℕ) → j < k → P (get_or items j d))
    → Q (get_or items k d) → (j : ℕ) → j < k + 1 → Q (get_or items j d)
more_hold {Q = Q} items d k weaker hold one j l = elim (cases_lt j k) [
  | inl before ↦ weaker (get_or items j d) (hold j before)
  | inr after ↦ subst (λ i. Q (get_or items i d)) (omega (arith, l, after)) one
]

-- the offsets up to one more lie between two that reach as far as it
pub between_more : (items : List ℤ) (k : ℕ) {least most low high : ℤ} → ((j : ℕ) → j < k → IsBetween least most (get_or items j (pos 0)))
    → low ≤ℤ least → most ≤ℤ high → IsBetween low high (get_or items k (pos 0)) → (j : ℕ) → j < k + 1 → IsBetween low high (get_or items j (pos 0))
between_more items k {least = least} {most = most} {low = low} {high = high} between down up =
    more_hold {P = IsBetween least most} {Q = IsBetween low high} items (pos 0) k (λ x. wider down up) between

-- so do those of rows
pub rows_more : (rows : List TransitionText) (k : ℕ) {least most low high : ℤ}
    → ((j : ℕ) → j < k → HoldsOfRow (IsBetween least most) (get_or rows j no_row)) → low ≤ℤ least → most ≤ℤ high
    → HoldsOfRow (IsBetween low high) (get_or rows k no_row) → (j : ℕ) → j < k + 1 → HoldsOfRow (IsBetween low high) (get_or rows j no_row)
rows_more rows k {least = least} {most = most} {low = low} {high = high} between down up =
    more_hold {P = HoldsOfRow (IsBetween least most)} {Q = HoldsOfRow (IsBetween low high)} rows no_row k
    (λ row h. (wider down up h.0, wider down up h.1)) between

-- the row that is read at a place
pub row_read : (items : List Transition) {rows : List TransitionText} (k : ℕ) (row : Transition) → map transition_text items ≡ rows
    → row ≡ get_or items k row → k < length items → get_or rows k no_row ≡ transition_text row
row_read items k row e is l =
    ap (λ rows. get_or rows k no_row) (sym e) ∙ get_or-map transition_text items k row no_row l ∙ ap transition_text (sym is)

-- what holds of all rows that are read, and before them, holds at each place
pub all_rows : (P : ℤ → Type 0) (items : List Transition) (file : TzifText) {n : ℕ} → map transition_text items ≡ file.transitions → length items ≤ n
    → P file.first.seconds → ((k : ℕ) → k < n → HoldsOfRow P (get_or file.transitions k no_row)) → (k : ℕ) → HoldsOfRow P (row_at file k)
all_rows P items file e long first rows k =
    let rest : TransitionText = record { second = pos 0; before = file.first.seconds; after = file.first } in
    let many : length file.transitions ≡ length items = ap length (sym e) ∙ length-map items transition_text in
    elim (cases_lt k (length file.transitions)) [
      | inl l ↦ subst (HoldsOfRow P) (get_or_default file.transitions k no_row rest l) (rows k (omega (arith, l, many, long)))
      | inr l ↦ rw (get_or_past file.transitions k rest l) (first, first)
    ]

-- what holds of the rule that is read
pub rule_read : (P : ℤ → Type 0) (rule : Option TimeZone) {text : Option TzText} → option_map tz_view rule ≡ text
    → MatchOption rule (Unit {0}) (λ rule. HoldsOfRule P (tz_view rule)) → IfSome text (HoldsOfRule P)
rule_read P None e h = subst (λ text. IfSome text (HoldsOfRule P)) e tt
rule_read P (Some rule) e h = subst (λ text. IfSome text (HoldsOfRule P)) e h

-- all that lie in a list that lies between two do so
pub between_all : (items : List ℤ) (k : ℕ) {least most : ℤ} → length items ≤ k → ((j : ℕ) → j < k → IsBetween least most (get_or items j (pos 0)))
    → (x : ℤ) → Contains items x → IsBetween least most x
between_all items k l between x c =
    subst (IsBetween _ _) (get_or_default items c.0 (pos 0) x c.1 ∙ c.2) (between c.0 (omega (arith, l, c.1)))
