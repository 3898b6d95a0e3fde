-- Stretches of the clock of a zone file.
use Rattle.std.proofs.Common.{◌≡◌, ℕ, zero, suc, ◌+◌, ◌-◌, ◌<◌, ◌≤◌, ◌==◌, true, false, List, length, get_or, map, ℤ, ◌-ℤ◌, ◌+ℤ◌, ◌≤ℤ◌, ◌<ℤ◌}
use Rattle.std.proofs.Common.{int_le, Some, None, inl, inr, sym, ap, ◌∙◌, refl, arith}
use Rattle.std.proofs.lemmas.Bool.{and_parts}
use Rattle.std.proofs.lemmas.Bool.Decides.{nat_tests}
use Rattle.std.proofs.lemmas.Int.{int_max_is, int_min_is, ints}
use Rattle.std.proofs.lemmas.List.{get_or_default, length-map}
use Rattle.std.proofs.lemmas.List.Sums.{prefix_len_is}
use Rattle.std.specs.List.{prefix_len}
use Rattle.jiff_core.specs.Calendar.{IsWithin}
use Rattle.jiff_core.specs.declared.offset.Offset.{Offset}
use Rattle.jiff_tz.proofs.TzifLemmas.{row_follows_at, rows_rise, rows_rise_civil, start_le_end, le_yes, le_no}
use Rattle.jiff_tz.specs.PosixText.{tz_view}
use Rattle.jiff_tz.specs.Tzif.{tzif_view}
use Rattle.jiff_tz.specs.TzifReader.{TzifText}
use Rattle.jiff_tz.specs.TzifText.{TransitionText, transition_text, civil_start, civil_end, no_row, row_starts, starts_at}
use Rattle.jiff_tz.specs.declared.posix.TimeZone.{TimeZone}
use Rattle.jiff_tz.specs.declared.tzif.Tzif.{Tzif}
use Rattle.jiff_tz.specs.declared.tzif.transition.Transition.{Transition}
use Rattle.ics_zone.proofs.BoundsLemmas.{row_read}
use Rattle.ics_zone.proofs.Cases.{below_or_at, false_int_lt, int_le_true, less_or_not_z, true_int_lt}
use Rattle.ics_zone.specs.Inner.FileStretches.{left_at, reading_past, IsLastOf, IsStretchAfter}
use Rattle.ics_zone.specs.Stretches.{IsStretch}
use Rattle.ics_zone.specs.ZoneFiles.{row_at, offset_after, count_at, civil_count_at, is_inside, file_offset, file_reading, file_moment}
use Rattle.ics_zone.specs.ZoneSaid.{ByRule, jiff_said, said_moment, said_offset}
use Rattle.ics_zone.specs.declared.jiff_zone.JiffZone.TheVariants.{Fixed, Posix, Table}
use Rattle.ics_zone.specs.declared.shared_table.SharedTable.{SharedTable}
use Rattle.ics_zone.specs.declared.stretch.Stretch.{Stretch}

module _ (z : Tzif) where
  abbrev file : TzifText
  file = tzif_view z

  abbrev rows : List TransitionText
  rows = file.transitions

  pub row_count : (items : List Transition) → map transition_text items ≡ rows → length rows ≡ length items
  row_count items e = ap length (sym e) ∙ length-map items transition_text

  row_is : (k : ℕ) → k < length rows → row_at file k ≡ get_or rows k no_row
  row_is k l = get_or_default rows k _ no_row l

  -- the row that is read at a place
  pub row_there : (items : List Transition) (k : ℕ) (row : Transition) → map transition_text items ≡ rows
      → row ≡ get_or items k row → k < length items → row_at file k ≡ transition_text row
  row_there items k row e is l = row_is k (omega (arith, l, row_count items e)) ∙ row_read items k row e is l

  -- the offset before a transition is the one after those before it
  before_is : (k : ℕ) → k < length rows → (row_at file k).before ≡ offset_after file k
  before_is zero l =
      let some : (length rows == 0) ≡ false = grind (arith, nat_tests) in
      let either : starts_at file.first.seconds rows ≡ true = (and_parts _ _ z.ordered).0 in
      let start : row_starts file.first.seconds (get_or rows 0 no_row) ≡ true = rw some at either in
      let parts = and_parts _ _ start in
      let low : file.first.seconds ≤ℤ (get_or rows 0 no_row).before = int_le_true _ _ parts.0 in
      let high : (get_or rows 0 no_row).before ≤ℤ file.first.seconds = int_le_true _ _ parts.1 in
      let same : (get_or rows 0 no_row).before ≡ file.first.seconds = omega (arith, ints, low, high) in
      rw (row_is zero l) same
  before_is (suc k) l =
      let some : (suc k == 0) ≡ false = grind (arith, nat_tests) in
      let here : k + 1 ≡ suc k = omega arith in
      let back : suc k - 1 ≡ k = omega arith in
      let inside : k < length rows = omega arith in
      let last : k < length rows - 1 = omega arith in
      rw (row_is (suc k) l, some, back, row_is k inside, ← here) (sym (row_follows_at rows (length rows - 1) k (and_parts _ _ z.ordered).1 last).2)

  -- so many rows have a key that is not after x
  module _ (key : TransitionText → ℤ) (rise : (i j : ℕ) → i ≤ j → j < length rows
      → key (get_or rows i no_row) ≤ℤ key (get_or rows j no_row)) where
    counted : (k : ℕ) (x : ℤ) → k ≤ length rows → (0 < k → key (row_at file (k - 1)) ≤ℤ x)
        → (k < length rows → x <ℤ key (row_at file k)) → prefix_len (λ row. int_le (key row) x) rows ≡ k
    counted k x inside low high = prefix_len_is (λ row. int_le (key row) x) rows k no_row inside
        (λ i l.
        let last = rw (row_is (k - 1) (omega arith)) at low (omega arith) in
        le_yes _ x (omega (arith, ints, last, rise i (k - 1) (omega arith) (omega arith))))
        (λ l. le_no _ x (rw (row_is k l) at high l))

  civil_counted : (k : ℕ) (x : ℤ) → k ≤ length rows → (0 < k → civil_start (row_at file (k - 1)) ≤ℤ x)
      → (k < length rows → x <ℤ civil_start (row_at file k)) → civil_count_at file x ≡ k
  civil_counted = counted civil_start (rows_rise_civil file.first.seconds rows z.ordered)

  second_counted : (k : ℕ) (t : ℤ) → k ≤ length rows → (0 < k → (row_at file (k - 1)).second ≤ℤ t)
      → (k < length rows → t <ℤ (row_at file k).second) → count_at file t ≡ k
  second_counted = counted (λ row. row.second) (rows_rise file.first.seconds rows z.ordered)

  outside : (k : ℕ) (x : ℤ) → (0 < k → civil_end (row_at file (k - 1)) ≤ℤ x) → is_inside file k x ≡ false
  outside zero x past = refl
  outside (suc k) x past =
      let some : (suc k == 0) ≡ false = grind (arith, nat_tests) in
      rw some (false_int_lt x _ (past (omega arith)))

  -- the last of so many gaps and folds ends before the next begins
  follows : (k : ℕ) → k < length rows - 1 → civil_end (get_or rows k no_row) ≤ℤ civil_start (get_or rows (k + 1) no_row)
  follows k l = (row_follows_at rows (length rows - 1) k (and_parts _ _ z.ordered).1 l).1

  ends_before : (count : ℕ) → 0 < count → count < length rows → civil_end (row_at file (count - 1)) ≤ℤ civil_start (row_at file count)
  ends_before count some l =
      let on : count - 1 + 1 ≡ count = omega (arith, some) in
      let last : count - 1 < length rows = omega (arith, l) in
      rw (row_is (count - 1) last, row_is count l) (rw on at (follows (count - 1) (omega (arith, some, l))))

  -- a local in the last of so many is read by the offset before it
  inside_read : (count : ℕ) (x : ℤ) → 0 < count → count ≤ length rows → civil_start (row_at file (count - 1)) ≤ℤ x
      → x <ℤ civil_end (row_at file (count - 1)) → file_reading file x ≡ (row_at file (count - 1)).before
  unfolding file_reading
  inside_read count x some inside low high =
      let more : (count == 0) ≡ false = grind (arith, nat_tests) in
      let counted = civil_counted count x inside (λ l. low) (λ l. omega (arith, ints, high, ends_before count some l)) in
      rw (counted, more, true_int_lt x _ high) refl

  -- a local past all of them is read as they say, up to where the next gap begins or the next fold ends
  past_read : (k : ℕ) (x : ℤ) → k ≤ length rows → (0 < k → civil_end (row_at file (k - 1)) ≤ℤ x)
      → (k < length rows → x <ℤ left_at (row_at file k)) → file_reading file x ≡ reading_past file k x
  unfolding file_reading
  past_read k x inside past left = elim (below_or_at k (length rows) inside) [
    | inl l ↦ (elim (less_or_not_z x (civil_start (row_at file k))) [
      | inl less ↦ unread (λ m. less)
      | inr more ↦ (
          let other : (k == length rows) ≡ false = grind (arith, nat_tests) in
          let back : k + 1 - 1 ≡ k = omega arith in
          let read = inside_read (k + 1) x (omega arith) (omega arith) (rw back more) (rw back (omega (arith, ints, left l, int_max_is))) in
          rw (read, back, other) (before_is k l))
    ])
    | inr all ↦ unread (λ m. absurd (omega (arith, all, m)))
  ]
    where
      unread : (k < length rows → x <ℤ civil_start (row_at file k)) → file_reading file x ≡ reading_past file k x
      unread before =
          let counted = civil_counted k x inside (λ l. omega (arith, ints, past l, start_le_end (row_at file (k - 1)))) before in
          rw (counted, outside k x past) refl

  -- the same offsets up to the same end
  pub record HasOffsets (s t : Stretch) : Type 0 where
    pub to : t.to ≡ s.to
    pub offset : t.offset ≡ s.offset
    pub shown : t.shown ≡ s.shown

  -- past the last of so many gaps and folds, and of their transitions
  pub record IsPast (k : ℕ) (s : Stretch) (from : ℤ) : Type 0 where
    pub on : s.from ≤ℤ from
    pub end : 0 < k → civil_end (row_at file (k - 1)) ≤ℤ from
    pub row : 0 < k → ((row_at file (k - 1)).second +ℤ s.offset) ≤ℤ from

  pub stretch_past : (k : ℕ) {s t : Stretch} → k ≤ length rows → IsStretchAfter file k s → HasOffsets s t → IsPast k s t.from
      → IsStretch (file_offset file) (file_moment file) t
  unfolding file_offset
  stretch_past k {s = s} {t = t} inside h same past = record {
    moments = λ x low high.
        let read = past_read k x inside (λ l. omega (arith, ints, past.end l, low)) (λ l. omega (arith, ints, high, same.to, h.ends l)) in
        rw (read, same.offset) (h.stretch.moments x (omega (arith, ints, past.on, low)) (omega (arith, ints, same.to, high)));
    offsets = λ x low high.
        let count = second_counted k (x -ℤ s.offset) inside
        (λ l. omega (arith, ints, past.row l, low))
        (λ l. omega (arith, ints, high, same.to, h.ends l, h.before l)) in
        rw (same.offset, same.shown, count) (h.stretch.offsets x (omega (arith, ints, past.on, low)) (omega (arith, ints, same.to, high)));
    short = rw same.offset h.stretch.short;
    shown_short = rw same.shown h.stretch.shown_short;
  }

  -- locals in a gap, which mean instants at which the clock shows locals of a stretch after it
  pub record IsGapOf (row : TransitionText) (after s : Stretch) : Type 0 where
    pub from : left_at row ≤ℤ s.from
    pub to : s.to ≤ℤ civil_end row
    pub offset : s.offset ≡ row.before
    pub shown : s.shown ≡ after.shown
    pub on : (after.from -ℤ after.offset) ≤ℤ (s.from -ℤ s.offset)
    pub end : (s.to -ℤ s.offset) ≤ℤ (after.to -ℤ after.offset)
    pub short : IsWithin 93_599 s.offset

  pub gap_stretch : (count : ℕ) (row : TransitionText) {after s : Stretch} → IsLastOf file count row → IsStretchAfter file count after
      → IsGapOf row after s → IsStretch (file_offset file) (file_moment file) s
  unfolding file_offset
  gap_stretch count row {after = after} {s = s} last h gap =
      let begins : row.second ≤ℤ (s.from -ℤ s.offset) = omega (arith, ints, gap.from, gap.offset) in
      record {
        moments = λ x low high.
            let read = inside_read count x last.some last.within (rw last.is (omega (arith, ints, low, gap.from, int_min_is)))
            (rw last.is (omega (arith, ints, high, gap.to))) in
            rw (read, last.is, gap.offset) refl;
        offsets = λ x low high.
            let counted = second_counted count (x -ℤ s.offset) last.within (λ l. rw last.is (omega (arith, ints, low, begins)))
            (λ l. omega (arith, ints, high, gap.end, h.ends l, h.before l)) in
            let there = h.stretch.offsets (x -ℤ s.offset +ℤ after.offset) (omega (arith, ints, low, gap.on)) (omega (arith, ints, high, gap.end)) in
            let same : (x -ℤ s.offset +ℤ after.offset) -ℤ after.offset ≡ x -ℤ s.offset = omega (arith, ints) in
            let told = rw same at there in
            rw (counted, gap.shown) told;
        short = gap.short;
        shown_short = rw gap.shown h.stretch.shown_short;
      }

  -- before a transition there is one offset
  pub before_next : (k : ℕ) {s : Stretch} → k < length rows → s.to ≡ left_at (row_at file k)
      → s.offset ≡ (row_at file k).before → s.shown ≡ (row_at file k).before → IsWithin 93_599 s.offset → IsStretchAfter file k s
  before_next k {s = s} l to offset shown short =
      let more : (k == length rows) ≡ false = grind (arith, nat_tests) in
      record {
        stretch = record {
          moments = λ x low high. rw (more, offset, before_is k l) refl;
          offsets = λ x low high. rw (more, shown, before_is k l) refl;
          short = short;
          shown_short = rw (shown, ← offset) short;
        };
        ends = λ m. omega (arith, ints, to);
        before = λ m. offset;
      }

  -- so there is after the table, if it has no rule
  pub after_last : {s : Stretch} → file.rule ≡ None → s.offset ≡ offset_after file (length rows)
      → s.shown ≡ offset_after file (length rows) → IsWithin 93_599 s.offset → IsStretchAfter file (length rows) s
  after_last {s = s} none offset shown short =
      let all : (length rows == length rows) ≡ true = grind (arith, nat_tests) in
      record {
        stretch = record {
          moments = λ x low high. rw (all, none, offset) refl;
          offsets = λ x low high. rw (all, none, shown) refl;
          short = short;
          shown_short = rw (shown, ← offset) short;
        };
        ends = λ m. absurd (omega arith);
        before = λ m. absurd (omega arith);
      }

  -- else it is the rule's
  pub by_rule : (rule : TimeZone) {s : Stretch} → file.rule ≡ Some (tz_view rule)
      → IsStretch (said_offset (ByRule (tz_view rule))) (said_moment (ByRule (tz_view rule))) s
      → IsStretchAfter file (length rows) s
  unfolding said_offset said_moment
  by_rule rule {s = s} some h =
      let all : (length rows == length rows) ≡ true = grind (arith, nat_tests) in
      record {
        stretch = record {
          moments = λ x low high. rw (all, some) (h.moments x low high);
          offsets = λ x low high. rw (all, some) (h.offsets x low high);
          short = h.short;
          shown_short = h.shown_short;
        };
        ends = λ m. absurd (omega arith);
        before = λ m. absurd (omega arith);
      }

pub fixed_stretch : (offset : Offset) (s : Stretch) → s.offset ≡ offset.seconds → s.shown ≡ offset.seconds
    → IsStretch (said_offset (jiff_said (Fixed offset))) (said_moment (jiff_said (Fixed offset))) s
unfolding said_offset said_moment jiff_said
fixed_stretch offset s e shown = record {
  moments = λ x low high. rw e refl;
  offsets = λ x low high. sym shown;
  short = rw e offset.in_range;
  shown_short = rw shown offset.in_range;
}

pub rule_stretch : (rule : TimeZone) {s : Stretch} → IsStretch (said_offset (ByRule (tz_view rule))) (said_moment (ByRule (tz_view rule))) s
    → IsStretch (said_offset (jiff_said (Posix rule))) (said_moment (jiff_said (Posix rule))) s
unfolding jiff_said
rule_stretch rule h = h

pub table_stretch : (table : SharedTable) {s : Stretch} → IsStretch (file_offset (tzif_view table)) (file_moment (tzif_view table)) s
    → IsStretch (said_offset (jiff_said (Table table))) (said_moment (jiff_said (Table table))) s
unfolding said_offset said_moment jiff_said
table_stretch table h = record { moments = h.moments; offsets = h.offsets; short = h.short; shown_short = h.shown_short }
