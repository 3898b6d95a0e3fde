-- Between the moments at which daylight saving time begins and ends by a rule, a clock keeps one offset.
use Rattle.std.proofs.Common.{◌≡◌, ◌<ℤ◌, ◌≤ℤ◌, ◌+ℤ◌, ◌-ℤ◌, ℤ, pos, Bool, true, false, Option, Some, None, IfSome, if◌then◌else◌}
use Rattle.std.proofs.Common.{refl, sym, ap, ap₂, ◌∙◌, arith, inl, inr, int_le}
use Rattle.std.proofs.lemmas.Bool.{and_right}
use Rattle.jiff_core.proofs.SignedLemmas.{signed_arith}
use Rattle.jiff_core.specs.Calendar.{IsYear}
use Rattle.jiff_core.specs.Timestamp.{nanos_of_seconds, IsOffsetSeconds}
use Rattle.jiff_tz.proofs.YearLemmas.{year_end_bound, year_start_bound}
use Rattle.jiff_tz.specs.PosixRule.{civil_max, civil_min, in_span, in_window, saturating_add, saturating_sub}
use Rattle.jiff_tz.specs.PosixText.{DstText, TzText}
use Rattle.jiff_tz.specs.Year.{year_of_nanos}
use Rattle.ics_zone.specs.Inner.RuleTurns.{first_second, end_second, AreTurns}
use Rattle.ics_zone.specs.Stretches.{IsStretch}
use Rattle.ics_zone.specs.ZoneFiles.{rule_moment, daylight_window, standard_type, daylight_type, type_by, rule_type, rule_reading, compatible_by, shift}
use Rattle.ics_zone.specs.ZoneSaid.{ZoneSaid, said_moment, said_offset}
use Rattle.ics_zone.specs.declared.stretch.Stretch.{Stretch}
use Rattle.ics_zone.proofs.Cases.{less_or_not_z, true_int_lt, false_int_lt, false_int_le}
use Rattle.ics_zone.proofs.RuleTurnLemmas.{clamp_same, in_after, in_before, in_between, next_begins, out_after, out_before, out_between, year_of_instant}

span_out : (low high n : ℤ) → (low ≤ℤ n → high ≤ℤ n) → in_span low high n ≡ false
span_out low high n h = elim (less_or_not_z n low) [
  | inl l ↦ rw (false_int_le low n l) refl
  | inr g ↦ rw (false_int_lt n high (h g)) (and_right (int_le low n) false refl)
]

same_if : (b : Bool) (x : ℤ) → (if b then x else x) ≡ x
same_if true x = refl
same_if false x = refl

-- the offset by which a local is read, inside the window and outside it
module _ (standard daylight begin end local : ℤ) where
  daylight_read : in_window (begin, end) local ≡ true → (begin ≤ℤ local → saturating_add begin (shift standard daylight) ≤ℤ local)
      → compatible_by standard daylight (begin, end) local ≡ daylight
  daylight_read w out = elim (less_or_not_z daylight standard) [
    | inl l ↦ rw (true_int_lt daylight standard l, w) refl
    | inr g ↦ elim (less_or_not_z standard daylight) [
      | inl l ↦ rw (
        false_int_lt daylight standard g,
        true_int_lt standard daylight l,
        w,
        span_out begin (saturating_add begin (shift standard daylight)) local out,
      ) refl
      | inr k ↦ rw (false_int_lt daylight standard g, false_int_lt standard daylight k) (omega (arith, signed_arith, g, k))
    ]
  ]

  standard_read : in_window (begin, end) local ≡ false → (end ≤ℤ local → saturating_sub end (shift standard daylight) ≤ℤ local)
      → compatible_by standard daylight (begin, end) local ≡ standard
  standard_read w out = elim (less_or_not_z daylight standard) [
    | inl l ↦ rw (true_int_lt daylight standard l, w, span_out end (saturating_sub end (shift standard daylight)) local out)
        (same_if (in_span (saturating_add begin (shift standard daylight)) begin local) standard)
    | inr g ↦ elim (less_or_not_z standard daylight) [
      | inl l ↦ rw (false_int_lt daylight standard g, true_int_lt standard daylight l, w) refl
      | inr k ↦ rw (false_int_lt daylight standard g, false_int_lt standard daylight k) refl
    ]
  ]

-- what lies in a window of whole seconds
module _ (begin end n : ℤ) where
  abbrev window : ℤ × ℤ
  window = (nanos_of_seconds begin, nanos_of_seconds end)

  inside : begin ≤ℤ end → begin ≤ℤ n → n <ℤ end → in_window window (nanos_of_seconds n) ≡ true
  inside h i j = in_between (nanos_of_seconds begin) (nanos_of_seconds end) (nanos_of_seconds n) (omega (arith, signed_arith, h))
      (omega (arith, signed_arith, i)) (omega (arith, signed_arith, j))

  not_yet : begin ≤ℤ end → n <ℤ begin → in_window window (nanos_of_seconds n) ≡ false
  not_yet h i = out_before (nanos_of_seconds begin) (nanos_of_seconds end) (nanos_of_seconds n) (omega (arith, signed_arith, h))
      (omega (arith, signed_arith, i))

  past : begin ≤ℤ end → end ≤ℤ n → in_window window (nanos_of_seconds n) ≡ false
  past h i = out_after (nanos_of_seconds begin) (nanos_of_seconds end) (nanos_of_seconds n) (omega (arith, signed_arith, h))
      (omega (arith, signed_arith, i))

  in_to_end : end <ℤ begin → n <ℤ end → in_window window (nanos_of_seconds n) ≡ true
  in_to_end h i = in_before (nanos_of_seconds begin) (nanos_of_seconds end) (nanos_of_seconds n) (omega (arith, signed_arith, h))
      (omega (arith, signed_arith, i))

  in_from_begin : end <ℤ begin → begin ≤ℤ n → in_window window (nanos_of_seconds n) ≡ true
  in_from_begin h i = in_after (nanos_of_seconds begin) (nanos_of_seconds end) (nanos_of_seconds n) (omega (arith, signed_arith, h))
      (omega (arith, signed_arith, i))

  out_of : end <ℤ begin → end ≤ℤ n → n <ℤ begin → in_window window (nanos_of_seconds n) ≡ false
  out_of h i j = out_between (nanos_of_seconds begin) (nanos_of_seconds end) (nanos_of_seconds n) (omega (arith, signed_arith, h))
      (omega (arith, signed_arith, i)) (omega (arith, signed_arith, j))

seconds_if : (rule : TzText) (dst : DstText) (b : Bool)
    → (if b then daylight_type dst else standard_type rule).seconds ≡ (if b then dst.seconds else rule.std_seconds)
seconds_if rule dst true = refl
seconds_if rule dst false = refl

-- a local is read by an offset if it is of the year, and the clock has the offset at the instant if that is of the year
record Says (rule : TzText) (year local offset : ℤ) : Type 0 where
  reads : first_second year ≤ℤ local → local <ℤ end_second year → rule_reading rule.std_seconds rule.dst (nanos_of_seconds local) ≡ offset
  has : first_second year ≤ℤ (local -ℤ offset) → (local -ℤ offset) <ℤ end_second year
      → (rule_type rule (nanos_of_seconds (local -ℤ offset))).seconds ≡ offset

-- the offsets of a rule are less than 26 hours
pub record AreShort (rule : TzText) (dst : DstText) : Type 0 where
  pub standard : IsOffsetSeconds rule.std_seconds
  pub daylight : IsOffsetSeconds dst.seconds

module _ (rule : TzText) (dst : DstText) (year begin end : ℤ) (h : AreTurns rule dst year begin end) (short : AreShort rule dst) where
  type_in : (t : ℤ) → first_second year ≤ℤ t → t <ℤ end_second year → (rule_type rule (nanos_of_seconds t)).seconds
      ≡ (if in_window (nanos_of_seconds (begin -ℤ rule.std_seconds), nanos_of_seconds (end -ℤ dst.seconds)) (nanos_of_seconds t) then dst.seconds
      else rule.std_seconds)
  type_in t low high =
      let of_year = year_of_instant year (nanos_of_seconds t) h.year_in (omega (arith, signed_arith, low)) (omega (arith, signed_arith, high)) in
      ap (λ (o : Option DstText). (type_by rule o (nanos_of_seconds t)).seconds) h.own
      ∙ seconds_if rule dst (in_window (daylight_window (year_of_nanos (nanos_of_seconds t)) rule.std_seconds dst) (nanos_of_seconds t))
      ∙ ap (λ (w : ℤ × ℤ). if in_window w (nanos_of_seconds t) then dst.seconds else rule.std_seconds)
      (ap (λ (y : ℤ). daylight_window y rule.std_seconds dst) of_year ∙ h.window)

  reading_in : (local : ℤ) → first_second year ≤ℤ local → local <ℤ end_second year → rule_reading rule.std_seconds rule.dst (nanos_of_seconds local)
      ≡ compatible_by rule.std_seconds dst.seconds (nanos_of_seconds begin, nanos_of_seconds end) (nanos_of_seconds local)
  reading_in local low high =
      let of_year = year_of_instant year (nanos_of_seconds local) h.year_in (omega (arith, signed_arith, low)) (omega (arith, signed_arith, high)) in
      ap (λ (o : Option DstText). rule_reading rule.std_seconds o (nanos_of_seconds local)) h.own
      ∙ ap (λ (y : ℤ). compatible_by rule.std_seconds dst.seconds (rule_moment y (pos 0) dst.start, rule_moment y (pos 0) dst.finish) (nanos_of_seconds local))
      of_year
      ∙ ap₂ (λ (a b : ℤ). compatible_by rule.std_seconds dst.seconds (a, b) (nanos_of_seconds local)) h.starts h.ends

  begin_shifted : saturating_add (nanos_of_seconds begin) (shift rule.std_seconds dst.seconds) ≡ nanos_of_seconds (begin +ℤ (dst.seconds -ℤ rule.std_seconds))
  begin_shifted =
      let low = year_start_bound year h.year_in in
      let high = year_end_bound year h.year_in in
      let x : ℤ = nanos_of_seconds begin +ℤ shift rule.std_seconds dst.seconds in
      clamp_same civil_min civil_max x (omega (arith, signed_arith, low, h.begin_in, short.standard, short.daylight))
      (omega (arith, signed_arith, high, h.begin_in, short.standard, short.daylight)) ∙ omega (arith, signed_arith)

  end_shifted : saturating_sub (nanos_of_seconds end) (shift rule.std_seconds dst.seconds) ≡ nanos_of_seconds (end -ℤ (dst.seconds -ℤ rule.std_seconds))
  end_shifted =
      let low = year_start_bound year h.year_in in
      let high = year_end_bound year h.year_in in
      let x : ℤ = nanos_of_seconds end -ℤ shift rule.std_seconds dst.seconds in
      clamp_same civil_min civil_max x (omega (arith, signed_arith, low, h.end_in, short.standard, short.daylight))
      (omega (arith, signed_arith, high, h.end_in, short.standard, short.daylight)) ∙ omega (arith, signed_arith)

  -- in daylight saving time by the local and by the instant
  says_daylight : (local : ℤ) → in_window (nanos_of_seconds begin, nanos_of_seconds end) (nanos_of_seconds local) ≡ true
      → (begin ≤ℤ local → (begin +ℤ (dst.seconds -ℤ rule.std_seconds)) ≤ℤ local)
      → in_window (nanos_of_seconds (begin -ℤ rule.std_seconds), nanos_of_seconds (end -ℤ dst.seconds)) (nanos_of_seconds (local -ℤ dst.seconds)) ≡ true
      → Says rule year local dst.seconds
  says_daylight local w out k = record {
    reads = λ low high. reading_in local low high
        ∙ daylight_read rule.std_seconds dst.seconds (nanos_of_seconds begin) (nanos_of_seconds end) (nanos_of_seconds local) w
        (λ g. rw begin_shifted (let far = out (omega (arith, signed_arith, g)) in omega (arith, signed_arith, far)));
    has = λ low high. type_in (local -ℤ dst.seconds) low high ∙ rw k refl;
  }

  says_standard : (local : ℤ) → in_window (nanos_of_seconds begin, nanos_of_seconds end) (nanos_of_seconds local) ≡ false
      → (end ≤ℤ local → (end -ℤ (dst.seconds -ℤ rule.std_seconds)) ≤ℤ local)
      → in_window (nanos_of_seconds (begin -ℤ rule.std_seconds), nanos_of_seconds (end -ℤ dst.seconds)) (nanos_of_seconds (local -ℤ rule.std_seconds)) ≡ false
      → Says rule year local rule.std_seconds
  says_standard local w out k = record {
    reads = λ low high. reading_in local low high
        ∙ standard_read rule.std_seconds dst.seconds (nanos_of_seconds begin) (nanos_of_seconds end) (nanos_of_seconds local) w
        (λ g. rw end_shifted (let far = out (omega (arith, signed_arith, g)) in omega (arith, signed_arith, far)));
    has = λ low high. type_in (local -ℤ rule.std_seconds) low high ∙ rw k refl;
  }

  -- daylight saving time that ends in the year in which it begins
  module _ (l : begin <ℤ end) where
    far : (begin +ℤ pos 259_200) ≤ℤ end
    far = elim h.apart [ inl k ↦ omega (arith, signed_arith, k) | inr k ↦ absurd (omega (arith, signed_arith, k, l)) ]

    in_year_between : (local : ℤ) → begin ≤ℤ local → (begin +ℤ (dst.seconds -ℤ rule.std_seconds)) ≤ℤ local → local <ℤ end → Says rule year local dst.seconds
    in_year_between local a b c = says_daylight local
        (inside begin end local (omega (arith, signed_arith, l)) a c)
        (λ g. b)
        (inside (begin -ℤ rule.std_seconds) (end -ℤ dst.seconds) (local -ℤ dst.seconds) (omega (arith, signed_arith, b, c)) (omega (arith, signed_arith, b))
        (omega (arith, signed_arith, c)))

    in_year_before : (local : ℤ) → local <ℤ begin → Says rule year local rule.std_seconds
    in_year_before local a = says_standard local
        (not_yet begin end local (omega (arith, signed_arith, l)) a)
        (λ g. absurd (omega (arith, signed_arith, g, a, l)))
        (not_yet (begin -ℤ rule.std_seconds) (end -ℤ dst.seconds) (local -ℤ rule.std_seconds)
        (omega (arith, signed_arith, far, short.standard, short.daylight)) (omega (arith, signed_arith, a)))

    in_year_after : (local : ℤ) → end ≤ℤ local → (end -ℤ (dst.seconds -ℤ rule.std_seconds)) ≤ℤ local → Says rule year local rule.std_seconds
    in_year_after local a b = says_standard local
        (past begin end local (omega (arith, signed_arith, l)) a)
        (λ g. b)
        (past (begin -ℤ rule.std_seconds) (end -ℤ dst.seconds) (local -ℤ rule.std_seconds)
        (omega (arith, signed_arith, far, short.standard, short.daylight)) (omega (arith, signed_arith, b)))

  -- and that which runs across the new year
  module _ (l : end <ℤ begin) where
    away : (end +ℤ pos 259_200) ≤ℤ begin
    away = elim h.apart [ inl k ↦ absurd (omega (arith, signed_arith, k, l)) | inr k ↦ omega (arith, signed_arith, k) ]

    across_between : (local : ℤ) → end ≤ℤ local → (end -ℤ (dst.seconds -ℤ rule.std_seconds)) ≤ℤ local → local <ℤ begin → Says rule year local rule.std_seconds
    across_between local a b c = says_standard local
        (out_of begin end local l a c)
        (λ g. b)
        (out_of (begin -ℤ rule.std_seconds) (end -ℤ dst.seconds) (local -ℤ rule.std_seconds)
        (omega (arith, signed_arith, away, short.standard, short.daylight)) (omega (arith, signed_arith, b)) (omega (arith, signed_arith, c)))

    across_before : (local : ℤ) → local <ℤ end → Says rule year local dst.seconds
    across_before local a = says_daylight local
        (in_to_end begin end local l a)
        (λ g. absurd (omega (arith, signed_arith, g, a, l)))
        (in_to_end (begin -ℤ rule.std_seconds) (end -ℤ dst.seconds) (local -ℤ dst.seconds)
        (omega (arith, signed_arith, away, short.standard, short.daylight)) (omega (arith, signed_arith, a)))

    across_after : (local : ℤ) → begin ≤ℤ local → (begin +ℤ (dst.seconds -ℤ rule.std_seconds)) ≤ℤ local → Says rule year local dst.seconds
    across_after local a b = says_daylight local
        (in_from_begin begin end local l a)
        (λ g. b)
        (in_from_begin (begin -ℤ rule.std_seconds) (end -ℤ dst.seconds) (local -ℤ dst.seconds)
        (omega (arith, signed_arith, away, short.standard, short.daylight)) (omega (arith, signed_arith, b)))

-- the clock shows the locals of a stretch by this offset
pub record IsBy (s : Stretch) (offset : ℤ) : Type 0 where
  pub read : s.offset ≡ offset
  pub shown : s.shown ≡ offset

-- a stretch of locals that a year says, 26 hours or more away from the year's ends
module _ (rule : TzText) (year : ℤ) (s : Stretch) (offset : ℤ) (same : IsBy s offset) (short : IsOffsetSeconds offset) where
  one_year : (first_second year +ℤ pos 93_599) ≤ℤ s.from → (s.to +ℤ pos 93_599) ≤ℤ end_second year
      → ((local : ℤ) → s.from ≤ℤ local → local <ℤ s.to → Says rule year local offset)
      → IsStretch (said_offset (ZoneSaid.ByRule rule)) (said_moment (ZoneSaid.ByRule rule)) s
  unfolding said_offset said_moment
  one_year low high says = record {
    moments = λ local a b. rw same.read (ap (λ x. local -ℤ x)
        ((says local a b).reads (omega (arith, signed_arith, low, a)) (omega (arith, signed_arith, high, b))));
    offsets = λ local a b. rw (same.read, same.shown)
        ((says local a b).has (omega (arith, signed_arith, low, a, short)) (omega (arith, signed_arith, high, b, short)));
    short = rw same.read short;
    shown_short = rw same.shown short;
  }

  two_years : IsYear year → (first_second year +ℤ pos 93_599) ≤ℤ s.from → (s.to +ℤ pos 93_599) ≤ℤ end_second (year +ℤ pos 1)
      → ((local : ℤ) → s.from ≤ℤ local → local <ℤ s.to → Says rule year local offset × Says rule (year +ℤ pos 1) local offset)
      → IsStretch (said_offset (ZoneSaid.ByRule rule)) (said_moment (ZoneSaid.ByRule rule)) s
  unfolding said_offset said_moment
  two_years year_in low high says =
      let turn = next_begins year year_in in
      record {
        moments = λ local a b. rw same.read (ap (λ x. local -ℤ x) (elim (less_or_not_z local (end_second year)) [
          | inl l ↦ (says local a b).0.reads (omega (arith, signed_arith, low, a)) l
          | inr g ↦ (says local a b).1.reads (omega (arith, signed_arith, turn, g)) (omega (arith, signed_arith, high, b))
        ]));
        offsets = λ local a b. rw (same.read, same.shown) (elim (less_or_not_z (local -ℤ offset) (end_second year)) [
          | inl l ↦ (says local a b).0.has (omega (arith, signed_arith, low, a, short)) l
          | inr g ↦ (says local a b).1.has (omega (arith, signed_arith, turn, g)) (omega (arith, signed_arith, high, b, short))
        ]);
        short = rw same.read short;
        shown_short = rw same.shown short;
      }

-- a stretch by an offset from a local on, and from the one that many seconds after it, and before another
pub record Reaches (s : Stretch) (offset from seconds to : ℤ) : Type 0 where
  pub own : IsBy s offset
  pub low : from ≤ℤ s.from
  pub moved : (from +ℤ seconds) ≤ℤ s.from
  pub high : s.to ≤ℤ to

module _ {rule : TzText} {dst : DstText} {year begin end : ℤ} {s : Stretch} (h : AreTurns rule dst year begin end) (short : AreShort rule dst) where
  -- the stretch between the two of a year
  pub daylight_between : begin <ℤ end → Reaches s dst.seconds begin (dst.seconds -ℤ rule.std_seconds) end
      → IsStretch (said_offset (ZoneSaid.ByRule rule)) (said_moment (ZoneSaid.ByRule rule)) s
  daylight_between l r = one_year rule year s dst.seconds r.own short.daylight
      (omega (arith, signed_arith, r.low, h.begin_in)) (omega (arith, signed_arith, r.high, h.end_in))
      (λ local a b. in_year_between rule dst year begin end h short l local (omega (arith, signed_arith, r.low, a)) (omega (arith, signed_arith, r.moved, a))
      (omega (arith, signed_arith, r.high, b)))

  pub standard_between : end ≤ℤ begin → Reaches s rule.std_seconds end (rule.std_seconds -ℤ dst.seconds) begin
      → IsStretch (said_offset (ZoneSaid.ByRule rule)) (said_moment (ZoneSaid.ByRule rule)) s
  standard_between le r =
      let l : end <ℤ begin = elim h.apart [ inl k ↦ absurd (omega (arith, signed_arith, k, le)) | inr k ↦ omega (arith, signed_arith, k) ] in
      one_year rule year s rule.std_seconds r.own short.standard (omega (arith, signed_arith, r.low, h.end_in))
      (omega (arith, signed_arith, r.high, h.begin_in))
      (λ local a b. across_between rule dst year begin end h short l local (omega (arith, signed_arith, r.low, a)) (omega (arith, signed_arith, r.moved, a))
      (omega (arith, signed_arith, r.high, b)))

  -- and that from the later of the two to the earlier of the year after
  module _ {begin₂ end₂ : ℤ} (h₂ : AreTurns rule dst (year +ℤ pos 1) begin₂ end₂) where
    pub standard_over : begin <ℤ end → begin₂ <ℤ end₂ → Reaches s rule.std_seconds end (rule.std_seconds -ℤ dst.seconds) begin₂
        → IsStretch (said_offset (ZoneSaid.ByRule rule)) (said_moment (ZoneSaid.ByRule rule)) s
    standard_over l l₂ r = two_years rule year s rule.std_seconds r.own short.standard h.year_in
        (omega (arith, signed_arith, r.low, h.end_in)) (omega (arith, signed_arith, r.high, h₂.begin_in))
        (λ local a b. (
          in_year_after rule dst year begin end h short l local (omega (arith, signed_arith, r.low, a)) (omega (arith, signed_arith, r.moved, a)),
          in_year_before rule dst (year +ℤ pos 1) begin₂ end₂ h₂ short l₂ local (omega (arith, signed_arith, r.high, b)),
        ))

    pub daylight_over : end <ℤ begin → end₂ <ℤ begin₂ → Reaches s dst.seconds begin (dst.seconds -ℤ rule.std_seconds) end₂
        → IsStretch (said_offset (ZoneSaid.ByRule rule)) (said_moment (ZoneSaid.ByRule rule)) s
    daylight_over l l₂ r = two_years rule year s dst.seconds r.own short.daylight h.year_in
        (omega (arith, signed_arith, r.low, h.begin_in)) (omega (arith, signed_arith, r.high, h₂.end_in))
        (λ local a b. (
          across_after rule dst year begin end h short l local (omega (arith, signed_arith, r.low, a)) (omega (arith, signed_arith, r.moved, a)),
          across_before rule dst (year +ℤ pos 1) begin₂ end₂ h₂ short l₂ local (omega (arith, signed_arith, r.high, b)),
        ))

-- without daylight saving time the clock has one offset
pub constant : (rule : TzText) (s : Stretch) → rule.dst ≡ None → IsBy s rule.std_seconds → IsOffsetSeconds rule.std_seconds
    → IsStretch (said_offset (ZoneSaid.ByRule rule)) (said_moment (ZoneSaid.ByRule rule)) s
unfolding said_offset said_moment
constant rule s none same short = record {
  moments = λ local a b. ap (λ (o : Option DstText). local -ℤ rule_reading rule.std_seconds o (nanos_of_seconds local)) none
      ∙ ap (λ x. local -ℤ x) (sym same.read);
  offsets = λ local a b. ap (λ (o : Option DstText). (type_by rule o (nanos_of_seconds (local -ℤ s.offset))).seconds) none ∙ sym same.shown;
  short = rw same.read short;
  shown_short = rw same.shown short;
}

pub if_some : {A : Type 0} (P Q : A → Type 0) (o : Option A) → ((a : A) → P a → Q a) → IfSome o P → IfSome o Q
if_some P Q None f h = tt
if_some P Q (Some a) f h = f a h
