-- The first two transitions of a year by a rule are when daylight saving time begins and ends in it.
use Rattle.std.proofs.Common.{◌≡◌, ◌⊎◌, ◌<ℤ◌, ◌≤ℤ◌, ◌+ℤ◌, ◌-ℤ◌, ◌*ℤ◌, ◌+◌, ◌-◌, ℕ, suc}
use Rattle.std.proofs.Common.{ℤ, pos, negsuc, Bool, true, false, Option, Some, None, if◌then◌else◌, option_map}
use Rattle.std.proofs.Common.{refl, sym, ap, ap₂, ◌∙◌, arith, inl, inr, int_le, int_lt, ◌&&◌, ◌||◌, unsigned_abs}
use Rattle.std.specs.Int.{int_div_euclid}
use Rattle.std.proofs.lemmas.Bool.{true≢false, and_right, not_from_false}
use Rattle.jiff_core.proofs.SignedLemmas.{signed_arith}
use Rattle.jiff_core.proofs.CalendarLemmas.{day_count-next_year, days_from_civil-day_count, days_in_year_bounds, days_of_months-zero}
use Rattle.jiff_core.specs.Calendar.{IsYear, day_count, day_of_year, days_in_year, days_of_months, days_of_years}
use Rattle.jiff_core.specs.Timestamp.{nanos_of_seconds, IsOffsetSeconds}
use Rattle.jiff_tz.proofs.YearLemmas.{years_within_is}
use Rattle.jiff_tz.specs.Flag.{is_dst}
use Rattle.jiff_tz.specs.PosixRule.{match_some, clamp_to, nanos_per_day, first_day, first_nanosecond, last_nanosecond, rule_day, rule_nanos, utc_window}
use Rattle.jiff_tz.specs.PosixRule.{in_window, ordered, transition_of, first_of_year, next_year, next_by, next_at, dst_info, std_info, saturating_add, int_same}
use Rattle.jiff_tz.specs.PosixText.{dst_view, tz_view}
use Rattle.jiff_tz.specs.Year.{year_of_nanos}
use Rattle.jiff_tz.specs.declared.info.OffsetInfo.{OffsetInfo}
use Rattle.jiff_tz.specs.declared.posix.Dst.{Dst}
use Rattle.jiff_tz.specs.declared.posix.TimeZone.{TimeZone}
use Rattle.ics_zone.specs.Inner.RuleTurns.{first_second, end_second, IsInside, AreShown, AreTurns}
use Rattle.ics_zone.proofs.Cases.{less_or_not_z, true_int_lt, false_int_lt, true_int_le, false_int_le}
use Rattle.ics_zone.proofs.FileLemmas.{window_is}

nonneg_abs : (z : ℤ) → pos 0 ≤ℤ z → pos (unsigned_abs z) ≡ z
nonneg_abs (pos n) h = refl
nonneg_abs (negsuc n) h = absurd (omega (arith, signed_arith, h))

-- the year of an instant that lies in it
pub year_of_instant : (y n : ℤ) → IsYear y → first_nanosecond y ≤ℤ n → n <ℤ nanos_of_seconds (end_second y) → year_of_nanos n ≡ y
unfolding day_count days_of_years
year_of_instant y n h a b =
    let day : ℤ = int_div_euclid n (pos 86_400_000_000_000) in
    let low : first_day y ≤ℤ day = omega (arith, signed_arith, a) in
    let high : day <ℤ (first_day y +ℤ pos (days_in_year y)) = omega (arith, signed_arith, b) in
    let years : ℕ = unsigned_abs (y +ℤ pos 10000) in
    let shifted : pos years ≡ y +ℤ pos 10000 = nonneg_abs (y +ℤ pos 10000) (omega (arith, signed_arith, h)) in
    let this_year : pos years -ℤ pos 10000 ≡ y = omega (arith, signed_arith, shifted) in
    let count = days_from_civil-day_count y 1 1 in
    let of_count : day_count y 1 1 ≡ days_of_years years + (day_of_year y 1 1 - 1) = refl in
    let none : days_of_months y 0 ≡ 0 = days_of_months-zero y in
    let next : days_of_years (suc years) ≡ days_of_years years + days_in_year y = ap (λ z. days_of_years years + days_in_year z) this_year in
    let begun : (pos (days_of_years years) -ℤ pos 4_371_953) ≡ first_day y = omega (arith, signed_arith, count, of_count, none) in
    let index : ℕ = unsigned_abs (day +ℤ pos 4_371_953) in
    let is : pos index ≡ day +ℤ pos 4_371_953 = nonneg_abs (day +ℤ pos 4_371_953) (omega (arith, signed_arith, begun, low)) in
    let within = years_within_is 20000 years index (omega (arith, signed_arith, shifted, h)) (omega (arith, signed_arith, begun, low, is))
    (omega (arith, signed_arith, begun, high, is, next)) in
    ap (λ k. pos k -ℤ pos 10000) within ∙ this_year

-- a year begins where the one before it ends
pub next_begins : (y : ℤ) → IsYear y → first_second (y +ℤ pos 1) ≡ end_second y
next_begins y h =
    let step = day_count-next_year y (y +ℤ pos 1) (omega (arith, signed_arith, h)) refl in
    let count = days_from_civil-day_count y 1 1 in
    let later = days_from_civil-day_count (y +ℤ pos 1) 1 1 in
    omega (arith, signed_arith, step, count, later)

some_same : {A : Type 0} (x y : A) → Some x ≡ Some y → x ≡ y
some_same x y e = ap (λ (o : Option _). match_some o x (λ z. z)) e

some_if : {A : Type 0} (b : Bool) (x y : A) → (if b then Some x else None) ≡ Some y → x ≡ y
some_if true x y e = some_same x y e
some_if false x y e = ap (λ (o : Option _). match_some o x (λ z. y)) e

flag_is : (tz : TimeZone) (d : Dst) (b : Bool) → is_dst (if b then dst_info d else std_info tz).dst ≡ b
flag_is tz d true = refl
flag_is tz d false = refl

-- a transition that is found lies where it was looked for, and its flag tells what begins
found : (tz : TimeZone) (d : Dst) (w : ℤ × ℤ) (n : ℤ) (one : ℤ × OffsetInfo) → transition_of tz d w n ≡ Some one
    → (one.0 ≡ n) × (is_dst one.1.dst ≡ in_window w n)
found tz d w n one e =
    let same : (n, (if in_window w n then dst_info d else std_info tz)) ≡ one = some_if _ _ one e in
    (ap (λ (p : ℤ × OffsetInfo). p.0) (sym same), ap (λ (p : ℤ × OffsetInfo). is_dst p.1.dst) (sym same) ∙ flag_is tz d (in_window w n))

-- a rule's moment does not lie before its year
moment_low : (o : Option ℤ) (y time ahead : ℤ) → first_nanosecond y ≤ℤ match_some o (last_nanosecond y) (λ day.
    clamp_to (first_nanosecond y) (last_nanosecond y) (day *ℤ nanos_per_day +ℤ nanos_of_seconds (time -ℤ ahead)))
moment_low None y time ahead = omega (arith, signed_arith, days_in_year_bounds y)
moment_low (Some day) y time ahead =
    let x : ℤ = day *ℤ nanos_per_day +ℤ nanos_of_seconds (time -ℤ ahead) in
    clamp_low (first_nanosecond y) (last_nanosecond y) x (omega (arith, signed_arith, days_in_year_bounds y))
  where
    clamp_low : (low high x : ℤ) → low ≤ℤ high → low ≤ℤ clamp_to low high x
    clamp_low low high x h = grind (arith, signed_arith)

-- daylight saving time is in force all year
abbrev is_all_year : Dst → ℤ → TimeZone → Bool
is_all_year d y tz =
    let start : ℤ = rule_nanos y d.rule.start tz.std_offset.seconds in
    let shifted : ℤ = saturating_add (rule_nanos y d.rule.end d.offset.seconds) (nanos_of_seconds tz.std_offset.seconds) in
    int_same start (first_nanosecond y) && (int_lt shifted (first_nanosecond y) || int_lt (last_nanosecond y) shifted)

ordered_low : (first a b : ℤ) → first ≤ℤ a → first ≤ℤ b → first ≤ℤ (ordered (a, b)).0
ordered_low first a b h k = grind (arith, signed_arith)

either_low : (c : Bool) (first start last end : ℤ) → first ≤ℤ start → first ≤ℤ last → first ≤ℤ end
    → first ≤ℤ (ordered (if c then (start, last) else (start, end))).0
either_low true first start last end h k l = ordered_low first start last h k
either_low false first start last end h k l = ordered_low first start end h l

-- nor do the moments at which daylight saving time begins and ends
window_low : (d : Dst) (y : ℤ) (tz : TimeZone) → first_nanosecond y ≤ℤ (ordered (utc_window d y tz.std_offset)).0
unfolding utc_window rule_nanos
window_low d y tz =
    let start = moment_low (rule_day y d.rule.start.date) y d.rule.start.time tz.std_offset.seconds in
    let end = moment_low (rule_day y d.rule.end.date) y d.rule.end.time d.offset.seconds in
    let last : first_nanosecond y ≤ℤ last_nanosecond y = omega (arith, signed_arith, days_in_year_bounds y) in
    either_low (is_all_year d y tz) (first_nanosecond y) (rule_nanos y d.rule.start tz.std_offset.seconds) (last_nanosecond y)
    (rule_nanos y d.rule.end d.offset.seconds) start last end

-- where the first transition after an instant of the year lies
data IsNext (w : ℤ × ℤ) (n end : ℤ) (one : ℤ × OffsetInfo) : Type 0 where
  Earlier : n <ℤ (ordered w).0 → one.0 ≡ (ordered w).0 → is_dst one.1.dst ≡ in_window w (ordered w).0 → IsNext w n end one
  Later : (ordered w).0 ≤ℤ n → n <ℤ (ordered w).1 → one.0 ≡ (ordered w).1 → IsNext w n end one
  Beyond : end ≤ℤ one.0 → IsNext w n end one

if_true : {A : Type 0} (p : Bool) (x y : A) → p ≡ true → (if p then x else y) ≡ x
if_true p x y e = rw e refl

if_false : {A : Type 0} (p : Bool) (x y : A) → p ≡ false → (if p then x else y) ≡ y
if_false p x y e = rw e refl

none_or : {A : Type 0} (p : Bool) (o : Option A) (x : A) → (if p then None else o) ≡ Some x → o ≡ Some x
none_or true o x e = absurd (true≢false (ap (λ (o : Option _). match_some o true (λ z. false)) e))
none_or false o x e = e

is_next : (tz : TimeZone) (d : Dst) (y n : ℤ) (one : ℤ × OffsetInfo) → IsYear y → next_by tz d y n ≡ Some one
    → IsNext (utc_window d y tz.std_offset) n (nanos_of_seconds (end_second y)) one
is_next tz d y n one h e =
    let w = utc_window d y tz.std_offset in
    let a : ℤ = (ordered w).0 in
    let b : ℤ = (ordered w).1 in
    let rest = if int_lt n b then transition_of tz d w b else next_year tz d y in
    elim (less_or_not_z n a) [
      | inl l ↦ let at = found tz d w a one (sym (if_true (int_lt n a) (transition_of tz d w a) rest (true_int_lt n a l)) ∙ e) in Earlier l at.0 at.1
      | inr g ↦
          let past : rest ≡ Some one = sym (if_false (int_lt n a) (transition_of tz d w a) rest (false_int_lt n a g)) ∙ e in
          elim (less_or_not_z n b) [
            | inl l ↦
                let at = found tz d w b one (sym (if_true (int_lt n b) (transition_of tz d w b) (next_year tz d y) (true_int_lt n b l)) ∙ past) in
                Later g l at.0
            | inr k ↦
                let year = sym (if_false (int_lt n b) (transition_of tz d w b) (next_year tz d y) (false_int_lt n b k)) ∙ past in
                let later = utc_window d (y +ℤ pos 1) tz.std_offset in
                let at = found tz d later (ordered later).0 one (none_or (int_le (pos 9999) y) (first_of_year tz d (y +ℤ pos 1)) one year) in
                Beyond (omega (arith, signed_arith, at.0, window_low d (y +ℤ pos 1) tz, next_begins y h))
          ]
    ]

-- two transitions that follow each other in a year are the two of the year
two_of_year : (w : ℤ × ℤ) (n end : ℤ) (one two : ℤ × OffsetInfo) → IsNext w n end one → IsNext w one.0 end two → one.0 <ℤ end → two.0 <ℤ end
    → ((ordered w).0 ≡ one.0) × ((ordered w).1 ≡ two.0) × (one.0 <ℤ two.0) × (is_dst one.1.dst ≡ in_window w one.0)
two_of_year w n end one two (Earlier l at flag) (Earlier l₂ at₂ flag₂) in₁ in₂ = absurd (omega (arith, signed_arith, at, l₂))
two_of_year w n end one two (Earlier l at flag) (Later g l₂ at₂) in₁ in₂ =
    (sym at, sym at₂, omega (arith, signed_arith, at₂, l₂), rw at flag)
two_of_year w n end one two (Earlier l at flag) (Beyond b) in₁ in₂ = absurd (omega (arith, signed_arith, b, in₂))
two_of_year w n end one two (Later g l at) (Earlier l₂ at₂ flag₂) in₁ in₂ = absurd (omega (arith, signed_arith, at, g, l, l₂))
two_of_year w n end one two (Later g l at) (Later g₂ l₂ at₂) in₁ in₂ = absurd (omega (arith, signed_arith, at, l₂))
two_of_year w n end one two (Later g l at) (Beyond b) in₁ in₂ = absurd (omega (arith, signed_arith, b, in₂))
two_of_year w n end one two (Beyond b) k in₁ in₂ = absurd (omega (arith, signed_arith, b, in₁))

-- what lies in a window
module _ (begin end n : ℤ) where
  pub in_between : begin ≤ℤ end → begin ≤ℤ n → n <ℤ end → in_window (begin, end) n ≡ true
  in_between h i j = rw (true_int_le begin end h, true_int_le begin n i, true_int_lt n end j) refl

  pub out_before : begin ≤ℤ end → n <ℤ begin → in_window (begin, end) n ≡ false
  out_before h i = rw (true_int_le begin end h, false_int_le begin n i) refl

  pub out_after : begin ≤ℤ end → end ≤ℤ n → in_window (begin, end) n ≡ false
  out_after h i = rw (true_int_le begin end h, false_int_lt n end i) (and_right (int_le begin n) false refl)

  pub in_before : end <ℤ begin → n <ℤ end → in_window (begin, end) n ≡ true
  in_before h i = rw (false_int_le begin end h, false_int_le end n i) refl

  pub in_after : end <ℤ begin → begin ≤ℤ n → in_window (begin, end) n ≡ true
  in_after h i = rw (false_int_le begin end h, false_int_lt n begin i) (not_from_false (int_le end n && false) (and_right (int_le end n) false refl))

  pub out_between : end <ℤ begin → end ≤ℤ n → n <ℤ begin → in_window (begin, end) n ≡ false
  out_between h i j = rw (false_int_le begin end h, true_int_le end n i, true_int_lt n begin j) refl

-- the first moment of a window is its begin if it lies in it
window_of : (a b s t : ℤ) → (ordered (a, b)).0 ≡ s → (ordered (a, b)).1 ≡ t → s <ℤ t
    → (in_window (a, b) s ≡ true → (a ≡ s) × (b ≡ t)) × (in_window (a, b) s ≡ false → (a ≡ t) × (b ≡ s))
window_of a b s t is next l = elim (less_or_not_z b a) [
  | inr le ↦
      let same : ordered (a, b) ≡ (a, b) = if_true (int_le a b) (a, b) (b, a) (true_int_le a b le) in
      let first : a ≡ s = sym (ap (λ (p : ℤ × ℤ). p.0) same) ∙ is in
      let second : b ≡ t = sym (ap (λ (p : ℤ × ℤ). p.1) same) ∙ next in
      let inside = in_between a b s le (omega (arith, signed_arith, first)) (omega (arith, signed_arith, second, l)) in
      (λ e. (first, second), λ e. absurd (true≢false (sym inside ∙ e)))
  | inl lt ↦
      let same : ordered (a, b) ≡ (b, a) = if_false (int_le a b) (a, b) (b, a) (false_int_le a b lt) in
      let first : b ≡ s = sym (ap (λ (p : ℤ × ℤ). p.0) same) ∙ is in
      let second : a ≡ t = sym (ap (λ (p : ℤ × ℤ). p.1) same) ∙ next in
      let outside = out_between a b s lt (omega (arith, signed_arith, first)) (omega (arith, signed_arith, second, l)) in
      (λ e. absurd (true≢false (sym e ∙ outside)), λ e. (second, first))
]

-- a window that ends before the year does has the rule's own moments
plain : (c : Bool) (start end last : ℤ) (w : ℤ × ℤ) → (if c then (start, last) else (start, end)) ≡ w → w.1 <ℤ last → w ≡ (start, end)
plain true start end last w is l = let same = ap (λ (p : ℤ × ℤ). p.1) is in absurd (omega (arith, signed_arith, same, l))
plain false start end last w is l = sym is

plain_window : (d : Dst) (y : ℤ) (tz : TimeZone) → (utc_window d y tz.std_offset).1 <ℤ last_nanosecond y
    → utc_window d y tz.std_offset ≡ (rule_nanos y d.rule.start tz.std_offset.seconds, rule_nanos y d.rule.end d.offset.seconds)
unfolding utc_window
plain_window d y tz l =
    plain (is_all_year d y tz) (rule_nanos y d.rule.start tz.std_offset.seconds) (rule_nanos y d.rule.end d.offset.seconds) (last_nanosecond y)
    (utc_window d y tz.std_offset) refl l

clamp_inner : (low high x at : ℤ) → clamp_to low high x ≡ at → low <ℤ at → at <ℤ high → x ≡ at
clamp_inner low high x at e a b = grind (arith, signed_arith)

pub clamp_same : (low high x : ℤ) → low ≤ℤ x → x ≤ℤ high → clamp_to low high x ≡ x
clamp_same low high x a b = rw (false_int_lt x low a, false_int_lt high x b) refl

-- a moment inside the year is a whole second, and on the clock that shows the rule's time it lies as far ahead as that clock
inside : (o : Option ℤ) (y time ahead local at : ℤ) → IsOffsetSeconds ahead → IsInside y local
    → match_some o (last_nanosecond y) (λ day.
    clamp_to (first_nanosecond y) (last_nanosecond y) (day *ℤ nanos_per_day +ℤ nanos_of_seconds (time -ℤ ahead))) ≡ at
    → local ≡ int_div_euclid at (pos 1_000_000_000) +ℤ ahead
    → (match_some o (last_nanosecond y) (λ day.
    clamp_to (first_nanosecond y) (last_nanosecond y) (day *ℤ nanos_per_day +ℤ nanos_of_seconds (time -ℤ pos 0))) ≡ nanos_of_seconds local)
    × (at ≡ nanos_of_seconds (local -ℤ ahead))
inside None y time ahead local at short within e is = absurd (omega (arith, signed_arith, short, within, e, is))
inside (Some day) y time ahead local at short within e is =
    let low : first_nanosecond y <ℤ at = omega (arith, signed_arith, short, within, is) in
    let high : at <ℤ last_nanosecond y = omega (arith, signed_arith, short, within, is) in
    let x : ℤ = day *ℤ nanos_per_day +ℤ nanos_of_seconds (time -ℤ ahead) in
    let own : x ≡ at = clamp_inner (first_nanosecond y) (last_nanosecond y) x at e low high in
    let exact : at ≡ nanos_of_seconds (local -ℤ ahead) = omega (arith, signed_arith, own, is) in
    let shown : ℤ = day *ℤ nanos_per_day +ℤ nanos_of_seconds (time -ℤ pos 0) in
    let moved : shown ≡ nanos_of_seconds local = omega (arith, signed_arith, own, exact) in
    let kept = clamp_same (first_nanosecond y) (last_nanosecond y) shown (omega (arith, signed_arith, moved, within))
    (omega (arith, signed_arith, moved, within)) in
    (kept ∙ moved, exact)

-- the first two transitions of a year are these: where daylight saving time begins, and where it ends
pub record AreFirst (rule : TimeZone) (d : Dst) (year on off : ℤ) : Type 0 where
  pub own : rule.dst ≡ Some d
  pub year_in : IsYear year
  pub one : ℤ × OffsetInfo
  pub two : ℤ × OffsetInfo
  pub first : next_at rule (first_nanosecond year) ≡ Some one
  pub second : next_at rule one.0 ≡ Some two
  pub order : ((is_dst one.1.dst ≡ true) × (on ≡ one.0) × (off ≡ two.0)) ⊎ ((is_dst one.1.dst ≡ false) × (on ≡ two.0) × (off ≡ one.0))

-- an instant whose local is inside the year is one of the year
of_inside : (y at local ahead : ℤ) → IsOffsetSeconds ahead → IsInside y local → local ≡ int_div_euclid at (pos 1_000_000_000) +ℤ ahead
    → (first_nanosecond y ≤ℤ at) × (at <ℤ nanos_of_seconds (end_second y))
of_inside y at local ahead short within is = (omega (arith, signed_arith, short, within, is), omega (arith, signed_arith, short, within, is))

module _ {rule : TimeZone} {d : Dst} {y on off begin end : ℤ} (turns : AreFirst rule d y on off)
    (shown : AreShown y on off rule.std_offset.seconds d.offset.seconds begin end) where
  next_of : (n : ℤ) (one : ℤ × OffsetInfo) → first_nanosecond y ≤ℤ n → n <ℤ nanos_of_seconds (end_second y) → next_at rule n ≡ Some one
      → next_by rule d y n ≡ Some one
  next_of n one low high e =
      sym (ap₂ (λ (o : Option Dst) (year : ℤ). match_some o None (λ d. next_by rule d year n)) turns.own (year_of_instant y n turns.year_in low high)) ∙ e

  by_window : utc_window d y rule.std_offset ≡ (on, off) → AreTurns (tz_view rule) (dst_view d) y begin end
  unfolding rule_nanos
  by_window is =
      let before : off <ℤ last_nanosecond y = omega (arith, signed_arith, d.offset.in_range, shown.end_in, shown.ends) in
      let whole = plain_window d y rule (rw is before) in
      let both = sym whole ∙ is in
      let start = inside (rule_day y d.rule.start.date) y d.rule.start.time rule.std_offset.seconds begin on rule.std_offset.in_range shown.begin_in
      (ap (λ (p : ℤ × ℤ). p.0) both) shown.begins in
      let finish = inside (rule_day y d.rule.end.date) y d.rule.end.time d.offset.seconds end off d.offset.in_range shown.end_in
      (ap (λ (p : ℤ × ℤ). p.1) both) shown.ends in
      record {
        own = ap (option_map dst_view) turns.own;
        year_in = turns.year_in;
        starts = start.0;
        ends = finish.0;
        window = window_is y d rule.std_offset ∙ is ∙ ap₂ (λ (a b : ℤ). (a, b)) start.1 finish.1;
        begin_in = shown.begin_in;
        end_in = shown.end_in;
        apart = shown.apart;
      }

  -- daylight saving time begins and ends there
  pub turns_by : AreTurns (tz_view rule) (dst_view d) y begin end
  turns_by =
      let w = utc_window d y rule.std_offset in
      let one = turns.one in
      let two = turns.two in
      let final = nanos_of_seconds (end_second y) in
      let on_in = of_inside y on begin rule.std_offset.seconds rule.std_offset.in_range shown.begin_in shown.begins in
      let off_in = of_inside y off end d.offset.seconds d.offset.in_range shown.end_in shown.ends in
      let begun : first_nanosecond y <ℤ final = omega (arith, signed_arith, days_in_year_bounds y) in
      let first = is_next rule d y (first_nanosecond y) one turns.year_in (next_of (first_nanosecond y) one (omega (arith, signed_arith)) begun turns.first) in
      elim turns.order [
        | inl k ↦
            let low : first_nanosecond y ≤ℤ one.0 = rw (← k.1) on_in.0 in
            let high : one.0 <ℤ final = rw (← k.1) on_in.1 in
            let later : two.0 <ℤ final = rw (← k.2) off_in.1 in
            let second = is_next rule d y one.0 two turns.year_in (next_of one.0 two low high turns.second) in
            let at = two_of_year w (first_nanosecond y) final one two first second high later in
            let same = (window_of w.0 w.1 one.0 two.0 at.0 at.1 at.2).0 (sym at.3 ∙ k.0) in
            by_window (ap₂ (λ (a b : ℤ). (a, b)) (same.0 ∙ sym k.1) (same.1 ∙ sym k.2))
        | inr k ↦
            let low : first_nanosecond y ≤ℤ one.0 = rw (← k.2) off_in.0 in
            let high : one.0 <ℤ final = rw (← k.2) off_in.1 in
            let later : two.0 <ℤ final = rw (← k.1) on_in.1 in
            let second = is_next rule d y one.0 two turns.year_in (next_of one.0 two low high turns.second) in
            let at = two_of_year w (first_nanosecond y) final one two first second high later in
            let same = (window_of w.0 w.1 one.0 two.0 at.0 at.1 at.2).1 (sym at.3 ∙ k.0) in
            by_window (ap₂ (λ (a b : ℤ). (a, b)) (same.0 ∙ sym k.1) (same.1 ∙ sym k.2))
      ]
