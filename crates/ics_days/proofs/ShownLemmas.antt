-- The locals that a clock shows from an instant on, and up to one, where a stretch is known about the local at that instant.
use Rattle.std.proofs.Common.{◌≡◌, ℤ, pos, ◌+ℤ◌, ◌-ℤ◌, ⊎_elim, true, sym, ap, ◌∙◌, arith, ◌<ℤ◌, ◌≤ℤ◌, int_le, int_lt, int_eq, ◌&&◌, SFits, to_z, of_z, w64}
use Rattle.std.specs.Int.{int_max, int_min}
use Rattle.std.proofs.lemmas.Int.{int_max_is, int_min_is, ints}
use Rattle.std.proofs.lemmas.Bool.{and_parts}
use Rattle.ics_zone.specs.Seconds.{IsMoment, IsNear}
use Rattle.ics_zone.specs.declared.stretch.Stretch.{Stretch}
use Rattle.ics_zone.proofs.Cases.{int_le_true, int_lt_true, less_or_not_z}
use Rattle.ics_listing.specs.FileClocks.{Clock}
use Rattle.ics_listing.specs.declared.window.Window.{Window}
use Rattle.ics_listing.specs.WindowBounds.{occurrence_first, occurrence_end}
use Rattle.ics_listing.proofs.Cases.{equal-true}
use Rattle.ics_starts.specs.Clocks.{IsStretched, is_in, local_at}

-- a clock shows a local at an instant, and a stretch of its has the local and means that instant by it
pub record IsShown (clock : Clock) (s : Stretch) (local moment : ℤ) : Type 0 where
  pub stretch : IsStretched clock s
  pub shows : local ≡ local_at clock moment
  pub at : local -ℤ s.offset ≡ moment
  pub low : s.from ≤ℤ local
  pub high : local <ℤ s.to

pub is-shown : (clock : Clock) (s : Stretch) {local moment : ℤ} → IsStretched clock s → local ≡ local_at clock moment
    → (is_in s local && int_eq (local -ℤ s.offset) moment) ≡ true → IsShown clock s local moment
is-shown clock s {local = local} {moment = moment} stretch shows e =
    let both = and_parts (is_in s local) (int_eq (local -ℤ s.offset) moment) e in
    let within = and_parts (int_le s.from local) (int_lt local s.to) both.0 in
    record {
      stretch = stretch;
      shows = shows;
      at = equal-true (local -ℤ s.offset) moment both.1;
      low = int_le_true s.from local within.0;
      high = int_lt_true local s.to within.1;
    }

-- at the instants of a stretch's locals a clock has its offset
pub offset-in : {clock : Clock} {s : Stretch} → IsStretched clock s → (t : ℤ) → s.from ≤ℤ (t +ℤ s.offset) → (t +ℤ s.offset) <ℤ s.to
    → clock.offset t ≡ s.shown
offset-in {clock = clock} {s = s} stretch t from to =
    let same : (t +ℤ s.offset) -ℤ s.offset ≡ t = omega (arith, ints) in
    sym (ap clock.offset same) ∙ stretch.offsets (t +ℤ s.offset) from to

-- what a clock shows at an instant of those years
moment-shown : {local moment offset : ℤ} → local ≡ moment +ℤ offset → IsNear offset → occurrence_first ≤ℤ moment → moment <ℤ occurrence_end
    → IsMoment local
moment-shown shows short early late = (omega (arith, ints, shows, short, early, late), omega (arith, ints, shows, short, early, late))

-- the first instant of a window, and the last, are of those years, and fit
pub first-instant : (w : Window) → (to_z w64 (of_z w64 w.from) ≡ w.from) × ((occurrence_first ≤ℤ w.from) × (w.from <ℤ occurrence_end))
first-instant w = (
  omega (arith, ints, w.ordered, w.not_early, w.not_late),
  (omega (arith, ints, w.not_early), omega (arith, ints, w.ordered, w.not_late)),
)

pub last-instant : (w : Window) → (to_z w64 (of_z w64 (to_z w64 (of_z w64 w.to) -ℤ pos 1)) ≡ w.to -ℤ pos 1)
    × ((occurrence_first ≤ℤ (w.to -ℤ pos 1)) × ((w.to -ℤ pos 1) <ℤ occurrence_end))
last-instant w = (
  omega (arith, ints, w.ordered, w.not_early, w.not_late),
  (omega (arith, ints, w.ordered, w.not_early), omega (arith, ints, w.not_late)),
)

-- what the clock shows there
pub first-moment : (w : Window) {local offset : ℤ} → local ≡ w.from +ℤ offset → IsNear offset → IsMoment local
first-moment w shows short = let begin = (first-instant w).1 in moment-shown shows short begin.0 begin.1

pub last-moment : (w : Window) {local offset : ℤ} → local ≡ (w.to -ℤ pos 1) +ℤ offset → IsNear offset → IsMoment local
last-moment w shows short = let last = (last-instant w).1 in moment-shown shows short last.0 last.1

-- what is computed of it fits
pub apart-fits : (local : ℤ) → IsMoment local → SFits w64 (local +ℤ pos 259_200) × SFits w64 (local -ℤ pos 259_200)
apart-fits local m = (omega (arith, ints, m), omega (arith, ints, m))

module _ {clock : Clock} {s : Stretch} {local moment : ℤ} (shown : IsShown clock s local moment) where
  -- the clock has one offset there
  one-offset : s.shown ≡ s.offset
  one-offset =
      let own = ap clock.offset shown.at in
      let there = shown.stretch.offsets local shown.low shown.high in
      omega (arith, ints, own, there, shown.at, shown.shows)

  in-stretch : (t : ℤ) → s.from ≤ℤ (t +ℤ s.offset) → (t +ℤ s.offset) <ℤ s.to → clock.offset t ≡ s.offset
  in-stretch t from to = offset-in shown.stretch t from to ∙ one-offset

  -- it has that offset from the instant on and before another that the stretch reaches
  pub one-from : (end : ℤ) → (end +ℤ s.offset) ≤ℤ s.to → (t : ℤ) → moment ≤ℤ t → t <ℤ end → clock.offset t ≡ s.offset
  one-from end held t from to =
      let low = shown.low in
      let same = shown.at in
      in-stretch t (omega (arith, ints, low, same, from)) (omega (arith, ints, held, to))

  module _ {end : ℤ} (at : end ≡ int_min s.to (local +ℤ pos 259_200)) where
    end-of : (local <ℤ end) × ((end ≤ℤ s.to) × (end ≤ℤ (local +ℤ pos 259_200)))
    end-of =
        let high = shown.high in
        let is = int_min_is s.to (local +ℤ pos 259_200) in
        (omega (arith, ints, at, high, is), (omega (arith, ints, at, high, is), omega (arith, ints, at, high, is)))

    pub end-fits : (least : ℤ) → IsMoment local → IsNear least
        → SFits w64 (end -ℤ s.offset) × SFits w64 ((end -ℤ s.offset) +ℤ least)
    end-fits least m short =
        let o = shown.stretch.short in
        let e = end-of in
        (omega (arith, ints, m, o, e.0, e.1.1), omega (arith, ints, m, o, short, e.0, e.1.1))

    -- none is earlier from that instant on, but behind the stretch
    module _ {least first : ℤ} (is : first ≡ int_min local ((end -ℤ s.offset) +ℤ least)) where
      pub shown-from : (t : ℤ) → least ≤ℤ clock.offset t → moment ≤ℤ t → first ≤ℤ local_at clock t
      shown-from t short from =
          let e = end-of in
          let low = shown.low in
          let same = shown.at in
          let least-is = int_min_is local ((end -ℤ s.offset) +ℤ least) in
          ⊎_elim
          (λ before.
          let one = in-stretch t (omega (arith, ints, low, same, from)) (omega (arith, ints, before, e.1.0)) in
          omega (arith, ints, one, same, from, is, least-is)) (λ behind. omega (arith, ints, behind, short, is, least-is))
          (less_or_not_z (t +ℤ s.offset) end)

      pub first-short : IsNear least → least ≤ℤ clock.offset moment → IsNear (clock.offset moment) → IsNear (first -ℤ moment)
      first-short short low near =
          let e = end-of in
          let shows = shown.shows in
          let same = shown.at in
          let least-is = int_min_is local ((end -ℤ s.offset) +ℤ least) in
          (omega (arith, ints, is, least-is, e.0, same, shows, short.0, low, near.0), omega (arith, ints, is, least-is, shows, near.1))

      pub first-low : least ≤ℤ clock.offset moment → (moment +ℤ least) ≤ℤ first
      first-low low =
          let e = end-of in
          let shows = shown.shows in
          let same = shown.at in
          let least-is = int_min_is local ((end -ℤ s.offset) +ℤ least) in
          omega (arith, ints, is, least-is, e.0, same, shows, low)

  module _ {begin : ℤ} (at : begin ≡ int_max s.from (local -ℤ pos 259_200)) where
    begin-of : (begin ≤ℤ local) × ((s.from ≤ℤ begin) × ((local -ℤ pos 259_200) ≤ℤ begin))
    begin-of =
        let low = shown.low in
        let is = int_max_is s.from (local -ℤ pos 259_200) in
        (omega (arith, ints, at, low, is), (omega (arith, ints, at, low, is), omega (arith, ints, at, low, is)))

    pub begin-fits : (most : ℤ) → IsMoment local → IsNear most
        → SFits w64 (begin -ℤ pos 1) × (SFits w64 ((begin -ℤ pos 1) -ℤ s.offset) × SFits w64 (((begin -ℤ pos 1) -ℤ s.offset) +ℤ most))
    begin-fits most m short =
        let o = shown.stretch.short in
        let b = begin-of in
        (omega (arith, ints, m, b.0, b.1.1), (omega (arith, ints, m, o, b.0, b.1.1), omega (arith, ints, m, o, short, b.0, b.1.1)))

    -- none is later up to that instant, but before the stretch
    module _ {most last : ℤ} (is : last ≡ int_max local (((begin -ℤ pos 1) -ℤ s.offset) +ℤ most)) where
      pub shown-to : (t : ℤ) → clock.offset t ≤ℤ most → t ≤ℤ moment → local_at clock t ≤ℤ last
      shown-to t short to =
          let b = begin-of in
          let high = shown.high in
          let same = shown.at in
          let most-is = int_max_is local (((begin -ℤ pos 1) -ℤ s.offset) +ℤ most) in
          ⊎_elim (λ before. omega (arith, ints, before, short, is, most-is))
          (λ behind.
          let one = in-stretch t (omega (arith, ints, behind, b.1.0)) (omega (arith, ints, high, same, to)) in
          omega (arith, ints, one, same, to, is, most-is)) (less_or_not_z (t +ℤ s.offset) begin)

      pub last-short : IsNear most → clock.offset moment ≤ℤ most → IsNear (clock.offset moment) → IsNear (last -ℤ moment)
      last-short short high near =
          let b = begin-of in
          let shows = shown.shows in
          let same = shown.at in
          let most-is = int_max_is local (((begin -ℤ pos 1) -ℤ s.offset) +ℤ most) in
          (omega (arith, ints, is, most-is, shows, near.0), omega (arith, ints, is, most-is, b.0, same, shows, short.1, high, near.1))

      pub last-high : clock.offset moment ≤ℤ most → last ≤ℤ (moment +ℤ most)
      last-high high =
          let b = begin-of in
          let shows = shown.shows in
          let same = shown.at in
          let most-is = int_max_is local (((begin -ℤ pos 1) -ℤ s.offset) +ℤ most) in
          omega (arith, ints, is, most-is, shows, b.0, same, high)
