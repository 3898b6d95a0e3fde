use Rattle.std.proofs.Common.{◌≡◌, ◌∙◌, ap, ◌+ℤ◌, ◌-ℤ◌, ◌*ℤ◌, ◌≤ℤ◌, ◌<ℤ◌, ℤ, pos, arith, false, int_lt, FitsSigned, SFits, to_z, of_z, w32, w64}
use Rattle.std.specs.Int.{int_max, int_min}
use Rattle.std.proofs.lemmas.Int.{int_max_is, int_min_is, ints}
use Rattle.ics_fields.specs.Days.{IsDayNumber}
use Rattle.ics_fields.specs.Locals.{midnight}
use Rattle.ics_zone.proofs.Cases.{int_le_false}
use Rattle.ics_zone.specs.Seconds.{IsNear}
use Rattle.ics_listing.specs.declared.occurrence.Occurrence.{Occurrence}
use Rattle.ics_listing.specs.declared.window.Window.{Window}
use Rattle.ics_listing.specs.Entry.{entry_of}
use Rattle.ics_listing.specs.WindowBounds.{occurrence_first, occurrence_end}
use Rattle.ics_days.proofs.NearDayLemmas.{known-on}
use Rattle.ics_days.proofs.occurrence_days.is_known_on.Goals as goal

not-less : (a b : ℤ) → int_lt a b ≡ false → b ≤ℤ a
not-less a b e = grind (arith, ints)

-- a day's midnight and the next fit
midnight-is : (day : ℤ) {read : ℤ} → SFits w32 day → read ≡ to_z w32 (of_z w32 day)
    → (to_z w64 (of_z w64 (to_z w64 (of_z w64 read) *ℤ pos 86_400)) ≡ midnight day)
    × (to_z w64 (of_z w64 (to_z w64 (of_z w64 (to_z w64 (of_z w64 read) *ℤ pos 86_400)) +ℤ pos 86_400)) ≡ midnight (day +ℤ pos 1))
midnight-is day fits e = (omega (arith, ints, e, fits), omega (arith, ints, e, fits))

-- so do the locals that an offset shows at an instant of those years, and a second before it
module _ (t offset : ℤ) (early : occurrence_first ≤ℤ t) (late : t <ℤ occurrence_end) (short : IsNear offset) where
  shown-fits : FitsSigned w64 (to_z w64 (of_z w64 t) +ℤ to_z w64 (of_z w64 offset))
  shown-fits = omega (arith, ints, early, late, short.0, short.1)

  before-fits : FitsSigned w64 (to_z w64 (of_z w64 (to_z w64 (of_z w64 t) -ℤ pos 1)) +ℤ to_z w64 (of_z w64 offset))
  before-fits = omega (arith, ints, early, late, short.0, short.1)

  shown-is : to_z w64 (of_z w64 (to_z w64 (of_z w64 t) +ℤ to_z w64 (of_z w64 offset))) ≡ t +ℤ offset
  shown-is = omega (arith, ints, early, late, short.0, short.1)

  before-is : to_z w64 (of_z w64 (to_z w64 (of_z w64 (to_z w64 (of_z w64 t) -ℤ pos 1)) +ℤ to_z w64 (of_z w64 offset))) ≡ (t -ℤ pos 1) +ℤ offset
  before-is = omega (arith, ints, early, late, short.0, short.1)

-- the later of an occurrence's start and a window's lies in them, and so does the earlier of their ends
module _ (o : Occurrence) (w : Window) where
  first-within : {first : ℤ} → first ≡ int_max o.start w.from → (occurrence_first ≤ℤ first) × (first <ℤ occurrence_end)
  first-within e =
      let is = int_max_is o.start w.from in
      (omega (arith, ints, e, is, o.not_early), omega (arith, ints, e, is, o.forward, o.not_late, w.ordered, w.not_late))

  last-within : {last : ℤ} → last ≡ int_min o.finish w.to → (occurrence_first ≤ℤ last) × (last <ℤ occurrence_end)
  last-within e =
      let is = int_min_is o.finish w.to in
      (omega (arith, ints, e, is, o.not_early, o.forward, w.ordered, w.not_early), omega (arith, ints, e, is, o.not_late))

-- the same of equals
less-at : {a b x y : ℤ} → a ≡ x → b ≡ y → a <ℤ b → x <ℤ y
less-at e f l = omega (arith, ints, e, f, l)

up-to-at : {a b x y : ℤ} → a ≡ x → b ≡ y → a ≤ℤ b → x ≤ℤ y
up-to-at e f l = omega (arith, ints, e, f, l)

-- such a day is of the years 0000 to 9999
day-within : (day first last most least : ℤ) → (first +ℤ most) <ℤ midnight (day +ℤ pos 1) → midnight day ≤ℤ ((last -ℤ pos 1) +ℤ least)
    → occurrence_first ≤ℤ first → last <ℤ occurrence_end → IsNear most → IsNear least → IsDayNumber day
day-within day first last most least low high early late m n = (omega (arith, ints, low, early, m.0), omega (arith, ints, high, late, n.1))

pub overflow_add-begun : goal.overflow_add-begun
overflow_add-begun c =
    let o = c.args.occurrence.now in
    let w = c.args.window.now in
    let first : c.max.result ≡ int_max o.start w.from = omega (arith, ints, int_max_is, int_max_is o.start w.from, c.max.ensures.value, c.max.type_inv) in
    let within = first-within o w first in
    shown-fits c.max.result c.args.bounds.most within.0 within.1 c.requires.most_short

pub overflow_sub-end : goal.overflow_sub-end
overflow_sub-end c =
    let o = c.args.occurrence.now in
    let w = c.args.window.now in
    omega (arith, ints, int_min_is, c.min.ensures.value, c.min.type_inv, o.not_early, o.forward, w.ordered, w.not_early)

pub overflow_add-end : goal.overflow_add-end
overflow_add-end c =
    let o = c.args.occurrence.now in
    let w = c.args.window.now in
    let last : c.min.result ≡ int_min o.finish w.to = omega (arith, ints, int_min_is, int_min_is o.finish w.to, c.min.ensures.value, c.min.type_inv) in
    let within = last-within o w last in
    before-fits c.min.result c.args.bounds.least within.0 within.1 c.requires.least_short

pub returns : goal.returns
returns c =
    let o = c.args.occurrence.now in
    let w = c.args.window.now in
    let most = c.args.bounds.most in
    let least = c.args.bounds.least in
    let first : c.max.result ≡ int_max o.start w.from = omega (arith, ints, int_max_is, int_max_is o.start w.from, c.max.ensures.value, c.max.type_inv) in
    let last : c.min.result ≡ int_min o.finish w.to = omega (arith, ints, int_min_is, int_min_is o.finish w.to, c.min.ensures.value, c.min.type_inv) in
    let first-in = first-within o w first in
    let last-in = last-within o w last in
    let day = midnight-is c.args.day c.ranges.day c.from-midnight.ensures in
    let at = to_z w64 (of_z w64 (to_z w64 (of_z w64 c.from-midnight.result) *ℤ pos 86_400)) in
    let next = to_z w64 (of_z w64 (to_z w64 (of_z w64 (to_z w64 (of_z w64 c.from-midnight.result) *ℤ pos 86_400)) +ℤ pos 86_400)) in
    let begun = to_z w64 (of_z w64 (to_z w64 (of_z w64 c.max.result) +ℤ to_z w64 (of_z w64 c.args.bounds.most))) in
    let end = to_z w64 (of_z w64 (to_z w64 (of_z w64 (to_z w64 (of_z w64 c.min.result) -ℤ pos 1)) +ℤ to_z w64 (of_z w64 c.args.bounds.least))) in
    let begun-is = shown-is c.max.result most first-in.0 first-in.1 c.requires.most_short in
    let end-is = before-is c.min.result least last-in.0 last-in.1 c.requires.least_short in
    let before = int_le_false next begun c.if-midnight-begun.false in
    let after = not-less end at c.if-end-midnight.false in
    let low : (int_max o.start w.from +ℤ c.args.bounds.most) <ℤ midnight (c.args.day +ℤ pos 1) =
    less-at (begun-is ∙ ap (λ t. t +ℤ c.args.bounds.most) first) day.1 before in
    let high : midnight c.args.day ≤ℤ ((int_min o.finish w.to -ℤ pos 1) +ℤ c.args.bounds.least) =
    up-to-at day.0 (end-is ∙ ap (λ t. (t -ℤ pos 1) +ℤ c.args.bounds.least) last) after in
    record {
      on = λ clock bounded met is. known-on clock w c.args.bounds bounded (entry_of o) met o.forward c.args.day low high;
      within = λ is. day-within c.args.day c.max.result c.min.result most least (less-at begun-is day.1 before) (up-to-at day.0 end-is after)
          first-in.0 last-in.1 c.requires.most_short c.requires.least_short;
    }
