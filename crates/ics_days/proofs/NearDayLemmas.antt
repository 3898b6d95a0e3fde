-- The days of an occurrence lie near the instants at which it meets the window, by two offsets between which the clock stays.
use Rattle.std.proofs.Common.{◌≡◌, ℤ, pos, ◌+ℤ◌, ◌-ℤ◌, ◌⊎◌, inl, inr, ⊎_elim, true, false, refl, sym, ◌∙◌, arith, ◌<ℤ◌, ◌≤ℤ◌, int_le, int_lt}
use Rattle.std.proofs.Common.{if◌then◌else◌, int_eq, ap, Some, Less, Greater}
use Rattle.std.specs.Cmp.{int_cmp_is}
use Rattle.std.specs.Int.{int_max, int_min}
use Rattle.std.proofs.lemmas.Int.{int_max_is, int_min_is, ints}
use Rattle.std.proofs.lemmas.Bool.{and_from, and_parts}
use Rattle.ics_zone.proofs.Cases.{false_int_lt, int_le_true, less_or_not_z, true_int_le}
use Rattle.ics_zone.specs.Seconds.{IsDay}
use Rattle.ics_zone.specs.declared.bounds.Bounds.{Bounds}
use Rattle.ics_fields.specs.Locals.{midnight, day_of_local}
use Rattle.ics_listing.specs.declared.window.Window.{Window}
use Rattle.ics_listing.specs.FileClocks.{Clock}
use Rattle.ics_starts.specs.Clocks.{local_at}
use Rattle.ics_days.specs.ShownDays.{date_at, end_day, first_day, is_on, last_day}
use Rattle.ics_days.specs.Offsets.{AreOffsets}
use Rattle.ics_days.specs.NearDays.{first_near, last_near, HasOffsets, IsNearDay}
use Rattle.ics_listing.specs.declared.key.Key.{Key}
use Rattle.ics_listing.specs.After.{is_after}
use Rattle.ics_listing.specs.Entry.{Entry, key_rank}
use Rattle.ics_starts.specs.MeetsWindow.{Meets}
use Rattle.ics_listing.proofs.NearLemmas.{day-under}

-- what starts at an instant or lasts up to it lasts past it, or is of no length and starts there or later
pub lasts-from : (from start finish : ℤ) → start ≤ℤ finish → from ≤ℤ int_max start (finish -ℤ pos 1) →
    (from <ℤ finish) ⊎ ((finish ≡ start) × (from ≤ℤ start))
lasts-from from start finish forward l =
    ⊎_elim inl (λ past. inr (omega (arith, ints, past, l, forward, int_max_is), omega (arith, ints, past, l, forward, int_max_is)))
    (less_or_not_z from finish)

-- what is not past the greater of two, or the first where there is but that, is not past the first, or not past the second, which is there
module _ (finish start day : ℤ) where
  of-last : (a b : ℤ) → start ≤ℤ finish → day ≤ℤ (if int_eq finish start then a else int_max a b) → (day ≤ℤ a) ⊎ ((start <ℤ finish) × (day ≤ℤ b))
  of-last a b l h = grind (arith, ints, int_max_is)

  -- and the other way
  to-last : (a b : ℤ) → (day ≤ℤ a) ⊎ ((start <ℤ finish) × (day ≤ℤ b)) → day ≤ℤ (if int_eq finish start then a else int_max a b)
  to-last a b (inl l) = grind (arith, ints, int_max_is)
  to-last a b (inr l) = let lasts = l.0 in let within = l.1 in grind (arith, ints, int_max_is, lasts, within)

-- offsets between which a clock stays are in order
pub bounds-offsets : (clock : Clock) (w : Window) (b : Bounds) → HasOffsets clock w b → AreOffsets b
bounds-offsets clock w b bounded =
    let here = bounded.offsets w.from (omega (arith, ints)) w.ordered in
    record { ordered = omega (arith, ints, here.0, here.1); least_short = bounded.least_short; most_short = bounded.most_short }

-- A window holds something of the instants at which an offset between the two shows a day, from the first near day to the last.
module _ (w : Window) (b : Bounds) where
  pub day-within : (day : ℤ) → first_near w b ≤ℤ day → day ≤ℤ last_near w b
      → (w.from <ℤ (midnight (day +ℤ pos 1) -ℤ b.least)) × ((midnight day -ℤ b.most) <ℤ w.to)
  day-within day low high =
      let first = day-under (w.from +ℤ b.least) (day_of_local (w.from +ℤ b.least)) refl in
      let last = day-under ((w.to -ℤ pos 1) +ℤ b.most) (day_of_local ((w.to -ℤ pos 1) +ℤ b.most)) refl in
      (omega (arith, ints, first.1, low), omega (arith, ints, last.0, high))

  -- so that there is such a window
  pub near-ordered : AreOffsets b → (day : ℤ) → first_near w b ≤ℤ day → day ≤ℤ last_near w b
      → int_max w.from (midnight day -ℤ b.most) <ℤ int_min w.to (midnight (day +ℤ pos 1) -ℤ b.least)
  near-ordered are day low high =
      let within = day-within day low high in
      omega (arith, ints, int_max_is, int_min_is, within.0, within.1, w.ordered, are.ordered)

  -- it is of the years 0000 to 9950
  pub day-fits : AreOffsets b → (day : ℤ) → first_near w b ≤ℤ day → day ≤ℤ last_near w b → IsDay day
  day-fits are day low high =
      let within = day-within day low high in (
        omega (arith, ints, within.0, within.1, w.not_early, w.not_late, w.ordered, are.least_short, are.most_short),
        omega (arith, ints, within.0, within.1, w.not_early, w.not_late, w.ordered, are.least_short, are.most_short),
      )

module _ (clock : Clock) (w : Window) (b : Bounds) (bounded : HasOffsets clock w b) where
  -- the date that a clock shows at an instant of the window is that of a local between those that the two offsets show there
  date-near : (t : ℤ) → (w.from ≤ℤ t) × (t <ℤ w.to)
      → (midnight (date_at clock t) ≤ℤ (t +ℤ b.most)) × ((t +ℤ b.least) <ℤ midnight (date_at clock t +ℤ pos 1))
  date-near t here =
      let under = day-under (local_at clock t) (date_at clock t) refl in
      let off = bounded.offsets t here.0 here.1 in
      (omega (arith, ints, under.0, off.1), omega (arith, ints, under.1, off.0))

  -- at the window's first instant it shows no day that is later than one before whose end the greater offset shows it
  pub not-early : (day : ℤ) → (w.from +ℤ b.most) <ℤ midnight (day +ℤ pos 1) → int_lt day (date_at clock w.from) ≡ false
  not-early day l =
      let near = (date-near w.from (omega (arith, ints), w.ordered)).0 in
      false_int_lt day (date_at clock w.from) (omega (arith, ints, near, l))

  -- a clock shows later days from an instant on, if it does so up to where the lesser offset shows them too
  pub later-on : (day : ℤ) {end to : ℤ} → to ≡ int_min w.to (midnight (day +ℤ pos 1) -ℤ b.least)
      → ((t : ℤ) → end ≤ℤ t → t <ℤ to → day <ℤ date_at clock t) → (t : ℤ) → w.from ≤ℤ t → end ≤ℤ t → t <ℤ w.to → day <ℤ date_at clock t
  later-on day {to = to} is known t from on within =
      ⊎_elim (known t on)
      (λ past.
      let near = (date-near t (from, within)).1 in
      omega (arith, ints, is, past, within, near, int_min_is w.to (midnight (day +ℤ pos 1) -ℤ b.least))) (less_or_not_z t to)

  module _ (o : Entry) (met : Meets w o) (forward : o.start ≤ℤ o.finish) where
    lasting-least : (w.from <ℤ o.finish) ⊎ ((o.finish ≡ o.start) × (w.from ≤ℤ o.start)) → w.from ≤ℤ int_max o.start (o.finish -ℤ pos 1)
    lasting-least (inl l) = omega (arith, ints, l, int_max_is)
    lasting-least (inr l) = let low = l.1 in omega (arith, ints, low, int_max_is)

    -- the later of its start and the window's is in the window
    within-start : (w.from ≤ℤ int_max o.start w.from) × (int_max o.start w.from <ℤ w.to)
    within-start =
        let is = int_max_is o.start w.from in
        let begun = met.begun in
        (omega (arith, ints, is), omega (arith, ints, is, begun, w.ordered))

    -- and so is its last second before both its finish and the window's end, if it lasts
    within-end : o.start <ℤ o.finish → (w.from ≤ℤ (int_min o.finish w.to -ℤ pos 1)) × ((int_min o.finish w.to -ℤ pos 1) <ℤ w.to)
    within-end lasts =
        let is = int_min_is o.finish w.to in
        let least = lasting-least met.lasting in
        let most = int_max_is o.start (o.finish -ℤ pos 1) in
        (omega (arith, ints, is, least, most, lasts, w.ordered), omega (arith, ints, is))

    -- a day is one of its days, if by the greater offset it has begun in the window before the day ends, and by the lesser it has not ended before
    -- the day begins
    pub known-on : (day : ℤ) → (int_max o.start w.from +ℤ b.most) <ℤ midnight (day +ℤ pos 1)
        → midnight day ≤ℤ ((int_min o.finish w.to -ℤ pos 1) +ℤ b.least) → is_on clock w o day ≡ true
    known-on day begun end =
        let first = date-near (int_max o.start w.from) within-start in
        and_from (int_le (first_day clock w o) day) (int_le day (last_day clock w o))
        (true_int_le (first_day clock w o) day (omega (arith, ints, first.0, begun)))
        (true_int_le day (last_day clock w o) (to-last o.finish o.start day (first_day clock w o) (end_day clock w o) (⊎_elim
        (λ lasts.
        let near = (date-near (int_min o.finish w.to -ℤ pos 1) (within-end lasts)).1 in
        inr (lasts, omega (arith, ints, near, end)))
        (λ at. inl (omega (arith, ints, first.1, end, at, forward, int_max_is o.start w.from, int_min_is o.finish w.to)))
        (less_or_not_z o.start o.finish))))

    module _ (day : ℤ) (on : is_on clock w o day ≡ true) where
      shown : (first_day clock w o ≤ℤ day) × (day ≤ℤ last_day clock w o)
      shown =
          let parts = and_parts (int_le (first_day clock w o) day) (int_le day (last_day clock w o)) on in
          (int_le_true (first_day clock w o) day parts.0, int_le_true day (last_day clock w o) parts.1)

      -- a day is not past that of the later of its start and the window's, or of an occurrence that lasts not past that of its last second
      by-length : (day ≤ℤ first_day clock w o) ⊎ ((o.start <ℤ o.finish) × (day ≤ℤ end_day clock w o))
      by-length = of-last o.finish o.start day (first_day clock w o) (end_day clock w o) forward shown.1

      near-finish : (from : ℤ) → from ≡ int_max w.from (midnight day -ℤ b.most) → (from <ℤ o.finish) ⊎ ((o.finish ≡ o.start) × (from ≤ℤ o.start))
      near-finish from e =
          let low = (date-near (int_max o.start w.from) within-start).0 in
          let least = lasting-least met.lasting in
          lasts-from from o.start o.finish forward
          (⊎_elim (λ k. omega (arith, ints, e, least, forward, low, k, int_max_is))
          (λ k.
          let end = (date-near (int_min o.finish w.to -ℤ pos 1) (within-end k.0)).0 in
          omega (arith, ints, e, least, end, k.0, k.1, int_max_is, int_min_is)) by-length)

      -- so it meets what the window holds near one of its days
      pub meets-near : (n : Window) → IsNearDay clock w b day n → Meets n o
      meets-near n near = record {
        begun = ⊎_elim (λ l. l)
            (λ late.
            let at : int_max o.start w.from ≡ o.start =
            omega (arith, ints, late, n.ordered, near.from, int_max_is o.start w.from, int_max_is w.from (midnight day -ℤ b.most)) in
            let same = ap (date_at clock) at in
            let past = near.later o.start late met.begun in
            absurd (omega (arith, ints, same, past, shown.0))) (less_or_not_z o.start n.to);
        lasting = near-finish n.from near.from;
        started = λ s. let f : false ≡ true = sym near.all ∙ s in absurd cc;
      }

      -- and that is one of the days that a clock can show in the window
      pub near-first : first_near w b ≤ℤ day
      near-first =
          let under = day-under (w.from +ℤ b.least) (day_of_local (w.from +ℤ b.least)) refl in
          omega (arith, ints, (date-near (int_max o.start w.from) within-start).1, shown.0, under.0, int_max_is o.start w.from)

      pub near-last : day ≤ℤ last_near w b
      near-last =
          let under = day-under ((w.to -ℤ pos 1) +ℤ b.most) (day_of_local ((w.to -ℤ pos 1) +ℤ b.most)) refl in
          let start = (date-near (int_max o.start w.from) within-start).0 in
          ⊎_elim (λ k. omega (arith, ints, k, under.1, met.begun, w.ordered, start, int_max_is o.start w.from))
          (λ h.
          let end = (date-near (int_min o.finish w.to -ℤ pos 1) (within-end h.0)).0 in
          omega (arith, ints, h.1, under.1, end, int_min_is o.finish w.to)) by-length

      -- nor is one past the last that the clock can show there
      pub shown-by : (last : ℤ) → ((t : ℤ) → w.from ≤ℤ t → t <ℤ w.to → date_at clock t ≤ℤ last) → day ≤ℤ last
      shown-by last most =
          ⊎_elim
          (λ k. let under = most (int_max o.start w.from) within-start.0 within-start.1 in omega (arith, ints, k, under))
          (λ k.
          let within = within-end k.0 in
          let under = most (int_min o.finish w.to -ℤ pos 1) within.0 within.1 in omega (arith, ints, k.1, under)) by-length

-- a later instant is not on an earlier day
day-rises : (a b : ℤ) → a ≤ℤ b → day_of_local a ≤ℤ day_of_local b
day-rises a b l =
    let low = day-under a (day_of_local a) refl in
    let high = day-under b (day_of_local b) refl in
    omega (arith, ints, low.0, low.1, high.0, high.1, l)

-- The days that a clock shows in a window lie between that of a local before which it shows none there, and that of one after which it shows none.
module _ {day seconds : ℤ} (is : day ≡ day_of_local seconds) where
  pub first-shown : (clock : Clock) (t : ℤ) → seconds ≤ℤ local_at clock t → day ≤ℤ date_at clock t
  first-shown clock t low = let rise = day-rises seconds (local_at clock t) low in omega (arith, ints, is, rise)

  pub last-shown : (clock : Clock) (t : ℤ) → local_at clock t ≤ℤ seconds → date_at clock t ≤ℤ day
  last-shown clock t high = let rise = day-rises (local_at clock t) seconds high in omega (arith, ints, is, rise)

  pub first-within : (w : Window) (b : Bounds) → (w.from +ℤ b.least) ≤ℤ seconds → first_near w b ≤ℤ day
  first-within w b low = let rise = day-rises (w.from +ℤ b.least) seconds low in omega (arith, ints, is, rise)

  pub last-within : (w : Window) (b : Bounds) → seconds ≤ℤ ((w.to -ℤ pos 1) +ℤ b.most) → day ≤ℤ last_near w b
  last-within w b high = let rise = day-rises seconds ((w.to -ℤ pos 1) +ℤ b.most) high in omega (arith, ints, is, rise)

-- A clock shows a later day where it shows no local before the midnight that ends the day.
pub later-day : (clock : Clock) (day t : ℤ) → midnight (day +ℤ pos 1) ≤ℤ local_at clock t → day <ℤ date_at clock t
later-day clock day t low = let under = day-under (local_at clock t) (date_at clock t) refl in omega (arith, ints, under.1, low)

-- What is shown under a day before that of the window's first instant begins after it.
pub begins-later : (clock : Clock) (w : Window) (o : Entry) {day : ℤ} → is_on clock w o day ≡ true → day <ℤ date_at clock w.from → w.from <ℤ o.start
begins-later clock w o {day = day} on early =
    let first = int_le_true (first_day clock w o) day (and_parts (int_le (first_day clock w o) day) (int_le day (last_day clock w o)) on).0 in
    ⊎_elim (λ l. l) (λ n.
    let at : int_max o.start w.from ≡ w.from = omega (arith, ints, n, int_max_is o.start w.from) in
    let same = ap (date_at clock) at in
    absurd (omega (arith, ints, same, first, early))) (less_or_not_z w.from o.start)

-- What begins in a window comes after a key whose start is before it.
pub above-floor : (w : Window) (floor : Key) (o : Entry) → floor.start ≡ w.from -ℤ pos 1 → w.from ≤ℤ o.start → is_after (Some (key_rank floor)) o ≡ true
above-floor w floor o below from = rw (sym (int_cmp_is floor.start o.start Less (omega (arith, ints, below, from)))) refl

-- and only what begins at that start or later does
pub from-floor : (w : Window) (floor : Key) (o : Entry) → floor.start ≡ w.from -ℤ pos 1 → is_after (Some (key_rank floor)) o ≡ true
    → (w.from -ℤ pos 1) ≤ℤ o.start
from-floor w floor o below after =
    ⊎_elim
    (λ less. let no : false ≡ true = rw (sym (int_cmp_is floor.start o.start Greater (omega (arith, ints, less, below)))) at after in absurd cc)
    (λ from. from) (less_or_not_z o.start (w.from -ℤ pos 1))
