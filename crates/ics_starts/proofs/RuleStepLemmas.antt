-- One step of reading the starts of a rule: a kept local more, or none up to a bound.
use lib.Signed.{mag}
use Rattle.std.proofs.Common.{◌≡◌, ℕ, ◌+◌, ◌<◌, ◌≤◌, w32, w64, to_z, of_z, max, ℤ, pos, ◌+ℤ◌, ◌-ℤ◌, Bool, true, false, ◌&&◌, List, [], ◌∷◌, length, ◌⊎◌}
use Rattle.std.proofs.Common.{inl, inr, ⊎_elim, refl, sym, ap, subst, arith, ◌≤ℤ◌, ◌<ℤ◌, int_lt, not, slice_get, Option, Some, None, ◌==◌, ◌∙◌}
use Rattle.std.proofs.lemmas.Bool.{eqb-true, or_cases}
use Rattle.std.proofs.lemmas.Int.{int_max_is, int_min_is, ints}
use Rattle.std.specs.Int.{int_max}
use Rattle.ics_fields.specs.Days.{IsDayNumber}
use Rattle.ics_fields.specs.declared.local.Local.{Local}
use Rattle.jiff_core.specs.Calendar.{IsBetween, IsWithin}
use Rattle.ics_rule.specs.Cursors.{place_of, IsCursorOf}
use Rattle.ics_rule.specs.Kept.{until_moment}
use Rattle.ics_fields.specs.Locals.{calendar_end, day_of_local, local_at, local_seconds, number, midnight, whole_days, year_seconds}
use Rattle.ics_rule.specs.Next.{NoneKept, IsNextKept}
use Rattle.ics_period.specs.Recurrence.{Recurrence}
use Rattle.ics_period.proofs.Tests.{and_true}
use Rattle.ics_event.specs.declared.event.Event.{Event}
use Rattle.ics_starts.specs.declared.rule_starts.RuleStarts.{RuleStarts}
use Rattle.ics_listing.specs.declared.start.Start.{Start}
use Rattle.ics_listing.specs.declared.window.Window.{Window}
use Rattle.ics_starts.specs.declared.zones.FileZones.{FileZones}
use Rattle.ics_listing.specs.StartOrder.{moment_cmp}
use Rattle.ics_starts.specs.Clocks.{clock_of, IsStretched}
use Rattle.ics_starts.specs.Found.{start_at}
use Rattle.ics_starts.specs.RawStarts.{most_in_days}
use Rattle.ics_listing.specs.Listing.{IsIn}
use Rattle.ics_listing.specs.Merged.{cut}
use Rattle.ics_listing.specs.Inner.MergedLaws.{rises-union}
use Rattle.ics_listing.specs.Rising.{Rises}
use Rattle.ics_starts.specs.RuleFeed.{held_in, is_unsettled, settled_in, starts_left}
use Rattle.ics_starts.specs.RuleStarts.{ends_at, found, gives, is_behind, is_ready, midnight_number, moment_numbered, steps_left, to_come, with_held, AreHeld}
use Rattle.ics_starts.specs.RuleStarts.{IsHeld, IsReadTo}
use Rattle.ics_listing.specs.StartTimes.{local_of, time_at}
use Rattle.ics_zone.specs.Observances.{is_until}
use Rattle.ics_zone.specs.Seconds.{IsMoment}
use Rattle.ics_zone.specs.declared.stretch.Stretch.{Stretch}
use Rattle.ics_starts.specs.FileZones.{clocks_in, IsTimeOf}
use Rattle.ics_listing.proofs.StartOrderLemmas.{calendar-day, number-seconds, own-day}
use Rattle.ics_starts.proofs.StartSourceLemmas.{kept-time, numbered-number}
use Rattle.ics_listing.proofs.NearLemmas.{day-under}
use Rattle.ics_starts.proofs.RawLemmas.{held-in-days}
use Rattle.ics_starts.proofs.RuleDayLemmas.{come-none, come-one, early-numbered, found-is, given-parts, late-numbered, less-start, number-day, rises-found}
use Rattle.ics_starts.proofs.SettledLemmas.{late-stretched, off-numbered, off-range}
use Rattle.ics_listing.proofs.ListingLemmas.{before-in}
use Rattle.ics_listing.proofs.UnionLemmas.{union-in}
use Rattle.ics_listing.proofs.BeginsLemmas.{before-all, put-before, before-union}
use Rattle.ics_listing.proofs.FirstLemmas.{int-less, moment_total}
use Rattle.ics_zone.proofs.Cases.{int_le_false, int_le_true, int_lt_true, less_or_not_z}
use Rattle.ics_listing.proofs.Cases.{not-true, by-cases}
use Rattle.ics_period.specs.PeriodNumbers.{rules_end}

-- a number that fits in an i32 is read back
pub signed-back : (x y : ℤ) → mag x < 2_147_483_648 → x ≡ y → to_z w32 (of_z w32 x) ≡ y
signed-back x y l e = omega (arith, ints)

pub day-back : (day : ℤ) → IsDayNumber day → to_z w32 (of_z w32 day) ≡ day
day-back day h = omega (arith, ints, h.0, h.1)

pub next-back : (day : ℤ) → IsDayNumber day → to_z w32 (of_z w32 (to_z w32 (of_z w32 day) +ℤ pos 1)) ≡ day +ℤ pos 1
next-back day h = omega (arith, ints, h.0, h.1)

-- and so is an offset of a clock, in an i64
pub most-back : (most : ℤ) → IsWithin 93_599 most → to_z w64 (of_z w64 most) ≡ most
most-back most short = omega (arith, ints, short.0, short.1)

-- and an instant with an offset added
pub sum-back : {t off : ℤ} → IsWithin 1_000_000_000_000 t → IsWithin 93_599 off
    → to_z w64 (of_z w64 (to_z w64 (of_z w64 t) +ℤ to_z w64 (of_z w64 off))) ≡ t +ℤ off
sum-back far short = omega (arith, ints, far, short)

-- a local is so many seconds past its day's midnight
pub midnight-number : (local : Local) → IsDayNumber local.day → number local ≡ midnight_number local.day + local.second
midnight-number local h = omega (arith, ints, h.0, h.1)

no-member : (xs : List Start) → ((x : Start) → IsIn x xs → ⊥) → xs ≡ []
no-member [] none = refl
no-member (x ∷ xs) none = absurd (none x (inl refl))

module _ (settled day end to : ℤ) where
  ready-by : (ready : Bool) → ((int_lt day end && int_lt settled (to -ℤ pos 1)) && not ready) ≡ false → day <ℤ end → settled <ℤ (to -ℤ pos 1) → ready ≡ true
  ready-by ready h l m = grind (arith, ints)

  pub behind-early : (held : List Start) → is_behind settled day end to held ≡ true → day <ℤ end
  behind-early held b = int_lt_true day end (and_true {a = int_lt day end} (and_true {a = int_lt day end && int_lt settled (to -ℤ pos 1)} b).0).0

  -- all that is held begins no more than three days before the next day
  pub next-late : (held : List Start) → (midnight day -ℤ whole_days 2) ≤ℤ settled → Rises moment_cmp held → is_behind settled day end to held ≡ true →
      (s : Start) → IsIn s held → (midnight (day +ℤ pos 1) -ℤ whole_days 3) ≤ℤ s.moment
  next-late [] l r b s m = absurd m
  next-late (x ∷ held) l r b s m =
      let first = int_le_false x.moment settled (not-true (is_ready settled (x ∷ held)) (and_true {a = int_lt day end && int_lt settled (to -ℤ pos 1)} b).1) in
      ⊎_elim (λ same. rw same (omega (arith, ints, first, l)))
      (λ n. let less = int-less x.moment s.moment (before-in moment_cmp moment_total x s held r.0 n) in omega (arith, ints, first, less, l)) m

-- the starts that are held once a kept local is read
held-in : (b : Bool) (s x : Start) (held : List Start) → IsIn x (with_held b s held) → IsIn x held ⊎ ((b ≡ true) × (x ≡ s))
held-in true s x held m = ⊎_elim inl (λ n. ⊎_elim (λ e. inr (refl, e)) (λ f. absurd f) n.1) (union-in moment_cmp moment_total x held (s ∷ []) (tt, tt) m)
held-in false s x held m = inl m

rises-held : (b : Bool) (s : Start) (held : List Start) → Rises moment_cmp held → Rises moment_cmp (with_held b s held)
rises-held true s held r = rises-union moment_cmp moment_total held (s ∷ []) (tt, tt)
rises-held false s held r = r

module _ (zones : FileZones) (event : Event) (rule : Recurrence) (w : Window) where
  pub held-on : (old new : ℤ) (held : List Start) → old ≤ℤ new → ((s : Start) → IsIn s held → (midnight new -ℤ whole_days 3) ≤ℤ s.moment)
      → AreHeld (clocks_in zones) event rule w old held → AreHeld (clocks_in zones) event rule w new held
  held-on old new held l late are s m = let h = are s m in record { by = h.by; given = h.given; late = late s m; early = omega (arith, ints, h.early, l) }

  is-held : (a : Local) → IsDayNumber a.day → IsDayNumber (a.day +ℤ pos 1) → gives (clocks_in zones) event rule w (number a) ≡ true
      → IsHeld (clocks_in zones) event rule w (a.day +ℤ pos 1) (start_at (clocks_in zones) event a)
  is-held a h k given =
      let late = rw (numbered-number a h) at (late-numbered zones event a.day (number a) h (omega arith)) in
      let early = rw (numbered-number a h) at
      (early-numbered zones event (a.day +ℤ pos 1) (number a) k (omega (arith, ints, h.0, k.0, a.second_in))) in
      record {
        by = ap (start_at (clocks_in zones) event) (sym (numbered-number a h));
        given = given;
        late = omega (arith, ints, late);
        early = omega (arith, ints, early);
      }

-- Where a rule ends in a window.
pub ends-most : (w : Window) (o : Option ℤ) (first : ℤ) → ends_at w o first ≤ℤ w.to
ends-most w None first = omega (arith, ints)
ends-most w (Some until) first = omega (arith, ints, int_min_is w.to (int_max until first +ℤ pos 1))

-- An instant before the window's end that UNTIL allows is before it, and so is DTSTART's local, or the instant.
within-until : (w : Window) (o : Option ℤ) (first t : ℤ) → t <ℤ w.to → is_until o t ≡ true → t <ℤ ends_at w o first
within-until w None first t l e = l
within-until w (Some until) first t l e =
    omega (arith, ints, l, int_le_true t until e, int_max_is until first, int_min_is w.to (int_max until first +ℤ pos 1))

within-first : (w : Window) (o : Option ℤ) (first t : ℤ) → t <ℤ w.to → (t <ℤ ends_at w o first) ⊎ (first <ℤ ends_at w o first)
within-first w None first t l = inl l
within-first w (Some until) first t l =
    let least = int_min_is w.to (int_max until first +ℤ pos 1) in
    let most = int_max_is until first in
    ⊎_elim (λ e. inr (omega (arith, ints, e, most, least))) (λ e. inl (omega (arith, ints, l, e, least)))
    (less_or_not_z (int_max until first +ℤ pos 1) w.to)

module _ (s : RuleStarts) where
  pub end-soon : midnight s.end <ℤ (s.window.to +ℤ whole_days 3)
  end-soon =
      let most = ends-most s.window (until_moment s.rule) (local_seconds (local_of s.event.now.start.stamp)) in
      omega (arith, ints, s.rule_of.soon, most, off-range s.event.now.start.stamp)

  pub day-days : IsDayNumber s.day
  day-days = (omega (arith, ints, s.reached.low), omega (arith, ints, s.reached.on, s.reached.by_end, end-soon, s.window.not_late))

  pub end-days : IsDayNumber s.end
  end-days = (omega (arith, ints, s.reached.low, s.reached.on, s.reached.by_end), omega (arith, ints, end-soon, s.window.not_late))

  pub asked-days : IsDayNumber s.asked
  asked-days = (omega (arith, ints, s.reached.low, s.reached.on), omega (arith, ints, s.reached.by_end, end-days.1))

  -- the midnight of the end, as it is read back
  pub end-back : {at : Local} {seconds : ℤ} → at ≡ local_at (to_z w32 (of_z w32 s.end)) 0 → seconds ≡ local_seconds at → seconds ≡ midnight s.end
  end-back is e = let there = ap (λ (l : Local). local_seconds l) is in omega (arith, ints, e, there, day-back s.end end-days)

  -- what is known of the clock of the event as it is seen is known of that of the event
  pub told-known : {v : Event} {stretch : Stretch} → v ≡ s.event.now → IsStretched (clock_of (clocks_in s.zones) v.start) stretch
      → IsStretched (clock_of (clocks_in s.zones) s.event.now.start) stretch
  told-known {stretch = stretch} is h = subst (λ (v : Event). IsStretched (clock_of (clocks_in s.zones) v.start) stretch) is h

  -- a local that gives a start has a day before the end
  given-early : (day : ℤ) (n : ℕ) → IsDayNumber day → midnight_number day ≤ n → gives (clocks_in s.zones) s.event.now s.rule s.window n ≡ true →
      day <ℤ s.end
  given-early day n h l g =
      let t = moment_numbered (clocks_in s.zones) s.event.now n in
      let until = until_moment s.rule in
      let late = off-numbered s.zones s.event.now s.bounds s.rule_of.bounded day n h l in
      let parts = given-parts s.zones s.event.now s.rule s.window n g in
      let first = local_of s.event.now.start.stamp in
      ⊎_elim
      (λ same.
      let is : n ≡ number first = eqb-true n (number s.rule.start) same ∙ s.rule_of.first in
      let at = number-seconds first (calendar-day first.day (own-day s.event.now.start s.rule_of.time.is_time)) in
      let before = int_min_is (local_seconds first) (ends_at s.window until (local_seconds first) -ℤ pos 1) in
      ⊎_elim (λ e. omega (arith, ints, late, e, s.rule_of.after)) (λ e. omega (arith, ints, e, s.rule_of.first_before, before, is, at, number-day day h, l))
      (within-first s.window until (local_seconds first) t parts.2))
      (λ e. let early = within-until s.window until (local_seconds first) t parts.2 e in omega (arith, ints, late, early, s.rule_of.after))
      (or_cases (n == number s.rule.start) (is_until until t) parts.1)

  -- all locals to be read are of the years 0000 to 9999
  pub next-years : IsBetween (year_seconds 0) (year_seconds 10_000) s.next
  unfolding IsCursorOf
  next-years = (omega (arith, ints, s.reached.low, s.reached.next_on), omega (arith, ints, s.reached.next_read, s.own.inside))

  -- and so is the place
  pub place-years : s.place < calendar_end
  unfolding IsCursorOf
  place-years = let inside = s.own.inside in omega (arith, inside, s.placed)

  -- a local after the next one to be read, and no more than 26 hours later than the window's end, is of these years
  pub passed-day : {last day : ℤ} → s.next <ℤ last → last ≤ℤ (s.window.to +ℤ pos 93_599) → day ≡ day_of_local last → IsDayNumber day
  passed-day {last = last} {day = day} late early is =
      let under = day-under last day is in (
        omega (arith, ints, under.1, late, next-years),
        omega (arith, ints, under.0, early, s.window.not_late),
      )

  -- what is held is no more than the event has in five UTC days
  pub few-held : length (held_in s) ≤ most_in_days (clocks_in s.zones) s.event.now
  few-held =
      held-in-days s.zones s.event.now s.rule s.window s.rule_of.time.is_time s.rule_of.of (held_in s) (omega (arith, ints, s.reached.low, s.reached.on))
      (omega (arith, ints, s.reached.by_end, end-days.1)) s.rises s.are

  -- what is still to come where this is held, and what the locals give that are not read yet
  abbrev left : List Start → List Start
  left held = to_come (clocks_in s.zones) s.event.now s.rule s.window held (place_of s.cursor)

  abbrev unread : List Start
  unread = found (clocks_in s.zones) s.event.now s.rule s.window (place_of s.cursor)

  -- that begins less than two days before the day, and none of it from the end on
  found-late : (t : Start) → IsIn t unread → ((midnight s.day -ℤ whole_days 2) <ℤ t.moment) × (s.day <ℤ s.end)
  found-late t m =
      let f = found-is s.zones s.event.now s.rule s.window (place_of s.cursor) t m in
      let late = late-numbered s.zones s.event.now s.day f.by day-days (omega (arith, s.reached.read, f.from_place)) in
      let early = given-early s.day f.by day-days (omega (arith, s.reached.read, f.from_place)) f.given in
      (omega (arith, ints, late, ap (λ (x : Start). x.moment) f.is), early)

  -- all locals to be read mean instants after the settled one
  pub settled-before : (n : ℕ) → place_of s.cursor ≤ n → settled_in s <ℤ moment_numbered (clocks_in s.zones) s.event.now n
  settled-before n l =
      late-stretched s.zones s.event.now s.bounds s.rule_of.bounded s.stretch s.stretched s.day s.next n day-days (omega (arith, s.reached.read, l))
      (omega (arith, ints, s.reached.next_read, l))

  -- and so what they give is after it
  found-settled : (t : Start) → IsIn t unread → settled_in s <ℤ t.moment
  found-settled t m =
      let f = found-is s.zones s.event.now s.rule s.window (place_of s.cursor) t m in
      omega (arith, ints, settled-before f.by f.from_place, ap (λ (x : Start). x.moment) f.is)

  -- which is so early that they can still begin before the window's end
  found-open : (t : Start) → IsIn t unread → settled_in s <ℤ (s.window.to -ℤ pos 1)
  found-open t m =
      let f = found-is s.zones s.event.now s.rule s.window (place_of s.cursor) t m in
      let early = (given-parts s.zones s.event.now s.rule s.window f.by f.given).2 in
      omega (arith, ints, found-settled t m, early, ap (λ (x : Start). x.moment) f.is)

  -- where no local more has to be read the first that is held is the first still to come
  abbrev in_front : List Start → List Start
  in_front [] = []
  in_front (x ∷ xs) = x ∷ left xs

  settled : (held : List Start) → Rises moment_cmp held → is_behind (settled_in s) s.day s.end s.window.to held ≡ false → left held ≡ in_front held
  unfolding to_come
  settled [] r b =
      no-member unread (λ t m. let no : false ≡ true = ready-by (settled_in s) s.day s.end s.window.to false b (found-late t m).1 (found-open t m) in absurd cc)
  settled (x ∷ xs) r b =
      put-before moment_cmp moment_total x (left xs) (before-union moment_cmp moment_total x xs unread r.0
      (before-all moment_cmp x unread (λ t m.
      let ready =
      int_le_true x.moment (settled_in s)
      (ready-by (settled_in s) s.day s.end s.window.to (is_ready (settled_in s) (x ∷ xs)) b (found-late t m).1 (found-open t m)) in
      less-start x t (omega (arith, ints, found-settled t m, ready)))))

  first-of : (held : List Start) → left held ≡ in_front held → slice_get held 0 ≡ slice_get (left held) 0
  first-of [] e = rw e refl
  first-of (x ∷ xs) e = rw e refl

  pub first-left : is_unsettled s ≡ false → slice_get (held_in s) 0 ≡ slice_get (starts_left s) 0
  first-left ready = first-of (held_in s) (settled (held_in s) s.rises ready)

  -- a start leaves of what is held what it leaves of all that is still to come
  passed : (t : Start) (held : List Start) → left held ≡ in_front held → left (cut moment_cmp t held) ≡ cut moment_cmp t (left held)
  passed t [] e = rw e refl
  passed t (x ∷ xs) e = rw e (by-cases (moment_cmp t x) (λ p. rw p e) (λ p. rw p refl) (λ p. rw p e))

  pub passed-left : (t : Start) (new : List Start) → new ≡ cut moment_cmp t (held_in s) → is_unsettled s ≡ false → left new ≡ cut moment_cmp t (starts_left s)
  passed-left t new is ready = rw is (passed t (held_in s) (settled (held_in s) s.rises ready))

  pub asked-number : pos (midnight_number s.asked) ≡ midnight s.asked +ℤ pos 62_167_219_200
  asked-number = number-day s.asked (omega (arith, ints, s.reached.low, s.reached.on), omega (arith, ints, s.reached.by_end, end-days.1))

  -- each start still to come begins no more than three days before the day that is not asked for yet
  pub left-near : (t : Start) → IsIn t (starts_left s) → (midnight s.asked -ℤ whole_days 3) ≤ℤ t.moment
  unfolding to_come
  left-near t m =
      ⊎_elim (λ n. (s.are t n).late) (λ n. let late = (found-late t n.1).0 in omega (arith, ints, late, s.reached.soon))
      (union-in moment_cmp moment_total t (held_in s) unread (rises-found (clocks_in s.zones) s.event.now s.rule s.window (place_of s.cursor)) m)

  -- and none before an instant that is not after those of what is held, nor after the settled one
  pub left-from : (from : ℤ) → ((t : Start) → IsIn t (held_in s) → from ≤ℤ t.moment) → from ≤ℤ settled_in s → (t : Start) → IsIn t (starts_left s) →
      from ≤ℤ t.moment
  unfolding to_come
  left-from from held settled t m =
      ⊎_elim (held t) (λ n. omega (arith, ints, settled, found-settled t n.1))
      (union-in moment_cmp moment_total t (held_in s) unread (rises-found (clocks_in s.zones) s.event.now s.rule s.window (place_of s.cursor)) m)

-- What is known of the starts once a day more is read, up to and with a local.
pub record IsRead (s : RuleStarts) (day asked next : ℤ) (place known : ℕ) (held : List Start) : Type 0 where
  pub rises : Rises moment_cmp held
  pub are : AreHeld (clocks_in s.zones) s.event.now s.rule s.window asked held
  pub reached : IsReadTo day asked s.end next place
  pub before : (midnight_number s.asked ≤ midnight_number asked) × (known ≤ midnight_number asked)
  pub same : to_come (clocks_in s.zones) s.event.now s.rule s.window held place ≡ starts_left s
  pub less : steps_left day s.end place < steps_left s.day s.end (place_of s.cursor)

module _ (s : RuleStarts) {b : ℤ} (fits : mag b < 2_147_483_648) (later : s.day <ℤ b) (within : b ≤ℤ s.end) {at : Local}
    (is : at ≡ local_at (to_z w32 (of_z w32 b)) 0) where
  days : IsDayNumber b
  days = (omega (arith, ints, later, s.reached.low), omega (arith, ints, within, (end-days s).1))

  there : number at ≡ midnight_number b
  there = rw (is, signed-back b b fits refl) refl

  pub bound-days : IsDayNumber at.day
  bound-days = rw (is, signed-back b b fits refl) days

  pub bound-early : number at ≤ rules_end
  bound-early = omega (arith, ints, there, within, days.0, (end-days s).0, s.early)

  midnight-back : (seconds : ℤ) → seconds ≡ local_seconds at → to_z w64 (of_z w64 seconds) ≡ midnight b
  midnight-back seconds e =
      let there = ap (λ (l : Local). local_seconds l) is in
      let day : to_z w32 (of_z w32 b) ≡ b = signed-back b b fits refl in
      omega (arith, ints, e, there, day, days)

  -- where no local is kept up to the bound
  pub none-read : AreHeld (clocks_in s.zones) s.event.now s.rule s.window b (held_in s) → {place : ℕ} →
      NoneKept s.rule (place_of s.cursor) (number at) × (place ≡ max (place_of s.cursor) (number at)) → {seconds : ℤ} → seconds ≡ local_seconds at →
      IsRead s (to_z w32 (of_z w32 b)) (to_z w32 (of_z w32 b)) (to_z w64 (of_z w64 seconds)) place (number at) (held_in s)
  none-read are next {seconds = seconds} read = let from = midnight-back seconds read in rw (signed-back b b fits refl) (record {
    rises = s.rises;
    are = are;
    reached = record {
      read = omega (arith, next.1, there);
      next_read = omega (arith, ints, next.1, there, from, number-day b days);
      next_on = omega (arith, ints, from);
      low = omega (arith, ints, days.0);
      on = omega (arith, ints);
      soon = omega (arith, ints);
      by_end = within;
    };
    before = (omega (arith, ints, s.reached.low, s.reached.on, s.reached.soon, later, days.0), omega (arith, there));
    same = rw next.1 (come-none (clocks_in s.zones) s.event.now s.rule s.window (held_in s) (place_of s.cursor) (number at) bound-early next.0);
    less = omega (arith, ints, later, within, next.1, there, s.reached.low, days.0, (end-days s).0);
  })

  -- the next kept local before the bound is read
  module _ (a : Local) (own : IsDayNumber a.day) {place : ℕ}
      (next : IsNextKept s.rule (place_of s.cursor) (number at) (number a) × (place ≡ number a + 1)) where
    pub one-time : IsTimeOf s.zones.zones.now (time_at s.event.now.start a)
    one-time = record { is_time = kept-time s.event.now a s.rule_of.time.is_time s.rule_of.of own next.0.kept; within = s.rule_of.time.within }

    on-day : (s.day ≤ℤ a.day) × ((a.day +ℤ pos 1) ≤ℤ b)
    on-day = (
      omega (arith, ints, next.0.from_place, s.reached.read, s.reached.low, own.0, a.second_in),
      omega (arith, ints, next.0.in_bound, there, own.0, days.0, a.second_in),
    )

    -- whose clock can be asked for it
    pub one-moment : IsMoment (local_seconds a)
    one-moment = (omega (arith, ints, own.0), omega (arith, ints, on-day.1, within, end-soon s, s.window.not_late, a.second_in))

    pub one-read : {new : List Start} → AreHeld (clocks_in s.zones) s.event.now s.rule s.window b (held_in s) → new
        ≡ with_held (gives (clocks_in s.zones) s.event.now s.rule s.window (number a)) (start_at (clocks_in s.zones) s.event.now a) (held_in s) →
        {seconds : ℤ} → seconds ≡ local_seconds a →
        IsRead s (to_z w32 (of_z w32 a.day)) (to_z w32 (of_z w32 (to_z w32 (of_z w32 a.day) +ℤ pos 1)))
        (to_z w64 (of_z w64 (to_z w64 (of_z w64 seconds) +ℤ pos 1))) place (number a + 1) new
    one-read are is-new {seconds = seconds} read =
        let from : to_z w64 (of_z w64 (to_z w64 (of_z w64 seconds) +ℤ pos 1)) ≡ local_seconds a +ℤ pos 1 = omega (arith, ints, read, own, a.second_in) in
        let clocks = clocks_in s.zones in
        let event = s.event.now in
        let given = gives (clocks_in s.zones) s.event.now s.rule s.window (number a) in
        let kept = next.0 in
        rw (next-back a.day own, day-back a.day own, is-new, next.1) (record {
          rises = rises-held given (start_at clocks event a) (held_in s) s.rises;
          are = λ t m. ⊎_elim
              (held-on s.zones event s.rule s.window s.asked (a.day +ℤ pos 1) (held_in s) (omega (arith, ints, on-day.0, s.reached.soon))
              (λ u j. let l = (are u j).late in omega (arith, ints, l, on-day.1)) s.are t)
              (λ i. rw i.1 (is-held s.zones event s.rule s.window a own (omega (arith, ints, own.0), omega (arith, ints, on-day.1, days.1)) i.0))
              (held-in given (start_at clocks event a) t (held_in s) m);
          reached = record {
            read = omega (arith, ints, own.0);
            next_read = omega (arith, ints, from, number-seconds a own);
            next_on = omega (arith, ints, from);
            low = omega (arith, ints, own.0);
            on = omega (arith, ints);
            soon = omega (arith, ints);
            by_end = omega (arith, ints, on-day.1, within);
          };
          before = (omega (arith, ints, s.reached.low, s.reached.on, s.reached.soon, on-day.0, own.0), omega (arith, ints, own.0, a.second_in));
          same = rw (numbered-number a own) at (come-one clocks event s.rule s.window (held_in s) s.rises bound-early kept);
          less = omega (arith, ints, kept.from_place, kept.in_bound, there, on-day.0, on-day.1, within, s.reached.low, own.0, days.0, (end-days s).0);
        })
