-- Which starts EXDATEs take out.
use Rattle.std.proofs.Common.{◌≡◌, ◌<◌, ℕ, ℤ, ◌+ℤ◌, ◌≤ℤ◌, Bool, true, false, ◌||◌, List, [], ◌∷◌, ◌++◌, length, get_or, Result, is_ok, refl, sym, ◌∙◌, ap}
use Rattle.std.proofs.Common.{◌⊎◌, inl, inr, ◌<ℤ◌, ◌-ℤ◌, ◌*ℤ◌, pos, w64, to_z, of_z, not, if◌then◌else◌, int_cmp, int_eq, int_le, arith}
use Rattle.std.proofs.Common.{slice_get, subst, Some}
use Rattle.std.specs.Option.{option_map}
use Rattle.std.specs.List.{list_any}
use Rattle.std.specs.List.Sorted.{IsBinarySearchResult, IsPermutation, IsSearchInRange, IsSorted}
use Rattle.std.proofs.lemmas.Bool.{not-false}
use Rattle.std.proofs.lemmas.Cmp.{int_cmp_total}
use Rattle.std.proofs.lemmas.Int.{ints}
use Rattle.std.proofs.lemmas.List.{length-map}
use Rattle.std.proofs.lemmas.List.Elements.{Contains-get_or}
use Rattle.std.proofs.lemmas.List.Folds.{list_any-append, Any-from_list_any}
use Rattle.std.proofs.lemmas.Option.{slice_get-map, slice_get_read}
use Rattle.std.proofs.lemmas.List.Sorted.{list_any-IsPermutation}
use Rattle.std.proofs.Math.Bool.{or-false}
use Rattle.jiff_core.specs.Calendar.{IsWithin}
use Rattle.ics_values.specs.declared.stamp.Stamp.{Stamp}
use Rattle.ics_values.specs.declared.stamp.Stamp.TheVariants.{Date, Floating, Utc, Zoned}
use Rattle.ics_event.specs.Event.{Time}
use Rattle.ics_zone.proofs.Cases.{int_le_true}
use Rattle.ics_listing.specs.declared.window.Window.{Window}
use Rattle.ics_starts.specs.declared.zones.FileZones.{FileZones}
use Rattle.ics_listing.specs.FileClocks.{Clock, Clocks}
use Rattle.ics_starts.specs.Clocks.{clock_of, instant}
use Rattle.ics_event.specs.Event.{stamp_seconds}
use Rattle.ics_event.specs.declared.event.Event.{Event}
use Rattle.ics_listing.specs.FileClocks.{day_of}
use Rattle.ics_listing.specs.StartTimes.{date_only}
use Rattle.ics_starts.specs.Inner.ByLocal.{count_in, exdate_locals, local_in, place_in, AreKnown}
use Rattle.ics_starts.specs.declared.by_local.Places.{Places}
use Rattle.ics_starts.specs.Exclusions.{excludes, excludes_by, excludes_time, is_among, is_day_in, is_excluded, is_known, shown_day, takes_out, with_instant}
use Rattle.ics_starts.specs.FileZones.{clocks_in, is_early, is_past}
use Rattle.ics_starts.specs.Found.{counts}
use Rattle.ics_starts.proofs.InstantLemmas.{instant-near, near-clock}
use Rattle.ics_fields.specs.Locals.{midnight, whole_days}
use Rattle.ics_listing.proofs.Cases.{equal-true}
use Rattle.ics_listing.proofs.NearLemmas.{day-under}
use Rattle.ics_listing.proofs.ListingLemmas.{in-any, in-contains, search-finds}

-- how far two offsets lie apart
pub apart-back : {least most : ℤ} → IsWithin 93_599 least → IsWithin 93_599 most
    → to_z w64 (of_z w64 (to_z w64 (of_z w64 most) -ℤ to_z w64 (of_z w64 least))) ≡ most -ℤ least
apart-back l m = omega (arith, ints, l, m)

-- Whether a search finds a number.
pub found-in : (xs : List ℤ) (x : ℤ) (r : Result ℕ ℕ) → IsSorted int_cmp xs → IsSearchInRange r (length xs) → IsBinarySearchResult (λ y. int_cmp y x) xs r →
    is_ok r ≡ list_any (λ y. int_eq y x) xs
found-in xs x r s b h = search-finds int_cmp_total (λ y. y) x xs r s b h

-- what passes a test stands at a place
pub any-at : {X : Type 0} (test : X → Bool) (xs : List X) (k : ℕ) (x : X) → k < length xs → x ≡ get_or xs k x → test x ≡ true → list_any test xs ≡ true
any-at test xs k x l is e =
    in-any test (get_or xs k x) xs (ap test (sym is) ∙ e) (in-contains (get_or xs k x) xs (Contains-get_or xs k x l))

-- what each of two implies, one of the two does
pub or-either : (a b c : Bool) → (a ≡ true → c ≡ true) → (b ≡ true → c ≡ true) → (a || b) ≡ true → c ≡ true
or-either true b c f g e = f refl
or-either false b c f g e = g e

-- One more instant.
or-moved : (a b c : Bool) → ((a || (b || false)) || c) ≡ ((a || c) || b)
or-moved a b c = grind arith

less-unequal : (a b : ℤ) → a <ℤ b → int_eq a b ≡ false
less-unequal a b l = grind (arith, ints)

more-unequal : (a b : ℤ) → b <ℤ a → int_eq a b ≡ false
more-unequal a b l = grind (arith, ints)

-- a time that its local tells to be before an instant, or past it, is not there
pub early-false : (zones : FileZones) (time : Time) (t : ℤ) → (stamp_seconds time.stamp +ℤ whole_days 2) ≤ℤ t
    → int_eq (instant (clocks_in zones) time) t ≡ false
early-false zones time t l = less-unequal (instant (clocks_in zones) time) t (omega (arith, ints, l, instant-near zones time))

pub later-false : (zones : FileZones) (time : Time) (t : ℤ) → (t +ℤ whole_days 2) ≤ℤ stamp_seconds time.stamp
    → int_eq (instant (clocks_in zones) time) t ≡ false
later-false zones time t l = more-unequal (instant (clocks_in zones) time) t (omega (arith, ints, l, instant-near zones time))

-- no clock shows a day at an instant that is two days before it or more, or as far behind it
pub far-day : (zones : FileZones) (first : Time) (to from day t : ℤ) → from ≤ℤ t → t <ℤ to
    → ((midnight day +ℤ whole_days 3) ≤ℤ from) ⊎ ((to +ℤ whole_days 2) ≤ℤ midnight day)
    → int_eq day (shown_day (clock_of (clocks_in zones) first) t) ≡ false
far-day zones first to from day t late early far = by far
  where
    clock : Clock
    clock = clock_of (clocks_in zones) first

    by : ((midnight day +ℤ whole_days 3) ≤ℤ from) ⊎ ((to +ℤ whole_days 2) ≤ℤ midnight day) → int_eq day (shown_day clock t) ≡ false
    by (inl l) =
        let off = (near-clock zones first.zone first.stamp).offset t in
        let under = day-under (t +ℤ clock.offset t) (shown_day clock t) refl in
        less-unequal day (shown_day clock t) (omega (arith, ints, l, late, off.0, off.1, under.0, under.1))
    by (inr l) =
        let off = (near-clock zones first.zone first.stamp).offset t in
        let under = day-under (t +ℤ clock.offset t) (shown_day clock t) refl in
        more-unequal day (shown_day clock t) (omega (arith, ints, l, early, off.0, off.1, under.0, under.1))

-- two instants differ if one of them is among some and the other is not
unequal-among : (xs : List ℤ) (a b : ℤ) → is_among xs a ≡ false → is_among xs b ≡ true → int_eq a b ≡ false
unequal-among xs a b out there = by (int_eq a b) refl
  where
    by : (same : Bool) → int_eq a b ≡ same → same ≡ false
    by true e = let f : true ≡ false = sym there ∙ (ap (is_among xs) (sym (equal-true a b e)) ∙ out) in absurd cc
    by false e = refl

-- the midnight of a date is less than a day before its times
under-date : (s : Stamp) → (stamp_seconds (Date (day_of s)) ≤ℤ stamp_seconds s) × (stamp_seconds s <ℤ (stamp_seconds (Date (day_of s)) +ℤ whole_days 1))
under-date (Date day) = (omega (arith, ints), omega (arith, ints))
under-date (Floating local) = (omega (arith, ints), omega (arith, ints, local.second_in))
under-date (Utc local) = (omega (arith, ints), omega (arith, ints, local.second_in))
under-date (Zoned local) = (omega (arith, ints), omega (arith, ints, local.second_in))

-- what takes out a start has a local less than four days from it
module _ (zones : FileZones) (t : ℤ) where
  abbrev is-nearby : ℤ → Type 0
  is-nearby local = ((t -ℤ whole_days 4) ≤ℤ local) × (local <ℤ (t +ℤ whole_days 4))

  by-instant : (time : Time) → int_eq (instant (clocks_in zones) time) t ≡ true → is-nearby (stamp_seconds time.stamp)
  by-instant time e =
      let at = equal-true (instant (clocks_in zones) time) t e in
      let near = instant-near zones time in (omega (arith, ints, at, near), omega (arith, ints, at, near))

  by-date : (exdate : Time) → int_eq (instant (clocks_in zones) (date_only exdate)) t ≡ true → is-nearby (stamp_seconds exdate.stamp)
  by-date exdate e =
      let at = equal-true (instant (clocks_in zones) (date_only exdate)) t e in
      let near = instant-near zones (date_only exdate) in
      let under = under-date exdate.stamp in (omega (arith, ints, at, near, under.0), omega (arith, ints, at, near, under.1))

  by-day : (first : Time) (day : ℤ) → int_eq day (shown_day (clock_of (clocks_in zones) first) t) ≡ true → is-nearby (day *ℤ pos 86_400)
  by-day first day e =
      let clock = clock_of (clocks_in zones) first in
      let shown = equal-true day (shown_day clock t) e in
      let off = (near-clock zones first.zone first.stamp).offset t in
      let under = day-under (t +ℤ clock.offset t) (shown_day clock t) refl in
      (omega (arith, ints, shown, off.0, off.1, under.0, under.1), omega (arith, ints, shown, off.0, off.1, under.0, under.1))

  by-time : (first exdate : Time) (s : Stamp) → exdate.stamp ≡ s → excludes_time (clocks_in zones) first exdate s t ≡ true
      → is-nearby (stamp_seconds exdate.stamp)
  by-time first exdate (Date day) is e = subst (λ (x : Stamp). is-nearby (stamp_seconds x)) (sym is) (by-day first day e)
  by-time first exdate _ is e = by-instant exdate e

  nearby : (first exdate : Time) (s : Stamp) → excludes_by (clocks_in zones) first s exdate t ≡ true → is-nearby (stamp_seconds exdate.stamp)
  nearby first exdate (Date day) e = by-date exdate e
  nearby first exdate _ e = by-time first exdate exdate.stamp refl e

-- an EXDATE at one of some places takes out a start
pub record IsTakenAt (clocks : Clocks) (event : Event) (places : Places) (t : ℤ) : Type 0 where
  pub k : ℕ
  pub within : k < count_in places
  pub exdate : Time
  pub there : slice_get event.exdates (place_in places k) ≡ Some exdate
  pub takes : excludes clocks event.start exdate t ≡ true

module _ (event : Event) (places : Places) {from to : ℤ} {running : List ℤ} (near : AreKnown (exdate_locals event) from running to places) where
  -- one of the places is that of an EXDATE
  pub exdate-there : {k : ℕ} → k < count_in places → place_in places k < length event.exdates
  exdate-there {k = k} l = subst (λ n. place_in places k < n) (length-map event.exdates local_in) (near.within k l)

  -- what takes out a start that is known is among the EXDATEs at them: its local is near the start
  pub taken-near : (zones : FileZones) {t : ℤ} → is_known from running t ≡ true → t <ℤ to → is_excluded (clocks_in zones) event t ≡ true
      → IsTakenAt (clocks_in zones) event places t
  taken-near zones {t = t} known early out =
      let any = Any-from_list_any (λ exdate. excludes (clocks_in zones) event.start exdate t) event.exdates out in
      let close = nearby zones t event.start any.1 event.start.stamp any.4 in
      let there : slice_get event.exdates any.0 ≡ Some any.1 =
      slice_get_read event.exdates (length event.exdates) any.0 any.1 refl any.2 (sym any.3) in
      let among = near.all t known early any.0 (local_in any.1) (slice_get-map local_in event.exdates any.0 ∙ ap (option_map local_in) there)
      close.0 close.1 in
      record { k = among.k; within = among.within; exdate = any.1; there = ap (slice_get event.exdates) among.is ∙ there; takes = any.4 }

-- a time that does not count is at no instant that is known
uncounted-false : (zones : FileZones) (w : Window) (from : ℤ) (running : List ℤ) (time : Time) (t : ℤ) → is_known from running t ≡ true → t <ℤ w.to
    → counts w from time (is_among running (instant (clocks_in zones) time)) ≡ false → int_eq (instant (clocks_in zones) time) t ≡ false
uncounted-false zones w from running time t known early = by (is_early from time) refl
  where
    moment : ℤ
    moment = instant (clocks_in zones) time

    before : (on : Bool) → int_le from t ≡ on → (on || is_among running t) ≡ true → (stamp_seconds time.stamp +ℤ whole_days 2) ≤ℤ from
        → is_among running moment ≡ false → int_eq moment t ≡ false
    before true e k l out = early-false zones time t (omega (arith, ints, l, int_le_true from t e))
    before false e k l out = unequal-among running moment t out k

    by : (b : Bool) → is_early from time ≡ b → (if b then is_among running moment else not (is_past w time)) ≡ false → int_eq moment t ≡ false
    by true e h = before (int_le from t) refl known (int_le_true (stamp_seconds time.stamp +ℤ whole_days 2) from e) h
    by false e h =
        let l = int_le_true (w.to +ℤ whole_days 2) (stamp_seconds time.stamp) (not-false (is_past w time) h) in
        later-false zones time t (omega (arith, ints, l, early))

-- the instant of a time takes out the start there, or does not count
module _ (zones : FileZones) (w : Window) (from : ℤ) (running : List ℤ) (clock : Clock) (instants days : List ℤ) where
  added : (moment t : ℤ) → takes_out clock (with_instant true instants moment) days t ≡ (takes_out clock instants days t || int_eq moment t)
  added moment t =
      rw (list_any-append (λ x. int_eq x t) instants (moment ∷ []))
      (or-moved (list_any (λ x. int_eq x t) instants) (int_eq moment t) (is_day_in clock days t))

  -- whether a time counts
  abbrev counted : Time → Bool
  counted time = counts w from time (is_among running (instant (clocks_in zones) time))

  pub pushed-instant : {new : List ℤ} (time : Time) {t : ℤ} → is_known from running t ≡ true → t <ℤ w.to
      → new ≡ with_instant (counts w from time (is_among running (instant (clocks_in zones) time))) instants (instant (clocks_in zones) time)
      → takes_out clock new days t ≡ (takes_out clock instants days t || int_eq (instant (clocks_in zones) time) t)
  pushed-instant time {t = t} known early e =
      ap (λ xs. takes_out clock xs days t) e
      ∙ by (instant (clocks_in zones) time) (counted time) (uncounted-false zones w from running time t known early)
    where
      by : (moment : ℤ) (b : Bool) → (b ≡ false → int_eq moment t ≡ false)
          → takes_out clock (with_instant b instants moment) days t ≡ (takes_out clock instants days t || int_eq moment t)
      by moment true h = added moment t
      by moment false h = sym (ap (λ b. takes_out clock instants days t || b) (h refl) ∙ or-false (takes_out clock instants days t))

  -- and no other
  pub pushed-only : {new : List ℤ} (time : Time) (t : ℤ)
      → new ≡ with_instant (counts w from time (is_among running (instant (clocks_in zones) time))) instants (instant (clocks_in zones) time)
      → takes_out clock new days t ≡ true → (takes_out clock instants days t || int_eq (instant (clocks_in zones) time) t) ≡ true
  pushed-only time t e h = by (instant (clocks_in zones) time) (counted time) (ap (λ xs. takes_out clock xs days t) (sym e) ∙ h)
    where
      by : (moment : ℤ) (b : Bool) → takes_out clock (with_instant b instants moment) days t ≡ true
          → (takes_out clock instants days t || int_eq moment t) ≡ true
      by moment true k = sym (added moment t) ∙ k
      by moment false k = rw k refl

-- a day more takes out the starts at which the clock shows it
or-third : (a b c : Bool) → (a || (b || (c || false))) ≡ ((a || b) || c)
or-third a b c = grind arith

pub pushed-day : (clock : Clock) (instants days : List ℤ) (day t : ℤ)
    → takes_out clock instants (days ++ (day ∷ [])) t ≡ (takes_out clock instants days t || int_eq day (shown_day clock t))
pushed-day clock instants days day t =
    rw (list_any-append (λ x. int_eq x (shown_day clock t)) days (day ∷ []))
    (or-third (list_any (λ x. int_eq x t) instants) (is_day_in clock days t) (int_eq day (shown_day clock t)))

module _ (clocks : Clocks) (first exdate : Time) where
  -- of date-times a date takes out those that DTSTART's clock shows on it
  pub excludes-day : (s : Stamp) (day t : ℤ) → ((d : ℤ) → s ≡ Date d → ⊥) → exdate.stamp ≡ Date day
      → excludes_by clocks first s exdate t ≡ int_eq day (shown_day (clock_of clocks first) t)
  excludes-day (Date d) day t h e = absurd (h d refl)
  excludes-day _ day t h e = ap (λ (x : Stamp). excludes_time clocks first exdate x t) e

  excludes-time : (s : Stamp) (t : ℤ) → ((day : ℤ) → s ≡ Date day → ⊥) → excludes_time clocks first exdate s t ≡ int_eq (instant clocks exdate) t
  excludes-time (Date day) t h = absurd (h day refl)
  excludes-time _ t h = refl

  -- of date-times a time takes out the start at its instant
  pub excludes-instant : (s : Stamp) (t : ℤ) → ((day : ℤ) → s ≡ Date day → ⊥) → ((day : ℤ) → exdate.stamp ≡ Date day → ⊥)
      → excludes_by clocks first s exdate t ≡ int_eq (instant clocks exdate) t
  excludes-instant (Date day) t h k = absurd (h day refl)
  excludes-instant _ t h k = excludes-time exdate.stamp t k

-- a sort takes nothing out and adds nothing
pub sorted-takes_out : (clock : Clock) {instants days sorted rising : List ℤ} (t : ℤ) → IsPermutation instants sorted → IsPermutation days rising →
    takes_out clock sorted rising t ≡ takes_out clock instants days t
sorted-takes_out clock {instants = instants} {days = days} {sorted = sorted} {rising = rising} t p q =
    ap (λ b. b || is_day_in clock rising t) (sym (list_any-IsPermutation (λ x. int_eq x t) instants sorted p))
    ∙ ap (λ b. list_any (λ x. int_eq x t) instants || b) (sym (list_any-IsPermutation _ days rising q))

-- a day is added, or no clock shows it at an instant that is known
module _ (zones : FileZones) (first : Time) (w : Window) (from : ℤ) (running instants days new : List ℤ) (day : ℤ) (removes : ℤ → Bool)
    (same : (t : ℤ) → removes t ≡ int_eq day (shown_day (clock_of (clocks_in zones) first) t)) where
  abbrev clock-of-first : Clock
  clock-of-first = clock_of (clocks_in zones) first

  abbrev is-added : Type 0
  is-added = (new ≡ days ++ (day ∷ [])) ⊎ ((new ≡ days) × ((running ≡ [])
      × (((midnight day +ℤ whole_days 3) ≤ℤ from) ⊎ ((w.to +ℤ whole_days 2) ≤ℤ midnight day))))

  added-day : (t : ℤ) → new ≡ days ++ (day ∷ [])
      → takes_out clock-of-first instants new t ≡ (takes_out clock-of-first instants days t || removes t)
  added-day t e = ap (λ xs. takes_out clock-of-first instants xs t) e
      ∙ (pushed-day clock-of-first instants days day t ∙ ap (λ b. takes_out clock-of-first instants days t || b) (sym (same t)))

  pub day-only : is-added → (t : ℤ) → takes_out clock-of-first instants new t ≡ true → (takes_out clock-of-first instants days t || removes t) ≡ true
  day-only (inl e) t out = sym (added-day t e) ∙ out
  day-only (inr e) t out = ap (λ a. a || removes t) (sym (ap (λ xs. takes_out clock-of-first instants xs t) e.0) ∙ out)

  pub day-same : is-added → (t : ℤ) → is_known from running t ≡ true → t <ℤ w.to
      → takes_out clock-of-first instants new t ≡ (takes_out clock-of-first instants days t || removes t)
  day-same (inl e) t known early = added-day t e
  day-same (inr e) t known early =
      let begun : int_le from t ≡ true = sym (or-false (int_le from t)) ∙ (sym (ap (λ xs. int_le from t || is_among xs t) e.1.0) ∙ known) in
      let far = far-day zones first w.to from day t (int_le_true from t begun) early e.1.1 in
      ap (λ xs. takes_out clock-of-first instants xs t) e.0
      ∙ sym (ap (λ b. takes_out clock-of-first instants days t || b) (same t ∙ far) ∙ or-false (takes_out clock-of-first instants days t))
