-- The starts at DTSTART and by RDATEs, and that those that are sought are among those that are found.
use Rattle.std.proofs.Common.{◌≡◌, ℕ, suc, ◌+◌, ◌<◌, ℤ, ◌+ℤ◌, ◌-ℤ◌, ◌<ℤ◌, ◌≤ℤ◌, List, [], ◌∷◌, length, get_or, drop, add-one, Bool, true, false, Some}
use Rattle.std.proofs.Common.{Option, pos, ◌&&◌, int_le}
use Rattle.std.proofs.Common.{None, option_map, inl, inr, ⊎_elim, sym, ◌∙◌, ap, subst, arith, zero, ◌⊎◌, refl, drop-cons, slice_get, not, if◌then◌else◌}
use Rattle.std.proofs.lemmas.Int.{int_max_is, int_min_is, ints}
use Rattle.std.proofs.lemmas.Bool.{and_from}
use Rattle.std.proofs.lemmas.Map.Keys.{any_passes_from_place}
use Rattle.ics_event.specs.declared.event.Event.{Event}
use Rattle.ics_event.specs.Event.{Rdate}
use Rattle.ics_values.specs.declared.time.Rdate.TheVariants.{At, Span}
use Rattle.ics_listing.specs.declared.start.StartSource.{StartSource}
use Rattle.ics_listing.specs.declared.start.StartSource.TheVariants.{Kept, Listed}
use Rattle.ics_listing.specs.declared.start.Start.{Start}
use Rattle.ics_listing.specs.declared.window.Window.{Window}
use Rattle.ics_starts.specs.declared.zones.FileZones.{FileZones}
use Rattle.ics_listing.specs.FileClocks.{Clocks}
use Rattle.ics_starts.specs.Clocks.{clock_by, clock_of, instant, IsBounded}
use Rattle.ics_zone.specs.declared.bounds.Bounds.{Bounds}
use Rattle.ics_event.specs.Event.{stamp_seconds}
use Rattle.ics_starts.specs.Finish.{days_lasting, end_by, seconds_by, seconds_lasting, span_end}
use Rattle.ics_starts.specs.Found.{begins_at, counts, counts_from, counts_since, earlier, earliest, earliest_from, first_met, is_running, is_over}
use Rattle.ics_starts.specs.Found.{is_span_met}
use Rattle.ics_starts.specs.Exclusions.{is_among}
use Rattle.ics_starts.specs.Found.{listed_from, span_local, start_at, start_by, with_front, AreRunning, IsSought}
use Rattle.ics_starts.specs.SeriesStarts.{listed_of}
use Rattle.ics_starts.specs.Leeway.{late_by, late_within, rule_late, seconds_late}
use Rattle.ics_listing.specs.Listing.{IsIn}
use Rattle.ics_starts.specs.Meeting.{entry_from}
use Rattle.ics_starts.specs.MeetsWindow.{Meets}
use Rattle.ics_starts.specs.Starts.{given_by, recurrence_by, GivesStart}
use Rattle.ics_listing.specs.StartTimes.{local_of, stamp_at, time_at, time_of}
use Rattle.ics_starts.specs.FileZones.{clocks_in, is_early, is_past}
use Rattle.ics_starts.proofs.InstantLemmas.{bounds-apart, instant-near, later-bound, later-bounded, meets-late, seconds-least}
use Rattle.ics_zone.proofs.Cases.{int_le_true, true_int_le}
use Rattle.ics_starts.proofs.MeetsLemmas.{less-le, meets-is_met}
use Rattle.ics_fields.specs.Locals.{midnight, whole_days}
use Rattle.ics_fields.specs.declared.local.Local.{Local}
use Rattle.ics_event.specs.Event.{Length}
use Rattle.ics_values.specs.declared.time.Length.TheVariants.{Lasting, Open, Until}
use Rattle.ics_values.specs.declared.stamp.Stamp.{Stamp}
use Rattle.ics_values.specs.declared.stamp.Stamp.TheVariants.{Date, Floating, Utc, Zoned}
use Rattle.ics_event.specs.Event.{Time}
use Rattle.ics_listing.proofs.Cases.{some-same, true-equal}

-- a start of the list is by one of the RDATEs
pub record IsListed (clocks : Clocks) (first : Time) (place : ℕ) (rdates : List Rdate) (s : Start) : Type 0 where
  pub index : ℕ
  pub rdate : Rdate
  pub stands : slice_get rdates index ≡ Some rdate
  pub is : s ≡ start_by clocks (Listed (place + index)) (given_by first rdate)

behind : (clocks : Clocks) (first : Time) (place : ℕ) (r : Rdate) (rdates : List Rdate) (s : Start) → IsListed clocks first (place + 1) rdates s
    → IsListed clocks first place (r ∷ rdates) s
behind clocks first place r rdates s k = record {
  index = suc k.index;
  rdate = k.rdate;
  stands = k.stands;
  is = k.is ∙ ap (λ n. start_by clocks (Listed n) (given_by first k.rdate)) (omega arith);
}

module _ (clocks : Clocks) (w : Window) (since from : ℤ) (event : Event) where
  abbrev value : Rdate → Rdate
  value r = given_by event.start r

  -- whether the start by a value counts
  abbrev value_counts : Rdate → Bool
  value_counts r = counts_since clocks w event since from (time_of (value r))

  in-front : (b : Bool) (s x : Start) (xs : List Start) → IsIn s (with_front b x xs) → (s ≡ x) ⊎ IsIn s xs
  in-front true s x xs m = m
  in-front false s x xs m = inr m

  pub listed-in : (place : ℕ) (rdates : List Rdate) (s : Start) → IsIn s (listed_from clocks w since from event place rdates)
      → IsListed clocks event.start place rdates s
  listed-in place [] s m = absurd m
  listed-in place (r ∷ rdates) s m =
      ⊎_elim
      (λ e. record { index = 0; rdate = r; stands = refl; is = e ∙ ap (λ n. start_by clocks (Listed n) (value r)) (omega arith) })
      (λ n. behind clocks event.start place r rdates s (listed-in (place + 1) rdates s n))
      (in-front (value_counts r) s (start_by clocks (Listed place) (value r)) (listed_from clocks w since from event (place + 1) rdates) m)

  rest-in : (b : Bool) (s x : Start) (xs : List Start) → IsIn s xs → IsIn s (with_front b x xs)
  rest-in true s x xs m = inr m
  rest-in false s x xs m = m

  -- each of them that counts is there
  pub in-listed : (place k : ℕ) (rdates : List Rdate) {r : Rdate} {at : ℕ} → at ≡ place + k → slice_get rdates k ≡ Some r → value_counts r ≡ true →
      IsIn (start_by clocks (Listed at) (value r)) (listed_from clocks w since from event place rdates)
  in-listed place k [] {r = r} a e p = let f : None ≡ Some r = e in absurd cc
  in-listed place zero (q ∷ rdates) {r = r} {at = at} a e p =
      let same : r ≡ q = some-same r q (sym e) in
      let here : at ≡ place = omega (arith, a) in
      let wanted : value_counts q ≡ true = ap value_counts (sym same) ∙ p in
      rw wanted (inl (λ i. start_by clocks (Listed (here i)) (value (same i))))
  in-listed place (suc k) (q ∷ rdates) {r = r} {at = at} a e p =
      rest-in (value_counts q) (start_by clocks (Listed at) (value r)) (start_by clocks (Listed place) (value q))
      (listed_from clocks w since from event (place + 1) rdates) (in-listed (place + 1) k rdates (omega (arith, a)) e p)

  -- one value further on
  pub listed-step : (place : ℕ) (rdates : List Rdate) {r : Rdate} (counting : Bool) → place < length rdates → r ≡ get_or rdates place r
      → value_counts r ≡ counting → listed_from clocks w since from event place (drop place rdates)
      ≡ with_front counting (start_by clocks (Listed place) (value r)) (listed_from clocks w since from event (place + 1) (drop (place + 1) rdates))
  listed-step place rdates {r = r} counting l e is =
      let front : drop place rdates ≡ r ∷ drop (suc place) rdates = drop-cons rdates place r l ∙ ap (λ x. x ∷ drop (suc place) rdates) (sym e) in
      let s = start_by clocks (Listed place) (value r) in
      ap (listed_from clocks w since from event place) front
      ∙ (ap (λ b. with_front b s (listed_from clocks w since from event (place + 1) (drop (suc place) rdates))) is
      ∙ ap (λ n. with_front counting s (listed_from clocks w since from event (place + 1) (drop n rdates))) (sym (add-one place)))

-- From where on the rule is asked.
earlier-is : (b : Bool) (least t : ℤ) → (earlier b least t ≤ℤ least) × (b ≡ true → earlier b least t ≤ℤ t)
earlier-is true least t = (omega (arith, ints, int_min_is least t), λ e. omega (arith, ints, int_min_is least t))
earlier-is false least t = (omega (arith, ints), λ e. let f : false ≡ true = e in absurd cc)

module _ (clocks : Clocks) (w : Window) (event : Event) where
  earliest-most : (least : ℤ) (xs : List Start) → earliest_from clocks w event least xs ≤ℤ least
  earliest-most least [] = omega (arith, ints)
  earliest-most least (x ∷ xs) =
      let rest = earliest-most (earlier (is_span_met clocks w event x x.given) least x.moment) xs in
      omega (arith, ints, rest, (earlier-is (is_span_met clocks w event x x.given) least x.moment).0)

  earliest-each : (least : ℤ) (s : Start) (xs : List Start) → IsIn s xs → is_span_met clocks w event s s.given ≡ true →
      earliest_from clocks w event least xs ≤ℤ s.moment
  earliest-each least s [] m e = absurd m
  earliest-each least s (x ∷ xs) m e =
      ⊎_elim
      (λ is.
      let rest = earliest-most (earlier (is_span_met clocks w event x x.given) least x.moment) xs in
      let one = (earlier-is (is_span_met clocks w event x x.given) least x.moment).1 (ap (λ y. is_span_met clocks w event y y.given) (sym is) ∙ e) in
      let same = ap (λ y. y.moment) is in
      omega (arith, ints, rest, one, same))
      (λ n. earliest-each (earlier (is_span_met clocks w event x x.given) least x.moment) s xs n e) m

  -- one start further on
  pub earliest-step : (least : ℤ) {next : ℤ} (xs : List Start) (k : ℕ) {s : Start} → k < length xs → s ≡ get_or xs k s →
      next ≡ earlier (is_span_met clocks w event s s.given) least s.moment
      → earliest_from clocks w event next (drop (k + 1) xs) ≡ earliest_from clocks w event least (drop k xs)
  earliest-step least xs k {s = s} l e n =
      let front : drop k xs ≡ s ∷ drop (suc k) xs = drop-cons xs k s l ∙ ap (λ x. x ∷ drop (suc k) xs) (sym e) in
      ap (λ t. earliest_from clocks w event t (drop (k + 1) xs)) n
      ∙ (ap (λ i. earliest_from clocks w event (earlier (is_span_met clocks w event s s.given) least s.moment) (drop i xs)) (add-one k)
      ∙ sym (ap (earliest_from clocks w event least) front))

-- how late an occurrence can end where a clock can say so many seconds more or less, and how late at most
late-range : (rdates : List Rdate) (s : Stamp) (length : Length) (apart : ℤ) → (pos 0 ≤ℤ apart) × (apart ≤ℤ whole_days 4)
    → (pos 0 ≤ℤ late_by apart rdates s length) × (late_by apart rdates s length ≤ℤ late_by (whole_days 4) rdates s length)
late-range (rdate ∷ rdates) s length apart h = (omega (arith, ints), omega (arith, ints))
late-range [] (Date day) length apart h = h
late-range [] (Utc local) length apart h = (omega (arith, ints), omega (arith, ints))
late-range [] (Floating local) (Lasting duration) apart h = h
late-range [] (Zoned local) (Lasting duration) apart h = h
late-range [] (Floating local) Open apart h = (omega (arith, ints), omega (arith, ints))
late-range [] (Zoned local) Open apart h = (omega (arith, ints), omega (arith, ints))
late-range [] (Floating local) (Until end) apart h = (omega (arith, ints), omega (arith, ints))
late-range [] (Zoned local) (Until end) apart h = (omega (arith, ints), omega (arith, ints))

-- the starts at DTSTART and by RDATEs
abbrev pub front : Clocks → Window → Event → ℤ → List Start
front clocks w event since = start_at clocks event (local_of event.start.stamp) ∷ listed_of clocks w event since

-- a start that is not past the window's end counts, if a PERIOD that is not over begins at its instant or its local does not tell that it is early
counts-by : (early running past : Bool) → past ≡ false → (early ≡ true → running ≡ true) → (if early then running else not past) ≡ true
counts-by true running past p h = h refl
counts-by false running past p h = ap not p

module _ (zones : FileZones) (w : Window) (event : Event) where
  pub sought-early : (t : ℤ) → IsSought (clocks_in zones) event w t → t <ℤ w.to
  sought-early t s = omega (arith, ints, s.starts, s.meets.begun)

  met-late : (time : Time) → Meets w (entry_from (clocks_in zones) event (At time)) → (b : Bool) → w.notstarted ≡ b →
      ((if b then w.from else w.from -ℤ seconds_lasting (clocks_in zones) event) -ℤ whole_days 4) ≤ℤ instant (clocks_in zones) time
  met-late time m true e = omega (arith, ints, m.started e)
  met-late time m false e = meets-late zones event w time m

  -- a PERIOD ends less than six days past what its locals say
  span-late : (start : Time) (length : Length) → span_end (clocks_in zones) start length <ℤ (span_local start length +ℤ whole_days 6)
  span-late start Open = omega (arith, ints, instant-near zones start)
  span-late start (Until end) = omega (arith, ints, instant-near zones end)
  span-late start (Lasting duration) =
      omega (arith, ints, later-bound zones start.zone start.stamp duration (instant (clocks_in zones) start), instant-near zones start)

  -- so one that meets the window is not over
  met-span : (start : Time) (length : Length) → Meets w (entry_from (clocks_in zones) event (Span start length)) → is_over w start length ≡ false
  met-span start length m = by (int_le (stamp_seconds start.stamp) from) (int_le (span_local start length) from) refl refl
    where
      from : ℤ
      from = w.from -ℤ whole_days 6

      by : (a b : Bool) → int_le (stamp_seconds start.stamp) from ≡ a → int_le (span_local start length) from ≡ b → (a && b) ≡ false
      by true true p q =
          let begun = int_le_true (stamp_seconds start.stamp) from p in
          let ended = int_le_true (span_local start length) from q in
          let near = instant-near zones start in
          let end = span-late start length in
          let most = int_max_is (instant (clocks_in zones) start) (span_end (clocks_in zones) start length) in
          absurd (⊎_elim (λ l. omega (arith, ints, begun, ended, near, end, most, l)) (λ r. omega (arith, ints, begun, near, r.1)) m.lasting)
      by true false p q = refl
      by false b p q = refl

  -- By the offsets of the clock: the end of an occurrence by the rule is no more seconds past what the event's length says than they differ by.
  module _ (b : Bounds) where
    late-bound : (first : Time) (index : Option ℕ) (s : Stamp) (local : Local) (length : Length) → IsBounded (clock_by (clocks_in zones) index s) b
        → let given : Time = record { stamp = stamp_at s local; zone = index } in end_by (clocks_in zones) first given s length
        ≤ℤ ((instant (clocks_in zones) given +ℤ seconds_by (clocks_in zones) first s length) +ℤ late_by (b.most -ℤ b.least) [] s length)
    late-bound first index (Date day) local length h =
        let end = h.moments (midnight (local.day +ℤ days_lasting day length)) in
        let begun = h.moments (stamp_seconds (Date local.day)) in
        omega (arith, ints, end.1, begun.0)
    late-bound first index (Utc a) local (Lasting duration) h = omega (arith, ints)
    late-bound first index (Floating a) local (Lasting duration) h =
        later-bounded (clock_by (clocks_in zones) index (Floating local)) b duration
        (instant (clocks_in zones) (record { stamp = Floating local; zone = index })) h
    late-bound first index (Zoned a) local (Lasting duration) h =
        later-bounded (clock_by (clocks_in zones) index (Zoned local)) b duration
        (instant (clocks_in zones) (record { stamp = Zoned local; zone = index })) h
    late-bound first index (Utc a) local Open h = omega (arith, ints)
    late-bound first index (Floating a) local Open h = omega (arith, ints)
    late-bound first index (Zoned a) local Open h = omega (arith, ints)
    late-bound first index (Utc a) local (Until end) h =
        omega (arith, ints, int_max_is (pos 0) (instant (clocks_in zones) end -ℤ instant (clocks_in zones) first))
    late-bound first index (Floating a) local (Until end) h =
        omega (arith, ints, int_max_is (pos 0) (instant (clocks_in zones) end -ℤ instant (clocks_in zones) first))
    late-bound first index (Zoned a) local (Until end) h =
        omega (arith, ints, int_max_is (pos 0) (instant (clocks_in zones) end -ℤ instant (clocks_in zones) first))

  -- what counts first is no later than the window's end
  pub earliest-soon : (starts : List Start) → earliest (clocks_in zones) w event starts ≤ℤ w.to
  earliest-soon starts =
      let most = earliest-most (clocks_in zones) w event (first_met (clocks_in zones) w event) starts in
      let first = first-soon w.notstarted in
      omega (arith, ints, most, first, w.ordered)
    where
      first-soon : (b : Bool) → (if b then w.from else w.from -ℤ seconds_lasting (clocks_in zones) event) ≤ℤ w.from
      first-soon true = omega (arith, ints)
      first-soon false = omega (arith, ints, seconds-least zones event.start event.start.stamp event.length)

  -- Where the clock of DTSTART stays between two offsets.
  module _ (b : Bounds) (bounded : IsBounded (clock_of (clocks_in zones) event.start) b) where
    abbrev apart : ℤ
    apart = b.most -ℤ b.least

    rule-late : pos 0 ≤ℤ rule_late b event
    rule-late = (late-range [] event.start.stamp event.length apart (bounds-apart b bounded)).0

    late-if : (begun : Bool) → (if begun then pos 0 else rule_late b event) ≤ℤ rule_late b event
    late-if true = rule-late
    late-if false = omega (arith, ints)

    -- what meets the window from a local begins no more before an event of this length can, or not before the window if what has begun is left out
    pub met-from : (local : Local) → Meets w (entry_from (clocks_in zones) event (At (time_at event.start local))) → (begun : Bool) → w.notstarted ≡ begun
        → ((if begun then w.from else w.from -ℤ seconds_lasting (clocks_in zones) event) -ℤ (if begun then pos 0 else rule_late b event))
        ≤ℤ instant (clocks_in zones) (time_at event.start local)
    met-from local m true e = omega (arith, ints, m.started e)
    met-from local m false e =
        let end = late-bound b event.start event.start.zone event.start.stamp local event.length bounded in
        let least = seconds-least zones event.start event.start.stamp event.length in
        ⊎_elim (λ l. omega (arith, ints, end, least, rule-late, l, int_max_is)) (λ r. omega (arith, ints, r.1, least, rule-late)) m.lasting

    -- an occurrence can end no more seconds late than by any clock
    pub late-event : (pos 0 ≤ℤ late_within b event) × (late_within b event ≤ℤ seconds_late event)
    late-event = late-range event.rdates event.start.stamp event.length apart (bounds-apart b bounded)

module _ (zones : FileZones) (w : Window) (event : Event) (since : ℤ) where
  -- from when on the starts by RDATEs count
  abbrev counted : ℤ
  counted = counts_from (clocks_in zones) w event since

  -- a PERIOD that is not over begins at the instant of a time, if the time's local tells that it is before that
  abbrev IsCounted : Time → Type 0
  IsCounted time = is_early counted time ≡ true → is_running (clocks_in zones) w event (instant (clocks_in zones) time) ≡ true

  pub listed-there : (place : ℕ) (given : Rdate) → GivesStart (clocks_in zones) event (Listed place) given → instant (clocks_in zones) (time_of given) <ℤ w.to
      → since ≤ℤ instant (clocks_in zones) (time_of given) → IsCounted (time_of given)
      → IsIn (start_by (clocks_in zones) (Listed place) given) (front (clocks_in zones) w event since)
  listed-there place given g early on late =
      let time = time_of (given_by event.start g.0) in
      let same = ap (λ x. instant (clocks_in zones) (time_of x)) g.2 in
      let past : is_past w time ≡ false =
      less-le (w.to +ℤ whole_days 2) (stamp_seconds time.stamp) (omega (arith, ints, same, early, instant-near zones time)) in
      let count = counts-by (is_early counted time) (is_running (clocks_in zones) w event (instant (clocks_in zones) time)) (is_past w time) past
      (subst (λ v. IsCounted (time_of v)) g.2 late) in
      inr (subst (λ v. IsIn (start_by (clocks_in zones) (Listed place) v) (listed_of (clocks_in zones) w event since)) (sym g.2)
      (in-listed (clocks_in zones) w since counted event 0 place event.rdates (omega arith) g.1
      (and_from (int_le since (instant (clocks_in zones) time)) (counts w counted time (is_running (clocks_in zones) w event (instant (clocks_in zones) time)))
      (true_int_le since (instant (clocks_in zones) time) (omega (arith, ints, same, on))) count)))

  -- whether a start from an instant on counts can be told by the instants before that one
  pub counts-same : (from : ℤ) (running : List ℤ) → AreRunning (clocks_in zones) w event since from running → (time : Time)
      → since ≤ℤ instant (clocks_in zones) time → counts w from time (is_among running (instant (clocks_in zones) time))
      ≡ counts_since (clocks_in zones) w event since from time
  counts-same from running are time late =
      by (is_early from time) refl ∙ sym (ap (λ b. b && counts w from time (is_running (clocks_in zones) w event moment)) (true_int_le since moment late))
    where
      moment : ℤ
      moment = instant (clocks_in zones) time

      by : (early : Bool) → is_early from time ≡ early → (if early then is_among running moment else not (is_past w time))
          ≡ (if early then is_running (clocks_in zones) w event moment else not (is_past w time))
      by true e = are moment late (omega (arith, ints, int_le_true (stamp_seconds time.stamp +ℤ whole_days 2) from e, instant-near zones time))
      by false e = refl

  -- none that is not even counted so counts
  pub counts-not : (from : ℤ) (time : Time) (running : Bool) → (since ≤ℤ instant (clocks_in zones) time → counts w from time running
      ≡ counts_since (clocks_in zones) w event since from time) → counts w from time running ≡ false
      → counts_since (clocks_in zones) w event since from time ≡ false
  counts-not from time running same e = by (int_le since (instant (clocks_in zones) time)) refl
    where
      by : (b : Bool) → int_le since (instant (clocks_in zones) time) ≡ b → counts_since (clocks_in zones) w event since from time ≡ false
      by true p = sym (same (int_le_true since (instant (clocks_in zones) time) p)) ∙ e
      by false p = ap (λ b. b && counts w from time (is_running (clocks_in zones) w event (instant (clocks_in zones) time))) p

  -- and none before the instant does
  pub counts-before : (from : ℤ) (time : Time) → instant (clocks_in zones) time <ℤ since
      → counts_since (clocks_in zones) w event since from time ≡ false
  counts-before from time l =
      ap (λ b. b && counts w from time (is_running (clocks_in zones) w event (instant (clocks_in zones) time)))
      (less-le since (instant (clocks_in zones) time) l)

  -- each time at an instant that is sought counts
  pub sought-counts : (t : ℤ) → since ≤ℤ t → IsSought (clocks_in zones) event w t → (time : Time) → instant (clocks_in zones) time ≡ t → IsCounted time
  sought-counts t on s time at early = by s.source s.given s.gives s.starts s.meets
    where
      at-instant : ℤ
      at-instant = instant (clocks_in zones) time

      by : (source : StartSource) (given : Rdate) → GivesStart (clocks_in zones) event source given → instant (clocks_in zones) (time_of given) ≡ t →
          Meets w (entry_from (clocks_in zones) event given) → is_running (clocks_in zones) w event at-instant ≡ true
      by source (At given) g e m =
          let before = int_le_true (stamp_seconds time.stamp +ℤ whole_days 2) counted early in
          let least = int_min_is since (w.to -ℤ pos 1) in
          absurd (omega (arith, ints, e, at, on, met-late zones w event given m w.notstarted refl, before, instant-near zones time, int_max_is, least))
      by (Kept local) (Span start lasts) g e m = let f : Span start lasts ≡ At (time_at event.start local) = g.1 in absurd cc
      by (Listed place) (Span start lasts) g e m =
          let begins : begins_at (clocks_in zones) w at-instant (Span start lasts) ≡ true =
          rw (met-span zones w event start lasts m) (true-equal (instant (clocks_in zones) start) at-instant (e ∙ sym at)) in
          any_passes_from_place (λ r. begins_at (clocks_in zones) w at-instant (given_by event.start r)) event.rdates place g.0 g.1
          (subst (λ v. begins_at (clocks_in zones) w at-instant v ≡ true) g.2 begins)

  -- what is sought begins at most four days before what counts first
  pub sought-late : (t : ℤ) → since ≤ℤ t → IsSought (clocks_in zones) event w t
      → (earliest (clocks_in zones) w event (front (clocks_in zones) w event since) -ℤ whole_days 4) ≤ℤ t
  sought-late t on s = by s.source s.given s.gives s.starts s.meets
    where
      by : (source : StartSource) (given : Rdate) → GivesStart (clocks_in zones) event source given → instant (clocks_in zones) (time_of given) ≡ t →
          Meets w (entry_from (clocks_in zones) event given)
          → (earliest (clocks_in zones) w event (front (clocks_in zones) w event since) -ℤ whole_days 4) ≤ℤ t
      by source (At time) g e m =
          let most = earliest-most (clocks_in zones) w event (first_met (clocks_in zones) w event) (front (clocks_in zones) w event since) in
          omega (arith, ints, e, met-late zones w event time m w.notstarted refl, most)
      by (Kept local) (Span start lasts) g e m = let f : Span start lasts ≡ At (time_at event.start local) = g.1 in absurd cc
      by (Listed place) (Span start lasts) g e m =
          let there = listed-there place (Span start lasts) g m.begun (omega (arith, ints, on, e)) (sought-counts t on s start e) in
          let met = meets-is_met w (entry_from (clocks_in zones) event (Span start lasts)) m in
          let each = earliest-each (clocks_in zones) w event (first_met (clocks_in zones) w event)
          (start_by (clocks_in zones) (Listed place) (Span start lasts)) (front (clocks_in zones) w event since) there met in
          omega (arith, ints, e, each)

  -- Where the clock of DTSTART stays between two offsets.
  module _ (b : Bounds) (bounded : IsBounded (clock_of (clocks_in zones) event.start) b) where
    -- what is sought begins no more before what counts first than an occurrence can end late
    sought-by : (rdates : List Rdate) → event.rdates ≡ rdates → (t : ℤ) → since ≤ℤ t → IsSought (clocks_in zones) event w t →
        (earliest (clocks_in zones) w event (front (clocks_in zones) w event since)
        -ℤ late_by (b.most -ℤ b.least) rdates event.start.stamp event.length) ≤ℤ t
    sought-by (rdate ∷ rdates) e t on s = sought-late t on s
    sought-by [] e t on s = by s.source s.given s.gives s.starts s.meets
      where
        by : (source : StartSource) (given : Rdate) → GivesStart (clocks_in zones) event source given → instant (clocks_in zones) (time_of given) ≡ t →
            Meets w (entry_from (clocks_in zones) event given)
            → (earliest (clocks_in zones) w event (front (clocks_in zones) w event since) -ℤ rule_late b event) ≤ℤ t
        by (Kept local) given g same m =
            let most = earliest-most (clocks_in zones) w event (first_met (clocks_in zones) w event) (front (clocks_in zones) w event since) in
            let met = subst (λ v. Meets w (entry_from (clocks_in zones) event v)) g.1 m in
            let there = ap (λ v. instant (clocks_in zones) (time_of v)) g.1 in
            omega (arith, ints, most, met-from zones w event b bounded local met w.notstarted refl, late-if zones w event b bounded w.notstarted, there, same)
        by (Listed place) given g same m = let f : None ≡ Some g.0 = ap (λ rs. slice_get rs place) (sym e) ∙ g.1 in absurd cc

    pub sought-from : (t : ℤ) → since ≤ℤ t → IsSought (clocks_in zones) event w t
        → (earliest (clocks_in zones) w event (front (clocks_in zones) w event since) -ℤ late_within b event) ≤ℤ t
    sought-from t on s = sought-by event.rdates refl t on s

  -- an event without a rule has no other starts
  pub none-else : event.rule ≡ None → (source : StartSource) (given : Rdate) → GivesStart (clocks_in zones) event source given
      → IsSought (clocks_in zones) event w (instant (clocks_in zones) (time_of given)) → since ≤ℤ instant (clocks_in zones) (time_of given) →
      IsIn (start_by (clocks_in zones) source given) (front (clocks_in zones) w event since)
  none-else none (Kept local) given g s on =
      ⊎_elim
      (λ e. inl (ap (start_by (clocks_in zones) (Kept local)) g.1 ∙ ap (start_at (clocks_in zones) event) e))
      (λ r. let f : None ≡ Some r.rule = ap (option_map (recurrence_by event.start.stamp)) (sym none) ∙ r.has in absurd cc)
      g.0
  none-else none (Listed place) given g s on =
      listed-there place given g (sought-early zones w event (instant (clocks_in zones) (time_of given)) s) on
      (sought-counts (instant (clocks_in zones) (time_of given)) on s (time_of given) refl)
