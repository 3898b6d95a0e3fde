-- What is still to come of a listing under each day, from day to day and from its beginning, and how many periods of rules are looked at for it.
use Rattle.std.proofs.Common.{◌≡◌, ℕ, zero, suc, ℤ, pos, ◌+ℤ◌, ◌-ℤ◌, List, [], ◌∷◌, ◌++◌, Option, ◌⊎◌, inl, inr, ⊎_elim, Bool, true, false, None, refl, sym}
use Rattle.std.proofs.Common.{◌∙◌, ap, subst, arith, ◌<ℤ◌, ◌≤ℤ◌, ◌&&◌, ◌||◌, int_lt, unsigned_abs, Result, Ok, Err, OnErr, filter, int_eq, ◌↔◌, ◌+◌, ◌≤◌, map}
use Rattle.std.proofs.Common.{Some, sum_by, option_map, nat_cmp, Ordering, Less, int_le}
use Rattle.std.proofs.lemmas.Int.{ints, int_max_is, int_min_is}
use Rattle.ics_file.specs.File.{FileSaid}
use Rattle.ics_zone.specs.declared.bounds.Bounds.{Bounds}
use Rattle.ics_days.specs.NearDays.{first_near, last_near, HasOffsets, IsNearDay}
use Rattle.ics_zone.proofs.Cases.{int_le_true, int_lt_true, less_or_not_z, true_int_lt}
use Rattle.std.proofs.lemmas.Bool.{and_parts}
use Rattle.std.specs.Cmp.{int_cmp_is}
use Rattle.std.specs.Int.{int_max}
use Rattle.ics_listing.specs.declared.window.Window.{Window}
use Rattle.ics_listing.specs.After.{is_after}
use Rattle.ics_series.specs.Ahead.{today, IsAheadOf, IsLater}
use Rattle.ics_days.specs.ShownDays.{date_at, first_day, is_on, last_day}
use Rattle.ics_days.specs.Today.{is_today}
use Rattle.ics_listing.specs.FileClocks.{Clock}
use Rattle.ics_listing.specs.DayKeys.{day_rank_of, DayRank, after_day_key, is_day_after, on_day, on_day_cmp, OnDay}
use Rattle.ics_series.specs.OnDays.{Begins, IsOnDay}
use Rattle.ics_series.specs.OnDays.{IsBehindKey}
use Rattle.ics_series.specs.DaySteps.{IsNearAgenda, IsPastAgenda, day_and_start, masters_in, AreDayMasters, AreMasters, IsDayMaster, IsFromStart, Scope}
use Rattle.ics_series.specs.DaySteps.{begin_day, day_of_first, day_of_key, first_under, most_in, sum_days, AreDayBounds, HasDaysBound, IsLookedBefore}
use Rattle.ics_listing.specs.Entry.{Entry, Rank, entry_cmp, rank_of}
use Rattle.ics_listing.specs.Listing.{IsListing, IsIn}
use Rattle.ics_series.specs.Meets.{IsListed, IsToCome}
use Rattle.ics_starts.specs.MeetsWindow.{Meets}
use Rattle.ics_series.specs.Occurs.{Occurs}
use Rattle.ics_listing.specs.Tokens.{IsDayKey, IsKey}
use Rattle.ics_listing.specs.FeedSources.{Source, Recurring}
use Rattle.ics_series.specs.Sources.{master_of, recurring, uid_cmp, IsFrom, master_at, AreSources, IsMasterOf}
use Rattle.ics_listing.proofs.ListingLemmas.{listing-filter, one-listing, relisted, all-in, all-as, sums-within, rises-on}
use Rattle.ics_listing.proofs.NearLemmas.{day-under}
use Rattle.ics_days.proofs.NearDayLemmas.{bounds-offsets, day-fits, meets-near, near-first, near-last, shown-by}
use Rattle.ics_series.proofs.OccursLemmas.{occurs-forward}
use Rattle.ics_series.proofs.OnDayLemmas.{day-first, on_day_total, shown-today, today-listing, today-shown}
use Rattle.ics_starts.proofs.JoinedLemmas.{joined, none-listed}
use Rattle.ics_series.proofs.ToComeLemmas.{after-come, come-after, come-listed}
use Rattle.std.proofs.lemmas.List.Sums.{sum_by-le}
use Rattle.ics_series.specs.HeldMost.{Master, held_most}
use Rattle.ics_starts.specs.RawStarts.{most_in_days}
use Rattle.ics_series.specs.PlacedEvents.{Placed, clocks_at}
use Rattle.ics_listing.specs.Rising.{Rises}
use Rattle.ics_series.specs.Replaced.{AreReplaced}
use Rattle.ics_series.specs.Steps.{HasStepBound}
use Rattle.ics_listing.proofs.Cases.{here-or-later}
use Rattle.ics_series.proofs.HoldingLaws.{sum_by-map, wider-bound}
use Rattle.ics_fields.specs.Locals.{day_of_local}
use Rattle.std.specs.Cmp.Lexicographic.{slice_cmp}
use Rattle.std.specs.Cmp.{IsTotalOrder}
use Rattle.std.specs.List.{AllByRecursion}
use Rattle.std.specs.Ordering.{on}
use Rattle.std.proofs.lemmas.Cmp.{nat_list_cmp_total, on_total}
use Rattle.ics_series.specs.Chosen.{IsMaster}
use Rattle.ics_series.specs.Versions.{by_subject}
use Rattle.ics_series.proofs.VersionLemmas.{in-map, map-in}

-- an occurrence of the folder under this day
abbrev pub IsUnder : List FileSaid → Clock → Window → ℤ → OnDay → Type 0
IsUnder files display w day p = IsOnDay files display w p × (p.day ≡ day)

module _ (files : List FileSaid) (display : Clock) (w : Window) (b : Bounds) (bounded : HasOffsets display w b) where
  -- an occurrence meets what the window holds near a day under which it is shown, which is one that a clock can show there
  pub near-under : {day : ℤ} (n : Window) → IsNearDay display w b day n → (p : OnDay) → IsUnder files display w day p → Meets n p.entry
  near-under n h p q =
      let own = subst (λ d. IsNearDay display w b d n) (sym q.1) h in
      meets-near display w b bounded p.entry q.0.listed.1 (occurs-forward files display p.entry q.0.listed.0) p.day q.0.on n own

  pub shown-first : (p : OnDay) → IsOnDay files display w p → first_near w b ≤ℤ p.day
  shown-first p s = near-first display w b bounded p.entry s.listed.1 (occurs-forward files display p.entry s.listed.0) p.day s.on

  pub shown-last : (p : OnDay) → IsOnDay files display w p → p.day ≤ℤ last_near w b
  shown-last p s = near-last display w b bounded p.entry s.listed.1 (occurs-forward files display p.entry s.listed.0) p.day s.on

  -- nothing is shown past the last day that the clock can show
  pub none-past-last : {last day : ℤ} → ((t : ℤ) → w.from ≤ℤ t → t <ℤ w.to → date_at display t ≤ℤ last) → last ≤ℤ day → (p : OnDay) → IsOnDay files display w p
      → p.day ≤ℤ day
  none-past-last {last = last} most l p s =
      let under = shown-by display w b bounded p.entry s.listed.1 (occurs-forward files display p.entry s.listed.0) p.day s.on last most in
      omega (arith, ints, under, l)

  -- the key under a day of what is shown has a token
  pub day-keys : ((o : Entry) → Occurs files display o → IsKey (rank_of o)) → (p : OnDay) → IsOnDay files display w p → IsDayKey (day_rank_of p)
  day-keys keys p s =
      let within = day-fits w b (bounds-offsets display w b bounded) p.day (shown-first p s) (shown-last p s) in
      record { day = omega (arith, ints, within.0, within.1); is_key = keys p.entry s.listed.0 }

  -- those of a day that come after a key, if there is one
  abbrev IsBegun : ℤ → Option Rank → OnDay → Type 0
  IsBegun day key p = IsUnder files display w day p × (is_after key p.entry ≡ true)

  -- from what is to come of what meets the window near it
  begun-listing : (day : ℤ) (key : Option Rank) (n : Window) → ((p : OnDay) → IsUnder files display w day p → Meets n p.entry) → {coming : List Entry}
      → IsListing entry_cmp (IsToCome files display n key) coming → IsListing on_day_cmp (IsBegun day key) (today display w day coming)
  begun-listing day key n meets l =
      today-listing files display w day (IsBegun day key) l
      (λ o p t. ((today-shown files display w day o (come-listed files display n key o p).0 t, refl), after-come files display n key o p))
      (λ p q. (
        q.0.1,
        come-after files display n key p.entry (q.0.0.listed.0, meets p q.0) q.1,
        subst (λ d. is_today display w d p.entry ≡ true) q.0.1 (shown-today files display w p q.0.0),
      ))

  -- all that is shown under a day comes after a key, if there is one
  abbrev pub IsBeforeAll : ℤ → Option Rank → Type 0
  IsBeforeAll day key = (p : OnDay) → IsUnder files display w day p → is_after key p.entry ≡ true

  -- nothing is shown under the days between two
  abbrev pub NoneBetween : ℤ → ℤ → Type 0
  NoneBetween day next = (p : OnDay) → IsOnDay files display w p → day <ℤ p.day → next ≤ℤ p.day

  -- then those of later days than the first begin with those of the second
  next-day : {day next : ℤ} (key : Option Rank) → IsBeforeAll next key → {today-list later-list : List OnDay} → day <ℤ next → NoneBetween day next
      → IsListing on_day_cmp (IsBegun next key) today-list → IsListing on_day_cmp (IsLater files display w next) later-list
      → IsListing on_day_cmp (IsLater files display w day) (today-list ++ later-list)
  next-day {day = day} {next = next} key all e none h k =
      joined on_day_cmp (IsLater files display w day) h k
      (λ p q a b. let d = a.0.1 in let l = b.later in day-first p q (omega (arith, ints, d, l)))
      (λ p. ⊎_elim (λ a. let d = a.0.1 in record { shown = a.0.0; later = omega (arith, ints, d, e) }) (λ b. let l = b.later in
      record { shown = b.shown; later = omega (arith, ints, l, e) }))
      (λ p b. let l = none p b.shown b.later in
      ⊎_elim (λ k. inr (record { shown = b.shown; later = k }))
      (λ k. let on : p.day ≡ next = omega (arith, ints, k, l) in inl ((b.shown, on), all p (b.shown, on))) (less_or_not_z next p.day))

  -- A later day: where nothing is to come under the day or between them, that day's come next.
  pub ahead-turned : {day next : ℤ} {n : Window} {none coming : List Entry} {list : List OnDay} (key : Option Rank) → IsBeforeAll next key → day <ℤ next
      → NoneBetween day next → IsNearDay display w b next n → none ≡ [] → IsListing entry_cmp (IsToCome files display n key) coming
      → IsAheadOf files display w day none list → IsAheadOf files display w next coming list
  ahead-turned {day = day} {next = next} {n = n} {coming = coming} key all e between h empty l a =
      let later = filter (λ p. int_lt next p.day) a.later in
      let behind = listing-filter (λ p. int_lt next p.day) on_day_cmp (IsLater files display w day) (IsLater files display w next) a.later a.listing
      (λ p s t. record { shown = s.shown; later = int_lt_true next p.day t })
      (λ p s. let m = s.later in (record { shown = s.shown; later = omega (arith, ints, m, e) }, true_int_lt next p.day m)) in
      let whole = next-day key all e between (begun-listing next key n (near-under n h) l) behind in
      let same : a.later ≡ today display w next coming ++ later =
      one-listing on_day_cmp on_day_total (IsLater files display w day) a.later (today display w next coming ++ later) a.listing whole in
      record {
        later = later;
        listing = behind;
        is = a.is ∙ (ap (λ xs. today display w day xs ++ a.later) empty ∙ same);
      }

  -- past the last day nothing is to come
  none-later : (day : ℤ) → ((p : OnDay) → IsOnDay files display w p → p.day ≤ℤ day) → IsListing on_day_cmp (IsLater files display w day) []
  none-later day h = none-listed on_day_cmp (λ p l. let later = l.later in let last = h p l.shown in omega (arith, ints, later, last))

  pub ahead-ended : (day : ℤ) → ((p : OnDay) → IsOnDay files display w p → p.day ≤ℤ day) → (none : List Entry) → none ≡ [] → (list : List OnDay)
      → IsAheadOf files display w day none list → list ≡ []
  ahead-ended day h none empty list a =
      a.is ∙ (ap (λ xs. today display w day xs ++ a.later) empty
      ∙ one-listing on_day_cmp on_day_total (IsLater files display w day) a.later [] a.listing (none-later day h))

  -- There is a list of those of later days, and of all.
  some-later : (xs : List Entry) → IsListing entry_cmp (IsListed files display w) xs → (n : ℕ) (day : ℤ) → last_near w b ≤ℤ (day +ℤ pos n) →
      (later : List OnDay) × IsListing on_day_cmp (IsLater files display w day) later
  some-later xs l zero day h = ([], none-later day (λ p s. let last = shown-last p s in omega (arith, ints, h, last)))
  some-later xs l (suc n) day h =
      let rest = some-later xs l n (day +ℤ pos 1) (omega (arith, ints, h)) in (
        today display w (day +ℤ pos 1) xs ++ rest.0,
        next-day None (λ p u. refl) (omega (arith, ints)) (λ p s l. omega (arith, ints, l))
            (begun-listing (day +ℤ pos 1) None w (λ p q. q.0.listed.1) l) rest.1,
      )

  pub later-than : (xs : List Entry) → IsListing entry_cmp (IsListed files display w) xs → (day : ℤ) →
      (later : List OnDay) × IsListing on_day_cmp (IsLater files display w day) later
  later-than xs l day = some-later xs l (unsigned_abs (last_near w b -ℤ day)) day (omega (arith, ints))

  -- Where a listing begins: at a day, and there behind a key.
  module _ (after : Option DayRank) (day : ℤ) (key : Option Rank) (begins : Begins display w after day key) where
    -- past the last day there is nothing
    begun-past : last_near w b <ℤ day → (coming : List Entry) → coming ≡ [] → IsListing on_day_cmp (IsBegun day key) (today display w day coming)
    begun-past past coming none = subst (λ (xs : List Entry). IsListing on_day_cmp (IsBegun day key) (today display w day xs)) (sym none)
        (none-listed on_day_cmp (λ p q. let on = q.0.1 in let last = shown-last p q.0.0 in omega (arith, ints, past, on, last)))

    -- what comes after the key of a day
    abbrev IsCome : OnDay → Type 0
    IsCome p = IsOnDay files display w p × (is_day_after after p ≡ true)

    come-test : (a : ℤ) (r : Bool) → ((day <ℤ a) ⊎ ((a ≡ day) × (r ≡ true))) ↔ ((int_lt day a || (int_eq a day && r)) ≡ true)
    come-test a r = (λ h. grind (arith, ints), λ h. grind (arith, ints))

    begun-come : (p : OnDay) → IsBegun day key p ⊎ IsLater files display w day p → IsCome p
    begun-come p (inl b) = (b.0.0, begins p b.0.0.listed.1 b.0.0.on ∙ (come-test p.day (is_after key p.entry)).0 (inr (b.0.1, b.1)))
    begun-come p (inr l) = (l.shown, begins p l.shown.listed.1 l.shown.on ∙ (come-test p.day (is_after key p.entry)).0 (inl l.later))

    come-begun : (p : OnDay) → IsCome p → IsBegun day key p ⊎ IsLater files display w day p
    come-begun p c =
        ⊎_elim (λ l. inr (record { shown = c.0; later = l })) (λ k. inl ((c.0, k.0), k.1))
        ((come-test p.day (is_after key p.entry)).1 (sym (begins p c.0.listed.1 c.0.on) ∙ c.1))

    all-shown : (xs : List Entry) → IsListing entry_cmp (IsListed files display w) xs →
        (list : List OnDay) × IsListing on_day_cmp (IsOnDay files display w) list
    all-shown xs l =
        let all = later-than xs l (first_near w b -ℤ pos 1) in
        (all.0, relisted all.1 (λ p m. m.shown) (λ p s. let first = shown-first p s in record { shown = s; later = omega (arith, ints, first) }))

    pub begun-ahead : (xs coming : List Entry) (sources : List Source) → IsListing entry_cmp (IsListed files display w) xs
        → IsNearAgenda files display (IsNearDay display w b day) key coming sources ⊎ IsPastAgenda (last_near w b) day coming sources
        → (list : List OnDay) × IsListing on_day_cmp (IsOnDay files display w) list × IsAheadOf files display w day coming (after_day_key after list)
    begun-ahead xs coming sources l agenda =
        let come = ⊎_elim
        (λ (a : IsNearAgenda files display (IsNearDay display w b day) key coming sources).
        begun-listing day key a.window (near-under a.window a.near) a.listing)
        (λ (a : IsPastAgenda (last_near w b) day coming sources). begun-past a.past coming a.none) agenda in
        let all = all-shown xs l in
        let later = later-than xs l day in
        let after-key = listing-filter (λ p. is_day_after after p) on_day_cmp (IsOnDay files display w) IsCome all.0 all.1 (λ p s t. (s, t)) (λ p c. c) in
        let begun = joined on_day_cmp IsCome come later.1
        (λ p q a b. let d = a.0.1 in let m = b.later in day-first p q (omega (arith, ints, d, m))) begun-come come-begun in (
          all.0,
          all.1,
          record {
            later = later.0;
            listing = later.1;
            is = one-listing on_day_cmp on_day_total IsCome (after_day_key after all.0) (today display w day coming ++ later.0) after-key begun;
          },
        )

-- Where a listing begins with the first day that the clock can show in the window, since the key, if there is one, is of an earlier day. All
-- that is shown under that day comes after a key of its own.
module _ (clock : Clock) (w : Window) (day : ℤ) (first : (t : ℤ) → w.from ≤ℤ t → t <ℤ w.to → day ≤ℤ date_at clock t) where
  not-before : (o : Entry) (at : ℤ) → Meets w o → is_on clock w o at ≡ true → day ≤ℤ at
  not-before o at met on =
      let shown = int_le_true (first_day clock w o) at (and_parts (int_le (first_day clock w o) at) (int_le at (last_day clock w o)) on).0 in
      let begun = met.begun in
      let low = first (int_max o.start w.from) (omega (arith, ints, int_max_is o.start w.from))
      (omega (arith, ints, int_max_is o.start w.from, begun, w.ordered)) in
      omega (arith, ints, shown, low)

  day-later : (after : Option DayRank) → ((a : DayRank) → after ≡ Some a → a.day <ℤ day) → (p : OnDay) → day ≤ℤ p.day → is_day_after after p ≡ true
  day-later None early p low = refl
  day-later (Some a) early p low = let before = early a refl in rw (sym (int_cmp_is a.day p.day Less (omega (arith, ints, before, low)))) refl

  first-test : (at : ℤ) (r : Bool) → day ≤ℤ at → (at ≡ day → r ≡ true) → (int_lt day at || (int_eq at day && r)) ≡ true
  first-test at r low same =
      ⊎_elim (λ l. grind (arith, ints, l))
      (λ n. let e : at ≡ day = omega (arith, ints, n, low) in let t = same e in grind (arith, ints, e, t)) (less_or_not_z day at)

  pub begins-first : (after : Option DayRank) (key : Option Rank) → ((a : DayRank) → after ≡ Some a → a.day <ℤ day)
      → ((o : Entry) → Meets w o → is_on clock w o day ≡ true → is_after key o ≡ true) → Begins clock w after day key
  begins-first after key early all = λ p met on.
      let from = not-before p.entry p.day met on in
      day-later after early p from
      ∙ sym (first-test p.day (is_after key p.entry) from (λ same. all p.entry met (subst (λ d. is_on clock w p.entry d ≡ true) same on)))

-- What is drawn of the day's: it is skipped, or given.
module _ (files : List FileSaid) (display : Clock) (w : Window) (day : ℤ) (o : Entry) (coming rest : List Entry) (drawn : coming ≡ o ∷ rest) where
  pub ahead-skipped : is_today display w day o ≡ false → (list : List OnDay) → IsAheadOf files display w day coming list →
      IsAheadOf files display w day rest list
  ahead-skipped not-today list a = record {
    later = a.later;
    listing = a.listing;
    is = a.is ∙ ap (λ xs. xs ++ a.later) (rw (drawn, not-today) refl);
  }

  pub ahead-given : is_today display w day o ≡ true → (list : List OnDay) → IsAheadOf files display w day coming list
      → (more : List OnDay) × IsAheadOf files display w day rest more × (list ≡ on_day day o ∷ more)
  ahead-given is-today list a = (
    today display w day rest ++ a.later,
    record { later = a.later; listing = a.listing; is = refl },
    a.is ∙ ap (λ xs. xs ++ a.later) {y = on_day day o ∷ today display w day rest} (rw (drawn, is-today) refl),
  )

-- what is to come stays so where one list of nothing stands for another
pub ahead-dropped : (files : List FileSaid) (display : Clock) (w : Window) (day : ℤ) {none empty : List Entry} → none ≡ [] → empty ≡ [] → (list : List OnDay)
    → IsAheadOf files display w day none list → IsAheadOf files display w day empty list
ahead-dropped files display w day none empty list = subst (λ xs. IsAheadOf files display w day xs list) (none ∙ sym empty)

-- what holds in any case holds on an error
pub on-err : {T E : Type 0} (P : Type 0) (r : Result T E) → P → OnErr r P
on-err P (Ok _) h = tt
on-err P (Err _) h = h

-- How many periods of rules are looked at from day to day, at most.
-- What the masters of a listing may hold is no more than what all masters of the folder may.
same-master : (files : List FileSaid) (display : Clock) (m : Recurring) (by : Placed) → m.clocks ≡ clocks_at files display by.file → m.event ≡ by.event
    → master_of m ≡ master_at files display by
same-master files display m by clocks event = λ i. record { clocks = clocks i; event = event i }

-- by the bytes of the UID
abbrev master_cmp : Master → Master → Ordering
master_cmp = on (λ m. m.event.uid) (slice_cmp nat_cmp)

master_total : IsTotalOrder master_cmp
master_total = on_total (λ (m : Master). m.event.uid) nat_list_cmp_total

module _ (files : List FileSaid) (display : Clock) where
  -- a master of the folder
  pub record IsOfFolder (m : Recurring) : Type 0 where
    pub by : Placed
    pub is : IsMaster files display by
    pub same : master_of m ≡ master_at files display by
    pub replaced : AreReplaced files display by.event.uid m.replaced

  -- A sum over some masters of the folder, each with a UID of its own, is at most that over all of them.
  pub sum-of-masters : (f : Master → ℕ) (ms : List Recurring) (masters : List Placed) → Rises uid_cmp ms → AllByRecursion IsOfFolder ms
      → IsListing (by_subject files display) (IsMaster files display) masters → sum_by f (map master_of ms) ≤ sum_by f (map (master_at files display) masters)
  sum-of-masters f ms masters rise are all =
      sums-within master_cmp master_total (λ m. m) (λ m. m) f (map master_of ms) (map (master_at files display) masters)
      ((rises-on master_of master_cmp ms).1 rise) (λ m k.
      let n = in-map master_of m ms k in
      let h = all-in IsOfFolder ms are n.0 n.1 in (
        subst (λ v. IsIn v (map (master_at files display) masters)) (sym (n.2 ∙ h.same))
            (map-in (master_at files display) h.by masters ((all.exact h.by).1 h.is)),
        refl,
      ))

  pub held-of-masters : (ms : List Recurring) (masters : List Placed) → Rises uid_cmp ms → AllByRecursion IsOfFolder ms
      → IsListing (by_subject files display) (IsMaster files display) masters → held_most (map master_of ms) ≤ held_most (map (master_at files display) masters)
  unfolding held_most
  held-of-masters ms masters rise are all = omega (arith, sum-of-masters (λ m. 2 + most_in_days m.clocks m.event) ms masters rise are all)

-- those that are searched near a day are masters of the folder
pub day-masters : (s : Scope) (day : ℤ) (ms : List Recurring) → AllByRecursion (IsDayMaster s day) ms → AllByRecursion (IsOfFolder s.files s.display) ms
day-masters s day ms =
    all-as (IsDayMaster s day) (IsOfFolder s.files s.display) ms (λ m h. record { by = h.by; is = h.is; same = h.searched.same; replaced = h.replaced })

-- those of a listing are searched in its window, from an instant on
pub searched-masters : (s : Scope) {day : ℤ} {n : Window} (after : Option Rank) → IsNearDay s.display s.window s.bounds day n
    → ((since : ℤ) → IsFrom after since → IsFromStart s.after day since)
    → (ms : List Recurring) → AllByRecursion (IsMasterOf s.files s.display n after) ms → AllByRecursion (IsDayMaster s day) ms
searched-masters s {day = day} {n = n} after near from ms =
    all-as (IsMasterOf s.files s.display n after) (IsDayMaster s day) ms (λ m h. record {
      by = h.by;
      is = h.is;
      searched = record {
        same = same-master s.files s.display m h.by h.clocks h.event;
        near = subst (IsNearDay s.display s.window s.bounds day) (sym h.window) near;
        from = from m.since h.since;
      };
      replaced = h.replaced;
    })

module _ (files : List FileSaid) (display : Clock) (w : Window) (after : Option Rank) where
  pub most-of-masters : (sources : List Source) (masters : List Placed) → AreSources files display w after sources →
      IsListing (by_subject files display) (IsMaster files display) masters
      → held_most (map master_of (recurring sources)) ≤ held_most (map (master_at files display) masters)
  most-of-masters sources masters are all =
      held-of-masters files display (recurring sources) masters are.apart.1.1
      (all-as (IsMasterOf files display w after) (IsOfFolder files display) (recurring sources)
      (λ m h. record { by = h.by; is = h.is; same = same-master files display m h.by h.clocks h.event; replaced = h.replaced }) are.each) all

-- past the last day the window holds nothing near one
none-near : (clock : Clock) (w : Window) (b : Bounds) (day : ℤ) (n : Window) → last_near w b <ℤ day → IsNearDay clock w b day n → ⊥
none-near clock w b day n past near =
    let last = day-under ((w.to -ℤ pos 1) +ℤ b.most) (day_of_local ((w.to -ℤ pos 1) +ℤ b.most)) refl in
    omega (arith, ints, int_max_is, int_min_is, n.ordered, near.from, near.to, last.1, past)

sum-more : (f : ℤ → ℕ) (day : ℤ) (n : ℕ) → sum_days f day (suc n) ≡ sum_days f day n + f (day +ℤ pos n)
unfolding sum_days
sum-more f day n = refl

sum-grows : (f : ℤ → ℕ) (day : ℤ) (n m : ℕ) → n ≤ m → sum_days f day n ≤ sum_days f day m
sum-grows f day n zero l = let none : n ≡ 0 = omega (arith, l) in omega (arith, ap (sum_days f day) none)
sum-grows f day n (suc m) l =
    ⊎_elim
    (λ last. omega (arith, ap (sum_days f day) last))
    (λ low. omega (arith, sum-grows f day n m (omega (arith, low)), sum-more f day m))
    (here-or-later n (suc m) l)

-- The masters of a day's agenda are within the bounds for the day, and what is looked at for them is.
module _ (s : Scope) (day : ℤ) (sources : List Source) (are : AreDayMasters s day sources) (rise : Rises uid_cmp (recurring sources)) where
  day-within-all : (most : Master → ℕ) (masters : List Placed) → AreMasters s masters
      → sum_by most (map master_of (recurring sources)) ≤ sum_by most (masters_in s masters)
  day-within-all most masters all =
      sum-of-masters s.files s.display most (recurring sources) masters rise (day-masters s day (recurring sources) are) all

  -- so before the next agenda, where no more was looked at than up to the day before
  pub looked-before : {looked : ℕ} → ((masters : List Placed) (most : ℤ → Master → ℕ) (n : ℕ) → AreMasters s masters
      → ((d : ℤ) → AreDayBounds s masters d (most d)) → (begin_day s +ℤ pos n) ≡ day → looked ≤ most_in s masters most n)
      → IsLookedBefore s day sources looked
  looked-before few = λ masters most n all bounds is.
      let f = λ (d : ℤ). sum_by (most d) (masters_in s masters) in
      omega (arith, few masters most n all bounds is, day-within-all (most day) masters all, sum-more f (begin_day s) n, ap f is)

  module _ (coming : List Entry) (steps : ℕ) (few : (most : Recurring → ℕ) → ((m : Recurring) → IsIn m (recurring sources) → HasStepBound m coming (most m))
      → steps ≤ sum_by most (recurring sources)) where
    bound-of : (masters : List Placed) → AreMasters s masters → (most : Master → ℕ) → AreDayBounds s masters day most → (m : Recurring)
        → IsIn m (recurring sources) → HasStepBound m coming (most (master_of m))
    bound-of masters all most bounds m k =
        let of = all-in (IsDayMaster s day) (recurring sources) are m k in
        let near = bounds of.by ((all.exact of.by).1 of.is) m of.searched in
        wider-bound m {xs = []} (λ e none. absurd none) (subst (λ (x : Master). HasStepBound m [] (most x)) (sym of.searched.same) near)

    day-most : (masters : List Placed) → AreMasters s masters → (most : Master → ℕ) → AreDayBounds s masters day most
        → steps ≤ sum_by most (map master_of (recurring sources))
    day-most masters all most bounds =
        let own = few (λ m. most (master_of m)) (bound-of masters all most bounds) in
        omega (arith, own, sum_by-map most master_of (recurring sources))

    none-past : (masters : List Placed) → AreMasters s masters → last_near s.window s.bounds <ℤ day → steps ≤ 0
    none-past masters all past =
        let none = day-most masters all (λ m. 0) (λ p k m searched. absurd (none-near s.display s.window s.bounds day m.window past searched.near)) in
        omega (arith, none, sum_by-le (λ m. 0) 0 (map master_of (recurring sources)) (λ k d l. omega arith))

    module _ (looked : ℕ) (before : IsLookedBefore s day sources looked) (begun : begin_day s ≤ℤ day) where
      -- what was looked at up to a day and on it
      with-day : (masters : List Placed) (most : ℤ → Master → ℕ) (n : ℕ) → AreMasters s masters → ((d : ℤ) → AreDayBounds s masters d (most d))
          → day <ℤ (begin_day s +ℤ pos n)
          → looked + steps ≤ most_in s masters most n
      with-day masters most n all bounds l =
          let first = begin_day s in
          let k = unsigned_abs (day -ℤ begin_day s) in
          let f = λ (d : ℤ). sum_by (most d) (masters_in s masters) in
          let is : (begin_day s +ℤ pos (unsigned_abs (day -ℤ begin_day s))) ≡ day = omega (arith, ints, begun) in
          let so-far = before masters most k all bounds is in
          let today = day-most masters all (most day) (bounds day) in
          let within : suc (unsigned_abs (day -ℤ begin_day s)) ≤ n = omega (arith, ints, is, l) in
          omega (arith, so-far, today, sum-grows f first (suc k) n within)

      -- before a later day's agenda
      pub looked-next : {next : ℤ} {more : ℕ} → day <ℤ next → more ≤ looked + steps → (masters : List Placed) (most : ℤ → Master → ℕ) (n : ℕ)
          → AreMasters s masters → ((d : ℤ) → AreDayBounds s masters d (most d)) → (begin_day s +ℤ pos n) ≡ next
          → more ≤ most_in s masters most n
      looked-next e l = λ masters most n all bounds is.
          let days = with-day masters most n all bounds (omega (arith, ints, is, e)) in
          omega (arith, days, l)

      -- and once the day's own is dropped
      pub looked-dropped : {same : ℤ} {more : ℕ} {none : List Source} → same ≡ day → none ≡ [] → more ≤ looked + steps → IsLookedBefore s same none more
      looked-dropped {same = same} e empty l = λ masters most n all bounds is.
          let days = with-day masters most (suc n) all bounds (omega (arith, ints, is, e)) in
          let no-sum = ap (λ (xs : List Source). sum_by (most same) (map master_of (recurring xs))) empty in
          omega (arith, days, l, no-sum)

      -- the days up to that of what is to come
      pub steps-most : (last_near s.window s.bounds <ℤ day → looked ≡ 0) → (list : List OnDay) {bound : ℕ}
          → (day ≤ℤ last_near s.window s.bounds → day ≤ℤ first_under s list)
          → HasDaysBound s list bound → looked + steps ≤ bound
      steps-most past list reach h =
          ⊎_elim
          (λ far. omega (arith, past far, none-past h.masters h.are far))
          (λ near. let low = reach near in omega (arith, with-day h.masters h.most h.days h.are h.each (omega (arith, ints, low, h.reach)), h.is))
          (less_or_not_z (last_near s.window s.bounds) day)

-- The first of what is to come stands under the day or a later one.
pub first-day : (last : ℤ) {day : ℤ} (xs : List Entry) (later : List OnDay) {list : List OnDay} → list ≡ map (on_day day) xs ++ later
    → ((p : OnDay) → IsIn p later → day <ℤ p.day)
    → day ≤ℤ last → day ≤ℤ day_of_first last list
first-day last (x ∷ xs) later e h l = rw e (omega (arith, ints))
first-day last [] [] e h l = rw e l
first-day last [] (p ∷ later) e h l = let less = h p (inl refl) in rw e (omega (arith, ints, less))

-- On the day of a key the search begins at the start in it, and on later days it need not.
pub from-start : (after : Option DayRank) (day : ℤ) (key : Option Rank) → IsBehindKey after day key → (since : ℤ) → IsFrom key since
    → IsFromStart (option_map day_and_start after) day since
from-start None day key h since f = tt
from-start (Some a) day key h since f = λ e. subst (λ k. IsFrom k since) (h.1 e) f

pub from-later : (first : ℤ) (after : Option (ℤ × ℤ)) {day next : ℤ} → day_of_key first after ≤ℤ day → day <ℤ next → (since : ℤ)
    → IsFromStart after next since
from-later first None low e since = tt
from-later first (Some a) low e since = λ same. absurd (omega (arith, ints, low, e, same))

pub begun-by : (first : ℤ) (after : Option DayRank) (day : ℤ) (key : Option Rank) → IsBehindKey after day key → first ≤ℤ day
    → day_of_key first (option_map day_and_start after) ≤ℤ day
begun-by first None day key h low = low
begun-by first (Some a) day key h low = h.0

-- where there are no sources, there are no masters
pub no-masters : (s : Scope) (day : ℤ) {sources : List Source} → sources ≡ [] → AreDayMasters s day sources
no-masters s day e = rw e tt

-- the masters of the first day's agenda
pub first-masters : (s : Scope) {day : ℤ} {key : Option Rank} {coming : List Entry} {sources : List Source}
    → ((since : ℤ) → IsFrom key since → IsFromStart s.after day since)
    → IsNearAgenda s.files s.display (IsNearDay s.display s.window s.bounds day) key coming sources
    ⊎ IsPastAgenda (last_near s.window s.bounds) day coming sources → AreDayMasters s day sources
first-masters s {key = key} {sources = sources} from (inl a) = searched-masters s key a.near from (recurring sources) a.are.each
first-masters s from (inr a) = rw a.no_source tt
