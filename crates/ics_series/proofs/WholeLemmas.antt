-- What is known of the files of a folder once the versions of their events are listed.
use Rattle.std.proofs.Common.{◌≡◌, ℕ, zero, suc, ◌+◌, ◌<◌, true, false, List, [], ◌∷◌, map, filter, Option, Some, None, is_none, option_map, inl, inr, ⊎_elim}
use Rattle.std.proofs.Common.{refl, sym, ◌∙◌, ap, subst, arith, slice_get, IfSome, FitsSigned, w64, add-one, length, take, ◌++◌, ◌≤◌}
use Rattle.std.proofs.lemmas.Bool.{cases_Bool}
use Rattle.std.proofs.lemmas.Int.{ints}
use Rattle.std.proofs.lemmas.Option.{slice_get-get_or, slice_get-map}
use Rattle.hex.specs.Hex.{IsBytes}
use Rattle.ics_values.specs.declared.stamp.Stamp.{Stamp}
use Rattle.ics_values.specs.declared.stamp.Stamp.TheVariants.{Utc, Zoned}
use Rattle.ics_zone.specs.ZoneSaid.{zone_said}
use Rattle.ics_zone.specs.declared.display.Display.{Display}
use Rattle.ics_zone.specs.declared.zone.ZoneKind.{ZoneKind}
use Rattle.ics_file.specs.File.{said_by, FileSaid}
use Rattle.ics_event.specs.Event.{stamp_seconds, IsEvent, IsTime}
use Rattle.ics_file.specs.declared.events.FileEvents.{FileEvents}
use Rattle.ics_event.specs.Event.{Time}
use Rattle.ics_series.specs.declared.version.Version.{Version}
use Rattle.ics_series.specs.Chosen.{IsChosen, IsMaster}
use Rattle.ics_starts.specs.Clocks.{clock_by, clocks_of, display_clock, instant}
use Rattle.ics_listing.specs.FileClocks.{Clock, Clocks}
use Rattle.ics_listing.specs.Entry.{entry_cmp, rank_of, Entry}
use Rattle.ics_listing.specs.Listing.{IsIn, IsListing}
use Rattle.ics_series.specs.Occurs.{Occurs}
use Rattle.ics_series.specs.PlacedEvents.{clocks_at, zones_in, IsPlaced, Placed}
use Rattle.ics_listing.specs.StartTimes.{time_of}
use Rattle.ics_listing.specs.Tokens.{IsKey}
use Rattle.ics_series.specs.Versions.{by_subject, label_of, seen, AreChosen, Label}
use Rattle.ics_series.specs.Inner.Masters.{HasLists, IsOfVersion, Recurs}
use Rattle.ics_series.specs.Meets.{IsListed}
use Rattle.ics_listing.specs.Merged.{merged}
use Rattle.ics_starts.specs.SingleEvents.{is_single}
use Rattle.ics_series.specs.Spots.{event_at}
use Rattle.ics_listing.specs.declared.window.Window.{Window}
use Rattle.ics_starts.specs.declared.zones.FileZones.{FileZones}
use Rattle.ics_series.specs.Inner.Whole.{AreRead, AreReadIn, IsReadEvent}
use Rattle.ics_listing.proofs.Cases.{below-or-last, mapped-some, some-same}
use Rattle.ics_starts.proofs.InstantLemmas.{near-at, near-display, near-utc, written, IsNearClock}
use Rattle.ics_listing.proofs.ListingLemmas.{get-in, listing-filter}
use Rattle.ics_series.proofs.OverrideLemmas.{any_version}
use Rattle.ics_series.proofs.RecurringLemmas.{not-single, own, own-event, whole-version, IsRead}
use Rattle.ics_series.proofs.ReplacedLemmas.{are-replaced, named-among}
use Rattle.ics_series.proofs.SinglesLemmas.{parts-listing, singles-whole}
use Rattle.ics_series.proofs.SourceLemmas.{versions-all, versions-more, versions-skip}
use Rattle.ics_series.proofs.VersionLemmas.{in-map, map-in, placed-event}
use Rattle.ics_starts.proofs.StartSourceLemmas.{gives-value}
use Rattle.ics_listing.proofs.StartOrderLemmas.{rdate-time}

-- the events of one file more
pub read-step : (files : List FileEvents) (number : ℕ) (file : FileEvents) → slice_get files number ≡ Some file → AreReadIn file.events →
    ((p : Placed) → p.file < number → IsPlaced (map said_by files) p → IsReadEvent p.event)
    → (p : Placed) → p.file < number + 1 → IsPlaced (map said_by files) p → IsReadEvent p.event
read-step files number file there own before p l h =
    ⊎_elim (λ less. before p less h)
    (λ same.
    let said = slice_get-map said_by files number ∙ ap (option_map said_by) there in
    let is : h.within.0 ≡ said_by file = some-same _ _ (sym h.within.1 ∙ (ap (slice_get (map said_by files)) same ∙ said)) in
    own p.place p.event (sym (ap (λ f. slice_get f.events p.place) is) ∙ h.within.2))
    (below-or-last p.file number (omega (arith, l)))

none-is : {A : Type 0} (o : Option A) → is_none o ≡ true → o ≡ None
none-is None e = refl
none-is (Some x) e = let f : false ≡ true = e in absurd cc

-- of the versions that count, those without a RECURRENCE-ID are the masters
pub masters-listed : {files : List FileSaid} {display : Clock} {versions : List Version} → AreChosen files display versions →
    (masters : List Placed) × IsListing (by_subject files display) (IsMaster files display) masters
masters-listed {files = files} {display = display} c =
    let single = λ (p : Placed). is_none p.event.recurrence in (
      filter single c.chosen,
      listing-filter single (by_subject files display) (IsChosen files display) (IsMaster files display) c.chosen c.listing
          (λ p is none. record { chosen = is; single = none-is p.event.recurrence none }) (λ p m. (m.chosen, ap is_none m.single)),
    )

zones-said : (files : List FileEvents) (file : ℕ) → (zones : List ZoneKind) × (zones_in (map said_by files) file ≡ map zone_said zones)
zones-said [] file = ([], refl)
zones-said (f ∷ fs) zero = (f.zones, refl)
zones-said (f ∷ fs) (suc file) = zones-said fs file

-- The instants of a folder's times fit in an i64, and the keys of its occurrences have tokens.
module _ (files : List FileEvents) (display : Display) where
  abbrev clocks-of : ℕ → Clocks
  clocks-of file = clocks_at (map said_by files) (display_clock display) file

  near : (file : ℕ) (zone : Option ℕ) (s : Stamp) → IsNearClock (clock_by (clocks-of file) zone s)
  near file zone (Utc local) = near-utc
  near file zone (Zoned local) = let zones = zones-said files file in rw zones.1 (near-at zones.0 zone)
  near file zone _ = near-display display

  fits : (file : ℕ) (time : Time) → IsTime time → FitsSigned w64 (instant (clocks-of file) time)
  fits file time h =
      let by = (near file time.zone time.stamp).moment (stamp_seconds time.stamp) in
      let within = written time.stamp h.years in
      omega (arith, ints, by, within.0, within.1)

  pub keys : AreRead (map said_by files) → (o : Entry) → Occurs (map said_by files) (display_clock display) o → IsKey (rank_of o)
  keys read o (inl m) =
      let event = read m.master m.is.chosen.placed in
      let lasts = m.of.lasts in
      let value = gives-value (clocks-of m.master.file) m.master.event lasts.source lasts.given event.is_event.start event.is_event.rdates lasts.gives in
      let start = subst (FitsSigned w64) (sym lasts.starts) (fits m.master.file (time_of lasts.given) (rdate-time lasts.given value)) in
      record { start = start; recurrence = subst (FitsSigned w64) (sym m.of.recurrence) start; uid = subst (λ e. IsBytes e.uid) (sym m.of.event) event.uid }
  keys read o (inr m) =
      let event = read m.override m.is.chosen.placed in
      let given = mapped-some (instant (clocks-of m.override.file)) m.override.event.recurrence o.recurrence m.is.of in
      let time = subst (λ t. IfSome t IsTime) given.1 event.is_event.recurrence in
      record {
        start = subst (FitsSigned w64) (sym m.of.starts) (fits m.override.file m.override.event.start event.is_event.start);
        recurrence = subst (FitsSigned w64) (sym given.2) (fits m.override.file given.0 time);
        uid = subst (λ e. IsBytes e.uid) (sym m.of.event) event.uid;
      }

-- All that meets a window has a listing.
module _ (files : List FileEvents) (display : Display) {vs : List Version} (chosen : AreChosen (map said_by files) (display_clock display) vs)
    (read : AreRead (map said_by files)) (w : Window) where
  abbrev said : List FileSaid
  said = map said_by files

  abbrev clock : Clock
  clock = display_clock display

  abbrev HasListsTo : ℕ → Type 0
  HasListsTo n = (lists : List (List Entry)) × HasLists said clock w None (map seen (take n vs)) [] lists

  -- a version whose event recurs has a list
  list-of : (i : ℕ) {v : Version} → slice_get vs i ≡ Some v → Recurs said (seen v) →
      (list : List Entry) × IsListing entry_cmp (IsOfVersion said clock w None (seen v)) list
  list-of i {v = v} there r =
      let stands = map-in seen v vs (get-in v vs i there) in
      let placed = own chosen stands r in
      let zones = zones-said files v.spot.file in
      let file : FileZones = record { display = record { ref_ptr = (0, 0); now = display }; zones = record { ref_ptr = (0, 0); now = zones.0 } } in
      let is : IsRead said clock (seen v) r.event file = record {
        clocks = ap (clocks_of clock) (sym zones.1);
        is_event = subst IsEvent (own-event chosen stands r) (read placed.0 ((chosen.listing.exact placed.0).0 placed.1).placed).is_event;
      } in
      whole-version r is (are-replaced said clock vs chosen r.event.uid (λ t. named-among r.event.uid t (map seen vs))) w

  list-more : (i : ℕ) {v : Version} → slice_get vs i ≡ Some v → HasListsTo i → HasListsTo (i + 1)
  list-more i {v = v} there before =
      let placed = in-map (label_of said clock) (seen v) chosen.chosen
      (subst (IsIn (seen v)) chosen.are (map-in seen v vs (get-in v vs i there))) in
      let event = placed.0.event in
      let at : event_at said v.spot ≡ Some event =
      ap (λ (l : Label). event_at said l.spot) placed.2 ∙ placed-event said placed.0 ((chosen.listing.exact placed.0).0 placed.1).placed in
      ⊎_elim
      (λ once. (before.0, versions-skip vs i there before.1 (not-single {u = v} refl at once) refl))
      (λ recurs.
      let own = list-of i there (record { event = event; stands = at; recurs = recurs }) in
      (before.0 ++ own.0 ∷ [], versions-more vs i there before.1 own.1 refl))
      (cases_Bool (is_single event))

  lists-to : (n : ℕ) → n ≤ length vs → HasListsTo n
  lists-to zero l = ([], record { more = []; are = record { each = tt; every = λ l m. absurd m }; behind = refl })
  lists-to (suc n) l =
      subst HasListsTo (add-one n) (list-more n (slice_get-get_or vs n any_version (omega arith)) (lists-to n (omega arith)))

  pub whole : (list : List Entry) × IsListing entry_cmp (IsListed said clock w) list
  whole =
      let singles = singles-whole said clock w vs chosen in
      let lists = lists-to (length vs) (omega arith) in
      let all = versions-all vs (length vs) (omega arith) lists.1 in
      (merged entry_cmp (singles.0 ∷ all.more), parts-listing said clock w None vs chosen singles.0 singles.1 all.more all.are)
