-- What a master gives that recurs: of the occurrences to come those of its event.
use Rattle.std.proofs.Common.{◌≡◌, ◌<ℤ◌, ℕ, ℤ, List, map, length, Option, Some, None, Bool, true, false, refl, sym, ◌∙◌, ap, subst, arith, ◌≤ℤ◌, ◌||◌, ◌&&◌}
use Rattle.std.proofs.Common.{◌==◌, int_le, is_none, is_some, option_map, [], ◌∷◌, inl, inr, ⊎_elim, is_gt}
use Rattle.std.proofs.lemmas.Int.{ints}
use Rattle.ics_file.specs.File.{FileSaid}
use Rattle.ics_event.specs.Event.{IsEvent}
use Rattle.ics_event.specs.declared.event.Event.{Event}
use Rattle.ics_event.specs.Event.{Time}
use Rattle.ics_zone.proofs.Cases.{true_int_le, int_le_true}
use Rattle.ics_series.specs.declared.version.Version.{Version}
use Rattle.ics_listing.specs.declared.window.Window.{Window}
use Rattle.ics_starts.specs.declared.zones.FileZones.{FileZones}
use Rattle.ics_listing.specs.FileClocks.{Clock, Clocks}
use Rattle.ics_starts.specs.Clocks.{instant}
use Rattle.ics_listing.specs.Entry.{Entry, Rank, entry_cmp}
use Rattle.ics_listing.specs.Listing.{IsIn, IsListing}
use Rattle.ics_series.specs.Inner.Masters.{AreFrom, IsBehind, IsOfVersion, IsSince, Recurs, IsUnreplaced}
use Rattle.ics_listing.specs.After.{is_after}
use Rattle.ics_starts.specs.Instances.{IsOf}
use Rattle.ics_series.specs.Chosen.{IsMaster, IsOverridden}
use Rattle.ics_series.specs.PlacedEvents.{Placed, clocks_at}
use Rattle.ics_starts.specs.SeriesStarts.{given_of, IsSeriesMet}
use Rattle.ics_starts.specs.SingleEvents.{is_single}
use Rattle.ics_series.specs.Spots.{event_at}
use Rattle.ics_listing.specs.StartTimes.{time_of, IsNotAfter}
use Rattle.ics_starts.specs.Starts.{GivesStart}
use Rattle.ics_series.specs.Versions.{label_of, seen, AreChosen, Label}
use Rattle.ics_starts.specs.FileZones.{clocks_in}
use Rattle.ics_starts.proofs.SeriesLemmas.{series-listing as listing-by, put-has}
use Rattle.ics_starts.specs.MeetsWindow.{Meets}
use Rattle.ics_series.specs.Meets.{IsToCome}
use Rattle.ics_listing.proofs.Cases.{some-same}
use Rattle.ics_series.proofs.VersionLemmas.{in-map, placed-event, IsGiven}
use Rattle.ics_starts.proofs.StartSourceLemmas.{gives-value, same-given}
use Rattle.ics_listing.proofs.StartOrderLemmas.{rdate-time}
use Rattle.ics_starts.proofs.InstantLemmas.{late}
use Rattle.ics_series.specs.Replaced.{AreReplaced}
use Rattle.ics_series.proofs.ToComeLemmas.{to-come, unreplaced-kept}
use Rattle.ics_listing.specs.WindowBounds.{occurrence_first}
use Rattle.std.proofs.lemmas.Cmp.{tied_itself}
use Rattle.ics_event.specs.Event.{Rdate}
use Rattle.ics_listing.specs.declared.start.StartSource.{StartSource}
use Rattle.ics_listing.specs.declared.start.Start.{Start}
use Rattle.ics_listing.specs.StartOrder.{moment_cmp, source_cmp, HasStart}
use Rattle.ics_starts.specs.Found.{start_by, AreStartsSince, IsStart}
use Rattle.ics_listing.specs.Merged.{put}
use Rattle.ics_listing.specs.Inner.MergedLaws.{rises-union}
use Rattle.ics_listing.specs.Rising.{Rises}
use Rattle.ics_listing.proofs.FirstLemmas.{moment_total, source-order, source_total}
use Rattle.ics_listing.proofs.ListingLemmas.{before-in, relisted}
use Rattle.ics_starts.proofs.RawLemmas.{giving}
use Rattle.ics_listing.proofs.UnionLemmas.{itself-put, union-in}

-- The starts of an event have a list, which has of those at one instant the first.
module _ (clocks : Clocks) (event : Event) (sound : IsEvent event) where
  -- the starts that these sources give, at each instant the first
  record HasStarts (sources : List StartSource) : Type 0 where
    starts : List Start
    rises : Rises moment_cmp starts
    are : (s : Start) → IsIn s starts → IsStart clocks event s
    all : (g : StartSource) → IsIn g sources → (given : Rdate) → GivesStart clocks event g given → HasStart starts g (instant clocks (time_of given))

  starts-of : (sources : List StartSource) → Rises source_cmp sources
      → ((g : StartSource) → IsIn g sources → (given : Rdate) × GivesStart clocks event g given) → HasStarts sources
  starts-of [] r f = record { starts = []; rises = tt; are = λ s m. absurd m; all = λ g m. absurd m }
  starts-of (x ∷ xs) r f =
      let rest = starts-of xs r.1 (λ g m. f g (inr m)) in
      let own = f x (inl refl) in
      let s = start_by clocks x own.0 in
      let is : IsStart clocks event (start_by clocks x own.0) = record { gives = own.1; moment = refl } in
      record {
        starts = put moment_cmp s rest.starts;
        rises = rises-union moment_cmp moment_total (s ∷ []) rest.starts rest.rises;
        are = λ t m. ⊎_elim (λ n. ⊎_elim (λ e. subst (IsStart clocks event) (sym e) is) (λ k. absurd k) n) (λ n. rest.are t n.1)
            (union-in moment_cmp moment_total t (s ∷ []) rest.starts rest.rises m);
        all = λ g m given gives. ⊎_elim
            (λ e. record {
              start = s;
              stands = itself-put moment_cmp moment_total s rest.starts;
              same = ap (λ v. instant clocks (time_of v)) (same-given clocks event own.0 given (sym e) own.1 gives);
              earlier = subst (IsNotAfter x) (sym e) (source-order x x (ap is_gt (tied_itself source_total x)));
            })
            (λ n. put-has s rest.starts g (instant clocks (time_of given))
            (source-order x g (ap is_gt (before-in source_cmp source_total x g xs r.0 n))) (rest.all g n given gives)) m;
      }

-- what an event has to show in a window, from an instant on
pub whole-starts : (clocks : Clocks) (w : Window) (event : Event) (since : ℤ) → IsEvent event →
    (starts : List Start) × AreStartsSince clocks event w since starts
whole-starts clocks w event since sound =
    let all = giving clocks event (λ t. true) sound.start in
    let found = starts-of clocks event sound all.sources all.listing.rises (λ g m. let k = (all.listing.exact g).0 m in (k.0, k.1)) in (
      found.starts,
      record {
        rises = found.rises;
        are = found.are;
        all = λ source given g s late. found.all source ((all.listing.exact source).1 (given, g, refl)) given g;
      },
    )

-- an event that recurs is a master
pub recurring-master : (event : Event) → is_single event ≡ false → event.recurrence ≡ None
recurring-master event = by event.recurrence ((is_none event.rule && length event.rdates == 0) && length event.exdates == 0)
  where
    by : (r : Option Time) (b : Bool) → (is_some r || b) ≡ false → r ≡ None
    by None b e = refl
    by (Some time) b e = let f : true ≡ false = e in absurd cc

-- an occurrence begins after the last two days of the year 0000 have begun
pub of-late : (zones : FileZones) (event : Event) (o : Entry) → IsEvent event → IsOf (clocks_in zones) event o → occurrence_first ≤ℤ o.start
of-late zones event o e h =
    let time = rdate-time h.lasts.given (gives-value (clocks_in zones) event h.lasts.source h.lasts.given e.start e.rdates h.lasts.gives) in
    let near = late zones (time_of h.lasts.given) time in
    let starts = h.lasts.starts in
    omega (arith, ints, near, starts)

-- the zones by which a version's times are read, and its event
pub record IsRead (files : List FileSaid) (display : Clock) (label : Label) (event : Event) (zones : FileZones) : Type 0 where
  pub clocks : clocks_in zones ≡ clocks_at files display label.spot.file
  pub is_event : IsEvent event

module _ {files : List FileSaid} {display : Clock} {vs : List Version} {label : Label} (chosen : AreChosen files display vs)
    (there : IsIn label (map seen vs)) (r : Recurs files label) where
  abbrev event : Event
  event = r.event

  abbrev clocks : Clocks
  clocks = clocks_at files display label.spot.file

  -- the event as it counts
  pub own : (p : Placed) × IsIn p chosen.chosen × (label ≡ label_of files display p)
  own = in-map (label_of files display) label chosen.chosen (subst (IsIn label) chosen.are there)

  pub own-event : own.0.event ≡ event
  own-event = some-same own.0.event event (sym (placed-event files own.0 ((chosen.listing.exact own.0).0 own.1).placed)
      ∙ (ap (λ (l : Label). event_at files l.spot) (sym own.2) ∙ r.stands))

  pub own-clocks : clocks_at files display own.0.file ≡ clocks
  own-clocks = ap (λ (l : Label). clocks_at files display l.spot.file) (sym own.2)

  pub own-master : IsMaster files display own.0
  own-master = record {
    chosen = (chosen.listing.exact own.0).0 own.1;
    single = ap (λ (e : Event). e.recurrence) own-event ∙ recurring-master event r.recurs;
  }

  -- its subject is its UID alone
  pub own-subject : label.subject ≡ record { uid = event.uid; recurrence = None }
  own-subject =
      ap (λ (l : Label). l.subject) own.2
      ∙ rw (own-event, ap (option_map (instant (clocks_at files display own.0.file))) (recurring-master event r.recurs)) refl

  -- what it gives is to come where no override stands for it
  pub version-come : (w : Window) (after : Option Rank) (o : Entry) → IsOf clocks event o → Meets w o → is_after after o ≡ true
      → IsUnreplaced files display o → IsToCome files display w after o
  version-come w after o of meets later unreplaced =
      let given : IsGiven files display w o = record {
        by = own.0;
        chosen = (chosen.listing.exact own.0).0 own.1;
        is = (
          rw (own-event, ap (option_map (instant (clocks_at files display own.0.file))) (recurring-master event r.recurs), own-clocks) of,
          meets,
        );
      } in
      to-come files display w vs chosen after o given (unreplaced-kept files display vs chosen o unreplaced) later

module _ {files : List FileSaid} {display : Clock} {label : Label} (r : Recurs files label) {zones : FileZones}
    (read : IsRead files display label r.event zones) (w : Window) (after : Option Rank) (since : ℤ) (from : IsSince after r.event.uid since) where
  abbrev by_file : Clocks
  by_file = clocks_at files display label.spot.file

  low : (o : Entry) → IsOf by_file r.event o → occurrence_first ≤ℤ o.start
  low o of = of-late zones r.event o read.is_event (subst (λ k. IsOf k r.event o) (sym read.clocks) of)

  begun : (o : Entry) → IsOf by_file r.event o → o.start <ℤ w.to → is_after after o ≡ int_le since o.start
  begun o of b =
      let first = low o of in
      from o (ap (λ (v : Event). v.uid) of.event) of.recurrence first (omega (arith, ints, b, w.not_late))

  named-alike : {a b : List ℕ} {s t : ℤ} → a ≡ b → s ≡ t → IsOverridden files display a s → IsOverridden files display b t
  named-alike e f v = rw (e, f) at v

  own-of : (o : Entry) → IsOfVersion files display w after label o → IsOf by_file r.event o
  own-of o h = let same : h.by.event ≡ r.event = some-same h.by.event r.event (sym h.by.stands ∙ r.stands) in rw same at h.of

  -- what is to come of it begins at the instant or later
  pub come-since : (o : Entry) → IsOfVersion files display w after label o → since ≤ℤ o.start
  come-since o h = int_le_true since o.start (sym (begun o (own-of o h) h.meets.begun) ∙ h.later)

  -- From an instant on that is no earlier.
  module _ {least : ℤ} (late : since ≤ℤ least) where
    met-come : {replaced : List ℤ} → AreReplaced files display r.event.uid replaced → (o : Entry) → IsSeriesMet by_file r.event w least replaced o
        → IsOfVersion files display w after label o
    met-come are o m = record {
      by = r;
      of = m.0.0;
      meets = m.0.1;
      later = begun o m.0.0 m.0.1.begun ∙ true_int_le since o.start (omega (arith, ints, late, m.1.0));
      kept = λ v. (are.each o.start).0 m.1.1 (named-alike (ap (λ (e : Event). e.uid) m.0.0.event) m.0.0.recurrence v);
    }

    -- those that begin before the window's end come after the key
    pub behind : IsBehind files display w after label least
    behind own o of b =
        let same : own.event ≡ r.event = some-same own.event r.event (sym own.stands ∙ r.stands) in
        let is : IsOf by_file r.event o = rw same at of in
        (low o is, λ l. begun o is b ∙ true_int_le since o.start (omega (arith, ints, late, l)))

    -- what its series gives are the occurrences of its event, if none of them is earlier
    pub series-listing : AreFrom files display w after label least → {replaced : List ℤ} → AreReplaced files display r.event.uid replaced → {clocks : Clocks}
        → clocks ≡ by_file → {list : List Entry} → IsListing entry_cmp (IsSeriesMet clocks r.event w least replaced) list
        → IsListing entry_cmp (IsOfVersion files display w after label) list
    series-listing first {replaced = replaced} are same {list = list} l =
        let k = subst (λ clocks. IsListing entry_cmp (IsSeriesMet clocks r.event w least replaced) list) same l in
        relisted k (met-come are) (λ o h. let of = own-of o h in (
          (of, h.meets),
          (first o h (low o of), (are.each o.start).1 (λ v. h.kept (named-alike (sym (ap (λ (e : Event). e.uid) of.event)) (sym of.recurrence) v))),
        ))

-- an event that starts once does not recur
pub not-single : {files : List FileSaid} {u v : Version} {event : Event} → u ≡ v → event_at files u.spot ≡ Some event → is_single event ≡ true →
    Recurs files (seen v) → ⊥
not-single {files = files} {event = event} is there single r =
    let same : r.event ≡ event = some-same r.event event (sym r.stands ∙ (ap (λ (v : Version). event_at files v.spot) (sym is) ∙ there)) in
    let f : false ≡ true = sym r.recurs ∙ (ap is_single same ∙ single) in cc

-- a version whose event recurs has a list of all its occurrences that meet the window
pub whole-version : {files : List FileSaid} {display : Clock} {label : Label} {zones : FileZones} (r : Recurs files label) →
    IsRead files display label r.event zones → {replaced : List ℤ} → AreReplaced files display r.event.uid replaced → (w : Window)
    → (list : List Entry) × IsListing entry_cmp (IsOfVersion files display w None label) list
whole-version {zones = zones} r read {replaced = replaced} are w =
    let starts = whole-starts (clocks_in zones) w r.event occurrence_first read.is_event in (
      given_of (clocks_in zones) w r.event occurrence_first replaced starts.0,
      series-listing r read w None occurrence_first (λ o u e low high. sym (true_int_le occurrence_first o.start low)) (omega (arith, ints))
          (λ o h low. low) are read.clocks (listing-by (clocks_in zones) w r.event occurrence_first replaced starts.0 starts.1),
    )
