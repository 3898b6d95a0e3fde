-- The spans of masters of which nothing is to come near a day.
use Rattle.std.proofs.Common.{◌≡◌, ◌∙◌, ℕ, ℤ, pos, ◌+ℤ◌, ◌-ℤ◌, ◌<ℤ◌, ◌≤ℤ◌, List, [], ◌∷◌, Option, Some, None, ⊎_elim, false}
use Rattle.std.proofs.Common.{map, refl, sym, ap, subst, arith, slice_get, get_or, length, nat_cmp, is_ok, Bor, true, Equal, Result, Ok, Err, IfOk, HoldsAt}
use Rattle.std.specs.List.Sorted.{IsSearchInRange}
use Rattle.std.proofs.lemmas.Map.Lookups.{exact_unsigned}
use Rattle.std.specs.Option.{unwrap_or}
use Rattle.std.specs.List.{AllByRecursion}
use Rattle.std.proofs.Math.Logic.{∥∥₁_elim, ∥∥₁_map}
use Rattle.std.proofs.lemmas.Int.{int_max_is, ints}
use Rattle.ics_fields.specs.Locals.{midnight}
use Rattle.ics_file.specs.File.{FileSaid}
use Rattle.ics_event.specs.declared.event.Event.{Event}
use Rattle.ics_listing.specs.Entry.{Entry}
use Rattle.ics_listing.specs.FeedSources.{Recurring}
use Rattle.ics_listing.specs.FileClocks.{Clock}
use Rattle.ics_listing.specs.Listing.{IsIn}
use Rattle.ics_listing.specs.WindowBounds.{occurrence_first}
use Rattle.ics_listing.specs.declared.window.Window.{Window}
use Rattle.ics_listing.proofs.ListingLemmas.{get-in, in-contains}
use Rattle.ics_days.specs.NearDays.{IsNearDay}
use Rattle.ics_series.specs.DaySteps.{IsDayMaster, Scope}
use Rattle.ics_series.specs.HeldMost.{Master}
use Rattle.ics_continued.specs.Ends.{end_of}
use Rattle.ics_continued.specs.declared.continued.Continued.{Continued}
use Rattle.ics_series.specs.Inner.Ended.{begins_after, AreMovedOff, IsMasterAt, IsOver}
use Rattle.ics_series.specs.Inner.Masters.{IsUnreplaced}
use Rattle.ics_days.specs.Spans.{first_at}
use Rattle.ics_series.specs.Inner.Spans.{floor_of, AreSpansAfter, IsKeptFrom, IsPutOff, IsRest, IsStartedBy}
use Rattle.ics_series.specs.Chosen.{IsMaster, IsOverridden}
use Rattle.ics_series.specs.Inner.Kept.{IsOfMaster}
use Rattle.ics_series.specs.Inner.Marks.{marks-prop, AreMarks, IsPut, StayMarks}
use Rattle.ics_series.specs.PlacedEvents.{Placed, clocks_at}
use Rattle.ics_series.specs.Replaced.{AreReplaced}
use Rattle.ics_series.specs.Spots.{event_at}
use Rattle.ics_series.specs.Versions.{label_of, seen, AreChosen, Label}
use Rattle.ics_days.specs.declared.span.Span.{Span}
use Rattle.ics_series.specs.declared.version.Version.{Version}
use Rattle.ics_starts.specs.Exclusions.{is_among}
use Rattle.ics_starts.specs.FileZones.{clocks_in}
use Rattle.ics_starts.specs.Instances.{IsOf}
use Rattle.ics_starts.specs.MeetsWindow.{Meets}
use Rattle.ics_starts.specs.RuleMarks.{IsMarkOf}
use Rattle.ics_starts.specs.declared.mark.Mark.{Mark}
use Rattle.ics_starts.specs.SeriesStarts.{IsSeriesMet}
use Rattle.ics_starts.specs.SingleEvents.{is_single}
use Rattle.ics_series.proofs.MarkLemmas.{marks-put}
use Rattle.ics_series.proofs.OccursLemmas.{master-subject}
use Rattle.ics_series.proofs.SpanLemmas.{from-first, low-start, meets-before, near-later, rest-span}
use Rattle.ics_series.proofs.VersionLemmas.{in-map, one-chosen, placed-event}

-- spans that stay, and that are moved off one after the other
module _ {vs : List Version} {near : List ℕ} where
  pub moved_none : {IsKnown : Scope → ℤ → Type 0} (spans : List Span) → AreMovedOff vs near IsKnown spans spans
  moved_none spans = record { size = refl; others = λ k away. refl; still = λ s day chosen known are. are }

  -- and then moved by what is known too
  pub moved-then : {IsKnown IsNext : Scope → ℤ → Type 0} {old mid new : List Span} → AreMovedOff vs near IsKnown old mid → AreMovedOff vs near IsNext mid new
      → ((s : Scope) (day : ℤ) → IsKnown s day → IsNext s day) → AreMovedOff vs near IsKnown old new
  moved-then a b next = record {
    size = b.size ∙ a.size;
    others = λ k away. b.others k away ∙ a.others k away;
    still = λ s day chosen known are. b.still s day chosen (next s day known) (a.still s day chosen known are);
  }

-- so of what more is known
pub moved-as : {vs : List Version} {near : List ℕ} {IsKnown IsMore : Scope → ℤ → Type 0} {old new : List Span} → AreMovedOff vs near IsKnown old new
    → ((s : Scope) (day : ℤ) → IsMore s day → IsKnown s day) → AreMovedOff vs near IsMore old new
moved-as a known = record { size = a.size; others = a.others; still = λ s day chosen more are. a.still s day chosen (known s day more) are }

-- what a search finds is among the places
pub found-near : (near : List ℕ) (k : ℕ) (r : Result ℕ ℕ) → IsSearchInRange r (length near) → IfOk r (HoldsAt (λ y. nat_cmp y k ≡ Equal) near)
    → is_ok r ≡ true → IsIn k near
found-near near k (Ok i) within holds found = in-contains k near (i, within, exact_unsigned (get_or near i k) k (holds k))
found-near near k (Err i) within holds found = let no : false ≡ true = found in absurd cc

-- the masters that were searched near a day
pub over-all : (s : Scope) (day : ℤ) {floor : Option ℤ} {by : ℤ} (ms : List Recurring) → floor ≡ floor_of s.window → by ≡ begins_after s.bounds day
    → AllByRecursion (λ m. is_single m.event ≡ false) ms → AllByRecursion (IsDayMaster s day) ms → AllByRecursion (IsOver s day floor by) ms
over-all s day [] starts ends recur are = tt
over-all s day (m ∷ ms) starts ends recur are =
    (record { searched = are.0; recurs = recur.0; starts = starts; ends = ends }, over-all s day ms starts ends recur.1 are.1)

-- The span of such a master at its place.
-- the version at the place of a master is that of the master
label-at : {files : List FileSaid} {display : Clock} {vs : List Version} → AreChosen files display vs → {by : Placed} → IsMaster files display by
    → {k : ℕ} {uid : List ℕ} (at : IsMasterAt (map seen vs) k uid) → uid ≡ by.event.uid → at.label ≡ label_of files display by
label-at {files = files} {display = display} {vs = vs} chosen {by = by} is {k = k} at same =
    let there = in-map (label_of files display) at.label chosen.chosen (subst (IsIn at.label) chosen.are (get-in at.label (map seen vs) k at.there)) in
    let counts = (chosen.listing.exact there.0).0 there.1 in
    let subject : at.label.subject ≡ record { uid = by.event.uid; recurrence = None } =
    λ i. record { uid = (at.same ∙ same) i; recurrence = at.single i } in
    there.2 ∙ ap (label_of files display) (one-chosen counts is.chosen
    (sym (ap (λ (l : Label). l.subject) there.2) ∙ (subject ∙ sym (master-subject files display by is))))

-- marks that stay, and one of a master that is put at its place
pub stay_none : {vs : List Version} {IsKnown : List FileSaid → Clock → Type 0} (marks : List (Option Mark)) → StayMarks vs IsKnown marks marks
stay_none marks = record { still = λ files display chosen known are. are }

-- and then those of what is known too
pub stay-then : {vs : List Version} {IsKnown IsNext : List FileSaid → Clock → Type 0} {old mid new : List (Option Mark)} → StayMarks vs IsKnown old mid
    → StayMarks vs IsNext mid new → ((files : List FileSaid) (display : Clock) → IsKnown files display → IsNext files display)
    → StayMarks vs IsKnown old new
stay-then a b next = record {
  still = λ files display chosen known are.
      b.still files display chosen (next files display known) (a.still files display chosen known are);
}

module _ {files : List FileSaid} {display : Clock} {vs : List Version} (chosen : AreChosen files display vs) {c : Continued}
    (of : IsOfMaster files display c) {k : ℕ} (at : IsMasterAt (map seen vs) k c.series.event.now.uid) {mark : Option Mark}
    (is : IsMarkOf c.series.event.now mark) where
  pub marks-over : (old new : List (Option Mark)) → IsPut old k mark new → AreMarks files (map seen vs) old → AreMarks files (map seen vs) new
  marks-over old new put are = ∥∥₁_elim of (marks-prop files (map seen vs) new) (λ h.
      marks-put files (map seen vs) k mark old new are put (λ label e there stands.
      let label-is : label ≡ label_of files display h.0 =
      ap (λ o. unwrap_or o label) (sym there ∙ at.there) ∙ label-at chosen h.1 at (ap (λ (v : Event). v.uid) h.2.event) in
      let placed = placed-event files h.0 h.1.chosen.placed in
      let same : e ≡ h.0.event = ap (λ o. unwrap_or o e) (sym stands ∙ (ap (λ (l : Label). event_at files l.spot) label-is ∙ placed)) in
      subst (λ x. IsMarkOf x mark) (h.2.event ∙ sym same) is))

-- Of what a master has in its window from an instant on, what ends after another one does not begin before a third.
pub record AreFromLeast (m : Recurring) (since by least : ℤ) : Type 0 where
  pub enough : (o : Entry) → IsOf m.clocks m.event o → occurrence_first ≤ℤ o.start
  pub lasting : (o : Entry) → IsSeriesMet m.clocks m.event m.window since m.replaced o → by <ℤ end_of o → least ≤ℤ o.start

module _ (s : Scope) (day : ℤ) {vs : List Version} (chosen : AreChosen s.files s.display vs) {m : Recurring} {floor : Option ℤ} {by : ℤ}
    (over : IsOver s day floor by m) {since least : ℤ} (known : AreFromLeast m since by least) {k : ℕ} (at : IsMasterAt (map seen vs) k m.event.uid) where
  abbrev master : Placed
  master = over.searched.by

  -- the version there is that of the master
  own-label : at.label ≡ label_of s.files s.display master
  own-label = label-at chosen over.searched.is at (ap (λ (x : Master). x.event.uid) over.searched.searched.same)

  abbrev IsOwn : Entry → Type 0
  IsOwn = IsOf (clocks_at s.files s.display master.file) master.event

  own-of : (o : Entry) → IsOwn o → IsOf m.clocks m.event o
  own-of o = subst (λ (x : Master). IsOf x.clocks x.event o) (sym over.searched.searched.same)

  -- what no override stands for begins at none of the instants that others replace
  free : (o : Entry) → IsOwn o → IsUnreplaced s.files s.display o → is_among m.replaced o.start ≡ false
  free o of kept = (over.searched.replaced.each o.start).1 (λ v.
      kept (subst (λ (u : List ℕ). IsOverridden s.files s.display u o.recurrence) (sym (ap (λ (e : Event). e.uid) of.event))
      (subst (IsOverridden s.files s.display master.event.uid) (sym of.recurrence) v)))

  module _ (x : ℤ) (n : Window) (later : day <ℤ x) (near : IsNearDay s.display s.window s.bounds x n) where
    -- what meets a window near a later day and begins before the end of the day's own lasts
    lasts-on : (o : Entry) → IsOwn o → Meets n o → IsKeptFrom s.files s.display (floor_of s.window) o → since ≤ℤ o.start → o.start <ℤ m.window.to
        → least ≤ℤ o.start
    lasts-on o of meets asked late begun =
        let here = meets-before m.window n (near-later over.searched.searched.near near (omega (arith, ints, later))) o meets begun in
        let from : by ≤ℤ n.from = omega (arith, ints, over.ends, near.from, later, int_max_is s.window.from (midnight x -ℤ s.bounds.most)) in
        let most = int_max_is o.finish (o.start +ℤ pos 1) in
        known.lasting o ((own-of o of, here), (late, free o of asked.kept))
        (⊎_elim (λ a. omega (arith, ints, a, most, from)) (λ b. omega (arith, ints, b.1, most, from)) meets.lasting)

  pub over-still : {old new : List Span} (put : IsPutOff m.clocks m.event m.window since floor old k new) → put.span.first ≤ℤ least
      → AreSpansAfter s.files s.display s.bounds s.window day (map seen vs) old → AreSpansAfter s.files s.display s.bounds s.window day (map seen vs) new
  over-still {old = old} put low are x n later near = λ j span label event there place stands. ⊎_elim
      (λ before. are x n later near j span label event before place stands)
      (λ mine.
      let label-is : label ≡ label_of s.files s.display master =
      ap (λ o. unwrap_or o label) (sym place ∙ (ap (slice_get (map seen vs)) mine.0 ∙ at.there)) ∙ own-label in
      let placed = placed-event s.files master over.searched.is.chosen.placed in
      let event-is : event ≡ master.event =
      ap (λ o. unwrap_or o event) (sym stands ∙ (ap (λ (l : Label). event_at s.files l.spot) label-is ∙ placed)) in
      let same = over.searched.searched.same in
      let recurs : is_single master.event ≡ false = sym (ap (λ (x : Master). is_single x.event) same) ∙ over.recurs in
      let from : (o : Entry) → IsOwn o → Meets n o → IsKeptFrom s.files s.display (floor_of s.window) o → occurrence_first ≤ℤ o.start → since ≤ℤ o.start =
      λ o of meets asked enough.
      low-start since (first_at old k) floor put.low o (subst (λ f. IsStartedBy f o) (sym over.starts) asked.started)
      (from-first s.files s.display n (map seen vs) old (are x n later near) k (at.there ∙ ap Some own-label) master.event placed recurs o of meets asked
      enough) enough in
      rw (label-is, event-is, mine.1)
      (rest-span (clocks_at s.files s.display master.file) master.event recurs m.window n (IsKeptFrom s.files s.display (floor_of s.window))
      (subst (λ (x : Master). IsRest x.clocks x.event m.window since put.span) same put.rest) from
      (λ o of meets asked begun.
      let start = lasts-on x n later near o of meets asked (from o of meets asked (known.enough o (own-of o of))) begun in
      omega (arith, ints, low, start))))
      (put.put.1 j span there)

-- a series of a master is one after its search has ended, too
pub kept-rest : (files : List FileSaid) (display : Clock) {old new : Continued} → IsOfMaster files display old
    → new.series.zones ≡ old.series.zones → new.series.event ≡ old.series.event → new.series.replaced ≡ old.series.replaced → IsOfMaster files display new
kept-rest files display of zones event replaced = ∥∥₁_map of (λ h. (
  h.0,
  h.1,
  record {
    event = ap (λ (e : Bor Event). e.now) event ∙ h.2.event;
    clocks = ap clocks_in zones ∙ h.2.clocks;
    replaced = subst (AreReplaced files display h.0.event.uid) (sym replaced) h.2.replaced;
  },
))
