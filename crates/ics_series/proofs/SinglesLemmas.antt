-- What an event gives at its DTSTART; what the versions that count give whose events start once, sorted by key, is their listing.
use Rattle.std.proofs.Common.{◌≡◌, ℤ, List, [], map, length, inl, ⊎_elim, Option, Some, None, Bool, true, false, refl, sym, ◌∙◌, ap, subst, arith, ◌==◌, ◌&&◌}
use Rattle.std.proofs.Common.{◌≤ℤ◌, ◌||◌, not, is_none, is_some, if◌then◌else◌, int_lt, filter, option_map, int_cmp, nat_cmp, Equal, ◌∷◌, inr}
use Rattle.std.specs.List.{filter_map, list_any, AllByRecursion}
use Rattle.std.specs.List.Sorted.{IsPermutation}
use Rattle.std.specs.Option.{option_and_then}
use Rattle.std.specs.Ordering.{on, ordering_then}
use Rattle.std.proofs.lemmas.Int.{ints}
use Rattle.std.proofs.lemmas.List.Sorted.{IsPermutation-map}
use Rattle.std.proofs.lemmas.Bool.{and_parts, cond_both, cases_Bool}
use Rattle.std.proofs.lemmas.Option.{cond_some}
use Rattle.ics_file.specs.File.{FileSaid}
use Rattle.ics_event.specs.declared.event.Event.{Event}
use Rattle.ics_event.specs.Event.{Rdate}
use Rattle.ics_values.specs.declared.time.Rdate.TheVariants.{At}
use Rattle.ics_event.specs.Event.{Time}
use Rattle.ics_fields.specs.Locals.{local_seconds}
use Rattle.ics_starts.specs.declared.single.Single.{Single}
use Rattle.ics_listing.specs.declared.start.StartSource.{StartSource}
use Rattle.ics_listing.specs.declared.start.StartSource.TheVariants.{Kept, Listed}
use Rattle.ics_series.specs.declared.part.Part.{Part}
use Rattle.ics_series.specs.declared.part.Part.TheVariants as part
use Rattle.ics_series.specs.declared.singles.Singles as single
use Rattle.ics_series.specs.declared.version.Version.{Version}
use Rattle.ics_series.specs.AgendaParts.{part_coming, IsFirstPart}
use Rattle.ics_listing.specs.declared.window.Window.{Window}
use Rattle.ics_series.specs.Chosen.{overridden, subject_of, IsChosen}
use Rattle.ics_listing.specs.FileClocks.{Clock, Clocks}
use Rattle.ics_starts.specs.Clocks.{instant}
use Rattle.ics_listing.specs.Entry.{Entry, Rank, entry_cmp}
use Rattle.ics_listing.specs.Inner.EntryLaws.{entry_total}
use Rattle.ics_starts.specs.Exclusions.{excludes}
use Rattle.ics_starts.specs.Finish.{finish}
use Rattle.ics_listing.specs.Listing.{IsListing, IsIn}
use Rattle.ics_listing.specs.WindowMeeting.{is_met, is_under_way}
use Rattle.ics_series.specs.Overridden.{is_kept}
use Rattle.ics_listing.specs.After.{is_after, after_key}
use Rattle.ics_starts.specs.Instances.{IsInstance}
use Rattle.ics_series.specs.PlacedEvents.{Placed, clocks_at}
use Rattle.ics_starts.specs.SingleEvents.{entry_first, is_single, single_entry, begun_first}
use Rattle.ics_series.specs.Singles.{is_to_come, single_at, single_of, IsSingleToCome}
use Rattle.ics_listing.specs.StartTimes.{local_of, IsNotAfter}
use Rattle.ics_starts.specs.Starts.{recurrence_by, GivesStart}
use Rattle.ics_series.specs.Versions.{by_subject, is_named, is_override, label_of, seen, subject_cmp, AreChosen, Label}
use Rattle.ics_series.specs.Spots.{event_at}
use Rattle.ics_series.proofs.VersionLemmas.{given-subject, placed-event, given_cmp, subject_from, IsGiven, IsGivenBy, map-in}
use Rattle.ics_starts.proofs.EntryLemmas.{entry_start_cmp, same-entry}
use Rattle.ics_series.proofs.VersionLemmas.{second-equal, subject_total}
use Rattle.ics_starts.proofs.MeetsLemmas.{is_met-meets, meets-is_met}
use Rattle.ics_series.proofs.OverrideLemmas.{named-overrides}
use Rattle.ics_listing.proofs.ListingLemmas.{filter_map-map, listing-picked, KeepsOrder, listing-sorted, map-climbs, Climbs, all-as, relisted}
use Rattle.ics_listing.proofs.UnionLemmas.{from-one, listing-ordered, merged-is, one-from, IsInOne}
use Rattle.ics_starts.proofs.RawLemmas.{one-start}
use Rattle.ics_series.proofs.ToComeLemmas.{after-come, come-listed, kept-unreplaced, listed-given, to-come}
use Rattle.ics_starts.proofs.ZoneLemmas.{none-of, rule-none}
use Rattle.ics_listing.proofs.StartOrderLemmas.{own-time}
use Rattle.std.specs.Cmp.{IsTotalOrder}
use Rattle.std.specs.Cmp.Lexicographic.{slice_cmp}
use Rattle.std.proofs.lemmas.Cmp.{int_cmp_total, on_total, then_total, tied_itself}
use Rattle.std.proofs.lemmas.Map.Lookups.{exact_bytes, exact_signed}
use Rattle.ics_series.specs.Meets.{IsToCome, IsListed}
use Rattle.ics_series.proofs.OccursLemmas.{one-recurrence}
use Rattle.ics_series.specs.Inner.Masters.{AreLists, HasLists, IsOneOf, Recurs}
use Rattle.ics_listing.specs.Merged.{merged, IsFromFirst}
use Rattle.ics_listing.specs.Rising.{Rises}
use Rattle.ics_series.proofs.AfterLemmas.{listing-after_key}
use Rattle.ics_series.proofs.RecurringLemmas.{recurring-master, version-come}
use Rattle.ics_listing.specs.WindowBounds.{occurrence_first}
use Rattle.ics_starts.proofs.InstantLemmas.{late}

-- none of those that start once begins before the last two days of the year 0000
pub singles-late : (singles : List Single) (o : Entry) → IsIn o (map single_entry singles) → occurrence_first ≤ℤ o.start
singles-late [] o m = absurd m
singles-late (s ∷ singles) o m =
    ⊎_elim
    (λ e. omega (arith, ints, s.first, ap (λ (x : Entry). x.start) e, late s.zones s.event.now.start s.own.start.is_time))
    (singles-late singles o) m

pub given_total : IsTotalOrder given_cmp
given_total = then_total (on_total subject_from subject_total) (on_total (λ e. e.start) int_cmp_total)

-- what has one key has one UID and one recurrence
same-key : (x y : Entry) → entry_cmp x y ≡ Equal → (x.event.uid ≡ y.event.uid) × (x.recurrence ≡ y.recurrence)
same-key x y e =
    let rest = ordering_then (slice_cmp nat_cmp x.event.uid y.event.uid) (int_cmp x.recurrence y.recurrence) in
    let both = second-equal (int_cmp x.start y.start) rest e in
    let ends = second-equal (slice_cmp nat_cmp x.event.uid y.event.uid) (int_cmp x.recurrence y.recurrence) both.1 in
    (exact_bytes x.event.uid y.event.uid ends.0, exact_signed x.recurrence y.recurrence ends.1)

module _ (files : List FileSaid) (display : Clock) (w : Window) (after : Option Rank) where
  -- occurrences of one key are one
  pub one-key : (x y : Entry) → IsToCome files display w after x → IsToCome files display w after y → entry_cmp x y ≡ Equal → x ≡ y
  one-key x y p q e =
      let same = same-key x y e in
      one-recurrence files display x y (come-listed files display w after x p).0 (come-listed files display w after y q).0 same.0 same.1

  pub tied-given : (x y : Entry) → IsToCome files display w after x → IsToCome files display w after y → entry_cmp x y ≡ Equal → given_cmp x y ≡ Equal
  tied-given x y p q e = ap (given_cmp x) (sym (one-key x y p q e)) ∙ tied_itself given_total x

-- DTSTART gives a start
-- What a version gives of that.
module _ (files : List FileSaid) (display : Clock) (w : Window) (overrides : List Label) (after : Option Rank) (label : Label) (event : Event)
    (stands : event_at files label.spot ≡ Some event) where
  abbrev label_clocks : Clocks
  label_clocks = clocks_at files display label.spot.file

  abbrev label_first : Entry
  label_first = entry_first label_clocks event label.subject.recurrence

  at-event : single_at files display w overrides after label ≡ single_of label_clocks w overrides after label.subject.recurrence event
  at-event = ap (option_and_then (single_of label_clocks w overrides after label.subject.recurrence)) stands

  pub gives-other : is_single event ≡ false → None ≡ single_at files display w overrides after label
  gives-other s = sym (at-event ∙ ap (λ b. if b && is_to_come w overrides after label_first then Some label_first else None) s)

  -- what has begun, if it is to come
  pub gives-begun : {clocks : Clocks} (begun : Option Entry) → is_single event ≡ true → clocks ≡ label_clocks
      → begun ≡ begun_first clocks w event label.subject.recurrence
      → option_and_then (λ o. if is_to_come w overrides after o then Some o else None) begun ≡ single_at files display w overrides after label
  gives-begun begun s same b =
      ap (option_and_then (λ o. if is_to_come w overrides after o then Some o else None))
      (b ∙ ap (λ clocks. begun_first clocks w event label.subject.recurrence) same)
      ∙ (cond_both (int_lt (instant label_clocks event.start) w.to) (Some label_first) None
      (λ o. option_and_then (λ o. if is_to_come w overrides after o then Some o else None) o
      ≡ (if is_to_come w overrides after label_first then Some label_first else None)) (λ _. refl)
      (λ e. sym (ap (λ b. if ((b && is_under_way w label_first.start label_first.finish) && is_after after label_first) && is_kept overrides label_first
      then Some label_first else None) e))
      ∙ sym (at-event ∙ ap (λ b. if b && is_to_come w overrides after label_first then Some label_first else None) s))

-- An event that starts once, and is no override.
module _ (clocks : Clocks) (event : Event) (rule : event.rule ≡ None) (rdates : event.rdates ≡ []) (exdates : event.exdates ≡ []) where
  first-earliest : (other : StartSource) (value : Rdate) → GivesStart clocks event other value → IsNotAfter (Kept (local_of event.start.stamp)) other
  first-earliest (Kept local) value g =
      ⊎_elim (λ e. let same = ap local_seconds e in omega (arith, ints, same))
      (λ r. let f : None ≡ Some r.rule = ap (option_map (recurrence_by event.start.stamp)) (sym rule) ∙ r.has in absurd cc) g.0
  first-earliest (Listed place) value g = tt

  -- it occurs at its DTSTART
  first-instance : IsInstance clocks event (instant clocks event.start) (finish clocks event (At event.start))
  first-instance = record {
    source = Kept (local_of event.start.stamp);
    given = At event.start;
    gives = (inl refl, sym (ap At (own-time event.start)));
    starts = refl;
    earliest = λ other value g e. first-earliest other value g;
    ends = refl;
    stays = ap (list_any (λ exdate. excludes clocks event.start exdate (instant clocks event.start))) exdates;
  }

-- Tests.
three-true : (a b c : Bool) → ((a && b) && c) ≡ true → (a ≡ true) × (b ≡ true) × (c ≡ true)
three-true a b c e = let outer = and_parts (a && b) c e in let inner = and_parts a b outer.0 in (inner.0, inner.1, outer.1)

-- what is given is of the event that gives it
pub given-event : (clocks : Clocks) (event : Event) (recurrence : Option ℤ) (o : Entry) → IsGivenBy clocks event recurrence o → o.event ≡ event
given-event clocks event None o h = h.event
given-event clocks event (Some t) o h = h.0.event

-- An event that starts once gives what it gives at its DTSTART.

module _ (clocks : Clocks) (event : Event) (single : is_single event ≡ true) where
  abbrev first : Entry
  first = entry_first clocks event (overridden clocks event)

  -- a master has neither a rule nor RDATEs nor EXDATEs
  plain : event.recurrence ≡ None → (event.rule ≡ None) × (event.rdates ≡ []) × (event.exdates ≡ [])
  plain none =
      let bare = three-true (is_none event.rule) (length event.rdates == 0) (length event.exdates == 0)
      (sym (ap (λ (r : Option Time). is_some r || ((is_none event.rule && length event.rdates == 0) && length event.exdates == 0)) none) ∙ single) in
      (rule-none event.rule bare.0, none-of event.rdates bare.1, none-of event.exdates bare.2)

  first-given : IsGivenBy clocks event (overridden clocks event) first
  first-given = by event.recurrence refl
    where
      by : (r : Option Time) → event.recurrence ≡ r →
          IsGivenBy clocks event (option_map (instant clocks) r) (entry_first clocks event (option_map (instant clocks) r))
      by None none = let bare = plain none in record { event = refl; recurrence = refl; lasts = first-instance clocks event bare.0 bare.1 bare.2 }
      by (Some time) some = (record { event = refl; starts = refl; ends = refl }, refl)

  pub given-first : (o : Entry) → IsGivenBy clocks event (overridden clocks event) o → o ≡ first
  given-first o = by event.recurrence refl
    where
      by : (r : Option Time) → event.recurrence ≡ r → IsGivenBy clocks event (option_map (instant clocks) r) o →
          o ≡ entry_first clocks event (option_map (instant clocks) r)
      by None none of =
          let bare = plain none in
          let once = one-start clocks event o.start o.finish bare.0 bare.1 of.lasts in
          same-entry o (entry_first clocks event None) once.0 once.1 (of.recurrence ∙ once.0) of.event
      by (Some time) some of = same-entry o (entry_first clocks event (Some (instant clocks time))) of.0.starts of.0.ends of.1 of.0.event

-- Of the versions that count.
module _ (files : List FileSaid) (display : Clock) (w : Window) (after : Option Rank) (vs : List Version) (os : List Label)
    (chosen : AreChosen files display vs) (overrides : os ≡ filter is_override (map seen vs)) where
  abbrev clocks_by : Placed → Clocks
  clocks_by p = clocks_at files display p.file

  abbrev own : Placed → Entry
  own p = entry_first (clocks_by p) p.event (overridden (clocks_by p) p.event)

  -- what an event that counts gives of that
  abbrev given : Placed → Option Entry
  given p = single_at files display w os after (label_of files display p)

  given-by : (p : Placed) → IsChosen files display p → given p ≡ (if is_single p.event && is_to_come w os after (own p) then Some (own p) else None)
  given-by p c = ap (option_and_then (single_of (clocks_by p) w os after (overridden (clocks_by p) p.event))) (placed-event files p c.placed)

  given-is : (p : Placed) (o : Entry) → IsChosen files display p → given p ≡ Some o → (is_single p.event ≡ true) × (is_to_come w os after (own p) ≡ true)
      × (o ≡ own p)
  given-is p o c e =
      let k = cond_some (is_single p.event && is_to_come w os after (own p)) (own p) o (sym (given-by p c) ∙ e) in
      let both = and_parts (is_single p.event) (is_to_come w os after (own p)) k.0 in (both.0, both.1, sym k.1)

  -- the order of subjects is that of what is given
  subjects-keep : KeepsOrder given (by_subject files display) given_cmp (IsChosen files display)
  subjects-keep p q x y c d e f less =
      let a = given-is p x c e in
      let b = given-is q y d f in
      let one : subject_from x ≡ subject_of files display p = ap subject_from a.2
      ∙ given-subject (clocks_by p) p.event (own p) (first-given (clocks_by p) p.event a.0) in
      let other : subject_from y ≡ subject_of files display q = ap subject_from b.2
      ∙ given-subject (clocks_by q) q.event (own q) (first-given (clocks_by q) q.event b.0) in
      ap (λ c. ordering_then c (entry_start_cmp x y)) ((λ i. subject_cmp (one i) (other i)) ∙ less)

  kept-same : (o : Entry) → is_kept os o ≡ is_kept (map seen vs) o
  kept-same o = ap (λ b. is_some o.event.recurrence || not b) (ap (is_named (record { uid = o.event.uid; recurrence = Some o.recurrence })) overrides
      ∙ named-overrides o.event.uid o.recurrence (map seen vs))

  given-come : (p : Placed) (o : Entry) → IsChosen files display p → given p ≡ Some o → IsSingleToCome files display w after o
  given-come p o c e =
      let is = given-is p o c e in
      let parts = three-true (is_met w (own p)) (is_after after (own p)) (is_kept os (own p)) is.1 in
      let is_given : IsGiven files display w (own p) =
      record { by = p; chosen = c; is = (first-given (clocks_by p) p.event is.0, is_met-meets w (own p) parts.0) } in
      subst (IsSingleToCome files display w after) (sym is.2)
      (to-come files display w vs chosen after (own p) is_given (sym (kept-same (own p)) ∙ parts.2) parts.1, is.0)

  come-given : (o : Entry) → IsSingleToCome files display w after o → (p : Placed) × IsChosen files display p × (given p ≡ Some o)
  come-given o t =
      let listed = listed-given files display w vs chosen o (come-listed files display w after o t.0) in
      let p = listed.0.by in
      let event : o.event ≡ listed.0.by.event = given-event (clocks_by p) p.event (overridden (clocks_by p) p.event) o listed.0.is.0 in
      let single : is_single listed.0.by.event ≡ true = ap is_single (sym event) ∙ t.1 in
      let is = given-first (clocks_by p) p.event single o listed.0.is.0 in
      let comes : is_to_come w os after o ≡ true =
      (λ i. (meets-is_met w o listed.0.is.1 i && after-come files display w after o t.0 i) && (kept-same o ∙ listed.1) i) in
      let come = ap (is_to_come w os after) (sym is) ∙ comes in
      (p, listed.0.chosen, given-by p listed.0.chosen ∙ ((λ i. if single i && come i then Some (own p) else None) ∙ ap Some (sym is)))

  given-listing : IsListing given_cmp (IsSingleToCome files display w after) (filter_map given chosen.chosen)
  given-listing =
      listing-picked given (by_subject files display) given_cmp (IsChosen files display) subjects-keep
      (IsSingleToCome files display w after) chosen.chosen chosen.listing given-come come-given

-- The versions that count give the listing.
module _ (w : Window) (after : Option Rank) where
  pub singles-listing : {files : List FileSaid} {display : Clock} {vs : List Version} (os : List Version)
      {given sorted : List Single} → AreChosen files display vs → map seen os ≡ filter is_override (map seen vs)
      → map single_entry given ≡ filter_map (single_at files display w (map seen os) after) (map seen vs) → IsPermutation given sorted
      → Climbs (on single_entry entry_cmp) sorted → IsListing entry_cmp (IsSingleToCome files display w after) (map single_entry sorted)
  singles-listing {files = files} {display = display} {vs = vs} os {given = given} {sorted = sorted} chosen overrides are p climbs =
      let one = single_at files display w (map seen os) after in
      let picked : filter_map (λ p. single_at files display w (map seen os) after (label_of files display p)) chosen.chosen ≡ map single_entry given =
      sym (filter_map-map (label_of files display) one chosen.chosen) ∙ (ap (filter_map one) (sym chosen.are) ∙ sym are) in
      listing-sorted given_cmp given_total entry_cmp (IsSingleToCome files display w after) (λ x y a b e. tied-given files display w after x y a.0 b.0 e)
      (map single_entry given) (map single_entry sorted)
      (subst (IsListing given_cmp (IsSingleToCome files display w after)) picked (given-listing files display w after vs (map seen os) chosen overrides))
      (IsPermutation-map single_entry given sorted p) (map-climbs single_entry entry_cmp sorted climbs)

-- and all that meet the window have a list
pub singles-whole : (files : List FileSaid) (display : Clock) (w : Window) (vs : List Version) → AreChosen files display vs →
    (list : List Entry) × IsListing entry_cmp (IsSingleToCome files display w None) list
singles-whole files display w vs chosen =
    listing-ordered entry_cmp entry_total given_cmp given_total (IsSingleToCome files display w None)
    (λ x y a b e. tied-given files display w None x y a.0 b.0 e) _ (given-listing files display w None vs (filter is_override (map seen vs)) chosen refl)

-- What is to come is what the single events give and what each version gives whose event recurs.
module _ (files : List FileSaid) (display : Clock) (w : Window) (after : Option Rank) where
  abbrev InOne : Entry → List (List Entry) → Type 0
  InOne e lists = IsInOne entry_cmp entry_total e lists

  in-one : (e : Entry) (xs : List Entry) (lists : List (List Entry)) → IsIn xs lists → IsIn e xs → InOne e lists
  in-one e xs [] m n = absurd m
  in-one e xs (y ∷ ys) m n = ⊎_elim (λ s. inl (subst (IsIn e) s n)) (λ k. inr (in-one e xs ys k n)) m

  module _ (vs : List Version) (chosen : AreChosen files display vs) (singles : List Entry)
      (single : IsListing entry_cmp (IsSingleToCome files display w after) singles) (more : List (List Entry))
      (are : AreLists files display w after (map seen vs) more) where
    abbrev kept : Entry → Bool
    kept = is_kept (map seen vs)

    -- what the list of a master has is to come
    each-come : (lists : List (List Entry)) (e : Entry) → AllByRecursion (IsOneOf files display w after (map seen vs)) lists → InOne e lists →
        IsToCome files display w after e
    each-come [] e h m = absurd m
    each-come (x ∷ xs) e h m =
        ⊎_elim
        (λ n. let v = (h.0.listing.exact e).0 n in version-come chosen h.0.stands v.by w after e v.of v.meets v.later v.kept)
        (λ n. each-come xs e h.1 n) m

    come-kept : (e : Entry) → IsToCome files display w after e → kept e ≡ true
    come-kept e t = (listed-given files display w vs chosen e (come-listed files display w after e t)).1

    come-part : (e : Entry) → IsToCome files display w after e → InOne e (singles ∷ more)
    come-part e t =
        ⊎_elim
        (λ s. inl ((single.exact e).1 (t, s)))
        (λ s.
        let g = (listed-given files display w vs chosen e (come-listed files display w after e t)).0 in
        let event : e.event ≡ g.by.event =
        given-event (clocks_at files display g.by.file) g.by.event (overridden (clocks_at files display g.by.file) g.by.event) e g.is.0 in
        let there : IsIn (label_of files display g.by) (map seen vs) =
        rw chosen.are (map-in (label_of files display) g.by chosen.chosen ((chosen.listing.exact g.by).1 g.chosen)) in
        let own : is_single g.by.event ≡ false = rw event at s in
        let none = ap (option_map (instant (clocks_at files display g.by.file))) (recurring-master g.by.event own) in
        let recurs : Recurs files (label_of files display g.by) =
        record { event = g.by.event; stands = placed-event files g.by g.chosen.placed; recurs = own } in
        let has = are.every (label_of files display g.by) there recurs in
        let own = (has.listing.exact e).1 (record {
          by = recurs;
          of = rw none at g.is.0;
          meets = g.is.1;
          later = after-come files display w after e t;
          kept = kept-unreplaced files display vs chosen e (ap (λ (v : Event). v.recurrence) event ∙ recurring-master g.by.event own) (come-kept e t);
        }) in
        inr (⊎_elim (λ empty. absurd (subst (IsIn e) empty own)) (λ n. in-one e has.list more n own) has.stands))
        (cases_Bool (is_single e.event))

    -- what one of the lists has is to come
    in-come : (e : Entry) → InOne e (singles ∷ more) → IsToCome files display w after e
    in-come e m = ⊎_elim (λ n. ((single.exact e).0 n).0) (each-come more e are.each) m

    -- and of those with one key the first list has it
    come-first : (e : Entry) → IsToCome files display w after e → IsFromFirst entry_cmp e (singles ∷ more)
    come-first e t =
        one-from entry_cmp entry_total e (singles ∷ more) (λ x m tied. sym (one-key files display w after e x t (in-come x m) tied)) (come-part e t)

    -- the merge of what they give is the listing
    pub parts-listing : IsListing entry_cmp (IsToCome files display w after) (merged entry_cmp (singles ∷ more))
    parts-listing =
        let rise = all-as (IsOneOf files display w after (map seen vs)) (Rises entry_cmp) more (λ xs h. h.listing.rises) are.each in
        relisted (merged-is entry_cmp entry_total (singles ∷ more) (single.rises, rise))
        (λ e m. in-come e (from-one entry_cmp entry_total e (singles ∷ more) m)) come-first

  -- so where they were pushed behind the single events, if any of these is to come
  pub pushed-listing : {vs : List Version} (s : single.Singles) {first : List Part} {lists : List (List Entry)} → IsFirstPart s first
      → AreChosen files display vs → IsListing entry_cmp (IsSingleToCome files display w after) (part_coming (part.Singles s))
      → HasLists files display w after (map seen vs) (map part_coming first) lists
      → IsListing entry_cmp (IsToCome files display w after) (merged entry_cmp lists)
  pushed-listing {vs = vs} s f chosen once h =
      ⊎_elim (λ e. let all = rw e at h in rw all.behind (parts-listing vs chosen (part_coming (part.Singles s)) once all.more all.are))
      (λ e.
      let all = rw e.0 at h in
      rw all.behind
      (subst (λ xs. IsListing entry_cmp (IsToCome files display w after) (merged entry_cmp (xs ∷ all.more))) e.1
      (parts-listing vs chosen (part_coming (part.Singles s)) once all.more all.are))) f

  -- and what comes is what of the whole listing stands after the key
  pub behind-key : {come : List Entry} → (list : List Entry) × IsListing entry_cmp (IsListed files display w) list
      → IsListing entry_cmp (IsToCome files display w after) come
      → (list : List Entry) × IsListing entry_cmp (IsListed files display w) list × (come ≡ after_key after list)
  behind-key {come = come} whole h = (whole.0, whole.1, listing-after_key files display w after whole.0 come whole.1 h)
