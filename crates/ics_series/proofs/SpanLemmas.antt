-- Which versions cannot meet a window, known from their spans, and near which days nothing is.
use Rattle.std.proofs.Common.{◌≡◌, ℕ, ℤ, pos, ◌+ℤ◌, ◌-ℤ◌, ◌<ℤ◌, ◌≤ℤ◌, List, [], ◌∷◌, map, inl, inr, ⊎_elim, Option, Some, None, Bool, true, false}
use Rattle.std.proofs.Common.{refl, sym}
use Rattle.std.proofs.Common.{◌∙◌, ap, ◌+◌, ◌<◌, ◌++◌, length, drop, get_or, add-one, drop-cons}
use Rattle.std.proofs.Common.{subst, arith, int_lt, slice_get, option_map, option_and_then, if◌then◌else◌, IsTrue, Ordering}
use Rattle.std.specs.Int.{int_max, int_min}
use Rattle.std.specs.Option.{unwrap_or}
use Rattle.std.specs.List.{AllByRecursion, filter_map}
use Rattle.std.proofs.lemmas.Bool.{cases_Bool, cond_both}
use Rattle.std.proofs.lemmas.Int.{int_max_is, int_min_is, ints}
use Rattle.std.proofs.lemmas.List.{length-map}
use Rattle.std.proofs.lemmas.Option.{slice_get-get_or, slice_get-map}
use Rattle.ics_file.specs.File.{FileSaid}
use Rattle.ics_event.specs.declared.event.Event.{Event}
use Rattle.ics_fields.specs.Locals.{day_of_local, midnight}
use Rattle.ics_zone.proofs.Cases.{less_or_not_z, true_int_le, true_int_lt}
use Rattle.ics_zone.specs.declared.bounds.Bounds.{Bounds}
use Rattle.ics_starts.specs.Clocks.{instant}
use Rattle.ics_days.specs.NearDays.{first_near, last_near, HasOffsets, IsNearDay}
use Rattle.ics_days.specs.declared.span.Span.{Span}
use Rattle.ics_series.specs.declared.version.Version.{Version}
use Rattle.ics_listing.specs.declared.window.Window.{Window}
use Rattle.ics_series.specs.Chosen.{overridden, subject_of, IsChosen}
use Rattle.ics_listing.specs.FileClocks.{Clock, Clocks}
use Rattle.ics_listing.specs.Entry.{Entry, Rank}
use Rattle.ics_series.specs.Laws.{HasVersion}
use Rattle.ics_listing.specs.Listing.{IsIn, IsListing}
use Rattle.ics_series.specs.Inner.Masters.{AreFrom, IsOfVersion}
use Rattle.ics_listing.specs.WindowMeeting.{is_met}
use Rattle.ics_series.specs.Meets.{IsListed}
use Rattle.ics_starts.specs.Instances.{IsOf}
use Rattle.ics_starts.specs.MeetsWindow.{Meets}
use Rattle.ics_listing.specs.Merged.{merged}
use Rattle.ics_series.specs.PlacedEvents.{Placed, IsPlaced, clocks_at}
use Rattle.ics_listing.specs.Rising.{Rises}
use Rattle.ics_starts.specs.SingleEvents.{begun_first, entry_first, is_single}
use Rattle.ics_series.specs.Singles.{single_at, single_of}
use Rattle.ics_series.specs.Inner.SpanLaws.{AreThoseChosen}
use Rattle.ics_days.specs.Spans.{always, can_meet, first_at, first_in, is_out, is_out_of}
use Rattle.ics_series.specs.Inner.Spans.{span_at, span_by, span_of, span_once, IsKeptFrom}
use Rattle.ics_series.specs.Inner.Spans.{floor_of, AreSpans, AreSpansAfter, AreSpansBehind, IsLater, IsRest, IsSpanOf, IsStartedBy, NoneMeets}
use Rattle.ics_listing.specs.After.{is_after}
use Rattle.ics_listing.specs.WindowBounds.{occurrence_first}
use Rattle.ics_series.specs.Spots.{event_at}
use Rattle.ics_series.specs.Versions.{by_subject, label_of, placed_in, seen, AreChosen, Label}
use Rattle.ics_series.proofs.AheadLemmas.{near-under, shown-first, shown-last, NoneBetween}
use Rattle.ics_listing.proofs.Cases.{not-true}
use Rattle.ics_listing.proofs.ListingLemmas.{contains-in, get-in, one-listing}
use Rattle.ics_listing.proofs.NearLemmas.{day-under}
use Rattle.ics_days.proofs.NearDayLemmas.{bounds-offsets, day-within, later-on, near-ordered}
use Rattle.ics_starts.proofs.MeetsLemmas.{is_met-meets, meets-is_met}
use Rattle.ics_series.proofs.RecurringLemmas.{recurring-master}
use Rattle.ics_series.proofs.SinglesLemmas.{given-first}
use Rattle.ics_series.proofs.ToComeLemmas.{kept-unreplaced, listed-given}
use Rattle.ics_listing.proofs.UnionLemmas.{merged-listing, IsInOne}
use Rattle.ics_series.proofs.VersionLemmas.{exact-subject, group-total, in-placed, map-in, one-chosen, one-version, placed-event, placed-in}

-- The events that count have a list: of each event of the folder its version that counts.
module _ (files : List FileSaid) (display : Clock) where
  abbrev group : Placed → Placed → Ordering
  group = by_subject files display

  abbrev AllPlaced : List Placed → Type 0
  AllPlaced ps = (p : Placed) → IsIn p ps → IsPlaced files p

  of-first : (p : Placed) (ps : List Placed) → AllPlaced (p ∷ ps) → HasVersion files display p
  of-first p ps h = one-version files display p (h p (inl refl))

  of-rest : (p : Placed) (ps : List Placed) → AllPlaced (p ∷ ps) → AllPlaced ps
  of-rest p ps h q m = h q (inr m)

  abbrev each : (ps : List Placed) → AllPlaced ps → List (List Placed)
  each [] h = []
  each (p ∷ ps) h = ((of-first p ps h).version ∷ []) ∷ each ps (of-rest p ps h)

  each-rises : (ps : List Placed) (h : AllPlaced ps) → AllByRecursion (Rises group) (each ps h)
  each-rises [] h = tt
  each-rises (p ∷ ps) h = ((tt, tt), each-rises ps (of-rest p ps h))

  abbrev InOne : Placed → List (List Placed) → Type 0
  InOne e lists = IsInOne group (group-total files display) e lists

  each-chosen : (ps : List Placed) (h : AllPlaced ps) (e : Placed) → InOne e (each ps h) → IsChosen files display e
  each-chosen [] h e m = absurd m
  each-chosen (p ∷ ps) h e m =
      ⊎_elim (λ n. ⊎_elim (λ same. subst (IsChosen files display) (sym same) (of-first p ps h).counts) (λ k. absurd k) n)
      (λ n. each-chosen ps (of-rest p ps h) e n) m

  chosen-each : (ps : List Placed) (h : AllPlaced ps) (e : Placed) → IsChosen files display e → IsIn e ps → InOne e (each ps h)
  chosen-each [] h e c m = absurd m
  chosen-each (p ∷ ps) h e c m =
      ⊎_elim (λ same. inl (inl ((of-first p ps h).one e c (ap (subject_of files display) same))))
      (λ n. inr (chosen-each ps (of-rest p ps h) e c n)) m

  chosen-there : (chosen : List Placed) × IsListing group (IsChosen files display) chosen
  chosen-there =
      let all = placed_in 0 files in
      let placed : AllPlaced (placed_in 0 files) = λ p m. in-placed files p m in (
        merged group (each all placed),
        merged-listing group (group-total files display) (IsChosen files display) (each all placed) (each-rises all placed) (each-chosen all placed)
            (λ e c. chosen-each all placed e c (placed-in files e c.placed))
            (λ x y p q e. one-chosen p q (exact-subject (subject_of files display x) (subject_of files display y) e)),
      )

  -- so that what is known of whatever list there is, is known of the versions
  pub those-chosen : (vs : List Version) → AreChosen files display vs → AreThoseChosen files display vs
  those-chosen vs h chosen l =
      h.are ∙ ap (map (label_of files display)) (one-listing group (group-total files display) (IsChosen files display) h.chosen chosen h.listing l)

  pub chosen-back : (vs : List Version) → AreThoseChosen files display vs → AreChosen files display vs
  chosen-back vs h = record { chosen = chosen-there.0; listing = chosen-there.1; are = h chosen-there.0 chosen-there.1 }

-- The span of a version is that of its event.
module _ (files : List FileSaid) (display : Clock) (w : Window) (l : Label) (event : Event) (stands : event_at files l.spot ≡ Some event) where
  pub span-recurring : is_single event ≡ false → always ≡ span_at files display w l
  span-recurring s = rw (stands, s) refl

  -- by what has begun
  abbrev pub span_from : Option Entry → Span
  span_from None = record { first = w.to; last = w.to }
  span_from (Some o) = record { first = o.start; last = o.finish }

  pub span-single : {clocks : Clocks} (begun : Option Entry) → is_single event ≡ true → clocks ≡ clocks_at files display l.spot.file
      → begun ≡ begun_first clocks w event None → span_from begun ≡ span_at files display w l
  span-single begun s same b =
      ap span_from (b ∙ ap (λ clocks. begun_first clocks w event None) same)
      ∙ (cond_both (int_lt (instant (clocks_at files display l.spot.file) event.start) w.to)
      (Some (entry_first (clocks_at files display l.spot.file) event None))
      None (λ o. span_from o ≡ span_once (clocks_at files display l.spot.file) w event) (λ e. rw e refl) (λ e. rw e refl)
      ∙ rw (stands, s) refl)

-- one version further on, which gives nothing
pub picked-skip : {A : Type 0} (g : Label → Option A) (vs : List Version) (k : ℕ) (d : Version) (front : List A) {total : List A} → k < length vs →
    g (seen (get_or vs k d)) ≡ None → front ++ filter_map g (map seen (drop k vs)) ≡ total → front ++ filter_map g (map seen (drop (k + 1) vs)) ≡ total
picked-skip g vs k d front l none whole = rw (add-one k) (rw (drop-cons vs k d l, none) at whole)

-- A version whose span cannot meet a window.
module _ (outer w : Window) (late : w.to ≤ℤ outer.to) where
  both-true : (s : Span) → s.first <ℤ w.to → w.from ≤ℤ s.last → can_meet s w ≡ true
  both-true s a b = rw (true_int_lt s.first w.to a, true_int_le w.from s.last b) refl

  always-met : can_meet always w ≡ true
  always-met = both-true always (omega (arith, ints, w.not_early, w.ordered)) (omega (arith, ints, w.ordered, w.not_late))

  once-met : (clocks : Clocks) (event : Event) (r : Option ℤ) → is_met w (entry_first clocks event r) ≡ true →
      can_meet (span_once clocks outer event) w ≡ true
  once-met clocks event r met = by (int_lt (instant clocks event.start) outer.to) refl
    where
      o : Entry
      o = entry_first clocks event r

      by : (b : Bool) → int_lt (instant clocks event.start) outer.to ≡ b →
          can_meet (if b then record { first = o.start; last = o.finish } else record { first = outer.to; last = outer.to }) w ≡ true
      by true e =
          let m = is_met-meets w o met in
          both-true (record { first = o.start; last = o.finish }) m.begun
          (⊎_elim (λ l. omega (arith, ints, l)) (λ l. omega (arith, ints, l.0, l.1)) m.lasting)
      by false e =
          let m = (is_met-meets w o met).begun in
          let no : false ≡ true = sym e ∙ true_int_lt o.start outer.to (omega (arith, ints, m, late)) in absurd cc

  module _ (clocks : Clocks) (event : Event) (out : can_meet (span_by clocks outer event) w ≡ false) where
    out-single : is_single event ≡ true
    out-single =
        ⊎_elim (λ e. e)
        (λ e. let no : true ≡ false = sym always-met ∙ (ap (λ b. can_meet (if b then span_once clocks outer event else always) w) (sym e) ∙ out) in
        absurd cc) (cases_Bool (is_single event))

    out-met : (r : Option ℤ) → is_met w (entry_first clocks event r) ≡ false
    out-met r =
        ⊎_elim (λ e. let no : true ≡ false = sym (once-met clocks event r e)
        ∙ (ap (λ b. can_meet (if b then span_once clocks outer event else always) w) (sym out-single) ∙ out) in absurd cc)
        (λ e. e) (cases_Bool (is_met w (entry_first clocks event r)))

    -- an event whose span cannot meet the window has nothing there
    none-meets : (IsAsked : Entry → Type 0) → NoneMeets clocks event w IsAsked
    none-meets IsAsked = record { once = λ s r. out-met r; each = λ r. let no : true ≡ false = sym out-single ∙ r in absurd cc }

-- a span as it was found is that of its event, for windows that do not end later
span-of-event : (outer w : Window) → w.to ≤ℤ outer.to → (clocks : Clocks) (event : Event) (IsAsked : Entry → Type 0)
    → IsSpanOf clocks event w IsAsked (span_by clocks outer event)
span-of-event outer w late clocks event IsAsked = record {
  none = λ out. none-meets outer w late clocks event out IsAsked;
  first = λ recurs o of meets started low.
      subst (λ b. (if b then span_once clocks outer event else always).first ≤ℤ o.start) (sym recurs) (omega (arith, ints, low));
}

-- so such spans are those of the versions
pub are-spans : (files : List FileSaid) (display : Clock) (outer w : Window) → w.to ≤ℤ outer.to → (floor : Option ℤ) (labels : List Label) {spans : List Span}
    → spans ≡ map (span_at files display outer) labels → AreSpans files display w floor labels spans
are-spans files display outer w late floor labels {spans = spans} is k s l event at there stands =
    let here : Some s ≡ Some (span_at files display outer l) =
    sym at ∙ (ap (λ xs. slice_get xs k) is
    ∙ (slice_get-map (span_at files display outer) labels k ∙ ap (option_map (span_at files display outer)) there)) in
    let clocks = clocks_at files display l.spot.file in
    let same : s ≡ span_by clocks outer event = ap (λ o. unwrap_or o s) here ∙ ap (span_of clocks outer) stands in
    subst (IsSpanOf clocks event w (IsKeptFrom files display floor)) (sym same)
    (span-of-event outer w late clocks event (IsKeptFrom files display floor))

-- where there are no spans all is looked at
pub no-spans : (files : List FileSaid) (display : Clock) (w : Window) (floor : Option ℤ) (labels : List Label) {spans : List Span} → spans ≡ []
    → AreSpans files display w floor labels spans
no-spans files display w floor labels e k s l event at = let f : None ≡ Some s = ap (λ xs. slice_get xs k) (sym e) ∙ at in absurd cc

-- What the span at a place tells of the version there.
module _ (files : List FileSaid) (display : Clock) (w : Window) {floor : Option ℤ} (labels : List Label) (spans : List Span)
    (are : AreSpans files display w floor labels spans)
    (i : ℕ) {l : Label} (there : slice_get labels i ≡ Some l) (out : is_out spans i w ≡ true) where
  out-at : (event : Event) → event_at files l.spot ≡ Some event
      → NoneMeets (clocks_at files display l.spot.file) event w (IsKeptFrom files display floor)
  out-at event stands = by (slice_get spans i) refl
    where
      by : (o : Option Span) → slice_get spans i ≡ o → NoneMeets (clocks_at files display l.spot.file) event w (IsKeptFrom files display floor)
      by None e = let no : false ≡ true = ap (λ o. is_out_of o w) (sym e) ∙ out in absurd cc
      by (Some s) e = (are i s l event e there stands).none (not-true (can_meet s w) (ap (λ o. is_out_of o w) (sym e) ∙ out))

  -- it gives nothing there
  pub out-none : (os : List Label) (after : Option Rank) → single_at files display w os after l ≡ None
  out-none os after = by (event_at files l.spot) refl
    where
      by : (o : Option Event) → event_at files l.spot ≡ o → option_and_then (single_of (clocks_at files display l.spot.file) w os after l.subject.recurrence) o
          ≡ None
      by None e = refl
      by (Some event) e = one (is_single event) refl
        where
          first : Entry
          first = entry_first (clocks_at files display l.spot.file) event l.subject.recurrence

          one : (b : Bool) → is_single event ≡ b → single_of (clocks_at files display l.spot.file) w os after l.subject.recurrence event ≡ None
          one true s = rw (s, (out-at event e).once s l.subject.recurrence) refl
          one false s = rw s refl

  -- nor has its event an occurrence there, where it recurs
  pub out-version : (after : Option Rank) → ((o : Entry) → is_after after o ≡ true → IsStartedBy floor o) → (o : Entry)
      → IsOfVersion files display w after l o → ⊥
  out-version after above o v = (out-at v.by.event v.by.stands).each v.by.recurs o v.of v.meets (record { started = above o v.later; kept = v.kept })

-- Where no span can meet a window nothing does.
module _ (files : List FileSaid) (display : Clock) (vs : List Version) (chosen : AreChosen files display vs) (spans : List Span)
    (size : length spans ≡ length vs) where
  -- each version has a span
  span-there : (l : Label) → IsIn l (map seen vs) → (k : ℕ) × (s : Span) × (slice_get spans k ≡ Some s) × (slice_get (map seen vs) k ≡ Some l)
  span-there l m =
      let c = contains-in l (map seen vs) m in
      let within : c.0 < length spans = omega (arith, c.1, size, length-map vs seen) in (
        c.0,
        get_or spans c.0 always,
        slice_get-get_or spans c.0 always within,
        slice_get-get_or (map seen vs) c.0 l c.1 ∙ ap Some c.2,
      )

  none-of : {floor : Option ℤ} (n : Window) → AreSpans files display n floor (map seen vs) spans
      → ((s : Span) → IsIn s spans → can_meet s n ≡ false) → (l : Label) (event : Event)
      → IsIn l (map seen vs) → event_at files l.spot ≡ Some event → NoneMeets (clocks_at files display l.spot.file) event n (IsKeptFrom files display floor)
  none-of n are none l event m stands =
      let k = span-there l m in (are k.0 k.1 l event k.2 k.3 stands).none (none k.1 (get-in k.1 spans k.0 k.2))

  pub none-out : {floor : Option ℤ} (n : Window) → AreSpans files display n floor (map seen vs) spans
      → ((s : Span) → IsIn s spans → can_meet s n ≡ false) → (o : Entry)
      → IsListed files display n o → IsStartedBy floor o → ⊥
  none-out n are none o listed started =
      let given = listed-given files display n vs chosen o listed in
      let g = given.0 in
      let label = label_of files display g.by in
      let there : IsIn label (map seen vs) = rw chosen.are (map-in (label_of files display) g.by chosen.chosen ((chosen.listing.exact g.by).1 g.chosen)) in
      let out = none-of n are none label g.by.event there (placed-event files g.by g.chosen.placed) in
      let clocks = clocks_at files display g.by.file in
      ⊎_elim
      (λ single.
      let first = given-first clocks g.by.event single o g.is.0 in
      let no : true ≡ false = sym (meets-is_met n o g.is.1) ∙ (ap (is_met n) first ∙ out.once single (overridden clocks g.by.event)) in absurd cc)
      (λ recurs.
      let own = ap (option_map (instant clocks)) (recurring-master g.by.event recurs) in
      let of : IsOf clocks g.by.event o = rw own at g.is.0 in
      let none = ap (λ (e : Event). e.recurrence) of.event ∙ recurring-master g.by.event recurs in
      out.each recurs o of g.is.1 (record { started = started; kept = kept-unreplaced files display vs chosen o none given.1 }))
      (cases_Bool (is_single g.by.event))

-- What the span at a place tells of when an event that recurs is.
module _ (files : List FileSaid) (display : Clock) (w : Window) {floor : Option ℤ} (labels : List Label) (spans : List Span)
    (are : AreSpans files display w floor labels spans) (k : ℕ) {l : Label} (there : slice_get labels k ≡ Some l) (event : Event)
    (stands : event_at files l.spot ≡ Some event) (recurs : is_single event ≡ false) where
  pub from-first : (o : Entry) → IsOf (clocks_at files display l.spot.file) event o → Meets w o → IsKeptFrom files display floor o
      → occurrence_first ≤ℤ o.start → first_at spans k ≤ℤ o.start
  from-first o of meets started low = by (slice_get spans k) refl
    where
      by : (s : Option Span) → slice_get spans k ≡ s → first_in s ≤ℤ o.start
      by None e = omega (arith, ints, low)
      by (Some s) e = (are k s l event e there stands).first recurs o of meets started low

-- so of what is to come
pub come-first : (files : List FileSaid) (display : Clock) (w : Window) {floor : Option ℤ} (labels : List Label) (spans : List Span)
    → AreSpans files display w floor labels spans → (k : ℕ) {l : Label} → slice_get labels k ≡ Some l → (after : Option Rank)
    → ((o : Entry) → is_after after o ≡ true → IsStartedBy floor o) → AreFrom files display w after l (first_at spans k)
come-first files display w labels spans are k there after above o v low =
    from-first files display w labels spans are k there v.by.event v.by.stands v.by.recurs o v.of v.meets
    (record { started = above o v.later; kept = v.kept }) low

-- what begins at the floor or later, and with the span or later, does so from the instant on with which a series begins
pub low-start : (since first : ℤ) (floor : Option ℤ) → since ≤ℤ int_max (unwrap_or floor always.first) first → (o : Entry) → IsStartedBy floor o
    → first ≤ℤ o.start → occurrence_first ≤ℤ o.start → since ≤ℤ o.start
low-start since first None low o started begun early = omega (arith, ints, low, begun, early, int_max_is always.first first)
low-start since first (Some floor) low o started begun early = omega (arith, ints, low, begun, started, int_max_is floor first)

-- what meets a later window and begins before the window's end meets the window
pub meets-before : (w n : Window) → IsLater w n → (o : Entry) → Meets n o → o.start <ℤ w.to → Meets w o
meets-before w n later o m begun = record {
  begun = begun;
  lasting = ⊎_elim (λ a. inl (omega (arith, ints, a, later.from))) (λ b. inr (b.0, omega (arith, ints, b.1, later.from))) m.lasting;
  started = λ t. let from = m.started (subst IsTrue later.same t) in omega (arith, ints, from, later.from);
}

-- The span of a master from a window's end on, where no occurrence that meets another window begins before that end and before the span.
module _ (clocks : Clocks) (event : Event) (recurs : is_single event ≡ false) (w n : Window) (IsAsked : Entry → Type 0) {since : ℤ} {s : Span}
    (rest : IsRest clocks event w since s)
    (from : (o : Entry) → IsOf clocks event o → Meets n o → IsAsked o → occurrence_first ≤ℤ o.start → since ≤ℤ o.start)
    (early : (o : Entry) → IsOf clocks event o → Meets n o → IsAsked o → o.start <ℤ w.to → s.first ≤ℤ o.start) where
  -- so none does before the span
  late : (o : Entry) → IsOf clocks event o → Meets n o → IsAsked o → s.first ≤ℤ o.start
  late o of meets asked = elim (less_or_not_z o.start w.to) [
    | inl begun ↦ early o of meets asked begun
    | inr end ↦ rest.first o of end (from o of meets asked (omega (arith, ints, w.not_early, w.ordered, end)))
  ]

  pub rest-span : IsSpanOf clocks event n IsAsked s
  rest-span = record {
    none = λ out. record {
      once = λ single. let no : true ≡ false = sym single ∙ recurs in absurd cc;
      each = λ recurs o of meets asked.
          let first = late o of meets asked in
          let start = meets.begun in
          let most : n.to ≤ℤ s.first = elim (less_or_not_z s.first n.to) [
            | inl less ↦ absurd (
                let yes = both-true n n (omega (arith, ints)) s less (omega (arith, ints, rest.last, n.ordered, n.not_late)) in
                let no : true ≡ false = sym yes ∙ out in cc)
            | inr most ↦ most
          ] in
          omega (arith, ints, first, start, most);
    };
    first = λ recurs o of meets asked enough. late o of meets asked;
  }

-- The windows near days.
pub near-later : {clock : Clock} {w m n : Window} {b : Bounds} {x y : ℤ} → IsNearDay clock w b x m → IsNearDay clock w b y n → x ≤ℤ y → IsLater m n
near-later {w = w} {b = b} {x = x} {y = y} h k l = record {
  from = omega (arith, ints, h.from, k.from, l, int_max_is w.from (midnight x -ℤ b.most), int_max_is w.from (midnight y -ℤ b.most));
  same = h.all ∙ sym k.all;
}

-- What is known of the spans for each day after one.
module _ (files : List FileSaid) (display : Clock) (b : Bounds) (w : Window) {day x : ℤ} (labels : List Label) (spans : List Span)
    (are : AreSpansAfter files display b w day labels spans) (later : day <ℤ x) where
  -- it is known for each day after a later one
  pub after-later : AreSpansAfter files display b w x labels spans
  after-later y n on near = are y n (omega (arith, ints, later, on)) near

  -- and near that day, for what comes after a key that begins at the floor or later
  pub near-spans : {n : Window} → IsNearDay display w b x n → {after : Option Rank}
      → ((o : Entry) → is_after after o ≡ true → IsStartedBy (floor_of w) o) → AreSpansBehind files display n after labels spans
  near-spans {n = n} near started = record { floor = floor_of w; started = started; are = are x n later near }

-- what a window holds near a day
pub near-window : (clock : Clock) (w : Window) (b : Bounds) → HasOffsets clock w b → (day : ℤ) → first_near w b ≤ℤ day → day ≤ℤ last_near w b
    → (n : Window) × IsNearDay clock w b day n
near-window clock w b bounded day low high = (
  record {
    from = int_max w.from (midnight day -ℤ b.most);
    to = int_min w.to (midnight (day +ℤ pos 1) -ℤ b.least);
    notstarted = false;
    ordered = near-ordered w b (bounds-offsets clock w b bounded) day low high;
    not_early = omega (arith, ints, int_max_is, w.not_early);
    not_late = omega (arith, ints, int_min_is, w.not_late);
  },
  record {
    from = refl;
    to = omega (arith, ints);
    later = λ t past within.
        let ordered = near-ordered w b (bounds-offsets clock w b bounded) day low high in
        later-on clock w b bounded day refl (λ t from to. absurd (omega (arith, ints, from, to))) t
        (omega (arith, ints, past, ordered, int_max_is w.from (midnight day -ℤ b.most))) past within;
    all = refl;
  },
)

-- The day from which on something can be: near the days before it a window begins no earlier than the day after this one, and ends by the instant by
-- which nothing has begun.
module _ (w : Window) (b : Bounds) {day from first least reached next : ℤ} (low : first_near w b ≤ℤ day) (most : next ≤ℤ last_near w b)
    (begin : from ≡ midnight (day +ℤ pos 1) -ℤ b.most) (is : first ≡ int_max least w.from)
    (at : reached ≡ day_of_local (first +ℤ b.least)) (day-is : next ≤ℤ int_max reached (day +ℤ pos 1)) where
  pub near-between : (x : ℤ) → day <ℤ x → x <ℤ next → (clock : Clock) (n : Window) → IsNearDay clock w b x n → (from ≤ℤ n.from) × (n.to ≤ℤ least)
  near-between x later early clock n near =
      let under = day-under (first +ℤ b.least) (day_of_local (first +ℤ b.least)) refl in
      let within = day-within w b x (omega (arith, ints, low, later)) (omega (arith, ints, most, early)) in
      let before : x <ℤ reached = omega (arith, ints, later, early, day-is, int_max_is reached (day +ℤ pos 1)) in
      let greatest = int_max_is least w.from in (
        omega (arith, ints, begin, near.from, int_max_is w.from (midnight x -ℤ b.most), later),
        omega (arith, ints, near.to, int_min_is w.to (midnight (x +ℤ pos 1) -ℤ b.least), under.0, before, at, is, greatest, within.0),
      )

-- What meets a window begins at the floor of that or later, if there is one.
meets-floor : (w : Window) (o : Entry) → Meets w o → IsStartedBy (floor_of w) o
meets-floor w o met = by w.notstarted refl
  where
    by : (b : Bool) → w.notstarted ≡ b → IsStartedBy (if b then Some (w.from -ℤ pos 1) else None) o
    by true t = let from = met.started t in omega (arith, ints, from)
    by false f = tt

-- So nothing is shown under them.
module _ (files : List FileSaid) (display : Clock) (w : Window) (b : Bounds) (bounded : HasOffsets display w b) (vs : List Version)
    (chosen : AreChosen files display vs) (spans : List Span) (size : length spans ≡ length vs) where
  pub none-between : {day next : ℤ} → AreSpansAfter files display b w day (map seen vs) spans
      → ((x : ℤ) → day <ℤ x → x <ℤ next → (s : Span) → IsIn s spans → (clock : Clock) (n : Window) → IsNearDay clock w b x n → can_meet s n ≡ false)
      → NoneBetween files display w b bounded day next
  none-between {day = day} {next = next} are none p shown later =
      ⊎_elim
      (λ early.
      let n = near-window display w b bounded p.day (shown-first files display w b bounded p shown)
      (shown-last files display w b bounded p shown) in
      absurd (none-out files display vs chosen spans size n.0 (are p.day n.0 later n.1) (λ s m. none p.day later early s m display n.0 n.1) p.entry
      (shown.listed.0, near-under files display w b bounded n.0 n.1 p (shown, refl)) (meets-floor w p.entry shown.listed.1)))
      (λ l. l) (less_or_not_z p.day next)
