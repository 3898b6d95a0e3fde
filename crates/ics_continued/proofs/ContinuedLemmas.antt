-- What holds of what lasts and of what is still to come, where one is given, and where a search begins again.
use Rattle.std.proofs.Common.{◌≡◌, ◌∙◌, ◌⊎◌, ◌<ℤ◌, ◌≤ℤ◌, ◌+ℤ◌, pos, ℕ, ℤ, Bool, true, false, ◌&&◌, List, [], ◌∷◌, ◌++◌, drop, map, filter, inl, inr, ⊎_elim}
use Rattle.std.proofs.Common.{if◌then◌else◌, drop-cons, int_le, int_lt, slice_get, suc, Some, None, refl, sym, ap, subst, arith, IsTrue, Less}
use mathlib.Core.Bool.{beq}
use Rattle.std.proofs.Math.Logic.{∥∥₁_elim, ∥∥₁_map, ∥∥₁_prop}
use Rattle.std.proofs.Props.{props}
use Rattle.std.proofs.lemmas.Bool.{and_parts}
use Rattle.std.proofs.lemmas.Int.{int_max_is, ints}
use Rattle.std.proofs.lemmas.List.{append_assoc, map-append}
use Rattle.std.proofs.lemmas.Option.{get_or_from_slice_get, slice_get_within}
use Rattle.std.specs.Int.{int_max}
use Rattle.std.specs.Ordering.{on}
use Rattle.ics_continued.specs.Continued.{continued_left}
use Rattle.ics_continued.specs.Ends.{end_of}
use Rattle.ics_continued.specs.Inner.Kept.{recurring_of, AreBefore, AreKept, IsAsked, IsDone, IsNoted, rises-behind}
use Rattle.ics_continued.specs.Lasting.{is_asked, is_carried, known_left, lasting_entries, lasting_entry}
use Rattle.ics_continued.specs.declared.continued.Continued.{Continued}
use Rattle.ics_continued.specs.declared.lasting.Lasting.{Lasting}
use Rattle.ics_event.specs.declared.event.Event.{Event}
use Rattle.ics_listing.specs.Entry.{entry_cmp, Entry}
use Rattle.ics_listing.specs.FeedSources.{Recurring, Source}
use Rattle.ics_listing.specs.FeedSources.Source.{Of, Once}
use Rattle.ics_listing.specs.Listing.{IsIn, IsListing}
use Rattle.ics_listing.specs.Rising.{Rises}
use Rattle.ics_listing.specs.Inner.MergedLaws.{rises-filter}
use Rattle.ics_listing.specs.WindowMeeting.{is_met}
use Rattle.ics_listing.specs.declared.window.Window.{Window}
use Rattle.ics_listing.proofs.Cases.{some-same}
use Rattle.ics_listing.proofs.ListingLemmas.{filter-in, in-append, in-append_left, in-append_right, in-filter, rises-on}
use Rattle.ics_starts.specs.FileZones.{clocks_in}
use Rattle.ics_starts.specs.MeetsWindow.{Meets}
use Rattle.ics_starts.specs.SeriesFeed.{series_left, series_near, series_of, series_sources, source_of, IsSameSeries}
use Rattle.ics_starts.specs.SeriesLaws.{event-set}
use Rattle.ics_starts.specs.SeriesStarts.{rule_asked, IsAskedNear, IsSeriesMet}
use Rattle.ics_starts.specs.declared.series.Series.{Series}
use Rattle.ics_starts.proofs.EntryLemmas.{same-entry}
use Rattle.ics_starts.proofs.MeetsLemmas.{is_met-meets, meets-is_met}
use Rattle.ics_starts.proofs.SameLemmas.{same-sources}
use Rattle.ics_zone.proofs.Cases.{int_le_true, int_lt_true, less_or_not_z, true_int_le, true_int_lt}
use Rattle.ics_continued.proofs.InstanceLemmas.{met-known}
use Rattle.ics_continued.proofs.RisingLemmas.{begins-before, first-begins, in-drop, in-map, in-prop, map-in, rises-both, rises-front, rises-without}

-- what is put behind what lasts
pub noted : (o : Entry) (by : ℤ) (l : Lasting) (old : List Lasting) (ok : Bool) {new : List Lasting} {told : Bool} → l.start ≡ o.start → l.finish ≡ o.finish
    → new ≡ (if ok then old ++ l ∷ [] else old) → told ≡ ok → IsNoted old new o by told
noted o by l old true start finish is same = inl (l, (start, finish), is)
noted o by l old false start finish is same = inr (is, λ told. let no : true ≡ false = sym told ∙ same in absurd cc)

-- What a series is of, from what its occurrences belong to.
abbrev first_source : Recurring → List Source → Recurring
first_source d [] = d
first_source d (Once ∷ sources) = d
first_source d (Of m ∷ sources) = m

pub same-source : (s : Series) (m : Recurring) → series_sources s ≡ Of m ∷ [] → recurring_of s ≡ m
same-source s m same = ap (first_source m) same

pub same-recurring : (old new : Series) → series_sources new ≡ series_sources old → recurring_of new ≡ recurring_of old
same-recurring old new same = ap (first_source (recurring_of old)) same

-- what is kept of the search of a series
pub record IsSound (known lasts : List Lasting) (since by gap : ℤ) (is_done : Bool) (m : Recurring) (coming : List Entry) : Type 0 where
  pub rising : Rises entry_cmp (lasting_entries m.event lasts ++ coming)
  pub kept : ∥ AreKept m since by gap (lasting_entries m.event lasts) coming ∥₁
  pub done : IsDone is_done coming
  pub before : AreBefore m.since known
  pub later : since ≤ℤ m.since
  pub begun : m.since ≤ℤ int_max since m.window.to

pub sound : (c : Continued) → IsSound c.known.items c.lasts.items c.since c.by c.gap c.is_done (recurring_of c.series) (continued_left c)
sound c = record { rising = c.rising; kept = c.kept; done = c.done; before = c.before; later = c.later; begun = c.begun }

-- the places in a list
pub drop-at : {A : Type 0} (xs : List A) (n : ℕ) {x : A} → slice_get xs n ≡ Some x → drop n xs ≡ x ∷ drop (suc n) xs
drop-at xs n {x = x} e = drop-cons xs n x (slice_get_within xs n x e) ∙ ap (λ y. y ∷ drop (suc n) xs) (get_or_from_slice_get xs n x x e)

module _ {known lasts : List Lasting} {since by gap : ℤ} {done : Bool} where
  -- it is so of the same
  pub moved : {m n : Recurring} {old new : List Entry} → n ≡ m → new ≡ old → IsSound known lasts since by gap done m old →
      IsSound known lasts since by gap done n new
  moved {m = m} {new = new} same left h =
      subst (λ x. IsSound known lasts since by gap done x new) (sym same) (subst (IsSound known lasts since by gap done m) (sym left) h)

  -- all was given
  pub ended : {m : Recurring} {coming : List Entry} → coming ≡ [] → IsSound known lasts since by gap done m coming
      → IsSound known lasts since by gap true m coming
  ended none h = record {
    rising = h.rising;
    kept = h.kept;
    done = λ d o m. subst (IsIn o) none m;
    before = h.before;
    later = h.later;
    begun = h.begun;
  }

  -- one is given
  module _ {m : Recurring} (o : Entry) (rest : List Entry) (h : IsSound known lasts since by gap done m (o ∷ rest)) where
    abbrev last : List Entry
    last = lasting_entries m.event lasts

    asked : IsAsked m since o
    asked = met-known m.clocks m.event m.window since m.replaced o (∥∥₁_map h.kept (λ k. k.left o (inl refl)))

    is-lasting : (l : Lasting) → l.start ≡ o.start → l.finish ≡ o.finish → lasting_entry m.event l ≡ o
    is-lasting l start finish =
        same-entry (lasting_entry m.event l) o start finish (start ∙ sym asked.0.0.recurrence) (sym asked.0.0.event)

    module _ {next : ℤ} (less : next ≤ℤ gap) where
      pushed : (l : Lasting) → lasting_entry m.event l ≡ o → IsSound known (lasts ++ l ∷ []) since by next done m rest
      pushed l is =
          let added : lasting_entries m.event (lasts ++ l ∷ []) ≡ last ++ o ∷ [] =
          map-append (lasting_entry m.event) lasts (l ∷ []) ∙ ap (λ e. last ++ e ∷ []) is in
          record {
            rising = subst (Rises entry_cmp) (sym (ap (λ xs. xs ++ rest) added ∙ append_assoc last (o ∷ []) rest)) h.rising;
            kept = subst (λ xs. ∥ AreKept m since by next xs rest ∥₁) (sym added) (∥∥₁_map h.kept (λ k. record {
              given = λ x n. ⊎_elim (k.given x) (λ s. ⊎_elim (λ e. k.left x (inl e)) (λ f. absurd f) s) (in-append x last (o ∷ []) n);
              left = λ x n. k.left x (inr n);
              all = λ x met late early. ⊎_elim (λ n. inl (in-append_left x last (o ∷ []) n))
                  (λ n. ⊎_elim (λ e. inl (in-append_right x last (o ∷ []) (inl e))) inr n) (k.all x met late (omega (arith, ints, less, early)));
            }));
            done = λ d x n. h.done d x (inr n);
            before = h.before;
            later = h.later;
            begun = h.begun;
          }

      dropped : (end_of o ≤ℤ by) ⊎ (next ≤ℤ o.start) → IsSound known lasts since by next done m rest
      dropped over = record {
        rising = rises-without entry_cmp o last rest h.rising;
        kept = ∥∥₁_map h.kept (λ k. record {
          given = k.given;
          left = λ x n. k.left x (inr n);
          all = λ x met late early. ⊎_elim inl
              (λ n. ⊎_elim
              (λ e.
              let after = subst (λ y. by <ℤ end_of y) e late in
              let start = ap (λ (y : Entry). y.start) e in
              absurd (⊎_elim (λ a. omega (arith, ints, after, a)) (λ b. omega (arith, ints, start, early, b)) over))
              inr n)
              (k.all x met late (omega (arith, ints, less, early)));
        });
        done = λ d x n. h.done d x (inr n);
        before = h.before;
        later = h.later;
        begun = h.begun;
      }

      pub one-given : {new : List Lasting} (kept : Bool) → IsNoted lasts new o by kept → (kept ≡ false → next ≤ℤ o.start)
          → IsSound known new since by next done m rest
      one-given kept (inl n) missed = subst (λ xs. IsSound known xs since by next done m rest) (sym n.2) (pushed n.0 (is-lasting n.0 n.1.0 n.1.1))
      one-given true (inr n) missed = subst (λ xs. IsSound known xs since by next done m rest) (sym n.0) (dropped (inl (n.1 refl)))
      one-given false (inr n) missed = subst (λ xs. IsSound known xs since by next done m rest) (sym n.0) (dropped (inr (missed refl)))

-- It is so where the series stays that of the same event, and gives the same.
pub moved-by : (c : Continued) (new : Series) → series_sources new ≡ series_sources c.series → new.event ≡ c.series.event
    → series_of new (series_left new) ≡ series_of c.series (series_left c.series)
    → IsSound c.known.items c.lasts.items c.since c.by c.gap c.is_done (recurring_of new)
    (known_left new.event.now c.next c.known.items ++ series_of new (series_left new))
moved-by c new sources event coming =
    moved (same-recurring c.series new sources) (λ i. known_left ((event i).now) c.next c.known.items ++ coming i) (sound c)

pub moved-on : (c : Continued) (new : Series) → IsSameSeries c.series new → series_of new (series_left new) ≡ series_of c.series (series_left c.series)
    → IsSound c.known.items c.lasts.items c.since c.by c.gap c.is_done (recurring_of new)
    (known_left new.event.now c.next c.known.items ++ series_of new (series_left new))
moved-on c new same = moved-by c new (same-sources c.series new same) same.event

-- no occurrence still to come begins before the first that is known
pub first-known : (c : Continued) (l : Lasting) → slice_get c.known.items c.next ≡ Some l → (o : Entry) → IsIn o (continued_left c) → l.start ≤ℤ o.start
first-known c l there o m =
    let event = c.series.event.now in
    let found = series_of c.series (series_left c.series) in
    let first = ap (λ xs. lasting_entries event xs ++ found) (drop-at c.known.items c.next there) in
    first-begins (lasting_entry event l) o (known_left event (suc c.next) c.known.items ++ found)
    (subst (Rises entry_cmp) first (rises-behind entry_cmp (lasting_entries event c.lasts.items) (continued_left c) c.rising)) (subst (IsIn o) first m)

-- nor one that lasts before the first of these
module _ (event : Event) where
  pub none-lasting : (xs : List Lasting) (o : Entry) → None ≡ slice_get xs 0 → IsIn o (lasting_entries event xs) → ⊥
  none-lasting [] o e m = m
  none-lasting (x ∷ xs) o e m = let no : None ≡ Some x = e in absurd cc

  pub first-lasting : (xs : List Lasting) (l : Lasting) (o : Entry) → Some l ≡ slice_get xs 0 → Rises entry_cmp (lasting_entries event xs)
      → IsIn o (lasting_entries event xs) → l.start ≤ℤ o.start
  first-lasting [] l o e r m = absurd m
  first-lasting (x ∷ xs) l o e r m =
      let begin = first-begins (lasting_entry event x) o (lasting_entries event xs) r m in
      subst (λ (k : Lasting). k.start ≤ℤ o.start) (sym (some-same l x e)) begin

pub rises-lasting : (c : Continued) → Rises entry_cmp (lasting_entries c.series.event.now c.lasts.items)
rises-lasting c = rises-front entry_cmp (lasting_entries c.series.event.now c.lasts.items) (continued_left c) c.rising

-- What is still to come is near, where what is known begins before the series does.
abbrev IsNear : Series → Entry → Type 0
IsNear s o = (o.event ≡ s.event.now) × (s.since ≤ℤ o.start → IsAskedNear (clocks_in s.zones) s.event.now (rule_asked s.rule_starts) o.start)

pub left-near : (c : Continued) (s : Series) → series_sources s ≡ series_sources c.series
    → ((o : Entry) → IsIn o (series_of c.series (series_left c.series)) → series_near s o) → (o : Entry) → IsIn o (continued_left c) → IsNear s o
left-near c s sources near o m =
    let same = same-recurring c.series s sources in
    ⊎_elim
    (λ n.
    let k = in-map (lasting_entry c.series.event.now) o (drop c.next c.known.items) n in
    let early = c.before k.0 (in-drop k.0 c.next c.known.items k.1) in
    let start = ap (λ (x : Entry). x.start) k.2 in
    let begin = ap (λ (x : Recurring). x.since) same in
    (ap (λ (x : Entry). x.event) k.2 ∙ sym (ap (λ (x : Recurring). x.event) same), λ from. absurd (omega (arith, ints, early, start, begin, from))))
    (λ n. let k = near o n in (k.0, λ from. k.1))
    (in-append o (known_left c.series.event.now c.next c.known.items) (series_of c.series (series_left c.series)) m)

pub near-as : (c : Continued) {new s : Series} → new ≡ s → ((o : Entry) → IsIn o (continued_left c) → IsNear s o) → (o : Entry)
    → IsIn o (continued_left c) → IsNear new o
near-as c same near = subst (λ x. (o : Entry) → IsIn o (continued_left c) → IsNear x o) (sym same) near

pub one-test : (a b : Bool) → beq a b ≡ true → a ≡ b
one-test true true e = refl
one-test false false e = refl
one-test true false e = cc
one-test false true e = cc

-- what meets a later window and begins before the window's end meets the window
meets-before : (w n : Window) → w.from ≤ℤ n.from → w.notstarted ≡ n.notstarted → (o : Entry) → Meets n o → o.start <ℤ w.to → Meets w o
meets-before w n from same o m begun = record {
  begun = begun;
  lasting = ⊎_elim (λ a. inl (omega (arith, ints, a, from))) (λ b. inr (b.0, omega (arith, ints, b.1, from))) m.lasting;
  started = λ t. let late = m.started (subst IsTrue same t) in omega (arith, ints, late, from);
}

-- what meets a window ends after its begin
ends-after : (n : Window) (o : Entry) → Meets n o → n.from <ℤ end_of o
ends-after n o m =
    ⊎_elim (λ a. omega (arith, ints, int_max_is o.finish (o.start +ℤ pos 1), a))
    (λ b. let late = b.1 in omega (arith, ints, int_max_is o.finish (o.start +ℤ pos 1), late)) m.lasting

module _ {known lasts : List Lasting} {old by gap : ℤ} {m : Recurring} {coming : List Entry} (h : IsSound known lasts old by gap true m coming) where
  -- all that meets another window and begins before the end of this one and the gap is kept
  pub all-kept : (n : Window) (since : ℤ) → old ≤ℤ since → by ≤ℤ n.from → m.window.from ≤ℤ n.from → m.window.notstarted ≡ n.notstarted
      → ∥ ((o : Entry) → IsSeriesMet m.clocks m.event n since m.replaced o → o.start <ℤ m.window.to → o.start <ℤ gap
      → IsIn o (lasting_entries m.event lasts)) ∥₁
  all-kept n since later end from same =
      ∥∥₁_map h.kept (λ k. λ o met begun early.
      let late = met.1.0 in
      let after = ends-after n o met.0.1 in
      ⊎_elim (λ l. l) (λ l. absurd (h.done refl o l)) (k.all o
      ((met.0.0, meets-before m.window n from same o met.0.1 begun), (omega (arith, ints, later, late), met.1.1))
      (omega (arith, ints, end, after)) early))

  -- what ends after an instant and begins before the gap is among what lasts
  pub lasts-on : {t : ℤ} → by ≤ℤ t → (o : Entry) → IsAsked m old o → t <ℤ end_of o → o.start <ℤ gap → IsIn o (lasting_entries m.event lasts)
  lasts-on late o asked after early =
      ∥∥₁_elim h.kept (in-prop o (lasting_entries m.event lasts) (rises-front entry_cmp (lasting_entries m.event lasts) coming h.rising))
      (λ k. ⊎_elim (λ l. l) (λ l. absurd (h.done refl o l)) (k.all o asked (omega (arith, ints, late, after)) early))

-- where all was given
pub all-given : (c : Continued) → c.is_done ≡ true → IsSound c.known.items c.lasts.items c.since c.by c.gap true (recurring_of c.series) (continued_left c)
all-given c done = subst (λ d. IsSound c.known.items c.lasts.items c.since c.by c.gap d (recurring_of c.series) (continued_left c)) done (sound c)

-- A search that begins at an instant, before which all is kept that it asks for: that, and what it finds, is all.
module _ {known lasts : List Lasting} {old by gap : ℤ} {done : Bool} {m : Recurring} {coming : List Entry}
    (h : IsSound known lasts old by gap done m coming) (n : Window) (since begin : ℤ) (found : List Entry)
    (sought : IsListing entry_cmp (IsSeriesMet m.clocks m.event n begin m.replaced) found) where
  abbrev IsMet : Entry → Type 0
  IsMet o = IsSeriesMet m.clocks m.event n since m.replaced o

  abbrev test : Lasting → Bool
  test = is_carried m.event n since begin

  abbrev carried : List Entry
  carried = lasting_entries m.event (filter test lasts)

  abbrev last-entries : List Entry
  last-entries = lasting_entries m.event lasts

  rises-last : Rises entry_cmp last-entries
  rises-last = rises-front entry_cmp last-entries coming h.rising

  given : (o : Entry) → IsIn o last-entries → IsAsked m old o
  given o l = met-known m.clocks m.event m.window old m.replaced o (∥∥₁_map h.kept (λ k. k.given o l))

  in-carried : (o : Entry) → IsIn o carried → IsMet o × (o.start <ℤ begin)
  in-carried o l =
      let k = in-map (lasting_entry m.event) o (filter test lasts) l in
      let there = filter-in test k.0 lasts k.1 in
      let asked = given o (subst (λ x. IsIn x last-entries) (sym k.2) (map-in (lasting_entry m.event) k.0 lasts there.0)) in
      let both = and_parts (int_lt k.0.start begin) (is_asked m.event n since k.0) there.1 in
      let passes = and_parts (int_le since k.0.start) (is_met n (lasting_entry m.event k.0)) both.1 in
      let from : since ≤ℤ o.start = subst (λ (x : Entry). since ≤ℤ x.start) (sym k.2) (int_le_true since k.0.start passes.0) in
      let early : o.start <ℤ begin = subst (λ (x : Entry). x.start <ℤ begin) (sym k.2) (int_lt_true k.0.start begin both.0) in
      let meets : Meets n o = is_met-meets n o (ap (is_met n) k.2 ∙ passes.1) in
      (((asked.0.0, meets), (from, asked.1.1)), early)

  module _ (all : ∥ ((o : Entry) → IsMet o → o.start <ℤ begin → IsIn o last-entries) ∥₁) (later : since ≤ℤ begin) where
    carried-in : (o : Entry) → IsMet o → o.start <ℤ begin → IsIn o carried
    carried-in o met begun =
        let there = ∥∥₁_elim all (in-prop o last-entries rises-last) (λ k. k o met begun) in
        let k = in-map (lasting_entry m.event) o lasts there in
        let from : int_le since k.0.start ≡ true = true_int_le since k.0.start (subst (λ (x : Entry). since ≤ℤ x.start) k.2 met.1.0) in
        let early : int_lt k.0.start begin ≡ true = true_int_lt k.0.start begin (subst (λ (x : Entry). x.start <ℤ begin) k.2 begun) in
        let meets : is_met n (lasting_entry m.event k.0) ≡ true = sym (ap (is_met n) k.2) ∙ meets-is_met n o met.0.1 in
        subst (λ x. IsIn x carried) (sym k.2)
        (map-in (lasting_entry m.event) k.0 (filter test lasts) (in-filter test k.0 lasts (rw (early, from, meets) refl) k.1))

    rises-carried : Rises entry_cmp carried
    rises-carried =
        (rises-on (lasting_entry m.event) entry_cmp (filter test lasts)).1
        (rises-filter (on (lasting_entry m.event) entry_cmp) test lasts ((rises-on (lasting_entry m.event) entry_cmp lasts).0 rises-last))

    pub carried-on : IsListing entry_cmp IsMet (carried ++ found)
    carried-on = record {
      rises = rises-both entry_cmp carried found rises-carried sought.rises (λ x y a b.
          let early = (in-carried x a).1 in
          let late = ((sought.exact y).0 b).1.0 in
          begins-before x y (omega (arith, ints, early, late)));
      exact = λ o. (
        λ l. ⊎_elim (λ a. (in-carried o a).0)
            (λ b.
            let met = (sought.exact o).0 b in
            let late = met.1.0 in
            (met.0, (omega (arith, ints, later, late), met.1.1)))
            (in-append o carried found l),
        λ met. ⊎_elim (λ early. in-append_left o carried found (carried-in o met early))
            (λ late. in-append_right o carried found ((sought.exact o).1 (met.0, (late, met.1.1))))
            (less_or_not_z o.start begin),
      );
    }

  pub carried-before : AreBefore begin (filter test lasts)
  carried-before l a = (in-carried (lasting_entry m.event l) (map-in (lasting_entry m.event) l (filter test lasts) a)).1

-- A search of which nothing was given yet.
pub fresh : (known : List Lasting) {lasts : List Lasting} (m : Recurring) (coming : List Entry) {since by gap : ℤ} → lasts ≡ []
    → IsListing entry_cmp (IsAsked m since) coming → AreBefore m.since known → since ≤ℤ m.since → m.since ≤ℤ int_max since m.window.to
    → IsSound known lasts since by gap false m coming
fresh known m coming {since = since} {by = by} {gap = gap} none listing before later begun =
    subst (λ xs. IsSound known xs since by gap false m coming) (sym none) (record {
      rising = listing.rises;
      kept = ∣ record {
        given = λ o l. absurd l;
        left = λ o l. (listing.exact o).0 l;
        all = λ o met late early. inr ((listing.exact o).1 met);
      } ∣₁;
      done = λ d o l. let no : false ≡ true = d in absurd cc;
      before = before;
      later = later;
      begun = begun;
    })

-- A search that begins again.
pub record IsBegunAgain (c : Continued) (new : Series) (n : Window) (since : ℤ) (known : List Lasting) : Type 0 where
  pub sources : series_sources new ≡ source_of (clocks_in c.series.zones) c.series.event.now n new.since c.series.replaced
  pub event : new.event ≡ c.series.event
  pub sought : IsListing entry_cmp (IsSeriesMet (clocks_in c.series.zones) c.series.event.now n new.since c.series.replaced) (series_of new (series_left new))
  pub are : known ≡ filter (is_carried c.series.event.now n since new.since) c.lasts.items
  pub all : ∥ ((o : Entry) → IsSeriesMet (clocks_in c.series.zones) c.series.event.now n since c.series.replaced o
      → o.start <ℤ new.since → IsIn o (lasting_entries c.series.event.now c.lasts.items)) ∥₁
  pub later : since ≤ℤ new.since
  pub begun : new.since ≤ℤ int_max since n.to

module _ (c : Continued) (new : Series) (n : Window) {since : ℤ} {known : List Lasting} (is : IsBegunAgain c new n since known) where
  coming-again : known_left new.event.now 0 known ++ series_of new (series_left new)
      ≡ lasting_entries c.series.event.now (filter (is_carried c.series.event.now n since new.since) c.lasts.items) ++ series_of new (series_left new)
  coming-again = λ i. lasting_entries ((is.event i).now) (is.are i) ++ series_of new (series_left new)

  pub listing-again : IsListing entry_cmp (IsSeriesMet (clocks_in c.series.zones) c.series.event.now n since c.series.replaced)
      (known_left new.event.now 0 known ++ series_of new (series_left new))
  listing-again =
      subst (IsListing entry_cmp (IsSeriesMet (clocks_in c.series.zones) c.series.event.now n since c.series.replaced)) (sym coming-again)
      (carried-on (sound c) n since new.since (series_of new (series_left new)) is.sought is.all is.later)

  pub sound-again : {lasts : List Lasting} (by gap : ℤ) → lasts ≡ []
      → IsSound known lasts since by gap false (recurring_of new) (known_left new.event.now 0 known ++ series_of new (series_left new))
  sound-again by gap none =
      let m : Recurring = record {
        clocks = clocks_in c.series.zones;
        event = c.series.event.now;
        window = n;
        since = new.since;
        replaced = c.series.replaced;
      } in
      moved (same-source new m is.sources) refl
      (fresh known m (known_left new.event.now 0 known ++ series_of new (series_left new)) {by = by} {gap = gap} none listing-again
      (subst (AreBefore new.since) (sym is.are) (carried-before (sound c) n since new.since (series_of new (series_left new)) is.sought)) is.later is.begun)
