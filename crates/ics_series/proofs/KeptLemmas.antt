-- Which texts the events of files have changes nothing of when they occur.
use Rattle.std.proofs.Common.{◌≡◌, ◌≢◌, ⊎_elim, inl, inr, ℕ, ℤ, List, [], ◌∷◌, map, Option, Some, None, refl, sym, ap, ◌∙◌, subst}
use Rattle.std.specs.Prelude.{slice_get}
use Rattle.std.specs.Option.{option_map}
use Rattle.std.specs.declared.cmp.Ordering.{Ordering}
use Rattle.std.specs.declared.cmp.Ordering.TheVariants.{Less}
use Rattle.std.proofs.lemmas.Option.{slice_get-map}
use Rattle.ics_fields.specs.declared.local.Local.{Local}
use Rattle.ics_file.specs.File.{FileSaid}
use Rattle.ics_event.specs.Event.{Rdate}
use Rattle.ics_event.specs.declared.event.Event.{Event}
use Rattle.ics_event.specs.Kept.{KeptTexts, kept_event}
use Rattle.ics_file.specs.Kept.{kept_said}
use Rattle.ics_series.specs.Chosen.{IsChosen, IsMaster, IsOverridden, IsOverride, subject_by, subject_of}
use Rattle.ics_listing.specs.FileClocks.{Clock, Clocks}
use Rattle.ics_starts.specs.Clocks.{clocks_of}
use Rattle.ics_listing.specs.Entry.{Entry, entry_cmp}
use Rattle.ics_listing.specs.Listing.{IsIn, IsListing}
use Rattle.ics_series.specs.Meets.{IsListed}
use Rattle.ics_starts.specs.MeetsWindow.{Meets}
use Rattle.ics_starts.specs.Instances.{IsInstance, IsOf}
use Rattle.ics_series.specs.Occurs.{IsMoved, Occurs}
use Rattle.ics_series.specs.OnDays.{IsOnDay}
use Rattle.ics_days.specs.ShownDays.{is_on}
use Rattle.ics_listing.specs.DayKeys.{OnDay, on_day, on_day_cmp}
use Rattle.ics_series.specs.PlacedEvents.{IsPlaced, Placed, clocks_at, placed_cmp, zones_of}
use Rattle.ics_listing.specs.Rising.{IsBefore, Rises}
use Rattle.ics_starts.specs.Starts.{GivesStart, IsRuleStart}
use Rattle.ics_listing.specs.declared.start.StartSource.{StartSource}
use Rattle.ics_listing.specs.declared.start.StartSource.TheVariants.{Kept, Listed}
use Rattle.ics_listing.specs.declared.window.Window.{Window}
use Rattle.ics_series.proofs.OccursLemmas.{one-recurrence}
use Rattle.ics_series.proofs.VersionLemmas.{in-map}

-- what an answer is mapped from
some-of : {X Y : Type 0} (f : X → Y) (o : Option X) (y : Y) → option_map f o ≡ Some y → (x : X) × (o ≡ Some x) × (f x ≡ y)
some-of f None y e = cc
some-of f (Some x) y e = (x, refl, cc)

-- A LISTING of what one list is mapped to is mapped from a listing.
module _ {A : Type 0} (k : A → A) (R : A → A → Ordering) (same : (x y : A) → R (k x) (k y) ≡ R x y) {P Q : A → Type 0}
    (there : (x : A) → P x → Q (k x)) (back : (y : A) → Q y → (x : A) × P x × (k x ≡ y)) (one : (x y : A) → P x → P y → k x ≡ k y → x ≡ y) where
  abbrev From : List A → Type 0
  From ys = (xs : List A) × (map k xs ≡ ys) × ((x : A) → IsIn x xs → P x)

  from : (ys : List A) → ((y : A) → IsIn y ys → Q y) → From ys
  from [] all = ([], refl, λ x m. absurd m)
  from (y ∷ ys) all =
      let first = back y (all y (inl refl)) in
      let more = from ys (λ z m. all z (inr m)) in (
        first.0 ∷ more.0,
        λ i. first.2 i ∷ more.1 i,
        λ x m. ⊎_elim (λ (e : x ≡ first.0). subst P (sym e) first.1) (λ n. more.2 x n) m,
      )

  before-from : (x : A) (xs : List A) → IsBefore R (k x) (map k xs) → IsBefore R x xs
  before-from x [] h = tt
  before-from x (y ∷ ys) h = (sym (same x y) ∙ h.0, before-from x ys h.1)

  rises-from : (xs : List A) → Rises R (map k xs) → Rises R xs
  rises-from [] h = tt
  rises-from (x ∷ xs) h = (before-from x xs h.0, rises-from xs h.1)

  pub listing-from : (ys : List A) → IsListing R Q ys → (xs : List A) × (map k xs ≡ ys) × IsListing R P xs
  listing-from ys h =
      let lifted = from ys (λ y. (h.exact y).0) in
      let found : (x : A) → P x → IsIn x lifted.0 = λ x p. (
      let at = in-map k (k x) lifted.0 (subst (IsIn (k x)) (sym lifted.1) ((h.exact (k x)).1 (there x p))) in
      subst (λ z. IsIn z lifted.0) (sym (one x at.0 p (lifted.2 at.0 at.1) at.2)) at.1
      ) in (
        lifted.0,
        lifted.1,
        record { rises = rises-from lifted.0 (subst (Rises R) (sym lifted.1) h.rises); exact = λ x. (lifted.2 x, found x) },
      )

module _ (keep : KeptTexts) where
  abbrev pub kept_entry : Entry → Entry
  kept_entry o = record o { event = kept_event keep o.event }

  abbrev pub kept_on : OnDay → OnDay
  kept_on p = record p { entry = kept_entry p.entry }

  abbrev kept_placed : Placed → Placed
  kept_placed p = record p { event = kept_event keep p.event }

  -- ONE EVENT. All that is asked of it is asked of what is no text.
  module _ {clocks : Clocks} {e : Event} where
    rule-there : {local : Local} → IsRuleStart clocks e local → IsRuleStart clocks (kept_event keep e) local
    rule-there h = record { rule = h.rule; has = h.has; calendar = h.calendar; kept = h.kept; until = h.until }

    rule-back : {local : Local} → IsRuleStart clocks (kept_event keep e) local → IsRuleStart clocks e local
    rule-back h = record { rule = h.rule; has = h.has; calendar = h.calendar; kept = h.kept; until = h.until }

  gives-there : (clocks : Clocks) (e : Event) (source : StartSource) (given : Rdate) → GivesStart clocks e source given →
      GivesStart clocks (kept_event keep e) source given
  gives-there clocks e (Kept local) given h = (⊎_elim (λ first. inl first) (λ rule. inr (rule-there rule)) h.0, h.1)
  gives-there clocks e (Listed place) given h = h

  gives-back : (clocks : Clocks) (e : Event) (source : StartSource) (given : Rdate) → GivesStart clocks (kept_event keep e) source given →
      GivesStart clocks e source given
  gives-back clocks e (Kept local) given h = (⊎_elim (λ first. inl first) (λ rule. inr (rule-back rule)) h.0, h.1)
  gives-back clocks e (Listed place) given h = h

  module _ {clocks : Clocks} {e : Event} where
    instance-there : {start end : ℤ} → IsInstance clocks e start end → IsInstance clocks (kept_event keep e) start end
    instance-there h = record {
      source = h.source;
      given = h.given;
      gives = gives-there clocks e h.source h.given h.gives;
      starts = h.starts;
      earliest = λ other value gives. h.earliest other value (gives-back clocks e other value gives);
      ends = h.ends;
      stays = h.stays;
    }

    instance-back : {start end : ℤ} → IsInstance clocks (kept_event keep e) start end → IsInstance clocks e start end
    instance-back h = record {
      source = h.source;
      given = h.given;
      gives = gives-back clocks e h.source h.given h.gives;
      starts = h.starts;
      earliest = λ other value gives. h.earliest other value (gives-there clocks e other value gives);
      ends = h.ends;
      stays = h.stays;
    }

  -- FILES. Their events stand where they stood, and their zones are the same.
  module _ (files : List FileSaid) (display : Clock) where
    abbrev kept_files : List FileSaid
    kept_files = map (kept_said keep) files

    zones-of : (file : Option FileSaid) → zones_of (option_map (kept_said keep) file) ≡ zones_of file
    zones-of None = refl
    zones-of (Some file) = refl

    clocks-kept : (file : ℕ) → clocks_at kept_files display file ≡ clocks_at files display file
    clocks-kept file = ap (clocks_of display) (ap zones_of (slice_get-map (kept_said keep) files file) ∙ zones-of (slice_get files file))

    subject-kept : (p : Placed) → subject_of kept_files display (kept_placed p) ≡ subject_of files display p
    subject-kept p = ap (λ clocks. subject_by clocks p.event) (clocks-kept p.file)

    placed-there : (p : Placed) → IsPlaced files p → IsPlaced kept_files (kept_placed p)
    placed-there p h =
        let file : FileSaid = h.within.0 in
        record {
          within = (
            kept_said keep file,
            slice_get-map (kept_said keep) files p.file ∙ ap (option_map (kept_said keep)) h.within.1,
            slice_get-map (kept_event keep) file.events p.place ∙ ap (option_map (kept_event keep)) h.within.2,
          );
        }

    abbrev IsFrom : Placed → Type 0
    IsFrom q = (p : Placed) × IsPlaced files p × (kept_placed p ≡ q)

    placed-back : (q : Placed) → IsPlaced kept_files q → IsFrom q
    placed-back q h =
        let file = some-of (kept_said keep) (slice_get files q.file) h.within.0 (sym (slice_get-map (kept_said keep) files q.file) ∙ h.within.1) in
        let events : List Event = file.0.events in
        let event = some-of (kept_event keep) (slice_get events q.place) q.event
        (sym (slice_get-map (kept_event keep) events q.place) ∙ (ap (λ (f : FileSaid). slice_get f.events q.place) file.2 ∙ h.within.2)) in (
          record q { event = event.0 },
          record { within = (file.0, file.1, event.1) },
          λ i. record q { event = event.2 i },
        )

    chosen-there : (p : Placed) → IsChosen files display p → IsChosen kept_files display (kept_placed p)
    chosen-there p h = record {
      placed = placed-there p h.placed;
      greatest = λ q at.
          let from = placed-back q at in
          subst (λ (q : Placed). subject_of kept_files display q ≡ subject_of kept_files display (kept_placed p) → placed_cmp (kept_placed p) q ≢ Less) from.2
          (λ s. h.greatest from.0 from.1 (sym (subject-kept from.0) ∙ (s ∙ subject-kept p)));
    }

    chosen-back : (p : Placed) → IsPlaced files p → IsChosen kept_files display (kept_placed p) → IsChosen files display p
    chosen-back p at h = record {
      placed = at;
      greatest = λ q there s. h.greatest (kept_placed q) (placed-there q there) (subject-kept q ∙ (s ∙ sym (subject-kept p)));
    }

    abbrev overridden_by : Placed → Clocks → Option ℤ
    overridden_by p clocks = (subject_by clocks p.event).recurrence

    override-there : (p : Placed) (t : ℤ) → IsOverride files display p t → IsOverride kept_files display (kept_placed p) t
    override-there p t h = record { chosen = chosen-there p h.chosen; of = ap (overridden_by p) (clocks-kept p.file) ∙ h.of }

    override-back : (p : Placed) (t : ℤ) → IsPlaced files p → IsOverride kept_files display (kept_placed p) t → IsOverride files display p t
    override-back p t at h = record { chosen = chosen-back p at h.chosen; of = sym (ap (overridden_by p) (clocks-kept p.file)) ∙ h.of }

    overridden-there : (uid : List ℕ) (t : ℤ) → IsOverridden files display uid t → IsOverridden kept_files display uid t
    overridden-there uid t h = record { by = kept_placed h.by; is = override-there h.by t h.is; same = h.same }

    overridden-back : (uid : List ℕ) (t : ℤ) → IsOverridden kept_files display uid t → IsOverridden files display uid t
    overridden-back uid t h =
        let from = placed-back h.by h.is.chosen.placed in
        record {
          by = from.0;
          is = override-back from.0 t from.1 (subst (λ (q : Placed). IsOverride kept_files display q t) (sym from.2) h.is);
          same = ap (λ (q : Placed). q.event.uid) from.2 ∙ h.same;
        }

    -- OCCURRENCES.
    occurs-there : (o : Entry) → Occurs files display o → Occurs kept_files display (kept_entry o)
    occurs-there o (inl h) = inl (record {
      master = kept_placed h.master;
      is = record { chosen = chosen-there h.master h.is.chosen; single = h.is.single };
      of = subst (λ clocks. IsOf clocks (kept_event keep h.master.event) (kept_entry o)) (sym (clocks-kept h.master.file))
          (record { event = ap (kept_event keep) h.of.event; recurrence = h.of.recurrence; lasts = instance-there h.of.lasts });
      kept = λ over. h.kept (overridden-back o.event.uid o.recurrence over);
    })
    occurs-there o (inr h) = inr (record {
      override = kept_placed h.override;
      is = override-there h.override o.recurrence h.is;
      of = subst (λ clocks. IsMoved clocks (kept_event keep h.override.event) (kept_entry o)) (sym (clocks-kept h.override.file))
          (record { event = ap (kept_event keep) h.of.event; starts = h.of.starts; ends = h.of.ends });
    })

    occurs-back : (o : Entry) → Occurs kept_files display o → (w : Entry) × Occurs files display w × (kept_entry w ≡ o)
    occurs-back o (inl h) =
        let from = placed-back h.master h.is.chosen.placed in
        let p : Placed = from.0 in
        let is = subst (λ (q : Placed). IsMaster kept_files display q) (sym from.2) h.is in
        let of = subst (λ clocks. IsOf clocks (kept_event keep p.event) o) (clocks-kept p.file)
        (subst (λ (q : Placed). IsOf (clocks_at kept_files display q.file) q.event o) (sym from.2) h.of) in (
          record o { event = p.event },
          inl (record {
            master = p;
            is = record { chosen = chosen-back p from.1 is.chosen; single = is.single };
            of = record { event = refl; recurrence = of.recurrence; lasts = instance-back of.lasts };
            kept = λ over. h.kept (overridden-there o.event.uid o.recurrence (subst (λ uid. IsOverridden files display uid o.recurrence)
                (sym (ap (λ (e : Event). e.uid) of.event)) over));
          }),
          λ i. record o { event = sym of.event i },
        )
    occurs-back o (inr h) =
        let from = placed-back h.override h.is.chosen.placed in
        let p : Placed = from.0 in
        let of = subst (λ clocks. IsMoved clocks (kept_event keep p.event) o) (clocks-kept p.file)
        (subst (λ (q : Placed). IsMoved (clocks_at kept_files display q.file) q.event o) (sym from.2) h.of) in (
          record o { event = p.event },
          inr (record {
            override = p;
            is = override-back p o.recurrence from.1 (subst (λ (q : Placed). IsOverride kept_files display q o.recurrence) (sym from.2) h.is);
            of = record { event = refl; starts = of.starts; ends = of.ends };
          }),
          λ i. record o { event = sym of.event i },
        )

    module _ (w : Window) where
      listed-there : (o : Entry) → IsListed files display w o → IsListed kept_files display w (kept_entry o)
      listed-there o h = (occurs-there o h.0, record { begun = h.1.begun; lasting = h.1.lasting; started = h.1.started })

      listed-back : (o : Entry) → IsListed kept_files display w o → (x : Entry) × IsListed files display w x × (kept_entry x ≡ o)
      listed-back o h =
          let from = occurs-back o h.0 in
          let meets = subst (Meets w) (sym from.2) h.1 in
          (from.0, (from.1, record { begun = meets.begun; lasting = meets.lasting; started = meets.started }), from.2)

      one-listed : (x y : Entry) → IsListed files display w x → IsListed files display w y → kept_entry x ≡ kept_entry y → x ≡ y
      one-listed x y h k e =
          one-recurrence files display x y h.0 k.0 (ap (λ (o : Entry). o.event.uid) e) (ap (λ (o : Entry). o.recurrence) e)

      -- THE LISTING.
      pub listing-kept : (ys : List Entry) → IsListing entry_cmp (IsListed kept_files display w) ys →
          (xs : List Entry) × (map kept_entry xs ≡ ys) × IsListing entry_cmp (IsListed files display w) xs
      listing-kept = listing-from kept_entry entry_cmp (λ x y. refl) listed-there listed-back one-listed

      -- the same under each day
      on-there : (p : OnDay) → IsOnDay files display w p → IsOnDay kept_files display w (kept_on p)
      on-there p h = record { listed = listed-there p.entry h.listed; on = h.on }

      on-back : (p : OnDay) → IsOnDay kept_files display w p → (x : OnDay) × IsOnDay files display w x × (kept_on x ≡ p)
      on-back p h =
          let from = listed-back p.entry h.listed in (
            on_day p.day from.0,
            record { listed = from.1; on = ap (λ o. is_on display w o p.day) from.2 ∙ h.on },
            λ i. record p { entry = from.2 i },
          )

      one-on : (x y : OnDay) → IsOnDay files display w x → IsOnDay files display w y → kept_on x ≡ kept_on y → x ≡ y
      one-on x y h k e =
          let entry = one-listed x.entry y.entry h.listed k.listed (ap (λ (p : OnDay). p.entry) e) in λ i. on_day ((e i).day) (entry i)

      pub day_listing-kept : (ys : List OnDay) → IsListing on_day_cmp (IsOnDay kept_files display w) ys →
          (xs : List OnDay) × (map kept_on xs ≡ ys) × IsListing on_day_cmp (IsOnDay files display w) xs
      day_listing-kept = listing-from kept_on on_day_cmp (λ x y. refl) on-there on-back one-on
