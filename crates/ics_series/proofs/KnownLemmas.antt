-- The series of masters that rest from day to day.
use Rattle.std.specs.Global.{Box}
use Rattle.std.proofs.Common.{◌≡◌, ◌∙◌, ℕ, List, [], ◌∷◌, ◌++◌, Some, None, sym, ap, subst}
use Rattle.std.specs.List.{flat_map, AllByRecursion}
use Rattle.std.proofs.Math.Logic.{∥∥₁_elim}
use Rattle.ics_file.specs.File.{FileSaid}
use Rattle.ics_event.specs.declared.event.Event.{Event}
use Rattle.ics_listing.specs.FeedSources.{Recurring, Source}
use Rattle.ics_listing.specs.FileClocks.{Clock}
use Rattle.ics_listing.proofs.ListingLemmas.{all-as}
use Rattle.ics_continued.specs.declared.continued.Continued.{Continued}
use Rattle.ics_series.specs.AgendaParts.{part_sources}
use Rattle.ics_series.specs.Chosen.{IsMaster, SubjectSeen}
use Rattle.ics_series.specs.HeldMost.{Master}
use Rattle.ics_series.specs.Inner.Kept.{master-series-prop, IsKeptIn, IsMasterSeries, IsPartOf, IsSeriesOf}
use Rattle.ics_series.specs.PlacedEvents.{Placed}
use Rattle.ics_series.specs.Sources.{recurring}
use Rattle.ics_series.specs.declared.part.Part.{Part}
use Rattle.ics_series.specs.declared.part.Part.TheVariants as part
use Rattle.ics_series.proofs.AheadLemmas.{IsOfFolder}
use Rattle.ics_series.proofs.OccursLemmas.{master-subject}
use Rattle.ics_series.proofs.VersionLemmas.{one-chosen}

-- all of a list, and one behind them
pub all-last : {X : Type 0} (xs : List X) (x : X) (P : X → Type 0) → AllByRecursion P (xs ++ x ∷ []) → AllByRecursion P xs × P x
all-last [] x P all = (tt, all.0)
all-last (y ∷ xs) x P all = let rest = all-last xs x P all.1 in ((all.0, rest.0), rest.1)

-- what is known of each master of feeds, of each feed
module _ (IsKnown : Recurring → Type 0) where
  of-first : (p : Part) (rest : List Source) → AllByRecursion IsKnown (recurring (part_sources p ++ rest))
      → AllByRecursion IsKnown (recurring (part_sources p)) × AllByRecursion IsKnown (recurring rest)
  of-first (part.Singles s) rest all = (tt, all)
  of-first (part.Series s) rest all = ((all.0, tt), all.1)

  pub each-of : {L : Type 0} (feed : L → Part) (leads : List L) → AllByRecursion IsKnown (recurring (flat_map (λ l. part_sources (feed l)) leads))
      → AllByRecursion (λ l. AllByRecursion IsKnown (recurring (part_sources (feed l)))) leads
  each-of feed [] all = tt
  each-of feed (l ∷ leads) all =
      let both = of-first (feed l) (flat_map (λ l. part_sources (feed l)) leads) all in
      (both.0, each-of feed leads both.1)

module _ (files : List FileSaid) (display : Clock) where
  abbrev sub : List ℕ → SubjectSeen
  sub uid = record { uid = uid; recurrence = None }

  -- two masters with one UID are one
  one-master : (p q : Placed) → IsMaster files display p → IsMaster files display q → p.event.uid ≡ q.event.uid → p ≡ q
  one-master p q h k u = one-chosen h.chosen k.chosen (master-subject files display p h ∙ (ap sub u ∙ sym (master-subject files display q k)))

  -- so a series of a master with an event's UID is that of the master which has the event
  pub kept-own : (event : Event) (kept : Box Continued) (by : Placed) → IsMaster files display by → by.event ≡ event
      → IsKeptIn files display (Some kept) → kept.value.series.event.now.uid ≡ event.uid → IsSeriesOf files display by (Some kept)
  kept-own event kept by is e known uid = ∥∥₁_elim known (master-series-prop files display by kept.value) (λ h.
      let same = one-master h.0 by h.1 is (sym (ap (λ (v : Event). v.uid) h.2.event) ∙ (uid ∙ sym (ap (λ (v : Event). v.uid) e))) in
      subst (λ (p : Placed). IsMasterSeries files display p kept.value) same h.2)

  part-of : (p : Part) → AllByRecursion (IsOfFolder files display) (recurring (part_sources p)) → IsPartOf files display p
  part-of (part.Singles s) all = tt
  part-of (part.Series s) all = ∣ (
    all.0.by,
    all.0.is,
    record {
      event = ap (λ (m : Master). m.event) all.0.same;
      clocks = ap (λ (m : Master). m.clocks) all.0.same;
      replaced = all.0.replaced;
    },
  ) ∣₁

  -- the feeds of a day's agenda are parts of masters
  pub parts-of : {L : Type 0} (feed : L → Part) (leads : List L)
      → AllByRecursion (IsOfFolder files display) (recurring (flat_map (λ l. part_sources (feed l)) leads))
      → AllByRecursion (λ l. IsPartOf files display (feed l)) leads
  parts-of feed leads all =
      all-as (λ l. AllByRecursion (IsOfFolder files display) (recurring (part_sources (feed l)))) (λ l. IsPartOf files display (feed l)) leads
      (λ l. part-of (feed l)) (each-of (IsOfFolder files display) feed leads all)
