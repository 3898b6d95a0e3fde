-- What is left of the occurrences that are given: those for which no override stands, after a key.
use Rattle.std.proofs.Common.{◌≡◌, List, map, inl, inr, ⊎_elim, Option, Some, None, true, false, refl, sym, ◌∙◌, ap, is_some, not}
use Rattle.std.proofs.Common.{option_map, is_lt, Ordering, Less}
use Rattle.std.proofs.lemmas.Bool.{false_from_ne_true, not_from_false, not_from_true, or_right}
use Rattle.ics_file.specs.File.{FileSaid}
use Rattle.ics_event.specs.declared.event.Event.{Event}
use Rattle.ics_event.specs.Event.{Time}
use Rattle.ics_series.specs.declared.version.Version.{Version}
use Rattle.ics_listing.specs.declared.window.Window.{Window}
use Rattle.ics_series.specs.Chosen.{IsOverridden}
use Rattle.ics_listing.specs.FileClocks.{Clock}
use Rattle.ics_starts.specs.Clocks.{instant}
use Rattle.ics_listing.specs.Entry.{Entry, Rank, rank_cmp, rank_of}
use Rattle.ics_starts.specs.MeetsWindow.{Meets}
use Rattle.ics_series.specs.Meets.{IsListed, IsToCome}
use Rattle.ics_series.specs.Overridden.{is_kept}
use Rattle.ics_listing.specs.After.{is_after}
use Rattle.ics_series.specs.Occurs.{Occurs, IsOfMaster, IsOfOverride}
use Rattle.ics_series.specs.PlacedEvents.{clocks_at}
use Rattle.ics_series.specs.Versions.{is_named, seen, AreChosen}
use Rattle.ics_listing.proofs.Cases.{mapped-some}
use Rattle.ics_series.proofs.OverrideLemmas.{named-overridden, overridden-named}
use Rattle.ics_series.proofs.VersionLemmas.{IsGiven, IsGivenBy}

pub lt-Less : (c : Ordering) → is_lt c ≡ true → c ≡ Less
lt-Less Less e = refl
lt-Less _ e = let f : false ≡ true = e in cc

-- What is to come is listed, and comes after the key.
module _ (files : List FileSaid) (display : Clock) (w : Window) where
  pub after-come : (after : Option Rank) (o : Entry) → IsToCome files display w after o → is_after after o ≡ true
  after-come None o t = refl
  after-come (Some key) o t = ap is_lt t.1

  pub come-after : (after : Option Rank) (o : Entry) → IsListed files display w o → is_after after o ≡ true → IsToCome files display w after o
  come-after None o l t = l
  come-after (Some key) o l t = (l, lt-Less (rank_cmp key (rank_of o)) t)

  pub come-listed : (after : Option Rank) (o : Entry) → IsToCome files display w after o → IsListed files display w o
  come-listed None o t = t
  come-listed (Some key) o t = t.0

-- What is kept of a master no override replaces.
pub kept-unreplaced : (files : List FileSaid) (display : Clock) (vs : List Version) → AreChosen files display vs → (o : Entry) → o.event.recurrence ≡ None
    → is_kept (map seen vs) o ≡ true → IsOverridden files display o.event.uid o.recurrence → ⊥
kept-unreplaced files display vs h o none e v =
    let named-so = not_from_true (is_named (record { uid = o.event.uid; recurrence = Some o.recurrence }) (map seen vs))
    (overridden-named files display vs h o.event.uid o.recurrence v) in
    let kept : not (is_named (record { uid = o.event.uid; recurrence = Some o.recurrence }) (map seen vs)) ≡ true = rw none at e in
    cc

-- And what none replaces is kept.
pub unreplaced-kept : (files : List FileSaid) (display : Clock) (vs : List Version) → AreChosen files display vs → (o : Entry)
    → (IsOverridden files display o.event.uid o.recurrence → ⊥) → is_kept (map seen vs) o ≡ true
unreplaced-kept files display vs h o unreplaced =
    let named = is_named (record { uid = o.event.uid; recurrence = Some o.recurrence }) (map seen vs) in
    or_right (is_some o.event.recurrence) (not named) (not_from_false named
    (false_from_ne_true named (λ n. unreplaced (named-overridden files display vs h o.event.uid o.recurrence n))))

-- Of what is given that is listed which is kept.
module _ (files : List FileSaid) (display : Clock) (w : Window) (vs : List Version) (h : AreChosen files display vs) where
  given-occurs : (o : Entry) → IsGiven files display w o → is_kept (map seen vs) o ≡ true → Occurs files display o
  given-occurs o g e = by g.by.event.recurrence refl g.is.0
    where
      by : (r : Option Time) → g.by.event.recurrence ≡ r →
          IsGivenBy (clocks_at files display g.by.file) g.by.event (option_map (instant (clocks_at files display g.by.file)) r) o → Occurs files display o
      by None none of = inl (record {
        master = g.by;
        is = record { chosen = g.chosen; single = none };
        of = of;
        kept = kept-unreplaced files display vs h o (ap (λ (v : Event). v.recurrence) of.event ∙ none) e;
      })
      by (Some time) some of = inr (record {
        override = g.by;
        is = record { chosen = g.chosen; of = ap (option_map (instant (clocks_at files display g.by.file))) some ∙ ap Some (sym of.1) };
        of = of.0;
      })

  master-given : (o : Entry) → IsOfMaster files display o → Meets w o → IsGiven files display w o × (is_kept (map seen vs) o ≡ true)
  master-given o m meets = (
    record {
      by = m.master;
      chosen = m.is.chosen;
      is = (rw (ap (option_map (instant (clocks_at files display m.master.file))) m.is.single) m.of, meets);
    },
    unreplaced-kept files display vs h o m.kept,
  )

  override-given : (o : Entry) → IsOfOverride files display o → Meets w o → IsGiven files display w o × (is_kept (map seen vs) o ≡ true)
  override-given o m meets =
      let named-at = mapped-some (instant (clocks_at files display m.override.file)) m.override.event.recurrence o.recurrence m.is.of in (
        record { by = m.override; chosen = m.is.chosen; is = (rw m.is.of (m.of, refl), meets) },
        rw (m.of.event, named-at.1) refl,
      )

  pub to-come : (after : Option Rank) (o : Entry) → IsGiven files display w o → is_kept (map seen vs) o ≡ true → is_after after o ≡ true →
      IsToCome files display w after o
  to-come after o g k = come-after files display w after o (given-occurs o g k, g.is.1)

  pub listed-given : (o : Entry) → IsListed files display w o → IsGiven files display w o × (is_kept (map seen vs) o ≡ true)
  listed-given o l = ⊎_elim (λ m. master-given o m l.1) (λ m. override-given o m l.1) l.0
