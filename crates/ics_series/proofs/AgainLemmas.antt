-- A series that is begun again is that of the version at its place.
use Rattle.std.proofs.Common.{◌≡◌, ◌∙◌, ℤ, List, Option, Some, map, refl, sym, ap, subst}
use Rattle.ics_file.specs.File.{FileSaid}
use Rattle.ics_event.specs.declared.event.Event.{Event}
use Rattle.ics_continued.specs.declared.continued.Continued.{Continued}
use Rattle.ics_listing.specs.Entry.{Entry, Rank, entry_cmp}
use Rattle.ics_listing.specs.FileClocks.{Clock}
use Rattle.ics_listing.specs.Listing.{IsIn, IsListing}
use Rattle.ics_listing.specs.declared.window.Window.{Window}
use Rattle.ics_series.specs.Inner.Kept.{IsMasterSeries}
use Rattle.ics_series.specs.Inner.Masters.{IsSourceOf, Recurs}
use Rattle.ics_series.specs.PlacedEvents.{clocks_at}
use Rattle.ics_series.specs.Replaced.{AreReplaced}
use Rattle.ics_series.specs.Sources.{IsFrom}
use Rattle.ics_series.specs.Versions.{seen, AreChosen, Label}
use Rattle.ics_series.specs.declared.version.Version.{Version}
use Rattle.ics_series.proofs.RecurringLemmas.{own, own-clocks, own-event}
use Rattle.ics_starts.specs.FileZones.{clocks_in}
use Rattle.ics_starts.specs.SeriesStarts.{IsSeriesMet}
use Rattle.ics_starts.specs.SingleEvents.{is_single}

module _ {files : List FileSaid} {display : Clock} {vs : List Version} {label : Label} (chosen : AreChosen files display vs)
    (there : IsIn label (map seen vs)) (r : Recurs files label) (c : Continued) (h : IsMasterSeries files display (own chosen there r).0 c) where
  pub again-event : c.series.event.now ≡ r.event
  again-event = h.event ∙ own-event chosen there r

  pub again-clocks : clocks_in c.series.zones ≡ clocks_at files display label.spot.file
  again-clocks = h.clocks ∙ own-clocks chosen there r

  pub again-replaced : AreReplaced files display r.event.uid c.series.replaced
  again-replaced = subst (λ (e : Event). AreReplaced files display e.uid c.series.replaced) (own-event chosen there r) h.replaced

  -- what it gives are occurrences of the event of the version
  pub again-listing : (w : Window) (least : ℤ) {list : List Entry}
      → IsListing entry_cmp (IsSeriesMet (clocks_in c.series.zones) c.series.event.now w least c.series.replaced) list
      → IsListing entry_cmp (IsSeriesMet (clocks_in c.series.zones) r.event w least c.series.replaced) list
  again-listing w least {list = list} =
      subst (λ (e : Event). IsListing entry_cmp (IsSeriesMet (clocks_in c.series.zones) e w least c.series.replaced) list) again-event

  -- from whatever instant on it is the source of the version
  pub again-source : (w : Window) (after : Option Rank) (begin : ℤ) → IsFrom after begin → IsSourceOf files display w after label
      (record { clocks = clocks_in c.series.zones; event = c.series.event.now; window = w; since = begin; replaced = c.series.replaced })
  again-source w after begin from = record {
    stands = r.stands ∙ ap Some (sym again-event);
    recurs = ap is_single again-event ∙ r.recurs;
    clocks = again-clocks;
    window = refl;
    since = from;
    replaced = subst (λ (e : Event). AreReplaced files display e.uid c.series.replaced) (sym again-event) again-replaced;
  }
