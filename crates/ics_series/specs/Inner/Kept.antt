-- The series of masters that rest from day to day.
use Rattle.std.specs.Global.{Box}
use Rattle.std.specs.Prelude.{◌≡◌, List, Option, None, Some}
use Rattle.std.specs.Coded.{Unit-prop}
use Rattle.std.proofs.Props.{props}
use Rattle.std.specs.List.{AllByRecursion, AllByRecursion-prop}
use Rattle.ics_file.specs.File.{FileSaid}
use Rattle.ics_listing.specs.FileClocks.{Clock}
use Rattle.ics_series.specs.Chosen.{IsMaster}
use Rattle.ics_series.specs.PlacedEvents.{Placed, clocks_at}
use Rattle.ics_series.specs.declared.part.Part.{Part}
use Rattle.ics_series.specs.declared.part.Part.TheVariants as part
use Rattle.ics_continued.specs.declared.continued.Continued.{Continued}
use Rattle.ics_series.specs.Inner.ClockSets.{clocks-set}
use Rattle.ics_series.specs.Replaced.{replaced-prop, AreReplaced}
use Rattle.ics_starts.specs.FileZones.{clocks_in}
use Rattle.ics_starts.specs.SeriesLaws.{event-set}

-- a series is that of a master: its times are read by the clocks of the master's file, and it leaves out what overrides replace
pub record IsMasterSeries (files : List FileSaid) (display : Clock) (by : Placed) (c : Continued) : Type 0 where
  pub event : c.series.event.now ≡ by.event
  pub clocks : clocks_in c.series.zones ≡ clocks_at files display by.file
  pub replaced : AreReplaced files display by.event.uid c.series.replaced

pub master-series-prop : (files : List FileSaid) (display : Clock) (by : Placed) (c : Continued) → IsProp (IsMasterSeries files display by c)
master-series-prop files display by c = hlevel (props, event-set, clocks-set, replaced-prop)

-- and of one of the folder
abbrev pub IsOfMaster : List FileSaid → Clock → Continued → Type 0
IsOfMaster files display c = ∥ ((by : Placed) × IsMaster files display by × IsMasterSeries files display by c) ∥₁

-- a series that rests is that of a master
abbrev pub IsKeptIn : List FileSaid → Clock → Option (Box Continued) → Type 0
IsKeptIn files display None = Unit {0}
IsKeptIn files display (Some kept) = IsOfMaster files display kept.value

-- a series, if there is one, is that of a master
abbrev pub IsSeriesOf : List FileSaid → Clock → Placed → Option (Box Continued) → Type 0
IsSeriesOf files display by None = Unit {0}
IsSeriesOf files display by (Some s) = IsMasterSeries files display by s.value

abbrev pub AreKept : List FileSaid → Clock → List (Option (Box Continued)) → Type 0
AreKept files display kept = AllByRecursion (IsKeptIn files display) kept

-- a part that is that of a master, if it is a series
abbrev pub IsPartOf : List FileSaid → Clock → Part → Type 0
IsPartOf files display (part.Singles s) = Unit {0}
IsPartOf files display (part.Series s) = IsOfMaster files display s.series.value

kept-in-prop : (files : List FileSaid) (display : Clock) (kept : Option (Box Continued)) → IsProp (IsKeptIn files display kept)
kept-in-prop files display None = Unit-prop
kept-in-prop files display (Some kept) = hlevel props

pub kept-prop : (files : List FileSaid) (display : Clock) (kept : List (Option (Box Continued))) → IsProp (AreKept files display kept)
kept-prop files display kept = AllByRecursion-prop (IsKeptIn files display) (kept-in-prop files display) kept
