-- The events of a file with the numbers of their parts, as they are kept.
use Rattle.std.specs.Prelude.{◌≡◌, ℕ, List, Option, length}
use Rattle.std.specs.BTreeMap.{BTreeMap}
use Rattle.ics_components.specs.declared.fault.Fault.{Fault}
use Rattle.ics_calendar.specs.declared.labels.Labels.{Labels}
use Rattle.ics_calendar.specs.declared.summed_uid.SummedUid.{SummedUid}
use Rattle.ics_calendar.specs.Inner.PartsRead.{Labelled, Numbered, place_from}
use Rattle.ics_calendar.specs.Inner.SummedUids.{place_of}

pub record AreNumbered (had : Numbered) (by_uid : BTreeMap SummedUid ℕ) (faults : List (Option Fault)) : Type 0 where
  pub places : (uid : List ℕ) → place_of by_uid uid ≡ place_from 0 had.keys uid
  pub first : faults ≡ had.faults
  pub long : length had.faults ≡ length had.keys

pub record AreLabels (had : Labelled) (labels : Labels) : Type 0 where
  pub numbered : AreNumbered had.numbered labels.by_uid labels.faults.items
  pub events : labels.events.items ≡ had.events
