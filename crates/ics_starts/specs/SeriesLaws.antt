-- What is known of a series has at most one proof.
use Rattle.std.specs.Prelude.{◌≡◌, ℤ, List, Option, None, Some, IfSome}
use Rattle.std.specs.Coded.{Unit-prop, Π_prop, codes}
use Rattle.std.proofs.Props.{props}
use Rattle.ics_event.specs.declared.event.Event.{Event}
use Rattle.ics_starts.specs.declared.rule_starts.RuleStarts.{RuleStarts}
use Rattle.ics_listing.specs.declared.start.Start.{Start}
use Rattle.ics_listing.specs.declared.window.Window.{Window}
use Rattle.ics_starts.specs.declared.zones.FileZones.{FileZones}
use Rattle.ics_listing.specs.FileClocks.{Clocks}
use Rattle.ics_listing.specs.Entry.{Entry}
use Rattle.ics_starts.specs.Exclusions.{AreExclusions}
use Rattle.ics_starts.specs.SeriesStarts.{AreStartsIn, HasOwnRule, HasRuled, IsFirstGiven}
use Rattle.ics_starts.specs.Found.{IsStartIn}
use Rattle.ics_starts.specs.EventLaws.{rdate-below-prop, rdate-prop}

start-in-prop : (zones : FileZones) (s : Start) → IsProp (IsStartIn zones s)
start-in-prop zones s = hlevel (props, rdate-prop, rdate-below-prop)

pub starts-in-prop : (zones : FileZones) (starts : List Start) → IsProp (AreStartsIn zones starts)
starts-in-prop zones starts = Π_prop λ s. Π_prop λ m. start-in-prop zones s

pub taken-out-prop : (clocks : Clocks) (event : Event) (w : Window) (from : ℤ) (running instants days : List ℤ)
    → IsProp (AreExclusions clocks event w from running instants days)
taken-out-prop clocks event w from running instants days = hlevel props

pub ruled-prop : (clocks : Clocks) (event : Event) (o : Option RuleStarts) (coming : List Entry) → IsProp (HasRuled clocks event o coming)
ruled-prop clocks event None coming = Unit-prop
ruled-prop clocks event (Some s) coming = Π_prop λ o. Π_prop λ m. Π_prop λ local. Π_prop λ k. hlevel props

pub first-given-prop : (clocks : Clocks) (w : Window) (event : Event) (since : ℤ) (o : Option ℤ) → IsProp (IfSome o (IsFirstGiven clocks w event since))
first-given-prop clocks w event since None = Unit-prop
first-given-prop clocks w event since (Some t) = Π_prop λ local. Π_prop λ e. hlevel props

zones-set : (a b : FileZones) → IsProp (a ≡ b)
zones-set a b = hlevel (props, codes)

pub event-set : (a b : Event) → IsProp (a ≡ b)
event-set a b = hlevel (props, codes)

window-set : (a b : Window) → IsProp (a ≡ b)
window-set a b = hlevel (props, codes)

pub own-rule-prop : (zones : FileZones) (event : Event) (w : Window) (first : ℤ) (o : Option RuleStarts) → IsProp (HasOwnRule zones event w first o)
own-rule-prop zones event w first None = hlevel props
own-rule-prop zones event w first (Some s) = hlevel (props, zones-set, event-set, window-set)
