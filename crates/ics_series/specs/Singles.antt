-- The events of a folder that start once, and what they give: overrides, and masters without RRULE, RDATE and EXDATE
-- (RFC 5545, sections 3.6.1 and 3.8.4.4).
use Rattle.std.specs.Prelude.{◌≡◌, ◌&&◌, ℤ, Bool, true, List, Option, Some, None, if◌then◌else◌}
use Rattle.std.specs.List.{AllByRecursion, AllByRecursion-prop}
use Rattle.std.specs.Option.{option_and_then}
use Rattle.std.proofs.Props.{props}
use Rattle.ics_file.specs.File.{FileSaid}
use Rattle.ics_event.specs.declared.event.Event.{Event}
use Rattle.ics_listing.specs.declared.window.Window.{Window}
use Rattle.ics_listing.specs.FileClocks.{Clock, Clocks}
use Rattle.ics_listing.specs.Entry.{Entry, Rank}
use Rattle.ics_listing.specs.WindowMeeting.{is_met}
use Rattle.ics_series.specs.Meets.{IsToCome}
use Rattle.ics_series.specs.Overridden.{is_kept}
use Rattle.ics_listing.specs.After.{is_after}
use Rattle.ics_series.specs.PlacedEvents.{clocks_at}
use Rattle.ics_series.specs.Spots.{event_at}
use Rattle.ics_series.specs.Versions.{Label}
use Rattle.ics_starts.specs.SingleEvents.{is_single, entry_first}

-- the events of these occurrences start once
abbrev pub AreSingle : List Entry → Type 0
AreSingle list = AllByRecursion (λ o. is_single o.event ≡ true) list

pub single-prop : (o : Entry) → IsProp (is_single o.event ≡ true)
single-prop o = hlevel props

pub AreSingle-prop : (list : List Entry) → IsProp (AreSingle list)
AreSingle-prop list = AllByRecursion-prop (λ o. is_single o.event ≡ true) single-prop list

-- the occurrences to come whose events start once
abbrev pub IsSingleToCome : List FileSaid → Clock → Window → Option Rank → Entry → Type 0
IsSingleToCome files display w after o = IsToCome files display w after o × (is_single o.event ≡ true)

-- an occurrence meets the window, comes after the key, and is replaced by no override
abbrev pub is_to_come : Window → List Label → Option Rank → Entry → Bool
is_to_come w overrides after o = is_met w o && is_after after o && is_kept overrides o

-- the occurrence of an event at its DTSTART, if it is to come and the event starts there alone
abbrev pub single_of : Clocks → Window → List Label → Option Rank → Option ℤ → Event → Option Entry
single_of clocks w overrides after recurrence event =
    let o = entry_first clocks event recurrence in
    if is_single event && is_to_come w overrides after o then Some o else None

-- the same for the event of a version
abbrev pub single_at : List FileSaid → Clock → Window → List Label → Option Rank → Label → Option Entry
single_at files display w overrides after label =
    option_and_then (single_of (clocks_at files display label.spot.file) w overrides after label.subject.recurrence) (event_at files label.spot)
