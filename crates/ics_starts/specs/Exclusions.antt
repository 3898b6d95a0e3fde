-- Which starts the EXDATEs of an event remove (RFC 5545, section 3.8.5.1).
use Rattle.std.specs.Prelude.{◌≡◌, ◌<ℤ◌, ℤ, Bool, true, false, ◌||◌, int_le, List, [], ◌∷◌, ◌++◌}
use Rattle.std.specs.List.{list_any}
use Rattle.std.specs.Ordering.{int_eq}
use Rattle.ics_values.specs.declared.stamp.Stamp.{Stamp}
use Rattle.ics_values.specs.declared.stamp.Stamp.TheVariants.{Date, Floating, Utc, Zoned}
use Rattle.ics_event.specs.declared.event.Event.{Event}
use Rattle.ics_event.specs.Event.{Time}
use Rattle.ics_listing.specs.declared.window.Window.{Window}
use Rattle.ics_listing.specs.FileClocks.{Clock, Clocks}
use Rattle.ics_starts.specs.Clocks.{clock_of, instant, local_at}
use Rattle.ics_listing.specs.StartTimes.{date_only}
use Rattle.ics_fields.specs.Locals.{day_of_local}

-- the day that a clock shows at an instant
abbrev pub shown_day : Clock → ℤ → ℤ
shown_day clock t = day_of_local (local_at clock t)

-- If the event has date-times, an EXDATE removes the start at its instant. One that is a date removes each start at which DTSTART's clock shows it.
abbrev pub excludes_time : Clocks → Time → Time → Stamp → ℤ → Bool
excludes_time clocks first exdate (Date day) t = int_eq day (shown_day (clock_of clocks first) t)
excludes_time clocks first exdate (Floating local) t = int_eq (instant clocks exdate) t
excludes_time clocks first exdate (Utc local) t = int_eq (instant clocks exdate) t
excludes_time clocks first exdate (Zoned local) t = int_eq (instant clocks exdate) t

-- If the event has dates, an EXDATE of any form means its date.
abbrev pub excludes_by : Clocks → Time → Stamp → Time → ℤ → Bool
excludes_by clocks first (Date day) exdate t = int_eq (instant clocks (date_only exdate)) t
excludes_by clocks first (Floating local) exdate t = excludes_time clocks first exdate exdate.stamp t
excludes_by clocks first (Utc local) exdate t = excludes_time clocks first exdate exdate.stamp t
excludes_by clocks first (Zoned local) exdate t = excludes_time clocks first exdate exdate.stamp t

-- an EXDATE removes a start at this instant from an event with this DTSTART
abbrev pub excludes : Clocks → Time → Time → ℤ → Bool
excludes clocks first exdate t = excludes_by clocks first first.stamp exdate t

-- one of the event's EXDATEs removes a start at this instant
abbrev pub is_excluded : Clocks → Event → ℤ → Bool
is_excluded clocks event t = list_any (λ exdate. excludes clocks event.start exdate t) event.exdates

-- one of these days is the one that a clock shows at an instant
abbrev pub is_day_in : Clock → List ℤ → ℤ → Bool
is_day_in clock days t = list_any (λ day. int_eq day (shown_day clock t)) days

-- one of these instants is this one
abbrev pub is_among : List ℤ → ℤ → Bool
is_among instants t = list_any (λ x. int_eq x t) instants

-- these instants, or these days by a clock, remove a start at this instant
abbrev pub takes_out : Clock → List ℤ → List ℤ → ℤ → Bool
takes_out clock instants days t = is_among instants t || is_day_in clock days t

-- an instant is not before one, or is one of some
abbrev pub is_known : ℤ → List ℤ → ℤ → Bool
is_known from running t = int_le from t || is_among running t

-- Of the starts before the window's end that are not before an instant, or are at one of some, they remove those that the EXDATEs remove, and no others
-- at all.
pub record AreExclusions (clocks : Clocks) (event : Event) (w : Window) (from : ℤ) (running instants days : List ℤ) : Type 0 where
  pub only : (t : ℤ) → takes_out (clock_of clocks event.start) instants days t ≡ true → is_excluded clocks event t ≡ true
  pub same : (t : ℤ) → is_known from running t ≡ true → t <ℤ w.to → takes_out (clock_of clocks event.start) instants days t ≡ is_excluded clocks event t

-- the list, with an instant added at its end if the test passes
abbrev pub with_instant : Bool → List ℤ → ℤ → List ℤ
with_instant true instants t = instants ++ (t ∷ [])
with_instant false instants t = instants
