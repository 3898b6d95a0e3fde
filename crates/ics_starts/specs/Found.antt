-- The starts by which an event can meet a window, as they are found.
use Rattle.std.specs.Prelude.{◌≡◌, ◌<ℤ◌, ◌≤ℤ◌, ◌+ℤ◌, ◌-ℤ◌, ℕ, ◌+◌, ◌*◌, ℤ, pos, Bool, true, false, ◌&&◌, not, int_le, int_lt, List, [], ◌∷◌, length}
use Rattle.std.specs.Prelude.{Option, Some, None, if◌then◌else◌}
use Rattle.std.specs.Int.{int_max, int_min}
use Rattle.std.specs.List.{list_any}
use Rattle.std.specs.Ordering.{int_eq}
use Rattle.ics_fields.specs.declared.local.Local.{Local}
use Rattle.ics_event.specs.Event.{stamp_seconds, IsRdate, Length, RdateBelow}
use Rattle.ics_event.specs.declared.event.Event.{Event}
use Rattle.ics_event.specs.Event.{Rdate}
use Rattle.ics_values.specs.declared.time.Length.TheVariants.{Lasting, Open, Until}
use Rattle.ics_values.specs.declared.time.Rdate.TheVariants.{At, Span}
use Rattle.ics_event.specs.Event.{Time}
use Rattle.ics_listing.specs.declared.start.StartSource.{StartSource}
use Rattle.ics_listing.specs.declared.start.StartSource.TheVariants.{Kept, Listed}
use Rattle.ics_listing.specs.declared.start.Start.{Start}
use Rattle.ics_listing.specs.declared.window.Window.{Window}
use Rattle.ics_starts.specs.declared.zones.FileZones.{FileZones}
use Rattle.ics_listing.specs.FileClocks.{Clocks}
use Rattle.ics_starts.specs.Clocks.{instant}
use Rattle.ics_listing.specs.Entry.{Entry}
use Rattle.ics_starts.specs.Finish.{finish, seconds_lasting}
use Rattle.ics_listing.specs.WindowBounds.{lasts_most, window_last}
use Rattle.ics_listing.specs.Listing.{IsIn}
use Rattle.ics_listing.specs.Rising.{Rises}
use Rattle.ics_listing.specs.WindowMeeting.{is_met}
use Rattle.ics_starts.specs.Meeting.{entry_from}
use Rattle.ics_starts.specs.MeetsWindow.{Meets}
use Rattle.ics_starts.specs.Starts.{given_by, GivesStart}
use Rattle.ics_listing.specs.StartTimes.{time_at, time_of}
use Rattle.ics_starts.specs.Exclusions.{is_among}
use Rattle.ics_starts.specs.FileZones.{clocks_in, is_early, is_past}
use Rattle.ics_fields.specs.Locals.{whole_days}
use Rattle.ics_listing.specs.StartOrder.{HasStart, moment_cmp}

-- the start that a source gives by a value
abbrev pub start_by : Clocks → StartSource → Rdate → Start
start_by clocks source given = record { moment = instant clocks (time_of given); source = source; given = given }

-- the start at the local of DTSTART, or at one that the rule keeps
abbrev pub start_at : Clocks → Event → Local → Start
start_at clocks event local = start_by clocks (Kept local) (At (time_at event.start local))

-- a start of the event: its instant, and what gives it
pub record IsStart (clocks : Clocks) (event : Event) (s : Start) : Type 0 where
  pub gives : GivesStart clocks event s.source s.given
  pub moment : s.moment ≡ instant clocks (time_of s.given)

-- a start at the instant of its value, whose times are those of a file with these zones
pub record IsStartIn (zones : FileZones) (s : Start) : Type 0 where
  pub value : IsRdate s.given
  pub below : RdateBelow (length zones.zones.now) s.given
  pub moment : s.moment ≡ instant (clocks_in zones) (time_of s.given)

-- the finish of the event's occurrence with a start
pub record IsFinish (clocks : Clocks) (event : Event) (s : Start) (t : ℤ) : Type 0 where
  pub value : t ≡ finish clocks event s.given
  pub early : t <ℤ (window_last +ℤ lasts_most)

-- An occurrence from this instant meets the window, by the length of one of the sources of this start, whether it is the first or not.
pub record IsSought (clocks : Clocks) (event : Event) (w : Window) (t : ℤ) : Type 0 where
  pub source : StartSource
  pub given : Rdate
  pub gives : GivesStart clocks event source given
  pub starts : instant clocks (time_of given) ≡ t
  pub meets : Meets w (entry_from clocks event given)

-- the same, but only starts that can meet the window and are not before `since` need to be there
pub record AreStartsSince (clocks : Clocks) (event : Event) (w : Window) (since : ℤ) (starts : List Start) : Type 0 where
  pub rises : Rises moment_cmp starts
  pub are : (s : Start) → IsIn s starts → IsStart clocks event s
  pub all : (source : StartSource) (given : Rdate) → GivesStart clocks event source given → IsSought clocks event w (instant clocks (time_of given)) →
      since ≤ℤ instant clocks (time_of given) → HasStart starts source (instant clocks (time_of given))

-- the occurrence with this start, if it meets the window
abbrev pub met_by : Clocks → Window → Event → Start → Option Entry
met_by clocks w event s =
    if is_met w (entry_from clocks event s.given) then Some (entry_from clocks event s.given) else None

-- the list, with a start put before it if the test passes
abbrev pub with_front : Bool → Start → List Start → List Start
with_front true s starts = s ∷ starts
with_front false s starts = starts

-- a start by a PERIOD that meets the window by its own length
abbrev pub is_span_met : Clocks → Window → Event → Start → Rdate → Bool
is_span_met clocks w event s (At time) = false
is_span_met clocks w event s (Span start length) = is_met w (entry_from clocks event s.given)

abbrev pub earlier : Bool → ℤ → ℤ → ℤ
earlier true least t = int_min least t
earlier false least t = least

-- the earliest of an instant and of the starts by PERIODs that meet the window
abbrev pub earliest_from : Clocks → Window → Event → ℤ → List Start → ℤ
earliest_from clocks w event least [] = least
earliest_from clocks w event least (s ∷ starts) =
    earliest_from clocks w event (earlier (is_span_met clocks w event s s.given) least s.moment) starts

-- The first instant at which an event of this length can start and meet the window: none before the window does if what has begun is left out.
abbrev pub first_met : Clocks → Window → Event → ℤ
first_met clocks w event = if w.notstarted then w.from else w.from -ℤ seconds_lasting clocks event

-- The local at which a PERIOD that begins at a time is to end: that of its end, or the start's and its duration, if each day has 86,400 seconds.
abbrev pub span_local : Time → Length → ℤ
span_local start Open = stamp_seconds start.stamp
span_local start (Until end) = stamp_seconds end.stamp
span_local start (Lasting duration) = stamp_seconds start.stamp +ℤ pos (duration.days * 86_400 + duration.seconds)

-- The locals of a PERIOD tell that it has ended before the window: by no clocks it ends six days later than they do.
abbrev pub is_over : Window → Time → Length → Bool
is_over w start length = int_le (stamp_seconds start.stamp) (w.from -ℤ whole_days 6) && int_le (span_local start length) (w.from -ℤ whole_days 6)

-- a PERIOD that is not over begins at this instant
abbrev pub begins_at : Clocks → Window → ℤ → Rdate → Bool
begins_at clocks w t (At time) = false
begins_at clocks w t (Span start length) = not (is_over w start length) && int_eq (instant clocks start) t

-- an RDATE of the event gives such a PERIOD
abbrev pub is_running : Clocks → Window → Event → ℤ → Bool
is_running clocks w event t = list_any (λ rdate. begins_at clocks w t (given_by event.start rdate)) event.rdates

-- Of the instants from one on and before another, these are those at which a PERIOD of the event begins that is not over.
abbrev pub AreRunning : Clocks → Window → Event → ℤ → ℤ → List ℤ → Type 0
AreRunning clocks w event since from running = (t : ℤ) → since ≤ℤ t → t <ℤ from → is_among running t ≡ is_running clocks w event t

-- an instant is between two others
abbrev pub is_between : ℤ → ℤ → ℤ → Bool
is_between from to t = int_lt from t && int_lt t to

-- The start at a time counts, unless its local tells that it is past the window's end or before an instant. If it tells the latter, the start counts if a
-- PERIOD begins at the time's instant that is not over, since the first source at an instant gives the length.
abbrev pub counts : Window → ℤ → Time → Bool → Bool
counts w from time running = if is_early from time then running else not (is_past w time)

-- the start at a time counts, and is at an instant or later
abbrev pub counts_since : Clocks → Window → Event → ℤ → ℤ → Time → Bool
counts_since clocks w event since from time =
    let t = instant clocks time in
    int_le since t && counts w from time (is_running clocks w event t)

-- the starts that count of those that the values of RDATEs give from an instant on, which are the values from a place on
abbrev pub listed_from : Clocks → Window → ℤ → ℤ → Event → ℕ → List Rdate → List Start
listed_from clocks w since from event place [] = []
listed_from clocks w since from event place (rdate ∷ rdates) =
    let given = given_by event.start rdate in
    with_front (counts_since clocks w event since from (time_of given)) (start_by clocks (Listed place) given)
    (listed_from clocks w since from event (place + 1) rdates)

-- The instant from which on the starts by RDATEs count, if those from an instant on are asked for: that one or, if it is later, four days before the first
-- at which an event of this length can meet the window, since by the clock it can end as late as if it began so much later. It is before the window's end.
abbrev pub counts_from : Clocks → Window → Event → ℤ → ℤ
counts_from clocks w event since = int_max (first_met clocks w event -ℤ whole_days 4) (int_min since (w.to -ℤ pos 1))

-- The instant from which on the rule is read: the first at which an event of this length can meet the window or, if it is earlier, the
-- earliest start by a PERIOD that meets it, since a local at that instant gives it the event's length.
abbrev pub earliest : Clocks → Window → Event → List Start → ℤ
earliest clocks w event starts = earliest_from clocks w event (first_met clocks w event) starts
