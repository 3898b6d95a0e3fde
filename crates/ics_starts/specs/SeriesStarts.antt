-- The starts of a series still to come, and the occurrences that they give.
use Rattle.std.specs.Prelude.{◌≡◌, ◌<◌, ◌≤◌, ◌<ℤ◌, ◌≤ℤ◌, ℕ, ℤ, ◌+ℤ◌, ◌-ℤ◌, Bool, true, false, ◌&&◌, ◌||◌, not, int_le, List, [], ◌∷◌, Option, None, Some}
use Rattle.std.specs.Prelude.{◌⊎◌, if◌then◌else◌, is_none}
use Rattle.std.specs.Int.{int_max, int_min}
use Rattle.std.specs.List.{filter_map, list_any}
use Rattle.std.specs.Ordering.{int_eq}
use Rattle.ics_fields.specs.Days.{IsDayNumber}
use Rattle.ics_fields.specs.RuleParts.{RuleParts}
use Rattle.ics_fields.specs.declared.local.Local.{Local}
use Rattle.ics_fields.specs.Locals.{number, midnight, local_seconds, whole_days}
use Rattle.ics_period.specs.Recurrence.{Recurrence}
use Rattle.ics_rule.specs.Cursors.{place_of}
use Rattle.ics_event.specs.declared.event.Event.{Event}
use Rattle.ics_values.specs.declared.time.Rdate.TheVariants.{At}
use Rattle.ics_zone.specs.declared.bounds.Bounds.{Bounds}
use Rattle.ics_listing.specs.declared.listed_starts.ListedStarts.{ListedStarts}
use Rattle.ics_starts.specs.declared.rule_starts.RuleStarts.{RuleStarts}
use Rattle.ics_listing.specs.declared.start.Start.{Start}
use Rattle.ics_listing.specs.declared.window.Window.{Window}
use Rattle.ics_starts.specs.declared.zones.FileZones.{FileZones}
use Rattle.ics_listing.specs.FileClocks.{Clocks}
use Rattle.ics_starts.specs.Clocks.{clock_of, instant, IsBounded}
use Rattle.ics_listing.specs.Entry.{Entry}
use Rattle.ics_starts.specs.Exclusions.{is_among, is_excluded}
use Rattle.ics_starts.specs.Found.{counts_from, earliest, listed_from, start_at, IsStartIn}
use Rattle.ics_listing.specs.StartOrder.{moment_cmp}
use Rattle.ics_starts.specs.FileZones.{clocks_in}
use Rattle.ics_starts.specs.Leeway.{late_within, seconds_back}
use Rattle.ics_listing.specs.Listing.{IsIn}
use Rattle.ics_starts.specs.Meeting.{entry_from}
use Rattle.ics_listing.specs.WindowMeeting.{is_met}
use Rattle.ics_listing.specs.Merged.{cut, union}
use Rattle.ics_starts.specs.MeetsWindow.{IsEventMet}
use Rattle.ics_starts.specs.RuleFeed.{is_unsettled, starts_left, HasPassed, HasSameSource, IsAmid, IsEarlier, IsTakenOut}
use Rattle.ics_starts.specs.RuleStarts.{found, moment_numbered, steps_left}
use Rattle.ics_listing.specs.StartTimes.{local_of, time_at}
use Rattle.ics_starts.specs.Starts.{recurrence_of, IsRuleStart}
use Rattle.ics_listing.specs.KnownStarts.{listed_left}

-- an occurrence of the event that meets the window and begins at this instant or later, but at none that others replace
abbrev pub IsSeriesMet : Clocks → Event → Window → ℤ → List ℤ → Entry → Type 0
IsSeriesMet clocks event w since replaced o = IsEventMet clocks event w o × ((since ≤ℤ o.start) × (is_among replaced o.start ≡ false))

-- the starts that the rule still gives, if there is one
abbrev pub rule_left : Option RuleStarts → List Start
rule_left None = []
rule_left (Some s) = starts_left s

-- the starts of both kinds still to come. At one instant, the one by the rule replaces the one by an RDATE
abbrev pub left : Option RuleStarts → ListedStarts → List Start
left rule listed = union moment_cmp (rule_left rule) (listed_left listed)

-- the first start that the rule gives is known
abbrev pub IsReady : Option RuleStarts → Type 0
IsReady None = Unit {0}
IsReady (Some s) = is_unsettled s ≡ false

-- how many seconds and days of the rule are left to be read at most
abbrev pub rule_steps : Option RuleStarts → ℕ
rule_steps None = 0
rule_steps (Some s) = steps_left s.day s.end (place_of s.cursor)

-- the starts are those of the same rule
abbrev pub HasSameRule : Option RuleStarts → Option RuleStarts → Type 0
HasSameRule None None = Unit {0}
HasSameRule (Some old) (Some new) = HasSameSource old new
HasSameRule _ _ = ⊥

-- of the rule, if there is one, locals were passed over of which something holds
abbrev pub ArePassed : (RuleStarts → ℕ → Type 0) → Option RuleStarts → Option RuleStarts → Type 0
ArePassed P None None = Unit {0}
ArePassed P (Some old) (Some new) = HasPassed (P old) old new
ArePassed P _ _ = ⊥

-- these instants and days remove all of them that the rule keeps
abbrev pub AreSkipped : List ℤ → List ℤ → Option RuleStarts → Option RuleStarts → Type 0
AreSkipped instants days old new = ArePassed (IsTakenOut instants days) old new

-- all of them mean instants before this one
abbrev pub AreEnded : ℤ → Option RuleStarts → Option RuleStarts → Type 0
AreEnded t old new = ArePassed (IsEarlier t) old new

-- all of them mean instants from the first of these on and before the second
abbrev pub AreLeapt : ℤ → ℤ → Option RuleStarts → Option RuleStarts → Type 0
AreLeapt t u old new = ArePassed (IsAmid t u) old new

-- the starts by RDATEs from an instant on that count
abbrev pub listed_of : Clocks → Window → Event → ℤ → List Start
listed_of clocks w event since = listed_from clocks w since (counts_from clocks w event since) event 0 event.rdates

-- the starts that are known from the beginning: those by RDATEs and, if there is no rule, the one at DTSTART
abbrev pub listed_apart : Clocks → Window → Event → ℤ → Option RuleParts → List Start
listed_apart clocks w event since None = start_at clocks event (local_of event.start.stamp) ∷ listed_of clocks w event since
listed_apart clocks w event since (Some parts) = listed_of clocks w event since

-- The instant from which on starts are needed. None is at the window's end or later, so that two weeks past it will do for all later instants.
abbrev pub first_asked : Clocks → Window → Event → ℤ → List Start → ℤ
first_asked clocks w event since starts = int_max (earliest clocks w event starts) (int_min since (w.to +ℤ whole_days 14))

-- the locals from DTSTART's on and before this one mean instants before one
abbrev pub AreTooEarly : Clocks → Event → Local → ℤ → Type 0
AreTooEarly clocks event from first = (n : ℕ) → number (local_of event.start.stamp) ≤ n → n < number from → moment_numbered clocks event n <ℤ first

-- From this local on the event's rule is read, if its starts are needed from this instant on. It is not before DTSTART, and no more than so many seconds
-- and a day before the instant. Those before it mean instants before that one, by more seconds than an occurrence of the event can end late.
pub record IsRuleBegin (clocks : Clocks) (event : Event) (first : ℤ) (from : Local) : Type 0 where
  pub day : IsDayNumber from.day
  pub bounds : Bounds
  pub bounded : IsBounded (clock_of clocks event.start) bounds
  pub late : int_max (local_seconds (local_of event.start.stamp)) (first -ℤ (seconds_back event +ℤ whole_days 1)) ≤ℤ local_seconds from
  pub low : AreTooEarly clocks event from (first -ℤ late_within bounds event)

-- The starts that the event's rule gives by the locals from one on. By none before it can it give one that is needed: it means an instant before the first
-- that is asked for, by more seconds than an occurrence of the event can end late.
pub record IsRuleFrom (clocks : Clocks) (event : Event) (w : Window) (since : ℤ) (listed starts : List Start) : Type 0 where
  pub rule : Recurrence
  pub has : recurrence_of event ≡ Some rule
  pub from : Local
  pub day : IsDayNumber from.day
  pub bounds : Bounds
  pub bounded : IsBounded (clock_of clocks event.start) bounds
  pub low : AreTooEarly clocks event from (first_asked clocks w event since listed -ℤ late_within bounds event)
  pub gives : starts ≡ found clocks event rule w (number from)

-- These starts are those of this event's rule in this window. They are read from a local on that is not before DTSTART, and no more than
-- so many seconds and a day before the first instant that is needed. Those before it mean instants before that one.
pub record IsOwnRule (zones : FileZones) (event : Event) (w : Window) (first : ℤ) (s : RuleStarts) : Type 0 where
  pub zones_are : s.zones ≡ zones
  pub event_is : s.event.now ≡ event
  pub window_is : s.window ≡ w
  pub day : IsDayNumber s.from.day
  pub late : int_max (local_seconds (local_of event.start.stamp)) (first -ℤ (seconds_back event +ℤ whole_days 1)) ≤ℤ local_seconds s.from
  pub low : AreTooEarly (clocks_in zones) event s.from first

-- there are none only if the event has no rule
abbrev pub HasOwnRule : FileZones → Event → Window → ℤ → Option RuleStarts → Type 0
HasOwnRule zones event w first None = is_none event.rule ≡ true
HasOwnRule zones event w first (Some s) = IsOwnRule zones event w first s

-- the instant from which on a series needs starts
abbrev pub first_of : Clocks → Window → Event → ℤ → ℤ
first_of clocks w event since = first_asked clocks w event since (listed_apart clocks w event since event.rule)

-- an EXDATE removes a start at this instant, or others replace it
abbrev pub is_left_out : Clocks → Event → List ℤ → ℤ → Bool
is_left_out clocks event replaced t = is_excluded clocks event t || is_among replaced t

-- the occurrence begins at this instant or later and meets the window, and is not left out
abbrev pub is_wanted : Clocks → Window → Event → ℤ → List ℤ → Entry → Bool
is_wanted clocks w event since replaced o = int_le since o.start && (is_met w o && not (is_left_out clocks event replaced o.start))

-- the occurrence with this start, if it belongs to the series
abbrev pub wanted_by : Clocks → Window → Event → ℤ → List ℤ → Start → Option Entry
wanted_by clocks w event since replaced s =
    if is_wanted clocks w event since replaced (entry_from clocks event s.given) then Some (entry_from clocks event s.given) else None

-- no start at a local before this instant gives such an occurrence by the event's length, be it replaced or not
abbrev pub IsFirstGiven : Clocks → Window → Event → ℤ → ℤ → Type 0
IsFirstGiven clocks w event since t = (local : Local) → is_wanted clocks w event since [] (entry_from clocks event (At (time_at event.start local))) ≡ true
    → t ≤ℤ instant clocks (time_at event.start local)

-- the occurrences that these starts give
abbrev pub given_of : Clocks → Window → Event → ℤ → List ℤ → List Start → List Entry
given_of clocks w event since replaced starts = filter_map (wanted_by clocks w event since replaced) starts

-- one of these starts is at an instant
abbrev pub has_moment : List Start → ℤ → Bool
has_moment starts t = list_any (λ s. int_eq s.moment t) starts

-- an instant is that of DTSTART's local, or of a local that the rule keeps
abbrev pub IsKeptAt : Clocks → Event → Local → ℤ → Type 0
IsKeptAt clocks event local t =
    ((local ≡ local_of event.start.stamp) ⊎ IsRuleStart clocks event local) × (instant clocks (time_at event.start local) ≡ t)

-- the day up to whose midnight the cursor of a rule has searched
abbrev pub rule_asked : Option RuleStarts → Option ℤ
rule_asked None = None
rule_asked (Some s) = Some s.asked

-- That midnight is no more than three days past this instant, if it is that of such a local.
abbrev pub IsAskedNear : Clocks → Event → Option ℤ → ℤ → Type 0
IsAskedNear clocks event None t = Unit {0}
IsAskedNear clocks event (Some day) t = (local : Local) → IsKeptAt clocks event local t → (midnight day -ℤ whole_days 3) ≤ℤ t

-- if an occurrence still to come begins at the instant of such a local, these starts have one there
abbrev pub HaveRuled : Clocks → Event → List Start → List Entry → Type 0
HaveRuled clocks event starts coming =
    (o : Entry) → IsIn o coming → (local : Local) → IsKeptAt clocks event local o.start → has_moment starts o.start ≡ true

abbrev pub HasRuled : Clocks → Event → Option RuleStarts → List Entry → Type 0
HasRuled clocks event None coming = Unit {0}
HasRuled clocks event (Some s) coming = HaveRuled clocks event (starts_left s) coming

abbrev pub AreStartsIn : FileZones → List Start → Type 0
AreStartsIn zones starts = (s : Start) → IsIn s starts → IsStartIn zones s

-- a start is the first of two lists, which it leaves without those at its instant, or None if both are empty
abbrev pub IsFirstOf : Option Start → List Start → List Start → Type 0
IsFirstOf None xs ys = union moment_cmp xs ys ≡ []
IsFirstOf (Some s) xs ys = union moment_cmp xs ys ≡ s ∷ union moment_cmp (cut moment_cmp s xs) (cut moment_cmp s ys)
