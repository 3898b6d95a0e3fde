-- The starts that the rule of an event gives before the end of a window, as one rising list.
use Rattle.std.specs.Prelude.{◌≡◌, ◌≤ℤ◌, ◌<ℤ◌, ℕ, zero, suc, ◌+◌, ◌-◌, ◌≤◌, ℤ, ◌-ℤ◌, ◌+ℤ◌, Bool, true, false, ◌&&◌, ◌||◌, ◌==◌, not, int_le, int_lt, pos}
use Rattle.std.specs.Prelude.{List, Option, Some, None, if◌then◌else◌}
use Rattle.std.specs.Int.{int_max, int_min}
use Rattle.std.specs.Prelude.{[], ◌∷◌}
use Rattle.ics_fields.specs.Days.{day_index, day_numbered}
use Rattle.ics_fields.specs.Locals.{local_at, number, midnight, whole_days, year_number, year_seconds}
use Rattle.ics_fields.specs.declared.local.Local.{Local}
use Rattle.ics_rule.specs.Cursors.{looks_from, HasLooked}
use Rattle.ics_rule.specs.Kept.{is_kept, until_moment}
use Rattle.ics_period.specs.PeriodNumbers.{day_of, rules_end}
use Rattle.ics_period.specs.Recurrence.{Recurrence}
use Rattle.ics_rule.specs.declared.cursor.Cursor.{Cursor}
use Rattle.ics_event.specs.declared.event.Event.{Event}
use Rattle.ics_values.specs.declared.stamp.Stamp.{Stamp}
use Rattle.ics_values.specs.declared.stamp.Stamp.TheVariants.{Date, Floating, Utc, Zoned}
use Rattle.ics_listing.specs.declared.start.StartSource.{StartSource}
use Rattle.ics_listing.specs.declared.start.StartSource.TheVariants.{Kept, Listed}
use Rattle.ics_listing.specs.declared.start.Start.{Start}
use Rattle.ics_listing.specs.declared.window.Window.{Window}
use Rattle.ics_listing.specs.FileClocks.{Clocks}
use Rattle.ics_zone.specs.declared.stretch.Stretch.{Stretch}
use Rattle.ics_starts.specs.Clocks.{instant, is_in}
use Rattle.ics_listing.specs.StartOrder.{moment_cmp}
use Rattle.ics_starts.specs.Found.{start_at}
use Rattle.ics_zone.specs.Observances.{is_until}
use Rattle.ics_listing.specs.Listing.{IsIn}
use Rattle.ics_listing.specs.Merged.{put, union}
use Rattle.ics_listing.specs.StartTimes.{time_at}

-- the local with a number
abbrev pub local_numbered : ℕ → Local
local_numbered n = local_at (day_numbered (day_of n)) n

-- the instant at which that local would start the event
abbrev pub moment_numbered : Clocks → Event → ℕ → ℤ
moment_numbered clocks event n = instant clocks (time_at event.start (local_numbered n))

-- the rule allows the instant of the local with this number: the local is DTSTART, or the instant is not after an UNTIL in UTC
abbrev pub lets_until : Recurrence → ℕ → ℤ → Bool
lets_until rule n t = (n == number rule.start) || is_until (until_moment rule) t

-- the local with this number gives the event a start before the window's end: the rule keeps it and allows its instant
unfoldable pub gives : Clocks → Event → Recurrence → Window → ℕ → Bool
gives clocks event rule w n =
    is_kept rule n && (lets_until rule n (moment_numbered clocks event n) && int_lt (moment_numbered clocks event n) w.to)

-- The instant from which on a rule gives no start in a window: the window's end or, if that is earlier, the second after the later of an
-- UNTIL in UTC and DTSTART's local.
abbrev pub ends_at : Window → Option ℤ → ℤ → ℤ
ends_at w None first = w.to
ends_at w (Some until) first = int_min w.to (int_max until first +ℤ pos 1)

-- the list, with a start put in its place if the test passes
abbrev pub with_put : Bool → Start → List Start → List Start
with_put true s starts = put moment_cmp s starts
with_put false s starts = starts

-- the held starts, with one more if the test passes and none at its instant is held
abbrev pub with_held : Bool → Start → List Start → List Start
with_held true s held = union moment_cmp held (s ∷ [])
with_held false s held = held

-- The starts that n locals from one on give, in the order of their instants. Of two at one instant, the one by the earlier local counts.
abbrev pub found_in : Clocks → Event → Recurrence → Window → ℕ → ℕ → List Start
found_in clocks event rule w from zero = []
found_in clocks event rule w from (suc n) =
    with_put (gives clocks event rule w from) (start_at clocks event (local_numbered from)) (found_in clocks event rule w (from + 1) n)

-- the starts that all locals from one on give
unfoldable pub found : Clocks → Event → Recurrence → Window → ℕ → List Start
found clocks event rule w from = found_in clocks event rule w from (rules_end - from)

-- the starts still to come: the held ones, and those that the locals from a place on give
unfoldable pub to_come : Clocks → Event → Recurrence → Window → List Start → ℕ → List Start
to_come clocks event rule w held place = union moment_cmp held (found clocks event rule w place)

-- the number of the local that gives a start
abbrev pub number_in : StartSource → ℕ
number_in (Kept local) = number local
number_in (Listed place) = 0

-- the number of a day's midnight
abbrev pub midnight_number : ℤ → ℕ
midnight_number day = number (local_at day 0)

-- a start by a local that gives one, in the five UTC days of which the fourth begins at this day's midnight
pub record IsHeld (clocks : Clocks) (event : Event) (rule : Recurrence) (w : Window) (day : ℤ) (s : Start) : Type 0 where
  pub by : s ≡ start_at clocks event (local_numbered (number_in s.source))
  pub given : gives clocks event rule w (number_in s.source) ≡ true
  pub late : (midnight day -ℤ whole_days 3) ≤ℤ s.moment
  pub early : s.moment <ℤ (midnight day +ℤ whole_days 2)

abbrev pub AreHeld : Clocks → Event → Recurrence → Window → ℤ → List Start → Type 0
AreHeld clocks event rule w day starts = (s : Start) → IsIn s starts → IsHeld clocks event rule w day s

-- the seconds of the first local that can be read: a date is read at its midnight
abbrev pub read_from : Stamp → ℤ → ℤ → ℤ
read_from (Date first) day next = midnight day
read_from (Floating first) day next = next
read_from (Utc first) day next = next
read_from (Zoned first) day next = next

-- An instant that is before those of all locals from one on, where a stretch of locals is known: if the first is in it, those in it mean instants by its
-- offset, and later ones by no more than the greatest.
unfoldable pub settled_from : Stretch → ℤ → ℤ → ℤ
settled_from stretch most local =
    (if is_in stretch local then int_min (local -ℤ stretch.offset +ℤ most) stretch.to else local) -ℤ most -ℤ pos 1

-- the first start is not after an instant
abbrev pub is_ready : ℤ → List Start → Bool
is_ready settled [] = false
is_ready settled (s ∷ starts) = int_le s.moment settled

-- another local has to be read before the first start still to come is known: one that is left can be before the window's end, and before what is held
abbrev pub is_behind : ℤ → ℤ → ℤ → ℤ → List Start → Bool
is_behind settled day end to held = (int_lt day end && int_lt settled (to -ℤ pos 1)) && not (is_ready settled held)

-- a cursor set at `from` has looked only at periods that hold a local before a day's midnight, from there on or, under COUNT, from DTSTART
-- on
abbrev pub HasLookedTo : Recurrence → Local → ℤ → Cursor → Type 0
HasLookedTo rule from day cursor =
    (before : ℕ) → midnight_number day ≤ before
    → HasLooked rule cursor (looks_from rule.parts.count (number rule.start) (number from)) before

-- All locals before a day's midnight have been read, and all whose seconds are before `next`, up to a place. The day that is not asked for yet
-- is the day or the next, and not after the end.
pub record IsReadTo (day asked end next : ℤ) (place : ℕ) : Type 0 where
  pub read : midnight_number day ≤ place
  pub next_read : (next +ℤ pos (year_number 1_970)) ≤ℤ pos place
  pub next_on : midnight day ≤ℤ next
  pub low : year_seconds 0 ≤ℤ midnight day
  pub on : day ≤ℤ asked
  pub soon : asked ≤ℤ (day +ℤ pos 1)
  pub by_end : asked ≤ℤ end

-- how many seconds and days are left to be read at most
abbrev pub steps_left : ℤ → ℤ → ℕ → ℕ
steps_left day end place = (midnight_number end - place) + (day_index end - day_index day)
