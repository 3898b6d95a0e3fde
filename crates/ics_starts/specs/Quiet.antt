-- From when on an event can occur again, whatever the window.
use Rattle.std.specs.Prelude.{◌≡◌, ◌<◌, ◌≤◌, ◌≤ℤ◌, ℕ, ℤ, true, ◌&&◌, Bool, slice_get, Some}
use Rattle.std.specs.Coded.{Π_prop}
use Rattle.std.proofs.Props.{props}
use Rattle.ics_event.specs.declared.event.Event.{Event}
use Rattle.ics_event.specs.Event.{Rdate, Time}
use Rattle.ics_fields.specs.Locals.{number}
use Rattle.ics_rule.specs.Kept.{is_kept}
use Rattle.ics_period.specs.Recurrence.{Recurrence}
use Rattle.ics_listing.specs.declared.window.Window.{Window}
use Rattle.ics_listing.specs.FileClocks.{Clocks}
use Rattle.ics_starts.specs.Clocks.{instant}
use Rattle.ics_listing.specs.Entry.{Entry}
use Rattle.ics_starts.specs.Instances.{IsOf}
use Rattle.ics_starts.specs.RuleStarts.{lets_until, moment_numbered}
use Rattle.ics_starts.specs.Starts.{given_by}
use Rattle.ics_listing.specs.StartTimes.{time_of}

-- the rule keeps the local with this number and allows its instant
abbrev pub starts_by : Clocks → Event → Recurrence → ℕ → Bool
starts_by clocks event rule n = is_kept rule n && lets_until rule n (moment_numbered clocks event n)

-- the local with this number, which gives a start at the window's end or later, does not before an instant
abbrev pub IsFromOn : Clocks → Event → Recurrence → Window → ℤ → ℕ → Type 0
IsFromOn clocks event rule w t n =
    starts_by clocks event rule n ≡ true → w.to ≤ℤ moment_numbered clocks event n → t ≤ℤ moment_numbered clocks event n

-- it is so of the locals from one on and before another
abbrev pub AreBeyond : Clocks → Event → Recurrence → Window → ℕ → ℕ → ℤ → Type 0
AreBeyond clocks event rule w from before t = (n : ℕ) → from ≤ n → n < before → IsFromOn clocks event rule w t n

-- and of all from one on that are after DTSTART
abbrev pub AreQuiet : Clocks → Event → Recurrence → Window → ℕ → ℤ → Type 0
AreQuiet clocks event rule w from t = (n : ℕ) → from ≤ n → number rule.start < n → IsFromOn clocks event rule w t n

pub beyond-prop : (clocks : Clocks) (event : Event) (rule : Recurrence) (w : Window) (from before : ℕ) (t : ℤ)
    → IsProp (AreBeyond clocks event rule w from before t)
beyond-prop clocks event rule w from before t = Π_prop λ n. Π_prop λ l. Π_prop λ u. Π_prop λ k. Π_prop λ h. hlevel props

-- a start at the instant `from` or later is not before an instant t
abbrev pub IsAgain : Clocks → ℤ → ℤ → Time → Type 0
IsAgain clocks from t time = from ≤ℤ instant clocks time → t ≤ℤ instant clocks time

-- it is so of DTSTART and of the RDATEs
pub record AreListedAgain (clocks : Clocks) (event : Event) (from t : ℤ) : Type 0 where
  pub start : IsAgain clocks from t event.start
  pub each : (k : ℕ) (rdate : Rdate) → slice_get event.rdates k ≡ Some rdate → IsAgain clocks from t (time_of (given_by event.start rdate))

-- no occurrence of the event that begins at the window's end or later, and no earlier than an instant, begins before another
abbrev pub IsQuietTo : Clocks → Event → Window → ℤ → ℤ → Type 0
IsQuietTo clocks event w since t = (o : Entry) → IsOf clocks event o → w.to ≤ℤ o.start → since ≤ℤ o.start → t ≤ℤ o.start
