-- What is known of the rule of an event, and of its starts while they are read, has at most one proof.
use Rattle.std.specs.Prelude.{◌≡◌, ◌<ℤ◌, ◌≤ℤ◌, ◌+ℤ◌, ◌-ℤ◌, Bool, false, ℕ, ℤ, pos, List, Option, None, Some}
use Rattle.std.specs.Int.{int_min}
use Rattle.std.specs.Coded.{Unit-prop, Π_prop, codes}
use Rattle.std.proofs.Props.{props}
use Rattle.ics_rule.specs.Cursors.{CountedBy, HasLooked, IsCursorIn, IsCursorOf}
use Rattle.ics_period.specs.EffectiveRules.{effective}
use Rattle.ics_fields.specs.Locals.{local_seconds, number, midnight, whole_days}
use Rattle.ics_rule.specs.Kept.{is_kept, until_moment}
use Rattle.ics_rule.specs.Next.{NoneKept}
use Rattle.ics_period.specs.Recurrence.{Recurrence}
use Rattle.ics_rule.specs.declared.cursor.Cursor.{Cursor}
use Rattle.ics_period.specs.declared.effective_rule.EffectiveRule.{EffectiveRule}
use Rattle.ics_event.specs.declared.event.Event.{Event}
use Rattle.ics_fields.specs.declared.local.Local.{Local}
use Rattle.ics_listing.specs.declared.start.Start.{Start}
use Rattle.ics_listing.specs.declared.window.Window.{Window}
use Rattle.ics_starts.specs.declared.zones.FileZones.{FileZones}
use Rattle.ics_starts.specs.Clocks.{clock_of, IsBounded, IsStretched}
use Rattle.ics_listing.specs.FileClocks.{Clock, Clocks}
use Rattle.ics_starts.specs.EventLaws.{time-prop}
use Rattle.ics_starts.specs.FileZones.{clocks_in, IsTimeOf}
use Rattle.ics_starts.specs.Leeway.{seconds_off}
use Rattle.ics_zone.specs.declared.bounds.Bounds.{Bounds}
use Rattle.ics_zone.specs.declared.stretch.Stretch.{Stretch}
use Rattle.ics_starts.specs.RuleStarts.{ends_at, AreHeld, HasLookedTo, IsHeld, IsReadTo}
use Rattle.ics_listing.specs.StartTimes.{local_of}
use Rattle.ics_starts.specs.Starts.{recurrence_of}

Start-set : (a b : Start) → IsProp (a ≡ b)
Start-set a b = hlevel (props, codes)

pub rule-prop : (a b : Option Recurrence) → IsProp (a ≡ b)
rule-prop a b = hlevel (props, codes)

is-held-prop : (clocks : Clocks) (event : Event) (rule : Recurrence) (w : Window) (day : ℤ) (s : Start) → IsProp (IsHeld clocks event rule w day s)
is-held-prop clocks event rule w day s = hlevel (props, Start-set)

pub held-prop : (clocks : Clocks) (event : Event) (rule : Recurrence) (w : Window) (day : ℤ) (held : List Start) → IsProp (AreHeld clocks event rule w day held)
held-prop clocks event rule w day held = Π_prop λ s. Π_prop λ m. is-held-prop clocks event rule w day s

pub looked-at-prop : (rule : Recurrence) (cursor : Cursor) (a b : ℕ) → IsProp (HasLooked rule cursor a b)
unfolding HasLooked
looked-at-prop rule cursor a b = hlevel props

pub looked-prop : (rule : Recurrence) (from : Local) (day : ℤ) (cursor : Cursor) → IsProp (HasLookedTo rule from day cursor)
looked-prop rule from day cursor = Π_prop λ before. Π_prop λ h. looked-at-prop rule cursor _ before

counted-prop : (q : EffectiveRule) (start : ℕ) (o : Option ℕ) (cursor : Cursor) → IsProp (CountedBy q start o cursor)
counted-prop q start None cursor = Unit-prop
counted-prop q start (Some c) cursor = hlevel props

cursor-in-prop : (q : EffectiveRule) (start : ℕ) (o : Option ℕ) (cursor : Cursor) → IsProp (IsCursorIn q start o cursor)
cursor-in-prop q start o cursor = hlevel (props, counted-prop)

pub cursor-prop : (rule : Recurrence) (cursor : Cursor) → IsProp (IsCursorOf rule cursor)
unfolding IsCursorOf
cursor-prop rule cursor = cursor-in-prop (effective rule) (number rule.start) rule.parts.count cursor

bool-prop : (a b : Bool) → IsProp (a ≡ b)
bool-prop a b = hlevel (props, codes)

pub none-prop : (rule : Recurrence) (a b : ℕ) → IsProp (NoneKept rule a b)
none-prop rule a b = Π_prop λ n. Π_prop λ l. Π_prop λ u. bool-prop (is_kept rule n) false

bounded-prop : (clock : Clock) (b : Bounds) → IsProp (IsBounded clock b)
bounded-prop clock b = hlevel props

pub stretched-prop : (clock : Clock) (s : Stretch) → IsProp (IsStretched clock s)
stretched-prop clock s = hlevel props

-- the instant from which on it gives no start
abbrev pub rule_ends : Event → Window → Recurrence → ℤ
rule_ends event w rule = ends_at w (until_moment rule) (local_seconds (local_of event.start.stamp))

-- It is the rule of the event, whose clock stays between two offsets, and no local from a day on gives a start.
pub record IsRuleOf (zones : FileZones) (event : Event) (w : Window) (rule : Recurrence) (bounds : Bounds) (end : ℤ) : Type 0 where
  pub of : recurrence_of event ≡ Some rule
  pub time : IsTimeOf zones.zones.now event.start
  pub first : number rule.start ≡ number (local_of event.start.stamp)
  pub bounded : IsBounded (clock_of (clocks_in zones) event.start) bounds
  pub after : (rule_ends event w rule +ℤ bounds.most) ≤ℤ midnight end
  pub first_before : int_min (local_seconds (local_of event.start.stamp)) (rule_ends event w rule -ℤ pos 1) <ℤ midnight end
  pub soon : midnight end <ℤ (rule_ends event w rule +ℤ (seconds_off event.start.stamp +ℤ whole_days 1))

pub rule-of-prop : (zones : FileZones) (event : Event) (w : Window) (rule : Recurrence) (b : Bounds) (end : ℤ) → IsProp (IsRuleOf zones event w rule b end)
rule-of-prop zones event w rule b end = hlevel (props, rule-prop, time-prop, bounded-prop)

pub read-to-prop : (day asked end next : ℤ) (place : ℕ) → IsProp (IsReadTo day asked end next place)
read-to-prop day asked end next place = hlevel props
