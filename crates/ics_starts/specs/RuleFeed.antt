-- What contracts see of the starts of a rule, which are read one by one.
use Rattle.std.specs.Prelude.{◌≡◌, ◌<◌, ◌≤◌, ◌<ℤ◌, ◌≤ℤ◌, ◌+ℤ◌, ℕ, ℤ, pos, Bool, true, List}
use Rattle.ics_fields.specs.Locals.{year_number}
use Rattle.ics_rule.specs.Cursors.{place_of}
use Rattle.ics_rule.specs.Kept.{is_kept}
use Rattle.ics_starts.specs.declared.rule_starts.RuleStarts.{RuleStarts}
use Rattle.ics_listing.specs.declared.start.Start.{Start}
use Rattle.ics_starts.specs.Clocks.{clock_of}
use Rattle.ics_starts.specs.Exclusions.{takes_out}
use Rattle.ics_starts.specs.RuleStarts.{is_behind, moment_numbered, read_from, settled_from, to_come}
use Rattle.ics_starts.specs.FileZones.{clocks_in}
use Rattle.ics_listing.specs.Waiting.{starts_in}

-- the starts that are held
abbrev pub held_in : RuleStarts → List Start
held_in s = starts_in s.event.now.start s.held

-- the starts still to come
abbrev pub starts_left : RuleStarts → List Start
starts_left s = to_come (clocks_in s.zones) s.event.now s.rule s.window (held_in s) (place_of s.cursor)

-- an instant that is before those of all locals to be read
abbrev pub settled_in : RuleStarts → ℤ
settled_in s = settled_from s.stretch s.bounds.most (read_from s.event.now.start.stamp s.day s.next)

-- another local has to be read before the first start still to come is known
abbrev pub is_unsettled : RuleStarts → Bool
is_unsettled s = is_behind (settled_in s) s.day s.end s.window.to (held_in s)

-- the starts are those of the same event, in the same zones and window, from the same local on
pub record HasSameSource (old new : RuleStarts) : Type 0 where
  pub zones : new.zones ≡ old.zones
  pub event : new.event ≡ old.event
  pub window : new.window ≡ old.window
  pub rule : new.rule ≡ old.rule
  pub from : new.from ≡ old.from
  pub end : new.end ≡ old.end

-- The same starts, of which none was read or passed. More may be known of their rule and of its clock.
pub record HasStayed (old new : RuleStarts) : Type 0 where
  pub source : HasSameSource old new
  pub day : new.day ≡ old.day
  pub next : new.next ≡ old.next
  pub cursor : new.cursor ≡ old.cursor
  pub held : new.held ≡ old.held

-- The same starts, where locals were passed over of which something holds: none of them is read.
pub record HasPassed (P : ℕ → Type 0) (old new : RuleStarts) : Type 0 where
  pub source : HasSameSource old new
  pub day : new.day ≡ old.day
  pub on : place_of old.cursor ≤ place_of new.cursor
  pub left : starts_left new ≡ to_come (clocks_in old.zones) old.event.now old.rule old.window (held_in old) (place_of new.cursor)
  pub each : (n : ℕ) → place_of old.cursor ≤ n → n < place_of new.cursor → P n

-- these instants, or these days by the clock of DTSTART, remove what the local with this number gives, if the rule keeps it
abbrev pub IsTakenOut : List ℤ → List ℤ → RuleStarts → ℕ → Type 0
IsTakenOut instants days s n = is_kept s.rule n ≡ true
    → takes_out (clock_of (clocks_in s.zones) s.event.now.start) instants days (moment_numbered (clocks_in s.zones) s.event.now n) ≡ true

-- of the locals from one on and before another, given by their seconds, they remove what all give that the rule keeps
abbrev pub AreTakenOut : List ℤ → List ℤ → RuleStarts → ℤ → ℤ → Type 0
AreTakenOut instants days s from to =
    (n : ℕ) → (from +ℤ pos (year_number 1_970)) ≤ℤ pos n → pos n <ℤ (to +ℤ pos (year_number 1_970)) → IsTakenOut instants days s n

-- the local with this number means an instant before this one
abbrev pub IsEarlier : ℤ → RuleStarts → ℕ → Type 0
IsEarlier t s n = moment_numbered (clocks_in s.zones) s.event.now n <ℤ t

-- the local with this number means an instant that is not before either of these
pub record IsPast (t u : ℤ) (s : RuleStarts) (n : ℕ) : Type 0 where
  pub first : t ≤ℤ moment_numbered (clocks_in s.zones) s.event.now n
  pub second : u ≤ℤ moment_numbered (clocks_in s.zones) s.event.now n

-- the local with this number means an instant that is not before the first of these, and before the second
pub record IsAmid (t u : ℤ) (s : RuleStarts) (n : ℕ) : Type 0 where
  pub from : t ≤ℤ moment_numbered (clocks_in s.zones) s.event.now n
  pub before : moment_numbered (clocks_in s.zones) s.event.now n <ℤ u

abbrev pub HasSkipped : List ℤ → List ℤ → RuleStarts → RuleStarts → Type 0
HasSkipped instants days old new = HasPassed (IsTakenOut instants days old) old new

abbrev pub HasEnded : ℤ → RuleStarts → RuleStarts → Type 0
HasEnded t old new = HasPassed (IsEarlier t old) old new

abbrev pub HasLeapt : ℤ → ℤ → RuleStarts → RuleStarts → Type 0
HasLeapt t u old new = HasPassed (IsAmid t u old) old new
