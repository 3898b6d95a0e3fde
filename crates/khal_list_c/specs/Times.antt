-- The locals that a call writes.
use Rattle.std.specs.Prelude.{◌≡◌, ℕ, ℤ, zero, suc, ◌+◌, ◌<◌, ◌≤◌, ◌==◌, ◌&&◌, ◌||◌, int_le, min, Bool, true, false, Option, Some, None, Result, Ok, Err}
use Rattle.std.specs.Prelude.{List, length, slice_index}
use Rattle.ics_fields.specs.Locals.{number}
use Rattle.ics_period.specs.PeriodNumbers.{rules_end}
use Rattle.ics_rule.specs.Kept.{is_kept, until_moment}
use Rattle.ics_period.specs.Recurrence.{Recurrence}
use Rattle.ics_zone.specs.ZoneSaid.{ZoneSaid}
use Rattle.khal_list_c.specs.Clocks.{instant_in, IsClockBy, IsZoneFault}
use Rattle.khal_list_c.specs.Said.{said_of}
use Rattle.khal_list_c.specs.declared.rules.Said.{Said}
use Rattle.khal_list_c.specs.declared.times.KhalTimes.{KhalTimes}

-- an UNTIL in UTC lets the instant of a local be; without a clock no local has an instant
abbrev pub is_by_instant : Option ℤ → Option ZoneSaid → ℕ → Bool
is_by_instant None clock n = true
is_by_instant (Some until) None n = true
is_by_instant (Some until) (Some zone) n = int_le (instant_in zone n) until

-- THE INSTANCES of a rule by a clock: the locals that it keeps (`is_kept`). The instant of each but the start is not after an UNTIL in UTC
-- (RFC 5545, 3.3.10).
unfoldable pub is_instance : Recurrence → Option ZoneSaid → ℕ → Bool
is_instance r clock n = is_kept r n && (n == number r.start || is_by_instant (until_moment r) clock n)

-- no local from a place on and before a bound passes the test
abbrev pub NoneOf : (ℕ → Bool) → ℕ → ℕ → Type 0
NoneOf test from before = (n : ℕ) → from ≤ n → n < before → test n ≡ false

-- n is the least that does
pub record IsNextOf (test : ℕ → Bool) (from before n : ℕ) : Type 0 where
  pub passes : test n ≡ true
  pub from_place : from ≤ n
  pub in_bound : n < before
  pub least : NoneOf test from n

-- a bound past the end of the rules is that end
abbrev pub bounded : ℕ → ℕ
bounded n = min n rules_end

-- the place from which the local at an index is the next: `from`, or just after the local before it
abbrev pub place : ℕ → List ℕ → ℕ → ℕ
place from times zero = from
place from times (suc k) = slice_index times k + 1

-- the first k of these are the first k that pass the test from `from` on, all before `before`
abbrev pub AreNext : (ℕ → Bool) → ℕ → ℕ → List ℕ → ℕ → Type 0
AreNext test from before times k = (i : ℕ) → i < k → IsNextOf test (place from times i) before (slice_index times i)

-- the first `count` of these are the first that pass from `from` on and before `before`, and all of them unless there is no more room
pub record Fills (test : ℕ → Bool) (from before : ℕ) (times : List ℕ) (count : ℕ) : Type 0 where
  pub room : count ≤ length times
  pub each : AreNext test from before times count
  pub all : count < length times → NoneOf test (place from times count) before

-- the texts say a rule and a clock, and these are its instances from `from` on and before `before`
pub record FillsBy (rule start zone : List ℕ) (from before : ℕ) (times : List ℕ) (count : ℕ) : Type 0 where
  pub said : Said
  pub says : said_of rule start ≡ Ok said
  pub clock : Option ZoneSaid
  pub clocked : IsClockBy said.in_utc zone clock
  pub fills : Fills (is_instance said.rule clock) (bounded from) (bounded before) times count

-- the texts are no rule, or they are one and its zone is faulty
abbrev pub IsFault : Result Said ℕ → List ℕ → ℕ → Type 0
IsFault (Err fault) zone n = n ≡ fault
IsFault (Ok said) zone n = (said.in_utc ≡ false) × IsZoneFault zone n

-- there is a fault, and nothing is written
pub record IsRefused (rule start zone : List ℕ) (times times' : List ℕ) (answer : KhalTimes) : Type 0 where
  pub why : IsFault (said_of rule start) zone answer.fault
  pub count : answer.count ≡ 0
  pub same : times' ≡ times
