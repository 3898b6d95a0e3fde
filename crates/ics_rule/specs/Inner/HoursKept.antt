-- The locals of an hour that a rule keeps.
use Rattle.std.specs.Prelude.{◌≡◌, ℕ, ◌<◌, ◌≤◌, ◌+◌, ◌*◌, true, false}
use Rattle.ics_fields.specs.Sets.{contains, is_empty}
use Rattle.ics_rule.specs.declared.hour.HourTimes.{HourTimes}
use Rattle.ics_period.specs.Recurrence.{Recurrence}
use Rattle.ics_rule.specs.Kept.{is_kept}
use Rattle.ics_rule.specs.Next.{IsNextKept}
use Rattle.ics_fields.specs.Locals.{number}

-- an hour has some of these times, and none earlier than second t
pub record IsFirstTime (times : HourTimes) (t : ℕ) : Type 0 where
  pub minute : is_empty times.minutes ≡ false
  pub second : is_empty times.seconds ≡ false
  pub least : (m s : ℕ) → contains times.minutes m ≡ true → contains times.seconds s ≡ true → t ≤ m * 60 + s

-- none of the times is later than second t of the hour
abbrev pub IsLastTime : HourTimes → ℕ → Type 0
IsLastTime times t = (m s : ℕ) → contains times.minutes m ≡ true → contains times.seconds s ≡ true → m * 60 + s ≤ t

-- an hour after the start keeps the first of some times and nothing before it, and the last
pub record KeepsEnds (r : Recurrence) (hour : ℕ) (times : HourTimes) : Type 0 where
  pub first : ℕ
  pub last : ℕ
  pub after : number r.start < hour * 3_600 + first
  pub first_time : IsFirstTime times first
  pub last_time : IsLastTime times last
  pub next : IsNextKept r (hour * 3_600) (hour * 3_600 + 3_600) (hour * 3_600 + first)
  pub inside : last < 3_600
  pub kept_last : is_kept r (hour * 3_600 + last) ≡ true
