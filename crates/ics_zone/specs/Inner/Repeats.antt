-- What a rule keeps repeats after a round.
use Rattle.std.specs.Prelude.{◌≡◌, ℕ, ◌+◌, ◌*◌, ◌%◌, ◌<◌, ◌≤◌, true, Option, ℤ, ◌<ℤ◌, ◌≤ℤ◌}
use Rattle.ics_fields.specs.declared.frequency.Frequency.{Frequency}
use Rattle.ics_fields.specs.RuleParts.{RuleParts}
use Rattle.ics_fields.specs.Locals.{number}
use Rattle.ics_period.specs.declared.kind.Kind.{Kind}
use Rattle.ics_period.specs.EffectiveRules.{effective_at}
use Rattle.ics_period.specs.PeriodNumbers.{rules_end}
use Rattle.ics_period.specs.Recurrence.{Recurrence}
use Rattle.ics_rule.specs.Inner.Rounds.{calendar_periods, IsRound}
use Rattle.ics_rule.specs.Kept.{is_by_until, is_kept}
use Rattle.ics_zone.specs.declared.rounds.Round.{Round}
use Rattle.ics_zone.specs.Observances.{instant_by}

-- the locals before this one are two years of 366 days
abbrev pub third_year : ℕ
third_year = 63_244_800

-- the calendar's 400 years, so many times, are whole steps of a rule
pub record IsCalendar (f : Frequency) (interval seconds : ℕ) : Type 0 where
  pub cycles : ℕ
  pub some : 1 ≤ cycles
  pub whole : seconds ≡ cycles * 12_622_780_800
  pub step : (cycles * calendar_periods f) % interval ≡ 0

-- so many seconds are a round of a rule of these parts, whatever its COUNT is and what it takes from the start
abbrev pub IsRoundOf : RuleParts → ℕ → Type 0
IsRoundOf p seconds = (o : Option ℕ) (kind : Kind) (n : ℕ) → (k : ℕ) × IsRound (effective_at (record p { count = o }) kind n) k seconds

-- so many seconds later a rule keeps what it keeps, from the third year on, as far as UNTIL lets it
abbrev pub Repeats : Recurrence → ℕ → Type 0
Repeats r seconds =
    (n : ℕ) → number r.start < n → third_year ≤ n → n + seconds < rules_end → is_by_until r.kind r.parts.until (n + seconds) ≡ true
    → is_kept r (n + seconds) ≡ is_kept r n

-- the same of the instants on a clock, after one and up to another
abbrev pub IsRepeated : ℤ → Recurrence → Round → Type 0
IsRepeated offset r round =
    (n : ℕ) → round.after <ℤ instant_by offset n → instant_by offset (n + round.seconds) ≤ℤ round.to
    → (n + round.seconds < rules_end) × (is_kept r (n + round.seconds) ≡ is_kept r n)
