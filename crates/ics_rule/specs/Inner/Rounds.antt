-- Rounds of periods. After a round, what a rule chooses repeats.
use Rattle.std.specs.Prelude.{◌≡◌, ℕ, ◌+◌, ◌-◌, ◌*◌, ◌%◌, ◌≤◌, ◌&&◌, Option, MatchOption, true, false}
use Rattle.jiff_core.specs.Weekday.{monday_zero}
use Rattle.ics_fields.specs.declared.frequency.Frequency.{Frequency}
use Rattle.ics_fields.specs.declared.frequency.Frequency.TheVariants.{Secondly, Minutely, Hourly, Daily, Weekly, Monthly, Yearly}
use Rattle.ics_fields.specs.Sets.{contains}
use Rattle.ics_fields.specs.Ordinals.{lists_no_weekday}
use Rattle.ics_period.specs.declared.effective_rule.EffectiveRule.{EffectiveRule}
use Rattle.ics_period.specs.declared.recurrence_period.RecurrencePeriod.{RecurrencePeriod}
use Rattle.ics_rule.specs.declared.cursor.Cursor.{Cursor}
use Rattle.ics_period.specs.PeriodNumbers.{day_of, rules_end}
use Rattle.ics_period.specs.Candidates.{lets_date, lets_clock, is_stepped, period_in}
use Rattle.ics_period.specs.Ranks.{count, is_chosen}
use Rattle.ics_period.specs.RecurrencePeriods.{first_local}
use Rattle.ics_rule.specs.Cursors.{IsCursorIn}
use Rattle.ics_rule.specs.Inner.Searches.{HasMoved, IsTurned}
use Rattle.ics_period.specs.Runs.{goes_by_months}

-- how many seconds each period of a frequency has, or 0 if they differ
abbrev pub seconds_of : Frequency → ℕ
seconds_of Secondly = 1
seconds_of Minutely = 60
seconds_of Hourly = 3_600
seconds_of Daily = 86_400
seconds_of Weekly = 604_800
seconds_of Monthly = 0
seconds_of Yearly = 0

-- how many periods the calendar's 400 years have: they are 4,800 months, 20,871 weeks or 146,097 days
abbrev pub calendar_periods : Frequency → ℕ
calendar_periods Secondly = 12_622_780_800
calendar_periods Minutely = 210_379_680
calendar_periods Hourly = 3_506_328
calendar_periods Daily = 146_097
calendar_periods Weekly = 20_871
calendar_periods Monthly = 4_800
calendar_periods Yearly = 400

-- these periods are once or more the calendar's 400 years, and a multiple of the interval
pub record IsCalendarRound (q : EffectiveRule) (periods : ℕ) : Type 0 where
  pub cycles : ℕ
  pub some : 1 ≤ cycles
  pub whole : periods ≡ cycles * calendar_periods q.frequency
  pub step : periods % q.interval ≡ 0

-- these periods last these seconds, and what the rule allows repeats after them
pub record IsRound (q : EffectiveRule) (periods seconds : ℕ) : Type 0 where
  pub some : 1 ≤ periods
  pub step : (first p : ℕ) → first ≤ p → is_stepped first q.interval (p + periods) ≡ is_stepped first q.interval p
  pub period : (n : ℕ) → period_in q (n + seconds) ≡ period_in q n + periods
  pub first : (p : ℕ) → 2 ≤ p → first_local q.frequency (monday_zero q.week_start) (p + periods)
      ≡ first_local q.frequency (monday_zero q.week_start) p + seconds
  pub let_in : (n : ℕ) → (lets_date q (day_of (n + seconds)) && lets_clock q (n + seconds)) ≡ (lets_date q (day_of n) && lets_clock q n)

-- of the parts of the date only BYMONTH and BYMONTHDAY are there, and its days are in each month, counted from the first
pub record IsFlat (q : EffectiveRule) : Type 0 where
  pub goes : goes_by_months q ≡ true
  pub alone : lists_no_weekday q.weekdays ≡ true
  pub back : (n : ℕ) → contains q.month_days.back n ≡ false
  pub front : (n : ℕ) → 29 ≤ n → contains q.month_days.front n ≡ false

-- how many locals are chosen before the period with a number
abbrev pub chosen_to : EffectiveRule → ℕ → ℕ → ℕ
chosen_to q start p = count (first_local q.frequency (monday_zero q.week_start) p) (is_chosen q start)

-- rounds of so many periods from a step on end with the rules or before; so many locals are chosen before the first of them, and before the second
pub record AreRounds (q : EffectiveRule) (start periods begin rounds before one : ℕ) : Type 0 where
  pub low : 2 ≤ begin
  pub step : is_stepped (period_in q start) q.interval begin ≡ true
  pub some : 1 ≤ rounds
  pub early : first_local q.frequency (monday_zero q.week_start) (begin + rounds * periods) ≤ rules_end
  pub before_first : before ≡ chosen_to q start begin
  pub before_second : one ≡ chosen_to q start (begin + periods)

-- from a step on, each so many periods have as many chosen locals as the first of these rounds
pub record IsEvenRound (q : EffectiveRule) (start periods : ℕ) : Type 0 where
  pub some : 1 ≤ periods
  pub step : (first p : ℕ) → first ≤ p → is_stepped first q.interval (p + periods) ≡ is_stepped first q.interval p
  pub total : (begin rounds before one : ℕ) → AreRounds q start periods begin rounds before one
      → (before ≤ one) × (before + rounds * (one - before) ≡ chosen_to q start (begin + rounds * periods))

-- the periods from begin to end are a whole round or more, and begin is not the first of all
pub record HasRound (q : EffectiveRule) (begin end : ℕ) : Type 0 where
  pub periods : ℕ
  pub seconds : ℕ
  pub round : IsRound q periods seconds
  pub some : 1 ≤ begin
  pub far : begin + periods ≤ end

-- how looks up to its place change a cursor
pub record IsPassedTo (q : EffectiveRule) (start : ℕ) (o : Option ℕ) (before now : Cursor) : Type 0 where
  pub own : IsCursorIn q start o now
  pub moved : HasMoved q start o (before.place + 1) before now

-- the period with a number is turned to, and what is chosen before it is counted
pub record HasCountedTo (q : EffectiveRule) (start : ℕ) (o : Option ℕ) (number : ℕ) (before now : Cursor) : Type 0 where
  pub period : RecurrencePeriod
  pub turned : IsTurned q start o number now period
  pub passed : IsPassedTo q start o before now

-- the period that a cursor counts on from, and how many locals are chosen before it: that of the period held, or the first
pub record CountsFrom (first begin before : ℕ) (cursor : Cursor) : Type 0 where
  pub number : MatchOption cursor.held (begin ≡ first) (λ p. begin ≡ p.number)
  pub chosen : MatchOption cursor.held (before ≡ 0) (λ p. before ≡ cursor.counted)
