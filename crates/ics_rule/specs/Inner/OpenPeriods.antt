-- Periods of a day or less. Those that a rule allows all have the same number of locals.
use Rattle.std.specs.Prelude.{◌≡◌, ℕ, List, length, slice_index_or, ◌+◌, ◌≤◌, ◌*◌, ◌/◌, ◌<◌, Bool, not, true, false, ◌&&◌, ◌||◌, if◌then◌else◌, min}
use Rattle.ics_fields.specs.declared.frequency.Frequency.{Frequency}
use Rattle.ics_fields.specs.declared.frequency.Frequency.TheVariants.{Secondly, Minutely, Hourly, Daily, Weekly, Monthly, Yearly}
use Rattle.ics_fields.specs.declared.ordinals.Ordinals.{Ordinals}
use Rattle.ics_fields.specs.declared.ordinals.WideOrdinals.{WideOrdinals}
use Rattle.ics_fields.specs.Sets.{contains, contains_wide}
use Rattle.ics_fields.specs.Ordinals.{no_ordinals, no_wide_ordinals, lists_none, lists_none_wide}
use Rattle.ics_period.specs.declared.effective_rule.EffectiveRule.{EffectiveRule}
use Rattle.ics_period.specs.PeriodNumbers.{hour_of, minute_of, second_of}
use Rattle.ics_period.specs.EffectiveRules.{skips_hours, skips_minutes, skips_seconds}
use Rattle.ics_period.specs.Candidates.{lets, lets_date, is_stepped}
use Rattle.ics_period.specs.Ranks.{count}
use Rattle.ics_period.specs.RecurrencePeriods.{is_listed}
use Rattle.ics_rule.specs.Inner.Rounds.{seconds_of}

-- how many periods a day has
abbrev pub per_day : Frequency → ℕ
per_day Secondly = 86_400
per_day Minutely = 1_440
per_day Hourly = 24
per_day Daily = 1
per_day Weekly = 1
per_day Monthly = 1
per_day Yearly = 1

-- the hour, minute and second of a period, as far as it has them, are allowed; n is a local of the period
abbrev pub lets_own : Frequency → EffectiveRule → ℕ → Bool
lets_own f q n =
    (skips_hours f || lets q.hours (hour_of n)) && (skips_minutes f || lets q.minutes (minute_of n))
    && (skips_seconds f || lets q.seconds (second_of n))

-- the minute and second that local n has within its period, and under DAILY the hour, are allowed
abbrev pub lets_within : Frequency → EffectiveRule → ℕ → Bool
lets_within f q n =
    (not (skips_hours f) || lets q.hours (hour_of n)) && (not (skips_minutes f) || lets q.minutes (minute_of n))
    && (not (skips_seconds f) || lets q.seconds (second_of n))

-- a period is a multiple of the interval after the first, with a time that is allowed
abbrev pub is_timely : EffectiveRule → ℕ → ℕ → Bool
is_timely q first p = is_stepped first q.interval p && lets_own q.frequency q (p * seconds_of q.frequency)

-- how many such periods a day has
abbrev pub timely_on : EffectiveRule → ℕ → ℕ → ℕ
timely_on q first day = count (per_day q.frequency) (λ k. is_timely q first (day * per_day q.frequency + k))

-- the numbers of those of each day from one on, so many days as the interval has
abbrev pub HasRests : EffectiveRule → ℕ → ℕ → List ℕ → Type 0
HasRests q first from steps =
    (q.interval ≤ length steps) × ((k : ℕ) → k < q.interval → slice_index_or steps k 0 ≡ timely_on q first (from + k))

-- a period is one of them, on one of some days
abbrev pub is_timely_on : EffectiveRule → ℕ → (ℕ → Bool) → ℕ → Bool
is_timely_on q first days p =
    is_stepped first q.interval p && (days (p / per_day q.frequency) && lets_own q.frequency q (p * seconds_of q.frequency))

-- a period is a multiple of the interval after the first, and the rule allows a local of it
abbrev pub is_open_period : EffectiveRule → ℕ → ℕ → Bool
is_open_period q first = is_timely_on q first (lets_date q)

-- how many allowed locals each such period has
abbrev pub size_of_open : EffectiveRule → ℕ
size_of_open q = count (seconds_of q.frequency) (lets_within q.frequency q)

-- how many days of a month, or of a year, a part lists at most
abbrev pub listed_in_month : Ordinals → ℕ
listed_in_month p = if lists_none p then 31 else count 32 (contains p.front) + count 32 (contains p.back)

abbrev pub listed_in_year : WideOrdinals → ℕ
listed_in_year p = if lists_none_wide p then 366 else count 367 (contains_wide p.front) + count 367 (contains_wide p.back)

-- a rule of seconds with BYDAY as the only part for dates. Under SECONDLY a weekday with a number means the weekday
abbrev pub of_weekdays : EffectiveRule → EffectiveRule
of_weekdays q = record q { frequency = Secondly; months = 0; month_days = no_ordinals; year_days = no_wide_ordinals; weeks = no_ordinals }

-- how many of a number of days, which so many weeks have, the weekdays of a rule allow at most
abbrev pub on_weekdays : EffectiveRule → ℕ → ℕ → ℕ
on_weekdays q weeks days = min days (weeks * count 7 (lets_date (of_weekdays q)))

-- a number of days that the rule allows at most in one period, if it is longer than a day
abbrev pub most_days : Frequency → EffectiveRule → ℕ
most_days Secondly q = 1
most_days Minutely q = 1
most_days Hourly q = 1
most_days Daily q = 1
most_days Weekly q = on_weekdays q 1 7
most_days Monthly q = on_weekdays q 5 (listed_in_month q.month_days)
most_days Yearly q = on_weekdays q 53 (listed_in_year q.year_days)

-- how many of them BYSETPOS allows; all of them if it is absent
abbrev pub chosen_of_size : EffectiveRule → Bool → ℕ → ℕ
chosen_of_size q true size = size
chosen_of_size q false size = count size (is_listed q.positions size)

abbrev pub chosen_in_open : EffectiveRule → ℕ
chosen_in_open q = chosen_of_size q (lists_none_wide q.positions) (size_of_open q)
