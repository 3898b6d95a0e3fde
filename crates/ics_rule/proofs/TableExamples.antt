-- The table on examples of RFC 5545, 3.8.5.3: the list that stands there, over the days of a span.
use Rattle.std.proofs.Common.{◌≡◌, refl, ◌∙◌, ℕ, Bool, true, ◌&&◌, ◌==◌, ◌+◌, ◌-◌, ◌*◌, ◌%◌, ◌^◌, List, [], ◌∷◌, map, arith}
use Rattle.std.proofs.lemmas.Bool.{eqb-true}
use Rattle.std.specs.Prelude.{filter}
use Rattle.ics_fields.specs.Days.{days_on_literals}
use Rattle.ics_fields.specs.declared.frequency.Frequency.TheVariants.{Daily, Weekly, Monthly, Yearly}
use Rattle.jiff_core.specs.declared.civil.weekday.Weekday.TheVariants.{Sunday}
use Rattle.ics_fields.specs.RuleParts.{RuleParts, every}
use Rattle.ics_fields.specs.Ordinals.{no_ordinals, no_wide_ordinals, with_wide_ordinal}
use Rattle.ics_fields.specs.declared.ordinals.Side.TheVariants.{Front, Back}
use Rattle.ics_fields.specs.Sets.{only}
use Rattle.ics_period.specs.declared.kind.Kind.TheVariants.{DateTime}
use Rattle.ics_period.specs.Recurrence.{Recurrence}
use Rattle.ics_period.specs.PeriodNumbers.{day_of, hour_of, minute_of, second_of, month_number}
use Rattle.ics_period.specs.Ranks.{count}
use Rattle.ics_rule.specs.Table.{Part, ByDay, Nothing, cell}
use Rattle.ics_rule.specs.ByTable.{is_absent, is_member, IsAllowed}
use Rattle.ics_period.proofs.Tests.{and_true}
use Rattle.ics_rule.proofs.TableCounts.{days_from, members_by_days}
use Rattle.ics_period.proofs.Samples.{on_weekdays, nth_weekday, date, local, rule, mo, tu, fr}

-- the days of a span that a rule has at 9:00, which starts on a day at 9:00
abbrev listed : RuleParts → ℕ → ℕ → ℕ → ℕ → ℕ → List ℕ
listed p year month day first span = filter (λ e. is_member (rule p (local year month day 9 0) DateTime) (e * 86_400 + 32_400)) (days_from first span)

-- what a rule lists on the first days of a month, as it is and as it has to be
abbrev row : RuleParts → ℕ × ℕ × ℕ → ℕ × ℕ → ℕ → List ℕ → List ℕ × List ℕ
row p start month span days = (listed p start.0 start.1 start.2 (date month.0 month.1 1) span, map (date month.0 month.1) days)

abbrev AreListed : List (List ℕ × List ℕ) → Type 0
AreListed rows = map (λ row. row.0) rows ≡ map (λ row. row.1) rows

examples : AreListed (
    -- every other day
    row (record (every Daily) { interval = 2 }) (1997, 9, 2) (1997, 9) 10 (2 ∷ 4 ∷ 6 ∷ 8 ∷ 10 ∷ [])
    -- every other week on Monday, Wednesday and Friday, weeks from Sunday
    ∷ row (record (every Weekly) { interval = 2; week_start = Sunday; weekdays = on_weekdays (only mo + only 2 + only fr) })
    (1997, 9, 1) (1997, 9) 30 (1 ∷ 3 ∷ 5 ∷ 15 ∷ 17 ∷ 19 ∷ 29 ∷ [])
    -- the first Friday of the month
    ∷ row (record (every Monthly) { weekdays = nth_weekday 1 fr }) (1997, 9, 5) (1997, 10) 31 (3 ∷ [])
    -- the third-to-the-last day of the month
    ∷ row (record (every Monthly) { month_days = record no_ordinals { back = only 3 } }) (1997, 9, 28) (1998, 2) 28 (26 ∷ [])
    -- the first and last day of the month
    ∷ row (record (every Monthly) { month_days = record { front = only 1; back = only 1 } }) (1997, 9, 30) (1997, 10) 31 (1 ∷ 31 ∷ [])
    -- every June and July
    ∷ row (record (every Yearly) { months = only 6 + only 7 }) (1997, 6, 10) (1998, 7) 31 (10 ∷ [])
    -- every third year on the 1st, 100th and 200th day
    ∷ row (record (every Yearly) {
      interval = 3;
      year_days = with_wide_ordinal Front 1 (with_wide_ordinal Front 100 (with_wide_ordinal Front 200 no_wide_ordinals));
    }) (1997, 1, 1) (2000, 4) 30 (9 ∷ [])
    -- every 20th Monday of the year
    ∷ row (record (every Yearly) { weekdays = nth_weekday 20 mo }) (1997, 5, 19) (1998, 5) 31 (18 ∷ [])
    -- Monday of week number 20
    ∷ row (record (every Yearly) { weeks = record no_ordinals { front = only 20 }; weekdays = on_weekdays (only mo) }) (1997, 5, 12) (1999, 5) 31 (17 ∷ [])
    -- every Thursday in March
    ∷ row (record (every Yearly) { months = only 3; weekdays = on_weekdays (only 3) }) (1997, 3, 13) (1998, 3) 31 (5 ∷ 12 ∷ 19 ∷ 26 ∷ [])
    -- the first Tuesday after a Monday in November, every four years
    ∷ row
    (record (every Yearly) { interval = 4; months = only 11; weekdays = on_weekdays (only tu); month_days = record no_ordinals { front = 2 ^ 9 - 2 ^ 2 } })
    (1996, 11, 5) (2000, 11) 30 (7 ∷ [])
    ∷ []
    )
unfolding days_on_literals
examples = refl

-- the table allows the first Friday of the month
first_friday_allowed : IsAllowed (rule (record (every Monthly) { weekdays = nth_weekday 1 fr }) (local 1997 9 5 9 0) DateTime)
first_friday_allowed = record { parts = parts; numbers = λ e. absurd (cc); dates = λ e. absurd (cc) }
  where
    parts : (part : Part) → cell part Monthly ≡ Nothing
        → is_absent (rule (record (every Monthly) { weekdays = nth_weekday 1 fr }) (local 1997 9 5 9 0) DateTime) part ≡ true
    parts ByDay e = absurd (cc)
    parts part e = refl

-- ---- BYSETPOS, counted by days: each instance is at 9:00 in the month

at_nine : (p m : ℕ) (listed : Bool) → (listed && (month_number (day_of m) == p && (hour_of m == 9 && (minute_of m == 0 && second_of m == 0)))) ≡ true
    → (month_number (day_of m) ≡ p) × (m % 86_400 ≡ 32_400)
at_nine p m listed e =
    let own = (and_true e).1 in
    let clock = (and_true own).1 in
    let hour = eqb-true (hour_of m) 9 (and_true clock).0 in
    let minute = eqb-true (minute_of m) 0 (and_true (and_true clock).1).0 in
    let second = eqb-true (second_of m) 0 (and_true (and_true clock).1).1 in
    (eqb-true (month_number (day_of m)) p (and_true own).0, omega (arith, hour, minute, second))

-- the third instance into the month of one of Tuesday, Wednesday or Thursday
abbrev third_instance : Recurrence
third_instance =
    rule (record (every Monthly) { weekdays = on_weekdays (only tu + only 2 + only 3); positions = with_wide_ordinal Front 3 no_wide_ordinals })
    (local 1997 9 4 9 0) DateTime

third_in_october : listed third_instance.parts 1997 9 4 (date 1997 10 1) 31 ≡ map (date 1997 10) (7 ∷ [])
unfolding count days_on_literals
third_in_october =
    members_by_days third_instance (1997 * 12 + 10) (date 1997 10 1) (date 1997 11 1)
    (record { period = λ m. refl; shown = λ m. at_nine (1997 * 12 + 10) m _ }) refl refl refl refl ∙ refl

-- the second-to-last weekday of the month
abbrev second_last_weekday : Recurrence
second_last_weekday =
    rule (record (every Monthly) { weekdays = on_weekdays (2 ^ 5 - 1); positions = with_wide_ordinal Back 2 no_wide_ordinals }) (local 1997 9 29 9 0) DateTime

second_last_in_october : listed second_last_weekday.parts 1997 9 29 (date 1997 10 1) 31 ≡ map (date 1997 10) (30 ∷ [])
unfolding count days_on_literals
second_last_in_october =
    members_by_days second_last_weekday (1997 * 12 + 10) (date 1997 10 1) (date 1997 11 1)
    (record { period = λ m. refl; shown = λ m. at_nine (1997 * 12 + 10) m _ }) refl refl refl refl ∙ refl

second_last_in_february : listed second_last_weekday.parts 1997 9 29 (date 1998 2 1) 28 ≡ map (date 1998 2) (26 ∷ [])
unfolding count days_on_literals
second_last_in_february =
    members_by_days second_last_weekday (1998 * 12 + 2) (date 1998 2 1) (date 1998 3 1)
    (record { period = λ m. refl; shown = λ m. at_nine (1998 * 12 + 2) m _ }) refl refl refl refl ∙ refl
