-- What the parts of an effective rule let in, by those of the rule and by what DTSTART gives.
use Rattle.std.proofs.Common.{◌≡◌, ℕ, suc, ◌+◌, ◌*◌, ◌/◌, ◌%◌, Bool, true, false, ◌&&◌, ◌||◌, ◌==◌, if◌then◌else◌, refl, sym, ap, ◌∙◌, arith}
use Rattle.std.proofs.lemmas.Bool.{and_right}
use Rattle.std.proofs.lemmas.Bool.Decides.{nat_tests}
use Rattle.std.proofs.lemmas.Nat.{pow_pos}
use Rattle.ics_fields.proofs.SetLemmas.{has_none}
use Rattle.ics_fields.specs.declared.frequency.Frequency.{Frequency}
use Rattle.ics_fields.specs.declared.frequency.Frequency.TheVariants.{Weekly}
use Rattle.ics_fields.specs.declared.ordinals.Ordinals.{Ordinals}
use Rattle.ics_fields.specs.declared.ordinals.Weekdays.{Weekdays}
use Rattle.ics_fields.specs.Days.{day_index, weekday_of}
use Rattle.ics_fields.specs.Sets.{is_empty, contains, only}
use Rattle.ics_fields.specs.Ordinals.{no_ordinals, no_weekdays, numbers_of, lists_none, lists_no_weekday}
use Rattle.ics_period.specs.declared.kind.Kind.{Kind}
use Rattle.ics_period.specs.declared.kind.Kind.TheVariants.{Date, DateTime}
use Rattle.ics_period.specs.Recurrence.{Recurrence}
use Rattle.ics_period.specs.PeriodNumbers.{day_of}
use Rattle.ics_period.specs.declared.effective_rule.EffectiveRule.{EffectiveRule}
use Rattle.ics_period.specs.EffectiveRules.{takes_month_day, takes_month, takes_weekday, skips_hours, skips_minutes, skips_seconds, clock_part, effective}
use Rattle.ics_period.specs.EffectiveRules.{only_place, only_weekday}
use Rattle.ics_period.specs.Candidates.{lets, lets_place, lists, lets_numbered, lets_weekday}
use Rattle.ics_rule.specs.Table.{ByMonth, ByWeekNo, ByMonthDay, ByDay, ByHour, ByMinute, BySecond}
use Rattle.ics_rule.specs.ByTable.{instance_of, start_of, is_absent, is_listed, is_clockless, weekday_unit, lists_nth_in}
use Rattle.ics_rule.specs.PlainReading.{applies, is_extracted}
use Rattle.ics_period.proofs.DateLemmas.{none_numbered}
use Rattle.ics_period.proofs.ScanLemmas.{contains-only}

none_only : (s : ℕ) → is_empty (only s) ≡ false
none_only s = grind (arith, nat_tests, pow_pos)

-- a set, places and weekdays, or DTSTART's own alone
only_number : (t : Bool) (s own n : ℕ) → lets (if t then only own else s) n ≡ (if t then (n == own) else lets s n)
only_number t s own n = grind (arith, contains-only, none_only)

only_day : (t : Bool) (p : Ordinals) (own n size : ℕ) → lets_place (if t then only_place own else p) n size ≡ (if t then (n == own) else lets_place p n size)
only_day t p own n size = grind (arith, contains-only, has_none, none_only)

no_number : (n : ℕ) → numbers_of no_weekdays n ≡ no_ordinals
no_number (suc (suc (suc (suc (suc (suc (suc n))))))) = refl
no_number n = refl

only_this_weekday : (t : Bool) (ws : Weekdays) (own n : ℕ) (test : Ordinals → Bool) → test no_ordinals ≡ false
    → (lists_no_weekday (if t then only_weekday own else ws) || contains (if t then only_weekday own else ws).plain n
    || test (numbers_of (if t then only_weekday own else ws) n))
    ≡ (if t then (n == own) else (lists_no_weekday ws || contains ws.plain n || test (numbers_of ws n)))
only_this_weekday t ws own n test h = grind (arith, contains-only, no_number, none_only)

-- a part that is absent takes DTSTART's own, or all
pub by_absence : (absent from x own : Bool) {t y : Bool} → t ≡ (from && absent) → (absent ≡ false → x ≡ y)
    → (if t then own else (absent || x)) ≡ (if absent then (if from then own else true) else y)
by_absence absent from x own taken same = grind arith

month_taken : (f : Frequency) (r : Recurrence) → takes_month f r.parts ≡ (is_extracted r f ByMonth && is_absent r ByMonth)
month_taken f r = grind arith

kept_first : (m y b w : Bool) → (m && y && b && w) ≡ ((m && y && b && w) && m)
kept_first m y b w = grind arith

day_taken : (f : Frequency) (r : Recurrence) → takes_month_day f r.parts ≡ (is_extracted r f ByMonthDay && is_absent r ByMonthDay)
day_taken f r = grind (arith, kept_first)

-- the clock
clock : (kind : Kind) {takes from : Bool} (set own n : ℕ) → takes ≡ from → (kind ≡ Date → (takes ≡ true) × (own ≡ 0))
    → lets (clock_part kind takes set own) n ≡ (if (is_clockless kind || is_empty set) then (if from then (n == own) else true) else contains set n)
clock Date {from = from} set own n same date =
    let midnight = date refl in
    ap (λ z. lets (only z) n) (sym midnight.1) ∙ only_number true 0 own n ∙ ap (λ b. if b then (n == own) else true) (sym midnight.0 ∙ same)
clock DateTime {takes = takes} {from = from} set own n same date =
    only_number (takes && is_empty set) set own n ∙ by_absence (is_empty set) from (contains set n) (n == own) (ap (λ x. x && is_empty set) same) (λ e. refl)

-- whether DTSTART gives the hour, the minute and the second: with the hour it gives all
clock_taken : (f : Frequency) (r : Recurrence) → (skips_hours f ≡ is_extracted r f ByHour) × (skips_minutes f ≡ is_extracted r f ByMinute)
    × (skips_seconds f ≡ is_extracted r f BySecond) × (skips_hours f ≡ true → (skips_minutes f ≡ true) × (skips_seconds f ≡ true))
clock_taken f r = grind arith

-- midnight
midnight : (d s : ℕ) → s ≡ 0 → ((d * 86_400 + s) / 3_600 % 24 ≡ 0) × (((d * 86_400 + s) / 60 % 60 ≡ 0) × ((d * 86_400 + s) % 60 ≡ 0))
midnight d s h = (omega (arith, h), (omega (arith, h), omega (arith, h)))

-- beside BYDAY no month is taken
no_month_taken : (f : Frequency) (r : Recurrence) → is_absent r ByDay ≡ false → takes_month f r.parts ≡ false
no_month_taken f r h = grind (arith, and_right)

-- BYDAY counts in its unit
module _ (f : Frequency) (r : Recurrence) (q : EffectiveRule) (weeks : lists_none q.weeks ≡ is_absent r ByWeekNo)
    (months : is_empty q.months ≡ is_absent r ByMonth) where
  by_unit : (p : Ordinals) (n h m s : ℕ) → (weekday_unit r f ≡ Weekly → lists_none p ≡ true)
      → lets_numbered f q p (day_of n) ≡ lists_nth_in (weekday_unit r f) p (record (instance_of r.parts n) { hour = h; minute = m; second = s })
  by_unit p n h m s none = grind arith

module _ (r : Recurrence) (n : ℕ) where
  pub months_let_in : lets (effective r).months n ≡ applies r ByMonth (contains r.parts.months n) (n == (start_of r).month)
  unfolding effective
  months_let_in = grind (arith, by_absence, month_taken, only_number)

  pub month_days_let_in : (size : ℕ) → lets_place (effective r).month_days n size
      ≡ applies r ByMonthDay (lists r.parts.month_days n size) (n == (start_of r).month_day)
  unfolding effective
  month_days_let_in size =
      only_day (takes_month_day r.parts.frequency r.parts) r.parts.month_days (start_of r).month_day n size
      ∙ by_absence (is_absent r ByMonthDay) (is_extracted r r.parts.frequency ByMonthDay) (lists r.parts.month_days n size) (n == (start_of r).month_day)
      (day_taken r.parts.frequency r) (λ e. refl)

  -- BYDAY, by its numbers in their unit, whatever the time of day
  pub weekdays_let_in : (h m s : ℕ) → (weekday_unit r r.parts.frequency ≡ Weekly → (w : ℕ) → lists_none (numbers_of r.parts.weekdays w) ≡ true)
      → lets_weekday (effective r) (day_of n) ≡ (if takes_weekday r.parts.frequency r.parts then (weekday_of (day_of n) == (start_of r).weekday)
      else (is_absent r ByDay || is_listed r ByDay (record (instance_of r.parts n) { hour = h; minute = m; second = s })))
  unfolding effective
  weekdays_let_in h m s none =
      let f = r.parts.frequency in
      let w = weekday_of (day_of n) in
      let own = (start_of r).weekday in
      let b = is_absent r ByDay in
      let plain = contains r.parts.weekdays.plain w in
      let numbers = numbers_of r.parts.weekdays w in
      only_this_weekday (takes_weekday f r.parts) r.parts.weekdays own w
      (λ p. lets_numbered f (effective r) p (day_of n)) (none_numbered f (effective r) no_ordinals (day_of n) refl)
      ∙ ap (λ x. if takes_weekday f r.parts then (w == own) else x)
      (sooner b plain (λ some. by_unit f r (effective r) refl
      (ap (λ t. is_empty (if t then only (start_of r).month else r.parts.months)) (no_month_taken f r some)) numbers n h m s (λ unit. none unit w)))
    where
      sooner : (b plain : Bool) {x y : Bool} → (b ≡ false → x ≡ y) → (b || plain || x) ≡ (b || (plain || y))
      sooner b plain h = grind arith

  module _ (dates : r.kind ≡ Date → (skips_hours r.parts.frequency ≡ true) × (r.start.second ≡ 0)) where
    -- the hours, the minutes and the seconds
    pub clock_let_in : (lets (effective r).hours n ≡ applies r ByHour (contains r.parts.hours n) (n == (start_of r).hour))
        × (lets (effective r).minutes n ≡ applies r ByMinute (contains r.parts.minutes n) (n == (start_of r).minute))
        × (lets (effective r).seconds n ≡ applies r BySecond (contains r.parts.seconds n) (n == (start_of r).second))
    unfolding effective
    clock_let_in =
        let taken = clock_taken r.parts.frequency r in
        let zero = λ (date : r.kind ≡ Date). midnight (day_index r.start.day) r.start.second (dates date).1 in (
          clock r.kind r.parts.hours (start_of r).hour n taken.0 (λ date. ((dates date).0, (zero date).0)),
          clock r.kind r.parts.minutes (start_of r).minute n taken.1 (λ date. ((taken.3 (dates date).0).0, (zero date).1.0)),
          clock r.kind r.parts.seconds (start_of r).second n taken.2 (λ date. ((taken.3 (dates date).0).1, (zero date).1.1)),
        )
