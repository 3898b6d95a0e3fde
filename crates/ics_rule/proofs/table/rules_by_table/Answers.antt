-- The table of expansion and limits gives what the parts of an effective rule let in.
use Rattle.std.proofs.Common.{◌≡◌, ℕ, Bool, true, false, not, ◌&&◌, ◌||◌, ◌==◌, if◌then◌else◌, List, [], ◌∷◌, pos, refl, sym, ap, ◌∙◌, arith, nat_lt, Option}
use Rattle.std.proofs.Common.{Some, None}
use Rattle.std.proofs.lemmas.Bool.{and_parts, eq-eqb}
use Rattle.std.proofs.lemmas.Bool.Decides.{nat_tests}
use Rattle.jiff_core.specs.Calendar.{days_in_month}
use Rattle.ics_fields.specs.declared.frequency.Frequency.{Frequency}
use Rattle.ics_fields.specs.declared.frequency.Frequency.TheVariants.{Weekly, Monthly, Yearly}
use Rattle.ics_fields.specs.Sets.{contains}
use Rattle.ics_period.specs.Recurrence.{Recurrence}
use Rattle.ics_period.specs.PeriodNumbers.{day_of}
use Rattle.ics_period.specs.EffectiveRules.{takes_weekday, skips_hours, skips_minutes, skips_seconds, effective}
use Rattle.ics_period.specs.Candidates.{lets, lets_week, lists, is_candidate}
use Rattle.ics_period.specs.RecurrencePeriods.{is_let_in}
use Rattle.ics_rule.specs.PlainReading.{is_extracted, is_dayless}
use Rattle.ics_rule.specs.Table.{Part, ByMonth, ByWeekNo, ByYearDay, ByMonthDay, ByDay, ByHour, ByMinute, BySecond, Cell, Nothing, Expand, Note1, Note2, cell}
use Rattle.ics_rule.specs.ByTable.{Instance, Instances, instance_of, start_of, is_absent, is_listed, own_instance, before, gives, on_own_day, apply_cell}
use Rattle.ics_rule.specs.ByTable.{apply, is_instance, IsAllowed, is_limited, is_period, period_of, is_member, is_within_count, is_kept_by_table}
use Rattle.ics_rule.proofs.TableSteps.{months_let_in, month_days_let_in, weekdays_let_in, clock_let_in}
use Rattle.ics_period.proofs.Tests.{iff, and_assoc}
use Rattle.ics_fields.specs.Locals.{number}
use Rattle.ics_period.specs.Ranks.{is_chosen}
use Rattle.ics_rule.specs.Kept.{is_in_rule, is_counted, is_kept}
use Rattle.ics_period.proofs.Counts.{count-same}
use Rattle.ics_rule.proofs.ChosenLemmas.{beside_let_in, chosen_by}
use Rattle.ics_rule.proofs.UntilLemmas.{until_bounds}
use Rattle.ics_rule.proofs.table.rules_by_table.Goals as goal

-- a field as it is, or as DTSTART gives it
abbrev keep : Bool → ℕ → ℕ → ℕ
keep kept own n = if kept then n else own

-- DTSTART gives the month, the day of the month or the weekday, since it is finer than the period
abbrev gives_own : Frequency → Part → Bool
gives_own Yearly ByMonth = true
gives_own Yearly ByMonthDay = true
gives_own Monthly ByMonthDay = true
gives_own Weekly ByDay = true
gives_own frequency part = false

abbrev own_if : Bool → ℕ → ℕ → Bool
own_if given own n = if given then (n == own) else true

owned : (f : Frequency) (s i : Instance) → own_instance f s i ≡ (own_if (gives_own f ByMonth) s.month i.month
    && (own_if (gives_own f ByMonthDay) s.month_day i.month_day && (own_if (gives_own f ByDay) s.weekday i.weekday
    && (own_if (skips_hours f) s.hour i.hour && (own_if (skips_minutes f) s.minute i.minute && own_if (skips_seconds f) s.second i.second)))))
owned f s i = grind (arith, nat_tests)

-- what a part gives, with what DTSTART gives, is what it lets in
record Gives (listed own let_in : Bool) : Type 0 where
  pub same : (listed && own) ≡ let_in

-- the same of BYDAY and BYWEEKNO together
record GivesWeekdays (day week own weeks days : Bool) : Type 0 where
  pub same : (day && (week && own)) ≡ (weeks && days)

-- the tests in the order of the steps, and by subject
in_order : (y per : Bool) {s mi h b d w m o om od ow oh omi os m' d' w' b' h' mi' s' : Bool} → o ≡ (om && (od && (ow && (oh && (omi && os)))))
    → (Gives m om m') × (Gives d od d') × (GivesWeekdays b w ow w' b') → (Gives h oh h') × (Gives mi omi mi') × (Gives s os s')
    → (s && (mi && (h && (b && (d && (y && (w && (m && (per && o)))))))))
    ≡ (per && (((((m' && d') && y) && w') && b') && ((h' && mi') && s')))
in_order y per own (month, month_day, weekday) (hour, minute, second) = iff _ _ (λ e. grind arith) (λ e. grind (arith, and_parts))

-- a part expands under a cell of the table, by which parts are absent
abbrev expands : (Part → Bool) → Cell → Bool
expands absent Expand = true
expands absent Note1 = absent ByMonthDay
expands absent Note2 = absent ByYearDay && absent ByMonthDay
expands absent c = false

-- a part that is absent has DTSTART's own, or all
settled : (a t l : Bool) (own n : ℕ) → ((a || l) && own_if (a && t) own n) ≡ (if a then own_if t own n else l)
settled a t l own n = grind arith

-- what the parts of the day leave of a field
module _ (absent : Part → Bool) (f : Frequency) (own n : ℕ) where
  abbrev stays : Part → Bool
  stays part = absent part || not (expands absent (cell part f))

  abbrev dayless : Bool
  dayless = absent ByMonthDay && absent ByYearDay && absent ByDay && absent ByWeekNo

  -- beside BYMONTH the month is kept
  abbrev month_from : Bool → ℕ → ℕ
  month_from kept k = keep kept (if absent ByMonth then own else k) k

  abbrev month_left : ℕ
  month_left = month_from (stays ByWeekNo) (month_from (stays ByYearDay) (month_from (stays ByMonthDay) (month_from (stays ByDay) n)))

  abbrev left_by_year_day : ℕ
  left_by_year_day = keep (stays ByYearDay) own (keep (stays ByMonthDay) own (keep (stays ByDay) own n))

  abbrev left_by_week : ℕ
  left_by_week = keep (stays ByWeekNo) own left_by_year_day

  month_listed : (test : ℕ → Bool) → (absent ByMonth || test month_left) ≡ (absent ByMonth || test n)
  month_listed test = grind (arith, nat_tests)

  month_own : own_if (gives_own f ByMonth) own (keep (stays ByMonth) own month_left) ≡ own_if (absent ByMonth && (gives_own f ByMonth && dayless)) own n
  month_own = grind (arith, nat_tests)

  months_given : (test : ℕ → Bool) {t : Bool} → t ≡ (gives_own f ByMonth && dayless)
      → ((absent ByMonth || test month_left) && own_if (gives_own f ByMonth) own (keep (stays ByMonth) own month_left))
      ≡ (if absent ByMonth then (if t then (n == own) else true) else test n)
  months_given test taken = rw (month_listed test, month_own, taken) (settled (absent ByMonth) (gives_own f ByMonth && dayless) (test n) own n)

  days_given : (test : ℕ → ℕ → Bool) (own_month month : ℕ) {t : Bool} → ((part : Part) → cell part f ≡ Nothing → absent part ≡ true)
      → t ≡ (gives_own f ByMonthDay && dayless)
      → ((absent ByMonthDay || test (keep (stays ByDay) (if absent ByMonth then own_month else month) month) (keep (stays ByDay) own n))
      && own_if (gives_own f ByMonthDay) own left_by_week)
      ≡ (if absent ByMonthDay then (if t then (n == own) else true) else test month n)
  days_given test own_month month out taken = grind (arith, nat_tests, out ByMonthDay, out ByYearDay, out ByWeekNo)

  weekdays_given : (day week : Bool) {t : Bool} → ((part : Part) → cell part f ≡ Nothing → absent part ≡ true)
      → t ≡ (absent ByDay && (gives_own f ByDay || (absent ByMonthDay && absent ByYearDay && not (absent ByWeekNo))))
      → ((absent ByDay || day) && ((absent ByWeekNo || ((left_by_year_day == own) && week)) && own_if (gives_own f ByDay) own left_by_week))
      ≡ ((absent ByWeekNo || week) && (if t then (n == own) else (absent ByDay || day)))
  weekdays_given day week out taken = grind (arith, nat_tests, out ByMonthDay, out ByYearDay, out ByWeekNo)

extracted : (f : Frequency) (r : Recurrence) → (is_extracted r f ByMonth ≡ (gives_own f ByMonth && is_dayless r))
    × (is_extracted r f ByMonthDay ≡ (gives_own f ByMonthDay && is_dayless r))
extracted f r = grind arith

weekday_taken : (f : Frequency) (r : Recurrence) → (cell ByWeekNo f ≡ Nothing → is_absent r ByWeekNo ≡ true)
    → takes_weekday f r.parts ≡ (is_absent r ByDay && (gives_own f ByDay || (is_absent r ByMonthDay && is_absent r ByYearDay && not (is_absent r ByWeekNo))))
weekday_taken f r week = grind arith

module _ (r : Recurrence) (allowed : IsAllowed r) where
  -- an instance as a part leaves it to the parts before: as it is, or with what DTSTART gives
  abbrev from : Part → Bool → Instance → Instance
  from ByMonth kept i = record i { month = keep kept (start_of r).month i.month }
  from ByHour kept i = record i { hour = keep kept (start_of r).hour i.hour }
  from ByMinute kept i = record i { minute = keep kept (start_of r).minute i.minute }
  from BySecond kept i = record i { second = keep kept (start_of r).second i.second }
  from part kept i = record i {
    month = keep kept (on_own_day r i).month i.month;
    month_day = keep kept (start_of r).month_day i.month_day;
    weekday = keep kept (start_of r).weekday i.weekday;
  }

  abbrev left : Part → Instance → Instance
  left part i = from part (is_absent r part || not (expands (is_absent r) (cell part r.parts.frequency))) i

  -- a part that is absent, or what it gives
  abbrev lets_part : Part → Instances
  lets_part part i = is_absent r part || gives r part i

  by_cell : {c : Cell} (part : Part) (set : Instances) (back : Bool → Instance) → back false ≡ before r part (back true)
      → (c ≡ Nothing → is_absent r part ≡ true)
      → (expands (is_absent r) c ≡ false → is_absent r part ≡ false → gives r part (back true) ≡ is_listed r part (back true))
      → (if is_absent r part then set (back true) else apply_cell c r part set (back true))
      ≡ ((is_absent r part || gives r part (back true)) && set (back (is_absent r part || not (expands (is_absent r) c))))
  by_cell part set back own none limits = grind arith

  -- BYWEEKNO is absent if it does not expand
  week_out : expands (is_absent r) (cell ByWeekNo r.parts.frequency) ≡ false → is_absent r ByWeekNo ≡ false → ⊥
  week_out h some = grind (arith, allowed.parts ByWeekNo)

  step : (part : Part) (set : Instances) (i : Instance) → apply r set part i ≡ (lets_part part i && set (left part i))
  step ByWeekNo set i = by_cell ByWeekNo set (λ kept. from ByWeekNo kept i) refl (allowed.parts ByWeekNo) (λ h some. absurd (week_out h some))
  step part set i = by_cell part set (λ kept. from part kept i) refl (allowed.parts part) (λ h some. refl)

  -- the parts applied, the last of them first, and their tests
  abbrev applied : Instances → List Part → Instances
  applied set [] i = set i
  applied set (part ∷ parts) i = apply r (applied set parts) part i

  abbrev tests : Instances → List Part → Instances
  tests set [] i = set i
  tests set (part ∷ parts) i = lets_part part i && tests set parts (left part i)

  steps : (set : Instances) (parts : List Part) (i : Instance) → applied set parts i ≡ tests set parts i
  steps set [] i = refl
  steps set (part ∷ parts) i = step part (applied set parts) i ∙ ap (λ x. lets_part part i && x) (steps set parts (left part i))

  module _ (i : Instance) where
    -- the instance that the parts of the day leave to BYMONTH
    abbrev left_by_days : Instance
    left_by_days = left ByWeekNo (left ByYearDay (left ByMonthDay (left ByDay i)))

    hours : Gives (lets_part ByHour i) (own_if (skips_hours r.parts.frequency) (start_of r).hour (left ByHour i).hour) (lets (effective r).hours i.hour)
    hours = record { same = grind (arith, nat_tests, (clock_let_in r i.hour allowed.dates).0) }

    minutes : Gives (lets_part ByMinute i) (own_if (skips_minutes r.parts.frequency) (start_of r).minute (left ByMinute i).minute)
        (lets (effective r).minutes i.minute)
    minutes = record { same = grind (arith, nat_tests, (clock_let_in r i.minute allowed.dates).1) }

    seconds : Gives (lets_part BySecond i) (own_if (skips_seconds r.parts.frequency) (start_of r).second (left BySecond i).second)
        (lets (effective r).seconds i.second)
    seconds = record { same = grind (arith, nat_tests, (clock_let_in r i.second allowed.dates).2) }

  -- the instances that the table gives in a period are what the rule lets in there
  pub instances_by_table : (p n : ℕ) → is_instance r p n ≡ is_let_in (effective r) p n
  unfolding effective
  instances_by_table p n =
      let f = r.parts.frequency in
      let s = start_of r in
      let i = instance_of r.parts n in
      let j = left ByHour (left ByMinute (left BySecond i)) in
      steps (λ j. j.period == p && own_instance f s j) (BySecond ∷ ByMinute ∷ ByHour ∷ ByDay ∷ ByMonthDay ∷ ByYearDay ∷ ByWeekNo ∷ ByMonth ∷ []) i
      ∙ in_order _ _ (owned f s (left ByMonth (left_by_days j))) (
        record { same = months_given (is_absent r) f s.month i.month (contains r.parts.months) (extracted f r).0 ∙ sym (months_let_in r i.month) },
        record {
          same = days_given (is_absent r) f s.month_day i.month_day (λ month day. lists r.parts.month_days day (days_in_month (pos i.year) month))
              s.month i.month allowed.parts (extracted f r).1 ∙ sym (month_days_let_in r i.month_day (days_in_month (pos i.year) i.month));
        },
        record {
          same = weekdays_given (is_absent r) f s.weekday i.weekday (is_listed r ByDay j) (is_listed r ByWeekNo j) allowed.parts
              (weekday_taken f r (allowed.parts ByWeekNo))
              ∙ ap (λ x. lets_week (effective r) (day_of n) && x) (sym (weekdays_let_in r n _ _ _ allowed.numbers));
        },
      ) (hours i, minutes i, seconds i)

module _ (r : Recurrence) (allowed : IsAllowed r) where
  -- a candidate is an instance of a period that FREQ and INTERVAL give
  candidates_by_table : (n : ℕ) → is_candidate r n ≡ (is_period r (period_of r n) && is_instance r (period_of r n) n)
  unfolding is_candidate effective
  candidates_by_table n = grind (arith, and_assoc, instances_by_table, eq-eqb (period_of r n) (period_of r n) refl)

  -- what stands beside n is the set of its period
  chosen : (n : ℕ) → is_chosen (effective r) (number r.start) n ≡ (is_period r (period_of r n) && is_limited r (period_of r n) n)
  unfolding is_candidate effective
  chosen n =
      let set = is_instance r (period_of r n) in
      chosen_by (effective r) (number r.start) n (is_period r (period_of r n)) (set n) set (candidates_by_table n) refl
      (λ step m l. beside_let_in (effective r) (number r.start) n m step refl ∙ sym (instances_by_table r allowed (period_of r n) m))

  members_by_table : (n : ℕ) → is_in_rule r n ≡ is_member r n
  unfolding is_in_rule
  members_by_table n = ap (λ x. n == number r.start || (nat_lt (number r.start) n && x)) (chosen n)

  counted : (o : Option ℕ) (n : ℕ) → is_counted r o n ≡ is_within_count r o n
  counted None n = refl
  counted (Some c) n = ap (λ x. nat_lt x c) (count-same n (is_in_rule r) (is_member r) (λ m l. members_by_table m))

  kept_by_table : (n : ℕ) → is_kept r n ≡ is_kept_by_table r n
  unfolding is_kept
  kept_by_table n = grind (arith, counted, members_by_table, until_bounds)

pub returns : goal.returns
returns c = record { candidates = candidates_by_table; members = members_by_table; kept = kept_by_table }
