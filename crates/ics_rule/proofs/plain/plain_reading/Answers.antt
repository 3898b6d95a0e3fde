-- A rule whose DTSTART fits is its plain reading.
use Rattle.std.proofs.Common.{◌≡◌, ℕ, ◌<◌, ◌≤◌, Bool, true, false, ◌&&◌, ◌||◌, ◌==◌, nat_lt, Option, Some, None, MatchOption, pos, refl, sym, ap, ◌∙◌}
use Rattle.std.proofs.Common.{arith, inl, inr}
use Rattle.std.proofs.lemmas.Bool.{and_parts, le-leb, lt-leb, lt-ltb, le-ltb, eq-eqb}
use Rattle.std.proofs.lemmas.Bool.Decides.{nat_tests}
use Rattle.std.proofs.lemmas.Nat.Bits.{bit_at-zero}
use Rattle.jiff_core.specs.Calendar.{days_in_month, days_in_year}
use Rattle.jiff_core.specs.Weekday.{monday_zero}
use Rattle.ics_fields.specs.declared.frequency.Frequency.{Frequency}
use Rattle.ics_fields.specs.declared.frequency.Frequency.TheVariants.{Weekly, Yearly}
use Rattle.ics_fields.specs.declared.ordinals.Ordinals.{Ordinals}
use Rattle.ics_fields.specs.Sets.{contains}
use Rattle.ics_fields.specs.Ordinals.{lists_none, numbers_of}
use Rattle.ics_fields.specs.Days.{year_of, year_day_of, month_of, month_day_of, weekday_of}
use Rattle.ics_period.specs.Recurrence.{Recurrence}
use Rattle.ics_period.specs.PeriodNumbers.{day_of, hour_of, minute_of, second_of, rules_end}
use Rattle.ics_fields.specs.Locals.{number, calendar_end}
use Rattle.ics_period.specs.EffectiveRules.{takes_weekday, effective}
use Rattle.ics_period.specs.Candidates.{lets_place, lets_wide_place, lets_week, lets_weekday, lets_date, lets_clock, period_in, is_stepped, is_candidate_in}
use Rattle.ics_period.specs.Ranks.{count, is_chosen}
use Rattle.ics_rule.specs.Kept.{is_in_rule, is_counted, is_kept}
use Rattle.ics_rule.specs.Table.{ByWeekNo, ByYearDay, ByMonthDay, ByDay}
use Rattle.ics_rule.specs.ByTable.{instance_of, is_absent, is_listed, weekday_unit, lists_nth_in}
use Rattle.ics_rule.specs.PlainReading.{is_place, is_dayless, is_extracted, applies, month_day_applies, year_day_applies, with_weekday, weekday_period}
use Rattle.ics_rule.specs.PlainReading.{weekday_applies, week_applies, all_apply, period_at, frequency_applies, occurs_in, position_applies, is_plain_member}
use Rattle.ics_rule.specs.PlainReading.{is_few_members, is_plainly_kept, HasPlainReading}
use Rattle.ics_period.proofs.Counts.{count-same, count-none}
use Rattle.ics_period.proofs.PeriodLemmas.{week_small, period_mono}
use Rattle.ics_rule.proofs.ChosenLemmas.{beside_let_in, chosen_by}
use Rattle.ics_rule.proofs.TableSteps.{by_absence, months_let_in, month_days_let_in, weekdays_let_in, clock_let_in}
use Rattle.ics_rule.proofs.NthLemmas.{month_days_listed, year_days_listed, month_weekday_listed, year_weekday_listed, weeks_listed}
use Rattle.ics_period.proofs.Tests.{by_order, and_assoc, unequal}
use Rattle.ics_rule.proofs.UntilLemmas.{until_bounds}
use Rattle.ics_rule.proofs.plain.plain_reading.Goals as goal

weekday_taken : (f : Frequency) (r : Recurrence) → (f ≡ Weekly → is_absent r ByDay ≡ true → is_dayless r ≡ true)
    → (f ≡ Yearly → (is_absent r ByMonthDay && is_absent r ByYearDay && is_absent r ByDay) ≡ true → is_dayless r ≡ true)
    → takes_weekday f r.parts ≡ (is_extracted r f ByDay && is_absent r ByDay)
weekday_taken f r h l = grind arith

-- a part that nothing stands in for lets all in
left_open : (f : Frequency) (r : Recurrence) {x y : Bool} → x ≡ y
    → ((is_absent r ByYearDay || x) ≡ applies r ByYearDay y true) × ((is_absent r ByWeekNo || x) ≡ applies r ByWeekNo y true)
left_open f r same = grind arith

-- the numbers of a weekday, by counting in their unit
place_none : (p : Ordinals) (test : ℕ → Bool) (e : ℕ) → lists_none p ≡ true → is_place p test e ≡ false
place_none p test e h = grind (arith, nat_tests, and_parts, bit_at-zero)

numbered : (f : Frequency) (r : Recurrence) (p : Ordinals) (n : ℕ) → day_of n < 4_000_000 → (weekday_unit r f ≡ Weekly → lists_none p ≡ true)
    → lists_nth_in (weekday_unit r f) p (instance_of r.parts n) ≡ is_place p (with_weekday (weekday_period r f) (day_of n)) (day_of n)
numbered f r p n small none = grind (arith, month_weekday_listed, year_weekday_listed, place_none)

module _ (r : Recurrence) (plain : HasPlainReading r) where
  abbrev start : ℕ
  start = number r.start

  month_day : (n : ℕ) → day_of n < 4_000_000
      → lets_place (effective r).month_days (month_day_of (day_of n)) (days_in_month (pos (year_of (day_of n))) (month_of (day_of n))) ≡ month_day_applies r n
  month_day n small =
      month_days_let_in r (month_day_of (day_of n)) (days_in_month (pos (year_of (day_of n))) (month_of (day_of n)))
      ∙ ap (λ x. applies r ByMonthDay x (month_day_of (day_of n) == month_day_of (day_of start))) (sym (month_days_listed r.parts.month_days (day_of n) small))

  year_day : (n : ℕ) → day_of n < 4_000_000
      → lets_wide_place (effective r).year_days (year_day_of (day_of n)) (days_in_year (pos (year_of (day_of n)))) ≡ year_day_applies r n
  unfolding effective
  year_day n small = (left_open r.parts.frequency r (sym (year_days_listed r.parts.year_days (day_of n) small))).0

  week : (n : ℕ) → day_of n < 3_800_000 → lets_week (effective r) (day_of n) ≡ week_applies r n
  unfolding effective
  week n small =
      (left_open r.parts.frequency r (sym (weeks_listed r.parts.weeks (monday_zero r.parts.week_start) (day_of n) (week_small r.parts.week_start) small))).1

  weekday : (n : ℕ) → day_of n < 4_000_000 → lets_weekday (effective r) (day_of n) ≡ weekday_applies r n
  weekday n small =
      let f = r.parts.frequency in
      let w = weekday_of (day_of n) in
      weekdays_let_in r n (hour_of n) (minute_of n) (second_of n) plain.numbers
      ∙ by_absence (is_absent r ByDay) (is_extracted r f ByDay) (is_listed r ByDay (instance_of r.parts n)) (w == weekday_of (day_of start))
      (weekday_taken f r plain.weekly plain.yearly)
      (λ e. ap (λ x. contains r.parts.weekdays.plain w || x) (numbered f r (numbers_of r.parts.weekdays w) n small (λ unit. plain.numbers unit w)))

  parts_apply : (n : ℕ) → n < calendar_end → (lets_date (effective r) (day_of n) && lets_clock (effective r) n) ≡ all_apply r n
  parts_apply n small =
      rw (
        months_let_in r (month_of (day_of n)),
        month_day n (omega (arith, small)),
        year_day n (omega (arith, small)),
        week n (omega (arith, small)),
        weekday n (omega (arith, small)),
        (clock_let_in r (hour_of n) plain.dates).0,
        (clock_let_in r (minute_of n) plain.dates).1,
        (clock_let_in r (second_of n) plain.dates).2,
      ) refl

  -- the periods
  abbrev in_turn : ℕ → Bool
  in_turn n = is_stepped (period_in (effective r) start) (effective r).interval (period_in (effective r) n)

  turns : (n : ℕ) → start ≤ n → in_turn n ≡ frequency_applies r n
  unfolding effective
  turns n low =
      ap (λ b. b && frequency_applies r n)
      (le-leb (period_at r start) (period_at r n) (period_mono r.parts.frequency (monday_zero r.parts.week_start) start n low))

  candidate : (n : ℕ) → n < calendar_end → is_candidate_in (effective r) start n ≡ (in_turn n && all_apply r n)
  candidate n small = and_assoc (in_turn n) (lets_date (effective r) (day_of n)) (lets_clock (effective r) n) ∙ ap (λ x. in_turn n && x) (parts_apply n small)

  -- BYSETPOS
  chosen : (n : ℕ) → start ≤ n → n < calendar_end → is_chosen (effective r) start n ≡ (frequency_applies r n && (all_apply r n && position_applies r n))
  unfolding effective
  chosen n low small =
      chosen_by (effective r) start n (in_turn n) (all_apply r n) (occurs_in r (period_at r n)) (candidate n small)
      (ap (λ x. x && all_apply r n) (eq-eqb (period_at r n) (period_at r n) refl))
      (λ step m l. beside_let_in (effective r) start n m step refl
      ∙ ap (λ x. period_at r m == period_at r n && x) (parts_apply m (omega (arith, l, small))))
      ∙ ap (λ x. x && (all_apply r n && position_applies r n)) (turns n low)

  -- DTSTART and what is later
  member : (n : ℕ) → n < rules_end → is_in_rule r n ≡ is_plain_member r n
  unfolding is_in_rule
  member n small = elim (by_order n start) [
    | inl (inl earlier) ↦ rw (unequal n start (inl earlier), le-ltb start n (omega (arith, earlier)), lt-leb start n earlier) refl
    | inl (inr later) ↦ rw (unequal n start (inr later), lt-ltb start n later, le-leb start n (omega (arith, later)))
        (chosen n (omega (arith, later)) (omega (arith, small)))
    | inr same ↦ rw (same, eq-eqb start start refl) (sym plain.fits)
  ]

  counted : (o : Option ℕ) (n : ℕ) → n < rules_end → is_counted r o n ≡ is_few_members r o n
  counted None n small = refl
  counted (Some c) n small = ap (λ x. nat_lt x c) (count-same n (is_in_rule r) (is_plain_member r) (λ m l. member m (omega (arith, l, small))))

  -- the start is the first of them
  first_counts : (o : Option ℕ) → MatchOption o (Unit {0}) (λ c. 1 ≤ c) → is_few_members r o start ≡ true
  first_counts None h = refl
  first_counts (Some c) h =
      let none = count-none start (is_plain_member r)
      (λ m l. ap (λ b. b && (frequency_applies r m && (all_apply r m && position_applies r m))) (lt-leb start m l)) in
      lt-ltb (count start (is_plain_member r)) c (omega (arith, none, h))

  start_kept : is_plainly_kept r start ≡ true
  start_kept = grind (arith, counted, first_counts)

  pub plainly_kept : (n : ℕ) → n < rules_end → is_kept r n ≡ is_plainly_kept r n
  unfolding is_kept
  plainly_kept n h = elim (by_order n start) [
    | inl other ↦ rw (unequal n start other, lt-ltb n rules_end h, member n h, until_bounds r n, counted r.parts.count n h) refl
    | inr same ↦ rw (same, eq-eqb start start refl) (sym start_kept)
  ]

pub returns : goal.returns
returns c = plainly_kept
