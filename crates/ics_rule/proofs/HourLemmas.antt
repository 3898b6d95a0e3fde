-- The locals of an hour that a rule keeps.
use Rattle.std.proofs.Common.{◌≡◌, ℕ, ◌+◌, ◌*◌, ◌<◌, ◌≤◌, ◌/◌, ◌%◌, true, false, ◌&&◌, Some, None, Option, sym, ◌∙◌, arith}
use Rattle.std.proofs.lemmas.Bool.{and_from, cases_lt, false_from_ne_true, or_right}
use Rattle.std.proofs.lemmas.Bool.Decides.{nat_tests}
use Rattle.ics_fields.specs.declared.frequency.Frequency.{Frequency}
use Rattle.ics_fields.specs.declared.until.Until.{Until}
use Rattle.ics_fields.specs.Sets.{contains, is_empty}
use Rattle.ics_fields.specs.Ordinals.{lists_none_wide}
use Rattle.ics_period.specs.declared.kind.Kind.{Kind}
use Rattle.ics_period.specs.declared.effective_rule.EffectiveRule.{EffectiveRule}
use Rattle.ics_period.specs.Recurrence.{Recurrence}
use Rattle.ics_period.specs.PeriodNumbers.{period, day_of, hour_of, minute_of, second_of, rules_end}
use Rattle.ics_fields.specs.Locals.{number}
use Rattle.ics_period.specs.EffectiveRules.{effective, skips_hours}
use Rattle.ics_period.specs.Candidates.{lets, lets_clock}
use Rattle.ics_period.specs.Ranks.{is_chosen}
use Rattle.ics_rule.specs.Kept.{is_kept, is_by_until, KeepsTimes}
use Rattle.ics_rule.specs.Inner.Searches.{is_wanted}
use Rattle.ics_rule.specs.declared.hour.HourTimes.{HourTimes}
use Rattle.ics_rule.specs.Inner.HoursKept.{KeepsEnds}
use Rattle.ics_rule.specs.Next.{NoneKept}
use Rattle.ics_period.proofs.Counts.{count_mono}
use Rattle.ics_period.proofs.Tests.{and_true}
use Rattle.ics_rule.proofs.NextLemmas.{kept_later}

-- the locals of a day lie in one period, but under a rule that repeats more often than daily
pub same_period : (f : Frequency) (w n m : ℕ) → skips_hours f ≡ true → day_of n ≡ day_of m → period f w n ≡ period f w m
same_period f w n m h l = grind (arith, nat_tests)

-- UNTIL lets in what is earlier than a local that it lets in
until_up : (k : Kind) (u : Option Until) (n m : ℕ) → n ≤ m → is_by_until k u m ≡ true → is_by_until k u n ≡ true
until_up k u n m h l = grind (arith, nat_tests)

module _ (q : EffectiveRule) (start : ℕ) where
  wanted_chosen : (o : Option ℕ) (n : ℕ) → is_wanted q start o n ≡ true → is_chosen q start n ≡ true
  wanted_chosen o n h = grind (arith, and_true)

  -- COUNT lets in what is earlier than a local that it lets in
  wanted_up : (o : Option ℕ) (n m : ℕ) → n ≤ m → is_wanted q start o m ≡ true → is_chosen q start n ≡ true → is_wanted q start o n ≡ true
  wanted_up None n m l h c = c
  wanted_up (Some k) n m l h c = let fewer = count_mono n m (is_chosen q start) l in grind (arith, nat_tests, and_true)

  -- on the day of one that is chosen, without BYSETPOS, each local that the parts of the clock let in is
  module _ (coarse : skips_hours q.frequency ≡ true) (free : lists_none_wide q.positions ≡ true) where
    chosen_beside : (n m : ℕ) → day_of n ≡ day_of m → is_chosen q start m ≡ true → lets_clock q n ≡ true → is_chosen q start n ≡ true
    chosen_beside n m d h clock = grind (arith, nat_tests, and_from, and_true, same_period)

-- the parts of the clock let a kept local in
pub kept_clock : (r : Recurrence) (n : ℕ) → number r.start < n → n < rules_end → is_kept r n ≡ true → lets_clock (effective r) n ≡ true
kept_clock r n after early kept = grind (arith, and_true, kept_later, wanted_chosen)

-- a part that lists something lets in only what it lists
listed : (s n : ℕ) → is_empty s ≡ false → lets s n ≡ true → contains s n ≡ true
listed s n some let_in = grind (arith, nat_tests)

-- the times of an hour that a rule's parts list
abbrev times_of : EffectiveRule → HourTimes
times_of q = record { minutes = q.minutes; seconds = q.seconds }

-- an hour before the end of the rules, of a rule without BYSETPOS that repeats daily or more seldom, keeps the first and the last of its times
pub record KeepsBounds (r : Recurrence) (q : EffectiveRule) (hour : ℕ) : Type 0 where
  pub early : hour < 85_913_808
  pub coarse : skips_hours q.frequency ≡ true
  pub free : lists_none_wide q.positions ≡ true
  pub ends : KeepsEnds r hour (times_of q)

module _ (r : Recurrence) (hour : ℕ) (bounds : KeepsBounds r (effective r) hour) where
  abbrev ends : KeepsEnds r hour (times_of (effective r))
  ends = bounds.ends

  abbrev kept : ℕ
  kept = hour * 3_600 + ends.first

  same_day : (n : ℕ) → n / 3_600 ≡ hour → day_of n ≡ day_of kept
  same_day n at = let high = ends.next.in_bound in omega (arith, at, high)

  same_hour : (n : ℕ) → n / 3_600 ≡ hour → hour_of kept ≡ hour_of n
  same_hour n at = grind (arith, nat_tests)

  -- between the two bounds each that the parts of the clock let in is kept
  kept_between : (n : ℕ) → n / 3_600 ≡ hour → kept ≤ n → n ≤ hour * 3_600 + ends.last → lets_clock (effective r) n ≡ true → is_kept r n ≡ true
  kept_between n at low high clock =
      let early : hour * 3_600 + ends.last < rules_end = omega (arith, bounds.early, ends.inside) in
      let from = and_true (sym (kept_later r kept ends.after (omega (arith, low, high, early))) ∙ ends.next.kept) in
      let to = and_true (sym (kept_later r (hour * 3_600 + ends.last) (omega (arith, ends.after, low, high)) early) ∙ ends.kept_last) in
      let chosen = wanted_chosen (effective r) (number r.start) r.parts.count kept from.0 in
      kept_later r n (omega (arith, ends.after, low)) (omega (arith, high, early))
      ∙ and_from (is_wanted (effective r) (number r.start) r.parts.count n) (is_by_until r.kind r.parts.until n)
      (wanted_up (effective r) (number r.start) r.parts.count n (hour * 3_600 + ends.last) high to.0
      (chosen_beside (effective r) (number r.start) bounds.coarse bounds.free n kept (same_day n at) chosen clock))
      (until_up r.kind r.parts.until n (hour * 3_600 + ends.last) high to.1)

  product_kept : (n : ℕ) → n / 3_600 ≡ hour → contains (effective r).minutes (minute_of n) ≡ true → contains (effective r).seconds (second_of n) ≡ true →
      is_kept r n ≡ true
  product_kept n at minute second = grind (arith, nat_tests, and_from, and_true, kept_between, kept_clock, or_right, same_hour)

  kept_product : (n : ℕ) → n / 3_600 ≡ hour → is_kept r n ≡ true →
      (contains (effective r).minutes (minute_of n) && contains (effective r).seconds (second_of n)) ≡ true
  kept_product n at keeps = let none = ends.next.least n in let times = ends.first_time in grind (arith, cases_lt, kept_clock r n, listed)

  -- of the locals of the hour the rule keeps those that its parts list
  keeps_times : KeepsTimes r hour (times_of (effective r))
  keeps_times n at = grind (arith, nat_tests, kept_product, product_kept)

-- of an hour after the start that BYHOUR leaves out, no local is kept
pub left_out : (r : Recurrence) {q : EffectiveRule} → q ≡ effective r → (hour : ℕ) → hour < 85_913_808 → number r.start < hour * 3_600
    → lets q.hours (hour % 24) ≡ false → NoneKept r (hour * 3_600) (hour * 3_600 + 3_600)
left_out r {q = q} whole hour early after out n from to = false_from_ne_true (is_kept r n) (λ kept.
    let clock = kept_clock r n (omega (arith, after, from)) (omega (arith, early, to)) kept in
    let at : n / 3_600 ≡ hour = omega (arith, from, to) in
    grind arith)

-- the same, said of the parts that a rule holds
pub held_times : {r : Recurrence} {q : EffectiveRule} {hour : ℕ} → q ≡ effective r → KeepsBounds r q hour → KeepsTimes r hour (times_of q)
held_times {r = r} {hour = hour} whole bounds = rw whole (keeps_times r hour (rw whole at bounds))

-- a member of a set is not above the last
pub not_above : (s most n : ℕ) → ((k : ℕ) → most < k → contains s k ≡ false) → contains s n ≡ true → n ≤ most
not_above s most n is h = grind (arith, nat_tests, cases_lt)
