-- Where COUNT ends a rule.
use Rattle.std.proofs.Common.{◌≡◌, ◌⊎◌, ℕ, ◌≤◌, inl, inr, Bool, true, false, ◌&&◌, ◌||◌, ◌==◌, nat_lt, Option, Some, None, refl, sym, ap, ◌∙◌, arith}
use Rattle.std.proofs.lemmas.Bool.{eqb-true}
use Rattle.std.proofs.lemmas.Bool.Decides.{nat_tests}
use Rattle.ics_fields.specs.declared.frequency.Frequency.{Frequency}
use Rattle.ics_fields.specs.Locals.{number}
use Rattle.ics_period.specs.Recurrence.{Recurrence}
use Rattle.ics_period.specs.PeriodNumbers.{rules_end}
use Rattle.ics_period.specs.EffectiveRules.{takes_month, takes_month_day, takes_weekday, effective}
use Rattle.ics_period.specs.Ranks.{is_chosen}
use Rattle.ics_rule.specs.Kept.{is_in_rule, is_by_until, is_counted, is_kept}
use Rattle.ics_rule.specs.CountBounds.{without_count}
use Rattle.ics_period.proofs.Counts.{count_mono}
use Rattle.ics_rule.proofs.NextLemmas.{in_rule_earlier}

-- the members are those of the rule without COUNT
same_takes : (f : Frequency) (r : Recurrence) → (takes_month f (without_count r).parts ≡ takes_month f r.parts)
    × ((takes_month_day f (without_count r).parts ≡ takes_month_day f r.parts) × (takes_weekday f (without_count r).parts ≡ takes_weekday f r.parts))
same_takes f r = grind arith

same_rule : (r : Recurrence) → effective (without_count r) ≡ effective r
unfolding effective
same_rule r = let takes = same_takes r.parts.frequency r in rw (takes.0, takes.1.0, takes.1.1) refl

same_members : (r : Recurrence) (n : ℕ) → is_in_rule (without_count r) n ≡ is_in_rule r n
unfolding is_in_rule
same_members r n = ap (λ q. n == number r.start || (nat_lt (number r.start) n && is_chosen q (number r.start) n)) (same_rule r)

-- what COUNT keeps is the start or counted, and so is each earlier member
counted_earlier : (r : Recurrence) (o : Option ℕ) (n m : ℕ) → n ≤ m → is_counted r o m ≡ true → is_counted r o n ≡ true
counted_earlier r None n m l h = refl
counted_earlier r (Some c) n m l h = let few = count_mono n m (is_in_rule r) l in grind (arith, nat_tests)

start_or_counted : (s e k u c : Bool) → (s || (e && k && u && c)) ≡ true → (s ≡ true) ⊎ (c ≡ true)
start_or_counted s e k u c h = grind arith

counted_or_not : (s e k u c : Bool) → (s ≡ false → k ≡ true → c ≡ true) → (s || (e && k && u && c)) ≡ (s || (e && k && u && true))
counted_or_not s e k u c h = grind arith

-- a member that is not the start is not earlier
member_later : (r : Recurrence) (n : ℕ) → n ≤ number r.start → (n == number r.start) ≡ false → is_in_rule r n ≡ false
member_later r n l other = in_rule_earlier r n (let differ = other in grind (arith, nat_tests))

pub kept_without_count : (r : Recurrence) (n m : ℕ) → n ≤ m → is_kept r m ≡ true → is_kept r n ≡ is_kept (without_count r) n
unfolding is_kept
kept_without_count r n m l h = rw (same_members r n)
    (counted_or_not (n == number r.start) (nat_lt n rules_end) (is_in_rule r n) (is_by_until r.kind r.parts.until n) (is_counted r r.parts.count n) counted)
  where
    counted : (n == number r.start) ≡ false → is_in_rule r n ≡ true → is_counted r r.parts.count n ≡ true
    counted other member = elim (start_or_counted (m == number r.start) (nat_lt m rules_end) (is_in_rule r m) (is_by_until r.kind r.parts.until m)
        (is_counted r r.parts.count m) h) [
          | inl first ↦ absurd (
              let at : m ≡ number r.start = eqb-true m (number r.start) first in
              let none : is_in_rule r n ≡ false = member_later r n (rw at at l) other in
              let both = sym member ∙ none in cc)
          | inr few ↦ counted_earlier r r.parts.count n m l few
        ]
