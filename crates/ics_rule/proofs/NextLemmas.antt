-- What a rule keeps: the start, and of the later locals that it has those that UNTIL lets through.
use Rattle.std.proofs.Common.{◌≡◌, ℕ, suc, ◌+◌, ◌-◌, ◌<◌, ◌≤◌, inl, inr, Bool, true, false, ◌&&◌, ◌||◌, ◌==◌, nat_lt, min, Some, None, Option}
use Rattle.std.proofs.Common.{MatchOption, refl, sym, ap, ◌∙◌, arith}
use Rattle.std.proofs.lemmas.Bool.{and_right, cases_lt, le-ltb, lt-ltb, eq-eqb}
use Rattle.std.proofs.lemmas.Bool.Decides.{nat_tests}
use Rattle.ics_period.specs.Recurrence.{Recurrence}
use Rattle.ics_period.specs.PeriodNumbers.{rules_end}
use Rattle.ics_fields.specs.Locals.{number}
use Rattle.ics_period.specs.EffectiveRules.{effective}
use Rattle.ics_period.specs.Ranks.{count, is_chosen}
use Rattle.ics_rule.specs.Kept.{is_kept, is_in_rule, is_by_until, is_counted}
use Rattle.ics_fields.specs.Sets.{IsLeastFrom}
use Rattle.ics_rule.specs.Inner.Searches.{is_few, is_wanted, NoneWanted, IsNextWanted}
use Rattle.ics_rule.specs.Next.{NoneKept, IsNextKept}
use Rattle.ics_period.proofs.Counts.{count-suc, count-none, count_between, count_mono, count_one}
use Rattle.ics_period.proofs.Tests.{keep_true, unequal}

-- what the rule has: the start, nothing before it, and later what it chooses
pub in_rule_start : (r : Recurrence) → is_in_rule r (number r.start) ≡ true
unfolding is_in_rule
in_rule_start r = rw (eq-eqb (number r.start) (number r.start) refl) refl

pub in_rule_earlier : (r : Recurrence) (n : ℕ) → n < number r.start → is_in_rule r n ≡ false
unfolding is_in_rule
in_rule_earlier r n h = grind (arith, nat_tests)

pub in_rule_later : (r : Recurrence) (n : ℕ) → number r.start < n → is_in_rule r n ≡ is_chosen (effective r) (number r.start) n
unfolding is_in_rule
in_rule_later r n h = grind (arith, nat_tests)

-- how many members come before a later local, by what the rule chooses
pub members_before : (r : Recurrence) (n : ℕ) → number r.start < n
    → count n (is_in_rule r) + count (suc (number r.start)) (is_chosen (effective r) (number r.start)) ≡ count n (is_chosen (effective r) (number r.start)) + 1
members_before r n h =
    let chosen = is_chosen (effective r) (number r.start) in
    let more = count_mono (suc (number r.start)) n chosen h in
    let all = count_between (count n chosen - count (suc (number r.start)) chosen) chosen (is_in_rule r) h (λ m l u. sym (in_rule_later r m l))
    (omega (arith, more)) in
    let none = count-none (number r.start) (is_in_rule r) (λ m l. in_rule_earlier r m l) in
    omega (arith, more, all, none, count-suc (number r.start) (is_in_rule r), count_one (is_in_rule r (number r.start)) (in_rule_start r))

counted_is_few : (r : Recurrence) (c n : ℕ) → number r.start < n → is_counted r (Some c) n ≡ is_few (effective r) (number r.start) c n
counted_is_few r c n h = grind (arith, nat_tests, members_before)

-- a later local is kept where the rule has it and UNTIL lets it through
pub kept_later : (r : Recurrence) (n : ℕ) → number r.start < n → n < rules_end
    → is_kept r n ≡ (is_wanted (effective r) (number r.start) r.parts.count n && is_by_until r.kind r.parts.until n)
unfolding is_kept
kept_later r n l e = by_count r.parts.count
  where
    last : (t u f : Bool) → (false || (true && t && u && f)) ≡ ((t && f) && u)
    last t u f = grind arith

    by_count : (o : Option ℕ) → (n == number r.start || (nat_lt n rules_end && is_in_rule r n && is_by_until r.kind r.parts.until n && is_counted r o n))
        ≡ (is_wanted (effective r) (number r.start) o n && is_by_until r.kind r.parts.until n)
    by_count None = rw (unequal n (number r.start) (inr l), lt-ltb n rules_end e, in_rule_later r n l)
        (keep_true (is_chosen (effective r) (number r.start) n && is_by_until r.kind r.parts.until n))
    by_count (Some c) = rw (unequal n (number r.start) (inr l), lt-ltb n rules_end e, in_rule_later r n l, counted_is_few r c n l)
        (last (is_chosen (effective r) (number r.start) n) (is_by_until r.kind r.parts.until n) (is_few (effective r) (number r.start) c n))

-- none is kept before the start, and the start is
pub kept_earlier : (r : Recurrence) (n : ℕ) → n < number r.start → is_kept r n ≡ false
unfolding is_kept
kept_earlier r n l = rw (unequal n (number r.start) (inl l), in_rule_earlier r n l) (grind arith)

pub kept_start : (r : Recurrence) → is_kept r (number r.start) ≡ true
unfolding is_kept
kept_start r = rw (eq-eqb (number r.start) (number r.start) refl) refl

-- the start is the next kept
pub next_start : (r : Recurrence) (place end : ℕ) → place ≤ number r.start → number r.start < end → IsNextKept r place end (number r.start)
next_start r place end l e = record { kept = kept_start r; from_place = l; in_bound = e; least = λ n low high. kept_earlier r n high }

-- what is next before UNTIL and the bound is the next kept
module _ (r : Recurrence) (place end until : ℕ) (after : number r.start < place) (early : end ≤ rules_end)
    (ends : (n : ℕ) → n < rules_end → is_by_until r.kind r.parts.until n ≡ nat_lt n until) where
  none_at : (n : ℕ) → place ≤ n → n < end → is_wanted (effective r) (number r.start) r.parts.count n ≡ false → is_kept r n ≡ false
  none_at n low high none = kept_later r n (omega arith) (omega arith) ∙ ap (λ b. b && is_by_until r.kind r.parts.until n) none

  pub none_kept : NoneWanted (effective r) (number r.start) r.parts.count place (min end until) → NoneKept r place end
  none_kept none n low high = elim (cases_lt n until) [
    | inl before ↦ none_at n low high (none n low (omega arith))
    | inr past ↦ kept_later r n (omega arith) (omega arith)
        ∙ and_right (is_wanted (effective r) (number r.start) r.parts.count n) (is_by_until r.kind r.parts.until n) (ends n (omega arith) ∙ le-ltb n until past)
  ]

  pub next_kept : (n : ℕ) → IsLeastFrom (is_wanted (effective r) (number r.start) r.parts.count) place n → n < min end until → IsNextKept r place end n
  next_kept n next inside = grind (arith, nat_tests, kept_later, none_at)

  -- the answer of a search, or one past what it is for
  pub kept_answer : (o : Option ℕ) → IsNextWanted (effective r) (number r.start) r.parts.count place (min end until) o
      → MatchOption o (Unit {0}) (λ n. min end until ≤ n) → NoneKept r place end
  kept_answer None none past = none_kept none
  kept_answer (Some n) next past = none_kept (λ m l u. next.least m l (omega (arith, u, past)))
