-- What UNTIL leaves of a rule.
use Rattle.std.proofs.Common.{◌≡◌, ℕ, ◌+◌, ◌*◌, ◌/◌, Bool, true, ◌&&◌, ◌||◌, ◌==◌, nat_le, nat_lt, Option, Some, ℤ, refl, ap, arith}
use Rattle.std.proofs.lemmas.Bool.Decides.{nat_tests}
use Rattle.ics_fields.specs.declared.frequency.Frequency.{Frequency}
use Rattle.ics_fields.specs.declared.until.Until.{Until}
use Rattle.ics_fields.specs.Locals.{number}
use Rattle.ics_period.specs.declared.kind.Kind.{Kind}
use Rattle.ics_period.specs.Recurrence.{Recurrence}
use Rattle.ics_period.specs.PeriodNumbers.{rules_end}
use Rattle.ics_period.specs.EffectiveRules.{takes_month, takes_month_day, takes_weekday, effective}
use Rattle.ics_period.specs.Ranks.{is_chosen}
use Rattle.ics_rule.specs.Kept.{is_in_rule, is_by_until, is_counted, is_kept, until_moment}
use Rattle.ics_rule.specs.UntilBounds.{last_local, is_up_to, is_bounded, without_until}
use Rattle.ics_period.proofs.Counts.{count-same}

-- a date is compared as the last local of its day is
by_date : (n day : ℕ) → nat_le (n / 86_400) day ≡ nat_le n (day * 86_400 + 86_399)
by_date n day = grind (arith, nat_tests)

by_until : (k : Kind) (u : Option Until) (n : ℕ) → is_by_until k u n ≡ is_up_to (last_local k u) n
by_until k u n = grind (arith, by_date)

pub until_bounds : (r : Recurrence) (n : ℕ) → is_by_until r.kind r.parts.until n ≡ is_bounded r n
until_bounds r n = by_until r.kind r.parts.until n

-- the members are those of the rule without UNTIL
same_takes : (f : Frequency) (r : Recurrence) → (takes_month f (without_until r).parts ≡ takes_month f r.parts)
    × ((takes_month_day f (without_until r).parts ≡ takes_month_day f r.parts) × (takes_weekday f (without_until r).parts ≡ takes_weekday f r.parts))
same_takes f r = grind arith

same_rule : (r : Recurrence) → effective (without_until r) ≡ effective r
unfolding effective
same_rule r = let takes = same_takes r.parts.frequency r in rw (takes.0, takes.1.0, takes.1.1) refl

same_members : (r : Recurrence) (n : ℕ) → is_in_rule (without_until r) n ≡ is_in_rule r n
unfolding is_in_rule
same_members r n = ap (λ q. n == number r.start || (nat_lt (number r.start) n && is_chosen q (number r.start) n)) (same_rule r)

same_counted : (r : Recurrence) (o : Option ℕ) (n : ℕ) → is_counted (without_until r) o n ≡ is_counted r o n
same_counted r o n = grind (arith, count-same, same_members)

pub kept_by_until : (r : Recurrence) (n : ℕ) → is_kept r n ≡ (n == number r.start || (is_kept (without_until r) n && is_bounded r n))
unfolding is_kept
kept_by_until r n = rw (same_members r n, same_counted r r.parts.count n, until_bounds r n)
    (in_order (n == number r.start) (nat_lt n rules_end) (is_in_rule r n) (is_bounded r n) (is_counted r r.parts.count n))
  where
    in_order : (s e m u c : Bool) → (s || (e && m && u && c)) ≡ (s || ((s || (e && m && true && c)) && u))
    in_order s e m u c = grind arith

pub kept_by_instants : (r : Recurrence) (t : ℤ) → until_moment r ≡ Some t → (n : ℕ) → is_kept r n ≡ is_kept (without_until r) n
unfolding until_moment is_kept
kept_by_instants r t e n = grind (arith, kept_by_until)
