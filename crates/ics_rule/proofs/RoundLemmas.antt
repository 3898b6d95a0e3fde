-- What a rule allows repeats after a round of periods.
use Rattle.std.proofs.Common.{◌≡◌, ℕ, ◌+◌, ◌-◌, ◌*◌, ◌/◌, ◌%◌, ◌<◌, ◌≤◌, ◌⊎◌, true, ◌&&◌, refl, sym, subst, ap, ◌∙◌, arith}
use Rattle.std.proofs.lemmas.Bool.Decides.{nat_tests}
use Rattle.std.proofs.lemmas.Nat.{div-add-mod'}
use Rattle.std.proofs.Math.Nat.{add-mul-mod_self_right, mul_assoc, mul_comm}
use Rattle.jiff_core.specs.Weekday.{monday_zero}
use Rattle.ics_fields.specs.declared.frequency.Frequency.{Frequency}
use Rattle.ics_fields.specs.declared.ordinals.Ordinals.{Ordinals}
use Rattle.ics_fields.specs.Sets.{is_empty}
use Rattle.ics_fields.specs.Ordinals.{lists_no_weekday}
use Rattle.ics_fields.specs.Days.{weekday_of}
use Rattle.ics_period.specs.declared.effective_rule.EffectiveRule.{EffectiveRule}
use Rattle.ics_period.specs.PeriodNumbers.{period, day_of, hour_of, minute_of, second_of}
use Rattle.ics_period.specs.Candidates.{lets, lets_numbered, lets_date, lets_clock, is_stepped, period_in}
use Rattle.ics_period.specs.DateParts.{names_weekdays_alone}
use Rattle.ics_period.specs.RecurrencePeriods.{first_local}
use Rattle.ics_rule.specs.Inner.Rounds.{seconds_of, IsRound}
use Rattle.ics_period.proofs.CountBounds.{repeats_often}
use Rattle.ics_period.proofs.DateLemmas.{weekdays_alone}
use Rattle.ics_period.proofs.Tests.{positive}

-- under the frequencies whose periods last alike a weekday with a number stands for the weekday
numbered_alike : (f : Frequency) (q : EffectiveRule) (p : Ordinals) (d e : ℕ) → 0 < seconds_of f → lets_numbered f q p d ≡ lets_numbered f q p e
numbered_alike f q p d e h = grind (arith, nat_tests)

pub clock_alike : (q : EffectiveRule) (n m : ℕ) → lets q.hours (hour_of n) ≡ lets q.hours (hour_of m) →
    lets q.minutes (minute_of n) ≡ lets q.minutes (minute_of m) → lets q.seconds (second_of n) ≡ lets q.seconds (second_of m)
    → lets_clock q n ≡ lets_clock q m
clock_alike q n m h i s = grind (arith, nat_tests)

pub clock_same : (q : EffectiveRule) (n m : ℕ) → hour_of n ≡ hour_of m → minute_of n ≡ minute_of m → second_of n ≡ second_of m → lets_clock q n ≡ lets_clock q m
clock_same q n m h i s = rw (h, i, s) refl

lets_alike : (s a b : ℕ) → (is_empty s ≡ true) ⊎ (a ≡ b) → lets s a ≡ lets s b
lets_alike s a b h = grind (arith, nat_tests)

pub let_in_alike : (q : EffectiveRule) (n m : ℕ) → lets_date q (day_of n) ≡ lets_date q (day_of m) → lets_clock q n ≡ lets_clock q m →
    (lets_date q (day_of n) && lets_clock q n) ≡ (lets_date q (day_of m) && lets_clock q m)
let_in_alike q n m d c = ap (λ x. x && lets_clock q n) d ∙ ap (λ x. lets_date q (day_of m) && x) c

-- Of the parts of the date a rule names weekdays alone, and its periods last alike.
module _ (q : EffectiveRule) (alone : names_weekdays_alone q ≡ true) (fine : 0 < seconds_of q.frequency) where
  pub date_alike : (d e : ℕ) → (lists_no_weekday q.weekdays ≡ true) ⊎ (weekday_of d ≡ weekday_of e) → lets_date q d ≡ lets_date q e
  date_alike d e same = grind (arith, nat_tests, numbered_alike, weekdays_alone)

  -- so many seconds later it lets in the same, where each part is absent or they are a multiple of its cycle
  pub repeats : (s : ℕ) → (lists_no_weekday q.weekdays ≡ true) ⊎ (s % 604_800 ≡ 0) → (is_empty q.hours ≡ true) ⊎ (s % 86_400 ≡ 0)
      → (is_empty q.minutes ≡ true) ⊎ (s % 3_600 ≡ 0) → (is_empty q.seconds ≡ true) ⊎ (s % 60 ≡ 0)
      → (n : ℕ) → (lets_date q (day_of (n + s)) && lets_clock q (n + s)) ≡ (lets_date q (day_of n) && lets_clock q n)
  repeats s w h i e n = let_in_alike q (n + s) n (grind (arith, date_alike (day_of (n + s)) (day_of n))) (grind (arith, clock_alike q (n + s) n, lets_alike))

-- periods that last alike
unit_period : (f : Frequency) (w n j : ℕ) → 0 < seconds_of f → period f w (n + j * seconds_of f) ≡ period f w n + j
unit_period f w n j h = grind arith

unit_first : (f : Frequency) (w p j : ℕ) → 0 < seconds_of f → 2 ≤ p → first_local f w (p + j) ≡ first_local f w p + j * seconds_of f
unit_first f w p j h l = grind arith

pub step_repeats : (i d first p : ℕ) → first ≤ p → is_stepped first i (p + i * d) ≡ is_stepped first i p
step_repeats i d first p l = grind (arith, nat_tests, add-mul-mod_self_right (p - first) d i, mul_comm i d)

pub round_is : {q : EffectiveRule} {seconds unit : ℕ} → unit ≡ seconds_of q.frequency → 0 < unit → seconds % unit ≡ 0 → 1 ≤ seconds → 1 ≤ q.interval
    → ((n : ℕ) → (lets_date q (day_of (n + seconds)) && lets_clock q (n + seconds)) ≡ (lets_date q (day_of n) && lets_clock q n))
    → IsRound q (q.interval * (seconds / unit)) (q.interval * (seconds / unit) * unit)
round_is {q = q} {seconds = seconds} {unit = unit} e fine whole some steps on = record {
  some = positive q.interval (seconds / unit) steps (grind (arith, div-add-mod'));
  step = step_repeats q.interval (seconds / unit);
  period = λ n. ap (λ x. period_in q (n + q.interval * (seconds / unit) * x)) e
      ∙ unit_period q.frequency (monday_zero q.week_start) n (q.interval * (seconds / unit)) (subst (λ x. 0 < x) e fine);
  first = λ p l. unit_first q.frequency (monday_zero q.week_start) p (q.interval * (seconds / unit)) (subst (λ x. 0 < x) e fine) l
      ∙ ap (λ x. first_local q.frequency (monday_zero q.week_start) p + q.interval * (seconds / unit) * x) (sym e);
  let_in = λ n.
      let whole : q.interval * (seconds / unit) * unit ≡ q.interval * seconds = grind (arith, div-add-mod', mul_assoc) in
      rw whole (repeats_often (λ n. lets_date q (day_of n) && lets_clock q n) {low = 0} seconds (λ n l. on n) q.interval n (omega arith));
}
