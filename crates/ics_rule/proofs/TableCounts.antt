-- BYSETPOS by the days of a month, for a rule that has at most one local a day, so that examples can be computed.
use Rattle.std.proofs.Common.{◌≡◌, ℕ, zero, suc, ◌+◌, ◌-◌, ◌*◌, ◌/◌, ◌%◌, ◌<◌, ◌≤◌, Bool, true, cond, ◌&&◌, ◌||◌, ◌==◌, nat_le, nat_lt, List, []}
use Rattle.std.proofs.Common.{◌∷◌, refl, sym, ap, ◌∙◌, arith}
use Rattle.std.proofs.lemmas.Bool.{cases_lt, false_from_ne_true, leb-true}
use Rattle.std.specs.Prelude.{filter}
use Rattle.ics_fields.specs.declared.ordinals.WideOrdinals.{WideOrdinals}
use Rattle.ics_fields.specs.Sets.{contains_wide}
use Rattle.ics_period.specs.Recurrence.{Recurrence}
use Rattle.ics_period.specs.PeriodNumbers.{day_of, month_number}
use Rattle.ics_fields.specs.Locals.{number, calendar_end}
use Rattle.ics_period.specs.Ranks.{count}
use Rattle.ics_period.specs.RecurrencePeriods.{month_start}
use Rattle.ics_rule.specs.Table.{BySetPos}
use Rattle.ics_rule.specs.ByTable.{is_absent, is_instance, is_nth, is_period, period_of, is_member}
use Rattle.ics_period.proofs.Counts.{count-suc, count-none}
use Rattle.ics_period.proofs.RankLemmas.{count_flat}
use Rattle.ics_period.proofs.PeriodLemmas.{month_begun, month_begins}

-- so many days from one on
abbrev pub days_from : ℕ → ℕ → List ℕ
days_from e zero = []
days_from e (suc n) = e ∷ days_from (e + 1) n

-- tests that agree on the days keep the same of them
filter-same : (f g : ℕ → Bool) (e n : ℕ) → ((d : ℕ) → e ≤ d → d < e + n → f d ≡ g d) → filter f (days_from e n) ≡ filter g (days_from e n)
filter-same f g e zero same = refl
filter-same f g e (suc n) same = ap (λ b. cond b (e ∷ filter f (days_from (e + 1) n)) (filter f (days_from (e + 1) n))) (same e (omega arith) (omega arith))
    ∙ ap (λ ds. cond (g e) (e ∷ ds) ds) (filter-same f g (e + 1) n (λ d l h. same d (omega arith) (omega arith)))

-- BYSETPOS lists the local of a set on day k from a on, by counting the days from a on and before b
abbrev pub nth_day : (ℕ → Bool) → ℕ → ℕ → ℕ → WideOrdinals → ℕ → Bool
nth_day set a b t positions k = contains_wide positions.front (count (suc k) (λ j. set ((a + j) * 86_400 + t)))
    || contains_wide positions.back (count (b - a) (λ j. set ((a + j) * 86_400 + t)) - count k (λ j. set ((a + j) * 86_400 + t)))

-- what passes lies on the days from a on and before b, at second t of the day
module _ (set : ℕ → Bool) (a b t : ℕ) (clock : t < 86_400) (shown : (m : ℕ) → set m ≡ true → ((a ≤ m / 86_400) × (m / 86_400 < b)) × (m % 86_400 ≡ t)) where
  abbrev on_day : ℕ → Bool
  on_day k = set ((a + k) * 86_400 + t)

  to_local : (d : ℕ) → count (d * 86_400 + t) set ≡ count (d * 86_400) set
  to_local d = grind (arith, count_flat, false_from_ne_true)

  past_local : (d : ℕ) → count (d * 86_400 + 86_400) set ≡ count (suc (d * 86_400 + t)) set
  past_local d = grind (arith, count_flat, false_from_ne_true)

  days_before : (k : ℕ) → count ((a + k) * 86_400) set ≡ count k on_day
  unfolding count
  days_before zero = count-none ((a + 0) * 86_400) set (λ m l. false_from_ne_true (set m) (λ e. let s = shown m e in omega (arith, s.0.0, l)))
  days_before (suc k) =
      let more : (a + suc k) * 86_400 ≡ (a + k) * 86_400 + 86_400 = omega arith in
      rw (more, past_local (a + k), count-suc ((a + k) * 86_400 + t) set, to_local (a + k), days_before k) refl

  through_day : (k : ℕ) → count (suc ((a + k) * 86_400 + t)) set ≡ count (suc k) on_day
  through_day k =
      let more : (a + k) * 86_400 + 86_400 ≡ (a + suc k) * 86_400 = omega arith in
      sym (past_local (a + k)) ∙ rw more (days_before (suc k))

  all_days : a ≤ b → b * 86_400 ≤ calendar_end → count calendar_end set ≡ count (b - a) on_day
  all_days low high =
      count_flat (b * 86_400) calendar_end set high (λ m l h. false_from_ne_true (set m) (λ e. let s = shown m e in omega (arith, s.0.1, l)))
      ∙ ap (λ x. count (x * 86_400) set) (let whole : b ≡ a + (b - a) = omega (arith, low) in whole) ∙ days_before (b - a)

  nth_by_days : (positions : WideOrdinals) (k : ℕ) → a ≤ b → b * 86_400 ≤ calendar_end
      → is_nth positions set ((a + k) * 86_400 + t) ≡ nth_day set a b t positions k
  nth_by_days positions k low high = grind (arith, all_days, days_before, through_day, to_local)

-- the instances of a rule in the month p, at 9:00
pub record IsMonthly (r : Recurrence) (p : ℕ) : Type 0 where
  pub period : (m : ℕ) → period_of r m ≡ month_number (day_of m)
  pub shown : (m : ℕ) → is_instance r p m ≡ true → (month_number (day_of m) ≡ p) × (m % 86_400 ≡ 32_400)

-- a day of the month at 9:00 is in the rule, by the days
abbrev pub by_days : Recurrence → ℕ → ℕ → ℕ → ℕ → Bool
by_days r p a b e = e * 86_400 + 32_400 == number r.start
    || (nat_lt (number r.start) (e * 86_400 + 32_400) && (is_period r p && (is_instance r p (e * 86_400 + 32_400)
    && (is_absent r BySetPos || nth_day (is_instance r p) a b 32_400 r.parts.positions (e - a)))))

module _ (r : Recurrence) (p a b : ℕ) (monthly : IsMonthly r p) (first : month_start p ≡ a) (next : month_start (suc p) ≡ b) where
  shown : (m : ℕ) → is_instance r p m ≡ true → ((a ≤ m / 86_400) × (m / 86_400 < b)) × (m % 86_400 ≡ 32_400)
  shown m e = grind (arith, cases_lt, month_begins, month_begun)

  in_month : (e : ℕ) → a ≤ e → e < b → month_number e ≡ p
  in_month e low high = grind (arith, cases_lt, month_begins, month_begun)

  member : (e : ℕ) → a ≤ b → b * 86_400 ≤ calendar_end → a ≤ e → e < b → is_member r (e * 86_400 + 32_400) ≡ by_days r p a b e
  member e low high begun before =
      let day : day_of (e * 86_400 + 32_400) ≡ e = omega arith in
      let here : (a + (e - a)) * 86_400 + 32_400 ≡ e * 86_400 + 32_400 = omega (arith, begun) in
      let own = monthly.period (e * 86_400 + 32_400) ∙ ap month_number day ∙ in_month e begun before in
      let placed = sym (ap (is_nth r.parts.positions (is_instance r p)) here)
      ∙ nth_by_days (is_instance r p) a b 32_400 (omega arith) shown r.parts.positions (e - a) low high in
      rw (own, placed)

  pub members_by_days : nat_le a b ≡ true → nat_le (b * 86_400) calendar_end ≡ true
      → filter (λ e. is_member r (e * 86_400 + 32_400)) (days_from a (b - a)) ≡ filter (by_days r p a b) (days_from a (b - a))
  members_by_days begun inside =
      let low = leb-true a b begun in
      let high = leb-true (b * 86_400) calendar_end inside in
      filter-same (λ e. is_member r (e * 86_400 + 32_400)) (by_days r p a b) a (b - a) (λ e l h. member e low high l (omega (arith, h, low)))
