-- Where a rule chooses nothing, as far as the parts of the date tell and the period that is held.
use Rattle.std.proofs.Common.{◌≡◌, ℕ, zero, suc, ◌+◌, ◌-◌, ◌<◌, ◌≤◌, inl, inr, Bool, true, false, ◌&&◌, Option, Some, None}
use Rattle.std.proofs.Common.{MatchOption, refl, sym, ap, ◌∙◌, arith}
use Rattle.std.proofs.lemmas.Bool.{and_parts, and_right, cases_lt, eqb-true}
use Rattle.jiff_core.specs.Weekday.{monday_zero}
use Rattle.ics_fields.specs.Ordinals.{lists_none_wide}
use Rattle.ics_fields.specs.Sets.{IsLeastFrom}
use Rattle.ics_period.specs.declared.effective_rule.EffectiveRule.{EffectiveRule}
use Rattle.ics_period.specs.declared.recurrence_period.RecurrencePeriod.{RecurrencePeriod}
use Rattle.ics_period.specs.Candidates.{is_stepped, period_in}
use Rattle.ics_period.specs.Ranks.{count, is_chosen}
use Rattle.ics_period.specs.RecurrencePeriods.{first_local, holds, is_taken, IsPeriodOf}
use Rattle.ics_rule.specs.declared.cursor.Cursor.{Cursor}
use Rattle.ics_rule.specs.Cursors.{CountedBy, IsCounted, NoneChosenAfter}
use Rattle.ics_rule.specs.Inner.Quiet.{NoneChosen}
use Rattle.ics_rule.specs.Inner.Searches.{is_few, is_wanted, IsNextOpen, NoneLetIn}
use Rattle.ics_rule.proofs.ChosenLemmas.{no_step, not_let_in, taken_out, taken_within}
use Rattle.ics_rule.proofs.CountLemmas.{are_few, chosen_before, not_few}
use Rattle.ics_period.proofs.Counts.{count-none, count-suc}
use Rattle.ics_period.proofs.Tests.{keep_true}
use Rattle.ics_rule.proofs.CursorLemmas.{within_facts, within_here}
use Rattle.ics_period.proofs.PeriodLemmas.{before_first, begun, period_mono}

-- two ranges, one after the other
pub joined : (q : EffectiveRule) (start : ℕ) {a c : ℕ} (b : ℕ) → NoneChosen q start a b → NoneChosen q start b c → NoneChosen q start a c
joined q start b first second n l u = elim (cases_lt n b) [ inl early ↦ first n l early | inr late ↦ second n late u ]

-- By the parts of the date and the time: nothing is chosen before the first that they allow.
pub closed : (q : EffectiveRule) (start : ℕ) {from opens : ℕ} → NoneLetIn q from opens → NoneChosen q start from opens
closed q start none n l u = not_let_in q start n (λ s. none n l u)

-- Nothing is chosen from a local on before the next step that may be allowed.
pub off_step : (q : EffectiveRule) (start from before : ℕ) {step : ℕ} → IsNextOpen q (period_in q start) (period_in q from) step
    → ((n : ℕ) → from ≤ n → n < before → period_in q n < step) → NoneChosen q start from before
off_step q start from before next earlier n l u =
    not_let_in q start n (next.none n (period_mono q.frequency (monday_zero q.week_start) from n l) (earlier n l u))

-- By the period held.
module _ {q : EffectiveRule} (start : ℕ) {p : RecurrencePeriod} (own : IsPeriodOf q p) where
  abbrev taken : ℕ → Bool
  taken = is_taken q.positions (lists_none_wide q.positions) p

  taken_here : (n : ℕ) → taken n ≡ true → period_in q n ≡ p.number
  taken_here n t = by (holds p n) refl
    where
      by : (b : Bool) → holds p n ≡ b → period_in q n ≡ p.number
      by true h = eqb-true (period_in q n) p.number (and_parts _ _ (sym (own.members n) ∙ h)).0
      by false h = let no = sym t ∙ taken_out q.positions (lists_none_wide q.positions) p n h in absurd cc

  not_chosen : (n : ℕ) → period_in q n ≡ p.number → taken n ≡ false → is_chosen q start n ≡ false
  not_chosen n here none = by (is_stepped (period_in q start) q.interval p.number) refl
    where
      by : (b : Bool) → is_stepped (period_in q start) q.interval p.number ≡ b → is_chosen q start n ≡ false
      by true step = sym (within_here q start p.number n here) ∙ (sym (taken_within start own refl step n) ∙ none)
      by false step = no_step q start n (ap (is_stepped (period_in q start) q.interval) here ∙ step)

  pub held_next : {place n : ℕ} → period_in q place ≡ p.number → IsLeastFrom taken place n → NoneChosen q start place n
  held_next {place = place} {n = n} here next m l u =
      let low = period_mono q.frequency (monday_zero q.week_start) place m l in
      let high = period_mono q.frequency (monday_zero q.week_start) m n (omega (arith, u)) in
      not_chosen m (omega (arith, low, high, here, taken_here n next.passes)) (next.least m l u)

  pub held_none : (place : ℕ) → period_in q place ≡ p.number → ((m : ℕ) → place ≤ m → taken m ≡ false)
      → NoneChosen q start place (first_local q.frequency (monday_zero q.week_start) (p.number + 1))
  held_none place here none m l u =
      let low = period_mono q.frequency (monday_zero q.week_start) place m l in
      let high = before_first q.frequency (monday_zero q.week_start) (p.number + 1) m u in
      not_chosen m (omega (arith, low, high, here)) (none m l)

-- what passes one test from a number on passes another: with what passes that before the number, no more pass the first
module _ (f g : ℕ → Bool) (a : ℕ) (is : (m : ℕ) → g m ≡ true → (a ≤ m) × (f m ≡ true)) where
  none_before : (m : ℕ) → m < a → g m ≡ false
  none_before m l = by (g m) refl
    where
      by : (b : Bool) → g m ≡ b → g m ≡ false
      by true t = let late = (is m t).0 in absurd (omega (arith, late, l))
      by false t = t

  more : (n : ℕ) → g n ≡ false → count n g ≡ count (suc n) g
  more n e = let one = count-suc n g in grind arith

  pub both_counted : (k : ℕ) → count a f + count (a + k) g ≤ count (a + k) f
  both_counted zero = let none = count-none a g none_before in let same : a + 0 ≡ a = omega arith in rw same (omega (arith, none))
  both_counted (suc k) =
      let rest = both_counted k in
      let one = is (a + k) in
      let same : a + suc k ≡ suc (a + k) = omega arith in
      rw same (grind (arith, count-suc (a + k) f, count-suc (a + k) g))

-- Under COUNT: all that is kept is earlier than the place.
pub counted_past : {q : EffectiveRule} {start c counted limit quiet_to : ℕ} {p : RecurrencePeriod} (place : ℕ) → IsPeriodOf q p
    → IsCounted q start c counted limit quiet_to p → p.number ≤ period_in q place
    → limit ≤ counted + count place (is_taken q.positions (lists_none_wide q.positions) p) → (n : ℕ) → place ≤ n → is_wanted q start (Some c) n ≡ false
counted_past {q = q} {start = start} {c = c} {counted = counted} {limit = limit} {p = p} place own is late out n l =
    let first = first_local q.frequency (monday_zero q.week_start) p.number in
    let low = begun q.frequency (monday_zero q.week_start) p.number place late in
    let all = both_counted (is_chosen q start) (is_taken q.positions (lists_none_wide q.positions) p) first within (place - first) in
    let end : first + (place - first) ≡ place = omega (arith, low) in
    let total = rw end at all in
    and_right (is_chosen q start n) (is_few q start c n) (not_few q start c limit is.most place n (omega (arith, total, out, is.total)) l)
  where
    within : (m : ℕ) → is_taken q.positions (lists_none_wide q.positions) p m ≡ true
        → (first_local q.frequency (monday_zero q.week_start) p.number ≤ m) × (is_chosen q start m ≡ true)
    within m t =
        let at = within_facts q start p.number m (sym (taken_within start own refl is.step m) ∙ t) in
        (begun q.frequency (monday_zero q.week_start) p.number m (omega (arith, at.0)), at.1)

-- and within the period held, a local is kept that has fewer chosen before it than the limit
pub counted_here : {q : EffectiveRule} {start c counted limit quiet_to : ℕ} {p : RecurrencePeriod} (n : ℕ) → IsPeriodOf q p
    → IsCounted q start c counted limit quiet_to p → p.number ≡ period_in q n → counted + count n (is_taken q.positions (lists_none_wide q.positions) p) < limit
    → is_wanted q start (Some c) n ≡ is_chosen q start n
counted_here {q = q} {start = start} {c = c} {limit = limit} {p = p} n own is here less =
    let low = begun q.frequency (monday_zero q.week_start) p.number n (omega (arith, here)) in
    let all = chosen_before q start p own is.step n low (λ m u later. absurd (
    let up = period_mono q.frequency (monday_zero q.week_start) m n (omega (arith, u)) in omega (arith, up, later, here))) in
    ap (λ b. is_chosen q start n && b) (are_few q start c limit is.most n (omega (arith, all, less, is.total))) ∙ keep_true (is_chosen q start n)

-- a cursor keeps that nothing is chosen after the period held and before one local, and from there on before another
pub kept_quiet : (q : EffectiveRule) (start : ℕ) {from to : ℕ} (o : Option ℕ) (cursor : Cursor) → CountedBy q start o cursor
    → MatchOption cursor.held (Unit {0}) (λ p. NoneChosenAfter q start p.number from) → NoneChosen q start from to
    → CountedBy q start o (record cursor { quiet_to = to })
kept_quiet q start None cursor is none rest = tt
kept_quiet q start {from = from} {to = to} (Some k) cursor is none rest = by cursor.held is none
  where
    by : (held : Option RecurrencePeriod) → MatchOption held (Unit {0}) (IsCounted q start k cursor.counted cursor.limit cursor.quiet_to)
        → MatchOption held (Unit {0}) (λ p. NoneChosenAfter q start p.number from)
        → MatchOption held (Unit {0}) (IsCounted q start k cursor.counted cursor.limit to)
    by None h at = tt
    by (Some p) h at = record {
      step = h.step;
      total = h.total;
      most = h.most;
      quiet = λ n l u. elim (cases_lt n from) [ inl less ↦ at n l less | inr more ↦ rest n more u ];
    }
