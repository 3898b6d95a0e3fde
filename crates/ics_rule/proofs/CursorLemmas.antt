-- What a cursor looks at.
use Rattle.std.proofs.Common.{◌≡◌, ℕ, zero, suc, ◌+◌, ◌-◌, ◌<◌, ◌≤◌, inl, inr, Bool, true, false, ◌==◌, nat_le, ◌&&◌, Option, Some, None, MatchOption}
use Rattle.std.proofs.Common.{max, refl, ap, sym, ◌∙◌, arith}
use Rattle.std.proofs.lemmas.Bool.{and_parts, cases_lt, eq-eqb}
use Rattle.std.proofs.lemmas.Bool.Decides.{nat_tests}
use Rattle.jiff_core.specs.Weekday.{monday_zero}
use Rattle.ics_period.specs.declared.effective_rule.EffectiveRule.{EffectiveRule}
use Rattle.ics_period.specs.declared.recurrence_period.RecurrencePeriod.{RecurrencePeriod}
use Rattle.ics_rule.specs.declared.cursor.Cursor.{Cursor}
use Rattle.ics_period.specs.Candidates.{is_stepped, period_in}
use Rattle.ics_period.specs.Ranks.{count, is_chosen}
use Rattle.ics_period.specs.RecurrencePeriods.{first_local, IsPeriodOf}
use Rattle.ics_rule.specs.Cursors.{is_met, fresh, HeldBy, CountedBy, IsCursorIn, HasLookedIn, period_count, steps_of, IsCursorOf, HasLooked}
use Rattle.ics_period.specs.EffectiveRules.{effective}
use Rattle.ics_period.specs.Recurrence.{Recurrence}
use Rattle.ics_rule.specs.Inner.Searches.{is_chosen_within, is_wanted, HasMoved, IsWalked, LooksAt, after_look}
use Rattle.ics_period.proofs.PeriodLemmas.{begun, first_in, period_mono, period_small, week_small, before_next}
use Rattle.ics_period.proofs.Counts.{count-suc, count_some, count_mono, count_most, count_one_more, count_every}
use Rattle.ics_period.proofs.RankLemmas.{found}
use Rattle.ics_fields.specs.Locals.{calendar_end, number}

-- a period that lies a multiple of the interval from the start's is met by a local of it
module _ (q : EffectiveRule) (start a b : ℕ) where
  met_by : (p n : ℕ) → a ≤ n → n < b → period_in q n ≡ p → is_stepped (period_in q start) q.interval p ≡ true → is_met q start a b p ≡ true
  met_by p n l u e step =
      let some = count_some b n (λ m. nat_le a m && period_in q m == p) u (grind (arith, nat_tests)) in grind (arith, nat_tests)

  -- so is one from that of a place to that of a bound
  pub meets : {place stop p : ℕ} → a ≤ place → place < stop → stop ≤ b
      → is_stepped (period_in q start) q.interval p ≡ true → period_in q place ≤ p → p ≤ period_in q (stop - 1) → is_met q start a b p ≡ true
  meets {place = place} {stop = stop} {p = p} from some to step low high = elim (cases_lt (period_in q place) p) [
    | inl later ↦
        let none : period_in q 0 ≤ p = (let m = period_mono q.frequency (monday_zero q.week_start) 0 place (omega arith) in omega (arith, m)) in
        let end = begun q.frequency (monday_zero q.week_start) p (stop - 1) high in
        met_by p (first_local q.frequency (monday_zero q.week_start) p)
        (let after = before_next q.frequency (monday_zero q.week_start) p place later in omega (arith, after, from))
        (omega (arith, end, to)) (first_in q.frequency (monday_zero q.week_start) p (week_small q.week_start) none) step
    | inr same ↦ met_by p place from (omega (arith, some, to)) (omega (arith, same, low)) step
  ]

-- a look that no earlier look has reached
pub looks_once : {number : ℕ} (counted : ℕ) (before : Cursor) {now : Cursor} (p : RecurrencePeriod) → fresh before.held ≤ number
    → now ≡ after_look before p counted → p.number ≡ number → LooksAt number before now
looks_once counted before p h e same = grind (arith, nat_tests, begun, count_one_more)

-- a cursor before its looks
pub moved_none : {q : EffectiveRule} {start : ℕ} {o : Option ℕ} {c : Cursor} (stop : ℕ) → IsCursorIn q start o c → HasMoved q start o stop c c
moved_none stop own = record { place = refl; looks = inl (refl, refl); begun = own.begun; steps = own.steps; looked = λ a b s few. few.few }

-- and one look further, at a step that is met
pub moved_on : {q : EffectiveRule} {start : ℕ} {o : Option ℕ} {stop number : ℕ} {before now after : Cursor} → HasMoved q start o stop before now →
    LooksAt number now after
    → ((a b : ℕ) → stop ≤ b → HasLookedIn q start o before a b → is_met q start a b number ≡ true) → HasMoved q start o stop before after
moved_on {q = q} {start = start} {before = before} {now = now} {after = after} moved at met = record {
  place = at.place ∙ moved.place;
  looks = (let first = moved.looks in let last = at.looks in grind (arith, nat_tests));
  begun = at.begun moved.begun;
  steps =
      let all = count_every (fresh now.held) in
      let more = at.steps (λ m. true) refl (omega (arith, all, moved.steps)) in
      let most = count_every (fresh after.held) in
      omega (arith, more, most);
  looked = λ a b s few. at.steps (is_met q start a b) (met a b s few) (moved.looked a b s few);
}

-- what is held stays so at a later place
pub held_mono : (q : EffectiveRule) (held : Option RecurrencePeriod) (n m : ℕ) → HeldBy q held n → n ≤ m → HeldBy q held m
held_mono q held n m h l = let up = period_mono q.frequency (monday_zero q.week_start) n m l in grind arith

-- and a cursor at a later place is one of the rule
pub own_moved : {q : EffectiveRule} {start : ℕ} {o : Option ℕ} {stop n : ℕ} {before now : Cursor} (place : ℕ) → HasMoved q start o stop before now →
    HeldBy q now.held n → n ≤ place → CountedBy q start o now → place < calendar_end → IsCursorIn q start o (record now { place = place })
own_moved {q = q} {n = n} {now = now} place moved held l counted h =
    record { inside = h; held = held_mono q now.held n place held l; begun = moved.begun; steps = moved.steps; counted = grind arith }

pub own_at : {q : EffectiveRule} {start : ℕ} {o : Option ℕ} {c : Cursor} (place : ℕ) → IsCursorIn q start o c → c.place ≤ place → place < calendar_end →
    IsCursorIn q start o (record c { place = place })
own_at {c = c} place own l h = own_moved {n = c.place} place (moved_none 0 own) own.held l own.counted h

-- the period of the place is held as if it had been looked at now
module _ {q : EffectiveRule} {start : ℕ} {o : Option ℕ} (c : Cursor) (p : RecurrencePeriod) (none : o ≡ None) (own : IsCursorIn q start o c)
    (at : IsPeriodOf q p × (p.number ≡ period_in q c.place)) (new : fresh c.held ≤ p.number)
    (step : is_stepped (period_in q start) q.interval p.number ≡ true) where
  moved : HasMoved q start o (suc c.place) c (after_look c p 0)
  moved = moved_on (moved_none (suc c.place) own) (looks_once 0 c p new refl refl) (λ a b s few. met_by q start a b p.number c.place
      (rw none at few.low) (omega (arith, s)) (sym at.1) step)

  pub own_held : IsCursorIn q start o (after_look c p 0)
  own_held = own_moved {n = c.place} c.place moved (at.0, omega (arith, at.1)) (omega arith) (rw none tt) own.inside

  pub looked_held : (a b : ℕ) → c.place < b → HasLookedIn q start o c a b → HasLookedIn q start o (after_look c p 0) a b
  looked_held a b l few = record { low = few.low; few = moved.looked a b (omega (arith, l)) few }

-- places only rise
pub looked_walked : {q : EffectiveRule} {start : ℕ} {o : Option ℕ} {stop : ℕ} {found : Option ℕ} {before now : Cursor} {a b : ℕ} (place : ℕ) →
    IsWalked q start o stop found before now → before.place ≤ place → stop ≤ b
    → HasLookedIn q start o before a b → HasLookedIn q start o (record now { place = place }) a b
looked_walked place walked l s few = grind (arith, nat_tests)

-- one that passes a test is among those counted
counted_one : (n : ℕ) (test : ℕ → Bool) → 0 < count n test → (m : ℕ) × ((m < n) × (test m ≡ true))
counted_one n test h = let first = found test 1 n (omega arith) h in (first.0, (first.1.0, first.1.1.0))

-- where one test implies another, no more pass it
pub count_within : (n : ℕ) (f g : ℕ → Bool) → ((m : ℕ) → m < n → f m ≡ true → g m ≡ true) → count n f ≤ count n g
count_within zero f g h = let e = count_most 0 f in omega (arith, e)
count_within (suc n) f g h = let less = count_within n f g (λ m l. h m (omega arith)) in let last = h n (omega arith) in
    grind (arith, count-suc n f, count-suc n g)

-- what is met before some bound and is not past the period of n is met before each bound past n
module _ (q : EffectiveRule) (start a b : ℕ) where
  met_soon : (c : ℕ) {n : ℕ} (p : ℕ) → a ≤ n → n < b → p ≤ period_in q n → is_met q start a c p ≡ true → is_met q start a b p ≡ true
  met_soon c p low high here met = grind (arith, nat_tests, and_parts, cases_lt, counted_one, met_by, period_mono)

  -- and what is met before a bound is met before a later one
  met_later : (c p : ℕ) → b ≤ c → is_met q start a b p ≡ true → is_met q start a c p ≡ true
  met_later c p h met = grind (arith, nat_tests, and_parts, count_mono)

-- An answer past the start is known from periods that hold a local not past it.
pub looked_found : {q : EffectiveRule} {start : ℕ} {o : Option ℕ} {stop n : ℕ} {before now : Cursor} {a b : ℕ} → IsWalked q start o stop (Some n) before now
    → start ≤ n → before.place ≤ n → n + 1 ≤ b → HasLookedIn q start o before a b → HasLookedIn q start o (record now { place = n + 1 }) a b
looked_found {q = q} {start = start} {o = o} {stop = stop} {n = n} {before = before} {now = now} {a = a} {b = b} walked after low soon few = record {
  low = (let from = few.low in grind arith);
  few =
      let wide = count_within (fresh before.held) (is_met q start a b) (is_met q start a (max b stop))
      (λ p l met. met_later q start a b (max b stop) p (omega arith) met) in
      let most = walked.moved.looked a (max b stop) (omega arith) (record { low = few.low; few = omega (arith, few.few, wide) }) in
      let near = count_within (fresh now.held) (is_met q start a (max b stop)) (is_met q start a b)
      (λ p l met. met_soon q start a b (max b stop) p begins (omega (arith, soon)) (below now.held walked.found.0 p l) met) in
      omega (arith, most, near);
}
  where
    begins : a ≤ n
    begins = let from = few.low in grind arith

    below : (held : Option RecurrencePeriod) → HeldBy q held n → (p : ℕ) → p < fresh held → p ≤ period_in q n
    below held h p l = grind arith

-- a cursor's steps are counted periods
pub few_steps : (r : Recurrence) (c : Cursor) (a b : ℕ) → IsCursorOf r c → HasLooked r c a b → steps_of c ≤ period_count r a b
unfolding period_count IsCursorOf HasLooked
few_steps r c a b own looked =
    let more = count_mono (fresh c.held) calendar_end (is_met (effective r) (number r.start) a b) (grind (arith, period_small)) in
    omega (arith, looked.few, more)

pub within_here : (q : EffectiveRule) (start number n : ℕ) → period_in q n ≡ number → is_chosen_within q start number n ≡ is_chosen q start n
within_here q start number n e = ap (λ x. x && is_chosen q start n) (eq-eqb (period_in q n) number e)

pub within_facts : (q : EffectiveRule) (start number n : ℕ) → is_chosen_within q start number n ≡ true → (period_in q n ≡ number) × (is_chosen q start n ≡ true)
within_facts q start number n h = grind (arith, nat_tests, and_parts)

-- what is not chosen is not wanted
pub not_wanted : (q : EffectiveRule) (start : ℕ) (o : Option ℕ) (n : ℕ) → is_chosen q start n ≡ false → is_wanted q start o n ≡ false
not_wanted q start o n none = grind arith

-- a period that is held
pub there : (P : RecurrencePeriod → Type 0) (held : Option RecurrencePeriod) → MatchOption held ⊥ P → (p : RecurrencePeriod) × P p
there P None h = absurd h
there P (Some p) h = (p, h)

pub held_is : (P : RecurrencePeriod → Type 0) {held : Option RecurrencePeriod} {p : RecurrencePeriod} → held ≡ Some p → MatchOption held ⊥ P → P p
held_is P e h = rw e at h
