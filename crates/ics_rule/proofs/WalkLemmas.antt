-- How far a walk over the periods has come.
use Rattle.std.proofs.Common.{◌≡◌, ℕ, ◌+◌, ◌-◌, ◌*◌, ◌%◌, ◌<◌, ◌≤◌, inl, inr, Bool, true, false, Option, Some, None, MatchOption, ◌⊎◌, min, sym, ap, ◌∙◌, arith}
use Rattle.std.proofs.lemmas.Bool.{cases_lt}
use Rattle.std.proofs.lemmas.Nat.{mod-mul-add}
use Rattle.jiff_core.specs.Weekday.{monday_zero}
use Rattle.ics_fields.specs.Sets.{IsLeastFrom}
use Rattle.ics_fields.specs.Ordinals.{lists_none_wide}
use Rattle.ics_period.specs.declared.effective_rule.EffectiveRule.{EffectiveRule}
use Rattle.ics_period.specs.declared.recurrence_period.RecurrencePeriod.{RecurrencePeriod}
use Rattle.ics_rule.specs.declared.cursor.Cursor.{Cursor}
use Rattle.ics_period.specs.Candidates.{is_stepped, period_in}
use Rattle.ics_period.specs.PeriodNumbers.{rules_end}
use Rattle.ics_period.specs.Ranks.{is_chosen}
use Rattle.ics_period.specs.RecurrencePeriods.{first_local, is_taken}
use Rattle.ics_rule.specs.Cursors.{HeldBy, CountedBy, IsCounted, IsCursorIn, looks_from}
use Rattle.ics_rule.specs.Inner.Searches.{is_chosen_within, is_wanted, IsNextOpen, IsNextWanted, NoneWanted, HasMoved, IsWalk, IsWalked, LooksAt}
use Rattle.ics_rule.specs.Inner.Searches.{IsAhead, IsPassed, IsTurned, IsTurnOf, IsUnderCount}
use Rattle.ics_rule.specs.Inner.Rounds.{HasRound, IsPassedTo}
use Rattle.ics_period.proofs.PeriodLemmas.{begun, before_next, period_mono}
use Rattle.ics_period.proofs.IntervalLemmas.{none_between, stepped_parts, stepped_shown}
use Rattle.ics_rule.proofs.ChosenLemmas.{no_step, not_let_in, taken_within}
use Rattle.ics_rule.proofs.CursorLemmas.{held_mono, meets, moved_none, moved_on, not_wanted, within_facts, within_here}
use Rattle.ics_rule.proofs.EvenLemmas.{even_round, none_after}

-- without COUNT it begins at the first step from the place on
pub walk_begins : {q : EffectiveRule} {start stop number : ℕ} {c : Cursor} → 1 ≤ q.interval →
    IsLeastFrom (is_stepped (period_in q start) q.interval) (period_in q c.place) number
    → c.place < stop → IsCursorIn q start None c → IsWalk q start None stop number c c
walk_begins {q = q} {start = start} {stop = stop} {c = c} some next h own = record {
  some = some;
  late = omega arith;
  early = h;
  step = next.passes;
  low = next.low;
  none = λ n l u. no_step q start n (next.least (period_in q n) (period_mono q.frequency (monday_zero q.week_start) c.place n l) u);
  held = held_mono q c.held c.place stop own.held (omega (arith, h));
  turn = (let held = own.held in let low = next.low in record { held = grind arith; counted = tt; passed = tt });
  moved = moved_none stop own;
}

pub step_first : (f i : ℕ) → 1 ≤ i → is_stepped f i f ≡ true
step_first f i some = stepped_shown f i f (omega arith) (let none : f - f ≡ 0 * i + 0 = omega arith in ap (λ x. x % i) none ∙ mod-mul-add 0 i 0 some)

-- under COUNT it begins at the period held, up to which what is chosen is counted, or at the start's
pub walk_counts : {q : EffectiveRule} {start c : ℕ} {o : Option ℕ} {before cursor : Cursor} {first number stop : ℕ} → o ≡ Some c →
    IsPassedTo q start o before cursor → first ≡ period_in q start → MatchOption cursor.held (number ≡ first) (λ p. number ≡ p.number)
    → 1 ≤ q.interval → start < before.place → before.place < stop → IsWalk q start o stop number before cursor
walk_counts {q = q} {start = start} {before = before} {cursor = cursor} {number = number} {stop = stop} under passed ef is some late early =
    let own = rw under at passed.own in
    let m = rw under at passed.moved in
    let place = m.place in
    let from = period_mono q.frequency (monday_zero q.week_start) start before.place (omega (arith, late)) in
    let step : is_stepped (period_in q start) q.interval number ≡ true = grind (arith, step_first) in
    let top : number ≤ period_in q before.place = grind arith in
    rw under (record {
      some = some;
      late = omega (arith, late);
      early = early;
      step = step;
      low = (stepped_parts (period_in q start) q.interval number step).0;
      none = λ n l u. absurd (let up = period_mono q.frequency (monday_zero q.week_start) before.place n l in omega (arith, up, u, top));
      held = held_mono q cursor.held cursor.place stop own.held (omega (arith, place, early));
      turn = record { held = grind arith; counted = own.counted; passed = grind arith };
      moved = record { place = m.place; looks = m.looks; begun = m.begun; steps = m.steps; looked = λ a b s few. m.looked a b (omega (arith, early, s)) few };
    })

-- nothing is chosen between a step and the next that may be open
module _ {q : EffectiveRule} (start : ℕ) (some : 1 ≤ q.interval) where
  passed_over : {number next : ℕ} → is_stepped (period_in q start) q.interval number ≡ true → IsNextOpen q (period_in q start) (number + q.interval) next
      → (n : ℕ) → number < period_in q n → period_in q n < next → is_chosen q start n ≡ false
  passed_over {number = number} step is_next n later u = elim (cases_lt (period_in q n) (number + q.interval)) [
    | inl between ↦ no_step q start n (none_between q.interval some (period_in q start) number (period_in q n) step later between)
    | inr past ↦ not_let_in q start n (is_next.none n past u)
  ]

module _ {q : EffectiveRule} {start : ℕ} {o : Option ℕ} {stop number : ℕ} {before now : Cursor} (walk : IsWalk q start o stop number before now) where
  -- COUNT keeps nothing from this period on
  pub walk_out : ((n : ℕ) → first_local q.frequency (monday_zero q.week_start) number ≤ n → is_wanted q start o n ≡ false)
      → NoneWanted q start o before.place stop
  walk_out none n l u = elim (cases_lt (period_in q n) number) [
    | inl less ↦ not_wanted q start o n (walk.none n l less)
    | inr more ↦ none n (begun q.frequency (monday_zero q.week_start) number n more)
  ]

  -- a walk past the last period of a bound, or past a round in which it finds nothing, finds nothing later
  pub walk_ends : {begin end : ℕ} → stop ≤ rules_end → end < number → period_in q start ≤ begin → period_in q before.place ≤ begin →
      (end < period_in q (stop - 1) → HasRound q begin end) → IsNextWanted q start o before.place stop None
  walk_ends {begin = begin} {end = end} h past low here round n l u = not_wanted q start o n (elim (cases_lt (period_in q n) number) [
    | inl less ↦ walk.none n l less
    | inr more ↦ elim (cases_lt end (period_in q (stop - 1))) [
      | inr most ↦ absurd (let m = period_mono q.frequency (monday_zero q.week_start) n (stop - 1) (omega (arith, u)) in omega (arith, m, more, most, past))
      | inl less ↦
          let is = round less in
          none_after q start is.periods (even_round is.round) {begin = begin + 1} (omega (arith, is.some)) (omega (arith, low)) (λ m lm um.
          let place = before_next q.frequency (monday_zero q.week_start) (begin + 1) before.place (omega (arith, here)) in
          let from = begun q.frequency (monday_zero q.week_start) (begin + 1) m lm in
          walk.none m (omega (arith, place, from)) (omega (arith, um, past, is.far)))
          n (omega (arith, more, past, is.far)) (omega (arith, u, h))
    ]
  ])

  -- a look in this period
  module _ {after : Cursor} {p : RecurrencePeriod} (turned : IsTurned q start o number after p) (at : LooksAt number now after)
      (top : number ≤ period_in q (stop - 1)) where
    abbrev taken : ℕ → Bool
    taken = is_taken q.positions (lists_none_wide q.positions) p

    place : after.place ≡ before.place
    place = at.place ∙ walk.moved.place

    pub walk_counted : CountedBy q start o after
    walk_counted = by o turned.counted
      where
        by : (o : Option ℕ) → MatchOption o (Unit {0}) (λ c. IsCounted q start c after.counted after.limit after.quiet_to p) → CountedBy q start o after
        by None h = tt
        by (Some c) h = rw turned.held h

    moved : HasMoved q start o stop before after
    moved = moved_on walk.moved at (λ a b s few. meets q start a b {place = looks_from o start before.place} {stop = stop}
        few.low (omega (arith, walk.late, walk.early)) s walk.step walk.low top)

    top_stop : number ≤ period_in q stop
    top_stop = let m = period_mono q.frequency (monday_zero q.week_start) (stop - 1) stop (omega arith) in omega (arith, m, top)

    held_at : (n : ℕ) → number ≤ period_in q n → HeldBy q after.held n
    held_at n h = rw turned.held (turned.product, omega (arith, turned.number, h))

    within : (n : ℕ) → taken n ≡ is_chosen_within q start number n
    within = taken_within start turned.product turned.number walk.step

    pub walk_here : (n : ℕ) → taken n ≡ true → (period_in q n ≡ number) × (is_chosen q start n ≡ true)
    walk_here n is = within_facts q start number n (sym (within n) ∙ is)

    -- nothing is wanted before the next that this period takes
    until : {n : ℕ} → IsLeastFrom taken after.place n → (m : ℕ) → before.place ≤ m → m < n → is_wanted q start o m ≡ false
    until {n = n} next m l u = not_wanted q start o m (elim (cases_lt (period_in q m) number) [
      | inl less ↦ walk.none m l less
      | inr more ↦
          let here = (walk_here n next.passes).0 in
          let high = period_mono q.frequency (monday_zero q.week_start) m n (omega (arith, u)) in
          sym (within_here q start number m (omega (arith, more, high, here))) ∙ (sym (within m) ∙ next.least m (omega (arith, l, place)) u)
    ])

    -- and that is the next, if COUNT keeps it
    pub walk_finds : {n : ℕ} → IsLeastFrom taken after.place n → is_wanted q start o n ≡ is_chosen q start n → IsLeastFrom (is_wanted q start o) before.place n
    walk_finds {n = n} next kept = record { passes = kept ∙ (walk_here n next.passes).1; low = omega (arith, next.low, place); least = until next }

    pub walk_found : {n : ℕ} → IsLeastFrom taken after.place n → IsWalked q start o stop (Some n) before after
    walk_found {n = n} next = let here = (walk_here n next.passes).0 in record {
      moved = moved;
      held = held_at stop top_stop;
      found = (held_at n (omega (arith, here)), (rw turned.held at moved.begun, rw turned.held (turned.number ∙ sym here)));
      counted = walk_counted;
    }

    -- or there is none, if it keeps nothing from there on
    pub walk_stops : {n : ℕ} → IsLeastFrom taken after.place n → ((m : ℕ) → n ≤ m → is_wanted q start o m ≡ false) → NoneWanted q start o before.place stop
    walk_stops {n = n} next none m l u = elim (cases_lt m n) [ inl less ↦ until next m l less | inr more ↦ none m more ]

    pub walk_stopped : IsWalked q start o stop None before after
    walk_stopped = record { moved = moved; held = held_at stop top_stop; found = tt; counted = walk_counted }

    -- where it takes none the walk goes on
    pub walk_goes_on : {next : ℕ} → ((m : ℕ) → before.place ≤ m → is_chosen_within q start number m ≡ false)
        → IsNextOpen q (period_in q start) (number + q.interval) next → IsWalk q start o stop next before after
    walk_goes_on {next = next} none is_next = record {
      some = walk.some;
      late = walk.late;
      early = walk.early;
      step = is_next.step;
      low = omega (arith, walk.low, is_next.low);
      none = λ n l u. elim (cases_lt (period_in q n) number) [
        | inl less ↦ walk.none n l less
        | inr more ↦ elim (cases_lt number (period_in q n)) [
          | inl later ↦ passed_over start walk.some walk.step is_next n later u
          | inr here ↦ sym (within_here q start number n (omega (arith, more, here))) ∙ none n l
        ]
      ];
      held = held_at stop top_stop;
      turn = record {
        held = rw turned.held (turned.product, omega (arith, turned.number, is_next.low));
        counted = walk_counted;
        passed = passes o;
      };
      moved = moved;
    }
      where
        passes : (o : Option ℕ) → MatchOption o (Unit {0}) (λ c. MatchOption after.held (next ≡ period_in q start)
            (λ p. (p.number ≡ next) ⊎ IsPassed q start (p.number + q.interval) next))
        passes None = tt
        passes (Some c) = rw turned.held (inr (record {
          up = omega (arith, turned.number, is_next.low);
          none = λ n l u. not_let_in q start n (is_next.none n (omega (arith, turned.number, l)) u);
        }))

pub walk_reach : (q : EffectiveRule) (number stop : ℕ) → number ≤ period_in q (stop - 1) → first_local q.frequency (monday_zero q.week_start) number ≤ stop
walk_reach q number stop h = let b = begun q.frequency (monday_zero q.week_start) number (stop - 1) h in omega (arith, b)

-- Under COUNT, where a cursor knows that nothing is chosen up to its place, it begins at the first step from where that ends.
pub walk_ahead : {q : EffectiveRule} {start number stop : ℕ} {o : Option ℕ} {cursor : Cursor} → 1 ≤ q.interval
    → IsLeastFrom (is_stepped (period_in q start) q.interval) (period_in q (min cursor.quiet_to rules_end)) number
    → IsAhead q start o (period_in q cursor.place) cursor → IsUnderCount q start o cursor → cursor.place < stop → IsWalk q start o stop number cursor cursor
walk_ahead {q = q} {start = start} {number = number} {stop = stop} {cursor = cursor} some next ahead under early =
    let own = under.own in
    let to = min cursor.quiet_to rules_end in
    let up = period_mono q.frequency (monday_zero q.week_start) cursor.place to (omega (arith, ahead.place, under.early)) in
    let low : period_in q cursor.place ≤ number = omega (arith, up, next.low) in
    let counted = rw (ahead.some, ahead.held) at own.counted in
    let held = rw ahead.held at own.held in
    let past : (n : ℕ) → to ≤ n → period_in q n < number → is_chosen q start n ≡ false =
    λ n l u. no_step q start n (next.least (period_in q n) (period_mono q.frequency (monday_zero q.week_start) to n l) u) in record {
      some = some;
      late = rw ahead.some (omega (arith, under.after));
      early = early;
      step = next.passes;
      low = rw ahead.some (stepped_parts (period_in q start) q.interval number next.passes).0;
      none = λ n l u. elim (cases_lt n to) [
        | inl less ↦ ahead.none n (let at = period_mono q.frequency (monday_zero q.week_start) cursor.place n l in omega (arith, at, ahead.early))
            (omega (arith, less))
        | inr more ↦ past n more u
      ];
      held = held_mono q cursor.held cursor.place stop own.held (omega (arith, early));
      turn = record {
        held = rw ahead.held (held.0, omega (arith, ahead.early, low));
        counted = own.counted;
        passed = rw (ahead.some, ahead.held) (inr (record {
          up = elim (cases_lt number (ahead.period.number + q.interval)) [
            | inl less ↦
                let no = none_between q.interval some (period_in q start) ahead.period.number number counted.step (omega (arith, ahead.early, low)) less in
                let never = sym next.passes ∙ no in absurd cc
            | inr more ↦ more
          ];
          none = λ n l u. elim (cases_lt n to) [
            | inl less ↦ ahead.none n (omega (arith, l, some)) (omega (arith, less))
            | inr more ↦ past n more u
          ];
        }));
      };
      moved = moved_none stop own;
    }

-- a cursor keeps what is known of the periods before one that it may turn to
pub kept_turn : {q : EffectiveRule} {start number to : ℕ} {o : Option ℕ} (cursor : Cursor) → 1 ≤ q.interval → IsTurnOf q start o number cursor
    → ((n : ℕ) → n < to → (n < cursor.quiet_to) ⊎ (period_in q n < number)) → CountedBy q start o (record cursor { quiet_to = to })
kept_turn {o = None} cursor some turn is = tt
kept_turn {q = q} {start = start} {number = number} {to = to} {o = Some k} cursor some turn is = by cursor.held turn.counted turn.passed
  where
    by : (held : Option RecurrencePeriod) → MatchOption held (Unit {0}) (IsCounted q start k cursor.counted cursor.limit cursor.quiet_to)
        → MatchOption held (number ≡ period_in q start) (λ p. (p.number ≡ number) ⊎ IsPassed q start (p.number + q.interval) number)
        → MatchOption held (Unit {0}) (IsCounted q start k cursor.counted cursor.limit to)
    by None h passed = tt
    by (Some p) h passed = record {
      step = h.step;
      total = h.total;
      most = h.most;
      quiet = λ n l u. elim (is n u) [
        | inl known ↦ h.quiet n l known
        | inr early ↦ elim passed [
          | inl same ↦ absurd (omega (arith, l, early, same))
          | inr on ↦ elim (cases_lt (period_in q n) (p.number + q.interval)) [
            | inl between ↦ no_step q start n (none_between q.interval some (period_in q start) p.number (period_in q n) h.step l between)
            | inr past ↦ on.none n past early
          ]
        ]
      ];
    }
