-- What a cursor searches for, period by period.
use Rattle.std.specs.Prelude.{◌≡◌, ℕ, suc, ◌+◌, ◌<◌, ◌≤◌, ◌⊎◌, Bool, ◌&&◌, ◌==◌, nat_lt, Option, Some, None, MatchOption, true, false}
use Rattle.jiff_core.specs.Weekday.{monday_zero}
use Rattle.ics_fields.specs.Sets.{IsLeastFrom}
use Rattle.ics_period.specs.declared.effective_rule.EffectiveRule.{EffectiveRule}
use Rattle.ics_period.specs.declared.recurrence_period.RecurrencePeriod.{RecurrencePeriod}
use Rattle.ics_rule.specs.declared.cursor.Cursor.{Cursor}
use Rattle.ics_period.specs.PeriodNumbers.{day_of, rules_end}
use Rattle.ics_period.specs.Candidates.{is_stepped, lets_date, lets_clock, period_in}
use Rattle.ics_period.specs.Ranks.{count, is_chosen}
use Rattle.ics_period.specs.RecurrencePeriods.{first_local, IsPeriodOf}
use Rattle.ics_rule.specs.Cursors.{is_met, fresh, HasBegun, HeldBy, CountedBy, looks_from, HasLookedIn, IsCounted, IsCursorIn, NoneChosenAfter}

-- the rule allows no local from one on and before another
abbrev pub NoneLetIn : EffectiveRule → ℕ → ℕ → Type 0
NoneLetIn q from before = (n : ℕ) → from ≤ n → n < before → (lets_date q (day_of n) && lets_clock q n) ≡ false

-- a period is a multiple of the interval after the first, and the earlier ones of this kind from a number on have nothing that the rule
-- allows
pub record IsNextOpen (q : EffectiveRule) (first number next : ℕ) : Type 0 where
  pub step : is_stepped first q.interval next ≡ true
  pub low : number ≤ next
  pub none : (n : ℕ) → number ≤ period_in q n → period_in q n < next → is_stepped first q.interval (period_in q n) ≡ true →
      (lets_date q (day_of n) && lets_clock q n) ≡ false

-- a local of the period with a number is a candidate that BYSETPOS allows
abbrev pub is_chosen_within : EffectiveRule → ℕ → ℕ → ℕ → Bool
is_chosen_within q start number n = period_in q n == number && is_chosen q start n

-- under COUNT c: of what the rule chooses from the start on, few enough are earlier than n for n to be kept
abbrev pub is_few : EffectiveRule → ℕ → ℕ → ℕ → Bool
is_few q start c n = nat_lt (count n (is_chosen q start) + 1) (c + count (suc start) (is_chosen q start))

-- a local after the start that the rule has, but for UNTIL
abbrev pub is_wanted : EffectiveRule → ℕ → Option ℕ → ℕ → Bool
is_wanted q start None n = is_chosen q start n
is_wanted q start (Some c) n = is_chosen q start n && is_few q start c n

-- there is none from a place on and earlier than a bound
abbrev pub NoneWanted : EffectiveRule → ℕ → Option ℕ → ℕ → ℕ → Type 0
NoneWanted q start o place stop = (n : ℕ) → place ≤ n → n < stop → is_wanted q start o n ≡ false

-- the answer is the next one from a place on, or None and there is none earlier than a bound
abbrev pub IsNextWanted : EffectiveRule → ℕ → Option ℕ → ℕ → ℕ → Option ℕ → Type 0
IsNextWanted q start o place stop found =
    MatchOption found (NoneWanted q start o place stop) (λ n. IsLeastFrom (is_wanted q start o) place n)

-- the period held is that of local n
abbrev pub HoldsPeriodOf : EffectiveRule → Option RecurrencePeriod → ℕ → Type 0
HoldsPeriodOf q held n = MatchOption held ⊥ (λ p. p.number ≡ period_in q n)

-- a cursor has looked at a period, or holds what it held
abbrev pub LooksOrStays : Cursor → Cursor → Type 0
LooksOrStays before now = ((now.held ≡ before.held) × (now.steps ≡ before.steps)) ⊎ (before.steps < now.steps)

-- how looks at periods up to a bound change a cursor, which stays at its place
pub record HasMoved (q : EffectiveRule) (start : ℕ) (o : Option ℕ) (stop : ℕ) (before now : Cursor) : Type 0 where
  pub place : now.place ≡ before.place
  pub looks : LooksOrStays before now
  pub begun : HasBegun now.held now.steps
  pub steps : now.steps ≤ fresh now.held
  pub looked : (a b : ℕ) → stop ≤ b → HasLookedIn q start o before a b → now.steps ≤ count (fresh now.held) (is_met q start a b)

-- how a search of the periods up to a bound changes a cursor
pub record IsWalked (q : EffectiveRule) (start : ℕ) (o : Option ℕ) (stop : ℕ) (answer : Option ℕ) (before now : Cursor) : Type 0 where
  pub moved : HasMoved q start o stop before now
  pub held : HeldBy q now.held stop
  pub found : MatchOption answer (Unit {0}) (λ n. HeldBy q now.held n × ((1 ≤ now.steps) × HoldsPeriodOf q now.held n))
  pub counted : CountedBy q start o now

-- how one look at the period with a number, or none, changes a cursor: a look counts one period that no earlier look has reached
pub record LooksAt (number : ℕ) (before now : Cursor) : Type 0 where
  pub place : now.place ≡ before.place
  pub looks : LooksOrStays before now
  pub begun : HasBegun before.held before.steps → HasBegun now.held now.steps
  pub steps : (met : ℕ → Bool) → met number ≡ true → before.steps ≤ count (fresh before.held) met → now.steps ≤ count (fresh now.held) met

-- a cursor under COUNT, past the start and before the end of the rules
pub record IsUnderCount (q : EffectiveRule) (start : ℕ) (o : Option ℕ) (cursor : Cursor) : Type 0 where
  pub count : ℕ
  pub some : o ≡ Some count
  pub after : start < cursor.place
  pub early : cursor.place < rules_end
  pub own : IsCursorIn q start o cursor

-- nothing is chosen in the periods from one number on and before another
pub record IsPassed (q : EffectiveRule) (start from before : ℕ) : Type 0 where
  pub up : from ≤ before
  pub none : (n : ℕ) → from ≤ period_in q n → period_in q n < before → is_chosen q start n ≡ false

-- a cursor may turn to the period with a number: it holds none or one that is no later. Under COUNT that is this one, or one from whose next step
-- on nothing is chosen before this one; if none is held, this one is the start's
pub record IsTurnOf (q : EffectiveRule) (start : ℕ) (o : Option ℕ) (number : ℕ) (cursor : Cursor) : Type 0 where
  pub held : MatchOption cursor.held (Unit {0}) (λ p. IsPeriodOf q p × (p.number ≤ number))
  pub counted : CountedBy q start o cursor
  pub passed : MatchOption o (Unit {0}) (λ c. MatchOption cursor.held (number ≡ period_in q start)
      (λ p. (p.number ≡ number) ⊎ IsPassed q start (p.number + q.interval) number))

-- the period with a number is held
pub record IsTurned (q : EffectiveRule) (start : ℕ) (o : Option ℕ) (turn : ℕ) (cursor : Cursor) (p : RecurrencePeriod) : Type 0 where
  pub held : cursor.held ≡ Some p
  pub product : IsPeriodOf q p
  pub number : p.number ≡ turn
  pub counted : MatchOption o (Unit {0}) (λ c. IsCounted q start c cursor.counted cursor.limit cursor.quiet_to p)

-- how far a walk over the periods has come: nothing from the place on is chosen in a period before this one, to which the cursor may turn
pub record IsWalk (q : EffectiveRule) (start : ℕ) (o : Option ℕ) (stop number : ℕ) (before now : Cursor) : Type 0 where
  pub some : 1 ≤ q.interval
  pub late : looks_from o start before.place ≤ before.place
  pub early : before.place < stop
  pub step : is_stepped (period_in q start) q.interval number ≡ true
  pub low : period_in q (looks_from o start before.place) ≤ number
  pub none : (n : ℕ) → before.place ≤ n → period_in q n < number → is_chosen q start n ≡ false
  pub held : HeldBy q now.held stop
  pub turn : IsTurnOf q start o number now
  pub moved : HasMoved q start o stop before now

-- a cursor stays as it was, since COUNT keeps nothing from the period with a number on
pub record IsOut (q : EffectiveRule) (start : ℕ) (o : Option ℕ) (number : ℕ) (before now : Cursor) : Type 0 where
  pub same : now ≡ before
  pub none : (n : ℕ) → first_local q.frequency (monday_zero q.week_start) number ≤ n → is_wanted q start o n ≡ false

-- a cursor after a look at a period
abbrev pub after_look : Cursor → RecurrencePeriod → ℕ → Cursor
after_look c p counted = record { place = c.place; steps = c.steps + 1; held = Some p; counted = counted; limit = c.limit; quiet_to = 0 }

-- a cursor stays as it was, but for how far nothing is chosen
abbrev pub IsSameButQuiet : Cursor → Cursor → Type 0
IsSameButQuiet before now = now ≡ record before { quiet_to = now.quiet_to }

-- a cursor under COUNT holds a period earlier than the one with a number, and nothing is chosen after it up to the place
pub record IsAhead (q : EffectiveRule) (start : ℕ) (o : Option ℕ) (own : ℕ) (cursor : Cursor) : Type 0 where
  pub count : ℕ
  pub some : o ≡ Some count
  pub period : RecurrencePeriod
  pub held : cursor.held ≡ Some period
  pub early : period.number < own
  pub place : cursor.place ≤ cursor.quiet_to
  pub none : NoneChosenAfter q start period.number cursor.quiet_to
