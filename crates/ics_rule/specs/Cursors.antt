-- The place of a cursor, and how many periods it looks at.
use Rattle.std.specs.Prelude.{◌≡◌, ℕ, suc, ◌+◌, ◌<◌, ◌≤◌, Bool, ◌&&◌, ◌==◌, nat_le, nat_lt, Option, Some, None, MatchOption, true, false}
use Rattle.jiff_core.specs.Weekday.{monday_zero}
use Rattle.ics_fields.specs.declared.local.Local.{Local}
use Rattle.ics_period.specs.declared.effective_rule.EffectiveRule.{EffectiveRule}
use Rattle.ics_period.specs.declared.recurrence_period.RecurrencePeriod.{RecurrencePeriod}
use Rattle.ics_rule.specs.declared.cursor.Cursor.{Cursor}
use Rattle.ics_period.specs.Recurrence.{Recurrence}
use Rattle.ics_fields.specs.Locals.{number, calendar_end}
use Rattle.ics_period.specs.EffectiveRules.{effective}
use Rattle.ics_period.specs.Candidates.{is_stepped, period_in}
use Rattle.ics_period.specs.Ranks.{count, is_chosen}
use Rattle.ics_period.specs.RecurrencePeriods.{first_local, IsPeriodOf}

-- a period is a multiple of the interval after the start's, and has a local from a on and earlier than b
abbrev pub is_met : EffectiveRule → ℕ → ℕ → ℕ → ℕ → Bool
is_met q start a b p =
    is_stepped (period_in q start) q.interval p
    && nat_lt 0 (count b (λ n. nat_le a n && period_in q n == p))

-- how many periods are so
unfoldable pub period_count : Recurrence → ℕ → ℕ → ℕ
period_count r a b = count calendar_end (is_met (effective r) (number r.start) a b)

-- the place of a cursor: no later answer is earlier
abbrev pub place_of : Cursor → ℕ
place_of c = c.place

-- how many periods it has looked at
abbrev pub steps_of : Cursor → ℕ
steps_of c = c.steps

-- a period is held only after a look
abbrev pub HasBegun : Option RecurrencePeriod → ℕ → Type 0
HasBegun held steps = MatchOption held (Unit {0}) (λ p. 1 ≤ steps)

-- the first number past the periods that were looked at
abbrev pub fresh : Option RecurrencePeriod → ℕ
fresh None = 0
fresh (Some p) = suc p.number

-- no period is held, or one of the rule whose number is not past local n
abbrev pub HeldBy : EffectiveRule → Option RecurrencePeriod → ℕ → Type 0
HeldBy q held n = MatchOption held (Unit {0}) (λ p. IsPeriodOf q p × (p.number ≤ period_in q n))

-- nothing is chosen in the periods after the one with a number, before a local
abbrev pub NoneChosenAfter : EffectiveRule → ℕ → ℕ → ℕ → Type 0
NoneChosenAfter q start number to = (n : ℕ) → number < period_in q n → n < to → is_chosen q start n ≡ false

-- under COUNT c: the period held is the start's or a later one, the candidates before it that BYSETPOS allows are counted, a kept local
-- has fewer than limit of them before it, and none is chosen after that period and before quiet_to
pub record IsCounted (q : EffectiveRule) (start c counted limit quiet_to : ℕ) (p : RecurrencePeriod) : Type 0 where
  pub step : is_stepped (period_in q start) q.interval p.number ≡ true
  pub total : counted ≡ count (first_local q.frequency (monday_zero q.week_start) p.number) (is_chosen q start)
  pub most : limit + 1 ≡ c + count (suc start) (is_chosen q start)
  pub quiet : NoneChosenAfter q start p.number quiet_to

-- what a cursor has counted
abbrev pub CountedBy : EffectiveRule → ℕ → Option ℕ → Cursor → Type 0
CountedBy q start None cursor = Unit {0}
CountedBy q start (Some c) cursor = MatchOption cursor.held (Unit {0}) (IsCounted q start c cursor.counted cursor.limit cursor.quiet_to)

-- a cursor of a effective rule with this COUNT, at its place
pub record IsCursorIn (q : EffectiveRule) (start : ℕ) (o : Option ℕ) (c : Cursor) : Type 0 where
  pub inside : c.place < calendar_end
  pub held : HeldBy q c.held c.place
  pub begun : HasBegun c.held c.steps
  pub steps : c.steps ≤ fresh c.held
  pub counted : CountedBy q start o c

-- what the steps of a cursor say of an answer after the start: it comes from a period that was looked at, and an answer in a later period
-- than the cursor's place comes from a new look
pub record HasCounted (r : Recurrence) (answer : Option Local) (before now : Cursor) : Type 0 where
  pub rise : steps_of before ≤ steps_of now
  pub some : MatchOption answer (Unit {0}) (λ local. number r.start < number local → 1 ≤ steps_of now)
  pub more : MatchOption answer (Unit {0})
      (λ local. number r.start < number local → period_in (effective r) (place_of before) < period_in (effective r) (number local) →
      steps_of before < steps_of now)

-- a cursor of a rule
unfoldable pub IsCursorOf : Recurrence → Cursor → Type 0
IsCursorOf r c = IsCursorIn (effective r) (number r.start) r.parts.count c

-- the locals before this one are known after an answer: up to and with the one answered or, if there is none, up to the bound
abbrev pub known_to : Option ℕ → ℕ → ℕ
known_to None bound = bound
known_to (Some n) bound = n + 1

-- the local from which on a cursor looks at periods: its place or, under COUNT, the start
abbrev pub looks_from : Option ℕ → ℕ → ℕ → ℕ
looks_from None start place = place
looks_from (Some c) start place = start

-- a cursor has looked only at periods that have a local from a on and earlier than b, at each of them once
pub record HasLookedIn (q : EffectiveRule) (start : ℕ) (o : Option ℕ) (c : Cursor) (a b : ℕ) : Type 0 where
  pub low : a ≤ looks_from o start c.place
  pub few : c.steps ≤ count (fresh c.held) (is_met q start a b)

unfoldable pub HasLooked : Recurrence → Cursor → ℕ → ℕ → Type 0
HasLooked r c a b = HasLookedIn (effective r) (number r.start) r.parts.count c a b
