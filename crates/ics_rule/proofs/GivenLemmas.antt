-- What a rule keeps gives back the parts that it was given.
use Rattle.std.proofs.Common.{◌≡◌, ℕ, Bool, true, false, ◌&&◌, refl, sym, arith}
use Rattle.std.specs.Prelude.{if◌then◌else◌}
use Rattle.std.proofs.lemmas.Bool.{and_parts, eqb-true}
use Rattle.ics_fields.specs.Ordinals.{no_ordinals, no_weekdays, lists_none, lists_none_wide, lists_no_weekday}
use Rattle.ics_fields.specs.RuleParts.{RuleParts}
use Rattle.ics_fields.specs.Sets.{is_empty}
use Rattle.ics_fields.specs.declared.frequency.Frequency.{Frequency}
use Rattle.ics_fields.specs.declared.frequency.Frequency.TheVariants.{Secondly, Minutely, Hourly, Daily, Weekly, Monthly, Yearly}
use Rattle.ics_period.specs.declared.kind.Kind.{Kind}
use Rattle.ics_period.specs.EffectiveRules.{effective_at, takes_month, takes_month_day, takes_weekday}
use Rattle.ics_rule.specs.Inner.Given.{given_of, parts_of}
use Rattle.ics_period.proofs.AbsentLemmas.{no-ordinal}

-- what names no day has no days of the month
first-named : (a b c d : Bool) → ((a && b && c) && d) ≡ true → a ≡ true
first-named a b c d h = grind arith

-- what a rule takes from the start was absent
month-absent : (f : Frequency) (p : RuleParts) → takes_month f p ≡ true → p.months ≡ 0
month-absent Yearly p takes = eqb-true p.months 0 (and_parts (takes_month_day Yearly p) (is_empty p.months) takes).1
month-absent Monthly p takes = let no : false ≡ true = takes in absurd cc
month-absent Weekly p takes = let no : false ≡ true = takes in absurd cc
month-absent Daily p takes = let no : false ≡ true = takes in absurd cc
month-absent Hourly p takes = let no : false ≡ true = takes in absurd cc
month-absent Minutely p takes = let no : false ≡ true = takes in absurd cc
month-absent Secondly p takes = let no : false ≡ true = takes in absurd cc

month-day-absent : (f : Frequency) (p : RuleParts) → takes_month_day f p ≡ true → p.month_days ≡ no_ordinals
month-day-absent Yearly p takes =
    no-ordinal p.month_days (first-named (lists_none p.month_days) (lists_none_wide p.year_days) (lists_no_weekday p.weekdays) (lists_none p.weeks) takes)
month-day-absent Monthly p takes =
    no-ordinal p.month_days (first-named (lists_none p.month_days) (lists_none_wide p.year_days) (lists_no_weekday p.weekdays) (lists_none p.weeks) takes)
month-day-absent Weekly p takes = let no : false ≡ true = takes in absurd cc
month-day-absent Daily p takes = let no : false ≡ true = takes in absurd cc
month-day-absent Hourly p takes = let no : false ≡ true = takes in absurd cc
month-day-absent Minutely p takes = let no : false ≡ true = takes in absurd cc
month-day-absent Secondly p takes = let no : false ≡ true = takes in absurd cc

-- a part that was replaced, if it was absent, is got back
got-back : {A : Type 0} (taken : Bool) (none own given : A) → (taken ≡ true → given ≡ none)
    → (if taken then none else (if taken then own else given)) ≡ given
got-back true none own given absent = sym (absent refl)
got-back false none own given absent = refl

pub parts-given : (p : RuleParts) (kind : Kind) (n : ℕ) → (takes_weekday p.frequency p ≡ true → p.weekdays ≡ no_weekdays)
    → parts_of (effective_at p kind n) (given_of p) ≡ p
parts-given p kind n absent =
    let weekdays = got-back (takes_weekday p.frequency p) no_weekdays _ p.weekdays absent in
    let month_days = got-back (takes_month_day p.frequency p) no_ordinals _ p.month_days (month-day-absent p.frequency p) in
    let months = got-back (takes_month p.frequency p) 0 _ p.months (month-absent p.frequency p) in
    λ i. record p { weekdays = weekdays i; month_days = month_days i; months = months i }

-- what is kept of parts that are seen as these
pub kept-given : {seen p : RuleParts} {month month_day weekday : Bool} → seen ≡ p → month ≡ takes_month p.frequency p
    → month_day ≡ takes_month_day p.frequency p → weekday ≡ takes_weekday p.frequency p
    → record (given_of seen) { month = month; month_day = month_day; weekday = weekday } ≡ given_of p
kept-given same a b d = λ i. record (given_of (same i)) { month = a i; month_day = b i; weekday = d i }
