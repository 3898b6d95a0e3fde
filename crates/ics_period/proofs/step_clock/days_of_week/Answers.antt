use Rattle.std.proofs.Common.{◌≡◌, ℕ, ◌+◌, Bool, true, false, ◌==◌, ◌&&◌, ◌||◌, nat_lt, sym, ◌∙◌, arith}
use Rattle.std.proofs.lemmas.Bool.Decides.{nat_tests}
use Rattle.ics_fields.specs.Days.{weekday_of}
use Rattle.ics_period.specs.Inner.NamedWeekdays.{names_weekday}
use Rattle.ics_period.proofs.DateLemmas.{in_week}
use Rattle.ics_period.proofs.ScanLemmas.{in_word}
use Rattle.ics_period.proofs.step_clock.days_of_week.Goals as goal
use Rattle.ics_period.proofs.step_clock.days_of_week.Goals.{then-contains, else-contains}

-- one more number that passes, and one that does not
one_more : (f : ℕ → Bool) (d n : ℕ) {b : Bool} → f n ≡ true → b ≡ (nat_lt d n && f d) → ((d == n) || b) ≡ (nat_lt d (n + 1) && f d)
one_more f d n on is = grind (arith, nat_tests)

none_more : (f : ℕ → Bool) (d n : ℕ) {b : Bool} → f n ≡ false → b ≡ (nat_lt d n && f d) → b ≡ (nat_lt d (n + 1) && f d)
none_more f d n off is = grind (arith, nat_tests)

pub loop-day-preserved : goal.loop-day-preserved
loop-day-preserved c = λ d.
    let weekdays = c.args.parts.now.weekdays in
    let day = c.loop-day.day in
    let at = weekday_of day in
    let named : names_weekday weekdays at ≡ c.contains.result = sym (c.contains.ensures ∙ in_word at _ (omega arith) ∙ c.named-named.ensures at
    ∙ in_week at _ (omega arith)) in
    elim c.if-contains.branch [
      | then-contains w ↦ rw w.days-is (w.insert.ensures.members d ∙ one_more (λ e. names_weekday weekdays (weekday_of e)) d day (named ∙ w.if-contains.true)
          (c.loop-day.invariant d))
      | else-contains w ↦ rw w.days-is (none_more (λ e. names_weekday weekdays (weekday_of e)) d day (named ∙ w.if-contains.false) (c.loop-day.invariant d))
    ]
