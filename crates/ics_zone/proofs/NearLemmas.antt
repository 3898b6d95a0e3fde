-- The locals that a rule keeps near a place, found day by day.
use Rattle.std.proofs.Common.{◌≡◌, ℕ, ◌+◌, ◌*◌, ◌/◌, ◌%◌, ◌-◌, ◌<◌, ◌≤◌, inl, inr, false, sym, ◌∙◌, arith}
use Rattle.std.proofs.lemmas.Bool.{cases_lt}
use Rattle.ics_fields.specs.Sets.{IsLeastFrom}
use Rattle.ics_period.specs.Recurrence.{Recurrence}
use Rattle.ics_period.specs.RecurrencePeriods.{has_time}
use Rattle.ics_rule.specs.declared.day.DayTimes.{DayTimes}
use Rattle.ics_rule.specs.Kept.{is_kept, KeepsDay}
use Rattle.ics_rule.specs.Next.{NoneKept, IsNextKept}
use Rattle.ics_zone.specs.Inner.Latest.{IsGreatestBelow, IsLastKept}
use Rattle.ics_period.proofs.ScanLemmas.{time_at}

-- a local of the day is kept where its time is one of those
kept_at : (r : Recurrence) (day : ℕ) (times : DayTimes) → KeepsDay r day times → (n : ℕ) → n / 86_400 ≡ day
    → is_kept r n ≡ has_time times.hours times.minutes times.seconds (n % 86_400)
kept_at r day times keeps n at = keeps.kept n at ∙ sym (time_at times.hours times.minutes times.seconds n)

module _ (r : Recurrence) (day : ℕ) (times : DayTimes) (keeps : KeepsDay r day times) where
  -- the first of the times from a place on is kept first
  pub next_of_day : (at t : ℕ) → at / 86_400 ≡ day → t < 86_400 → IsLeastFrom (has_time times.hours times.minutes times.seconds) (at % 86_400) t
      → (bound : ℕ) → day * 86_400 + t < bound → IsNextKept r at bound (day * 86_400 + t)
  next_of_day at t of small next bound early = record {
    kept = kept_at r day times keeps (day * 86_400 + t) (omega (arith, small))
        ∙ (let same : (day * 86_400 + t) % 86_400 ≡ t = omega (arith, small) in rw same next.passes);
    from_place = omega (arith, of, small, next.low);
    in_bound = early;
    least = λ n low high. kept_at r day times keeps n (omega (arith, of, low, high, small))
        ∙ next.least (n % 86_400) (omega (arith, of, low, high, small)) (omega (arith, of, low, high, small));
  }

  -- where there is no such time, none is kept
  pub none_of_day : (at : ℕ) → at / 86_400 ≡ day → ((t : ℕ) → at % 86_400 ≤ t → has_time times.hours times.minutes times.seconds t ≡ false)
      → NoneKept r at ((day + 1) * 86_400)
  none_of_day at of none n low high = kept_at r day times keeps n (omega (arith, of, low, high)) ∙ none (n % 86_400) (omega (arith, of, low, high))

  -- the last of the times before a place is kept last
  pub last_of_day : (end t : ℕ) → day * 86_400 < end → end ≤ (day + 1) * 86_400
      → IsGreatestBelow (has_time times.hours times.minutes times.seconds) (end - day * 86_400) t → IsLastKept r end (day * 86_400 + t)
  last_of_day end t low high last = record {
    kept = kept_at r day times keeps (day * 86_400 + t) (omega (arith, low, high, last.below))
        ∙ (let same : (day * 86_400 + t) % 86_400 ≡ t = omega (arith, low, high, last.below) in rw same last.passes);
    in_bound = omega (arith, last.below, low);
    last = λ n more less. kept_at r day times keeps n (omega (arith, high, more, less))
        ∙ last.greatest (n % 86_400) (omega (arith, high, more, less)) (omega (arith, high, more, less));
  }

  -- where there is no such time, none is kept
  pub none_of_end : (end : ℕ) → end ≤ (day + 1) * 86_400
      → ((t : ℕ) → t < end - day * 86_400 → has_time times.hours times.minutes times.seconds t ≡ false) → NoneKept r (day * 86_400) end
  none_of_end end high none n low less = kept_at r day times keeps n (omega (arith, high, low, less)) ∙ none (n % 86_400) (omega (arith, high, low, less))

-- none from a place on and none from there on
pub none_through : (r : Recurrence) (from at end : ℕ) → NoneKept r from at → NoneKept r at end → NoneKept r from end
none_through r from at end first second n low high = elim (cases_lt n at) [ inl before ↦ first n low before | inr past ↦ second n past high ]

pub next_through : (r : Recurrence) (from at bound n : ℕ) → from ≤ at → NoneKept r from at → IsNextKept r at bound n → IsNextKept r from bound n
next_through r from at bound n order none next = record {
  kept = next.kept;
  from_place = omega (arith, order, next.from_place);
  in_bound = next.in_bound;
  least = none_through r from at n none next.least;
}

pub last_through : (r : Recurrence) (end bound n : ℕ) → end ≤ bound → NoneKept r end bound → IsLastKept r end n → IsLastKept r bound n
last_through r end bound n order none last = record {
  kept = last.kept;
  in_bound = omega (arith, order, last.in_bound);
  last = none_through r (n + 1) end bound last.last none;
}
