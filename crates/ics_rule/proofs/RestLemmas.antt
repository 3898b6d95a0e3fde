-- The periods that a rule lets in, counted day by day.
use Rattle.std.proofs.Common.{◌≡◌, ◌∙◌, ℕ, ◌+◌, ◌-◌, ◌*◌, ◌/◌, ◌%◌, ◌<◌, ◌≤◌, Bool, true, false, ◌&&◌, nat_lt, cond, min, sym, ap, arith}
use Rattle.std.proofs.lemmas.Bool.Decides.{nat_tests}
use Rattle.std.proofs.lemmas.Nat.{div-add-mod', div-mul-add, le-div, div_below}
use Rattle.std.proofs.Math.Nat.{add-mul, mul_comm, mul-le-mul_right}
use Rattle.ics_period.specs.declared.effective_rule.EffectiveRule.{EffectiveRule}
use Rattle.ics_period.specs.Candidates.{lets_date, is_stepped}
use Rattle.ics_period.specs.Ranks.{count}
use Rattle.ics_rule.specs.Inner.Rounds.{seconds_of}
use Rattle.ics_rule.specs.Inner.OpenPeriods.{per_day, lets_own, is_timely, is_timely_on, timely_on, is_open_period}
use Rattle.ics_period.proofs.Counts.{count-same, count-add, count_most}
use Rattle.ics_period.proofs.CycleLemmas.{date_by_place, date_of_round}
use Rattle.ics_period.proofs.IntervalLemmas.{none_between, steps_among}
use Rattle.ics_period.proofs.RankLemmas.{count_flat}
use Rattle.ics_rule.proofs.OpenLemmas.{IsDayRun, day_some, step_later, placed, placed_next}

module _ (q : EffectiveRule) (first : ℕ) where
  abbrev d : ℕ
  d = per_day q.frequency

  some_periods : 1 ≤ d
  some_periods = (day_some q.frequency).0

  next_day : (day : ℕ) → (day + 1) * d ≡ day * d + d
  next_day day = omega arith

  -- the steps of a day
  pub steps_of_day : (day : ℕ) {steps : ℕ} → steps + count (day * d) (is_timely q first) ≡ count ((day + 1) * d) (is_timely q first)
      → (steps ≡ timely_on q first day) × (steps ≤ 86_400)
  steps_of_day day e =
      let whole = ap (λ x. count x (is_timely q first)) (next_day day) ∙ count-add (day * d) d (is_timely q first) in
      let most = count_most d (λ k. is_timely q first (day * d + k)) in
      (omega (arith, e, whole), omega (arith, e, whole, most, (day_some q.frequency).1))

  -- where each time is allowed, by the next step
  pub steps_at_once : (day : ℕ) {number : ℕ} → ((n : ℕ) → lets_own q.frequency q n ≡ true) → 1 ≤ q.interval → first ≤ day * d
      → is_stepped first q.interval number ≡ true → day * d ≤ number → number < day * d + q.interval
      → timely_on q first day ≡ d / q.interval + cond (nat_lt (number - day * d) (d % q.interval)) 1 0
  steps_at_once day every some first_low is low high =
      let same = count-same d (λ k. is_timely q first (day * d + k)) (λ k. is_stepped first q.interval (day * d + k)) (λ k l.
      let all = every ((day * d + k) * seconds_of q.frequency) in grind (arith, all)) in
      let whole = count-add (day * d) d (is_stepped first q.interval) in
      let among = steps_among q.interval some d is first_low low high in
      omega (arith, same, whole, among)

  -- Of some days.
  module _ (days : ℕ → Bool) where
    -- on one of them each is counted
    day_more : (day : ℕ) → days day ≡ true
        → count ((day + 1) * d) (is_timely_on q first days) ≡ count (day * d) (is_timely_on q first days) + timely_on q first day
    day_more day is =
        let whole = ap (λ x. count x (is_timely_on q first days)) (next_day day) ∙ count-add (day * d) d (is_timely_on q first days) in
        let same = count-same d (λ k. is_timely_on q first days (day * d + k)) (λ k. is_timely q first (day * d + k)) (λ k l.
        let at = div-mul-add day d k l in grind (arith, at, is)) in
        omega (arith, whole, same)

    -- and on other days none is
    pub days_none : {from before : ℕ} → from ≤ before → ((e : ℕ) → from ≤ e → e < before → days e ≡ false)
        → count (before * d) (is_timely_on q first days) ≡ count (from * d) (is_timely_on q first days)
    days_none {from = from} {before = before} order none =
        count_flat (from * d) (before * d) (is_timely_on q first days) (mul-le-mul_right d order)
        (λ m l u. let out = none (m / d) (le-div from m d some_periods l) (div_below m d before some_periods u) in grind (arith, out))

    -- a walk over days from one on, in which the periods of those before the next are counted
    module _ (from before day total : ℕ) (inside : day < before)
        (passed : total + count (from * d) (is_timely_on q first days) ≡ count (min day before * d) (is_timely_on q first days)) where
      passed_here : total + count (from * d) (is_timely_on q first days) ≡ count (day * d) (is_timely_on q first days)
      passed_here = let here : min day before ≡ day = omega (arith, inside) in rw here at passed

      pub day_added : {new : ℕ} → days day ≡ true → new ≡ total + timely_on q first day
          → new + count (from * d) (is_timely_on q first days) ≡ count (min (day + 1) before * d) (is_timely_on q first days)
      day_added is e =
          let next : min (day + 1) before ≡ day + 1 = omega (arith, inside) in
          let more = day_more day is in let was = passed_here in rw next (omega (arith, e, was, more))

      pub days_passed : (off : ℕ) → ((e : ℕ) → day ≤ e → e < day + off → days e ≡ false)
          → total + count (from * d) (is_timely_on q first days) ≡ count (min (day + off) before * d) (is_timely_on q first days)
      days_passed off none =
          passed_here ∙ sym (days_none {from = day} {before = min (day + off) before} (omega (arith, inside)) (λ e l u. none e l (omega (arith, u))))

  -- days that follow one by whole rounds
  pub round_added : (from total : ℕ) {before day new : ℕ} → day < before → is_stepped from 146_097 day ≡ true
      → total + count (from * d) (is_timely_on q first (is_stepped from 146_097)) ≡ count (min day before * d) (is_timely_on q first (is_stepped from 146_097))
      → new ≡ total + timely_on q first day → new + count (from * d) (is_timely_on q first (is_stepped from 146_097))
      ≡ count (min (day + 146_097) before * d) (is_timely_on q first (is_stepped from 146_097))
  round_added from total {before = before} {day = day} inside on passed e =
      day_added (is_stepped from 146_097) from before day total inside passed on e
      ∙ sym (days_none (is_stepped from 146_097) {from = min (day + 1) before} {before = min (day + 146_097) before} (omega arith)
      (λ x l u. none_between 146_097 (omega arith) from day x on (omega (arith, l, u)) (omega (arith, u))))

  pub rounds_done : (from : ℕ) {before day total : ℕ} → before ≤ day
      → total + count (from * d) (is_timely_on q first (is_stepped from 146_097)) ≡ count (min day before * d) (is_timely_on q first (is_stepped from 146_097))
      → total ≡ count (before * d) (is_timely_on q first (is_stepped from 146_097))
  rounds_done from {before = before} {day = day} all passed =
      let flat = days_none (is_stepped from 146_097) {from = 0} {before = from} (omega arith) (λ e l u. grind (arith, nat_tests)) in
      let none = count_most (0 * d) (is_timely_on q first (is_stepped from 146_097)) in
      let here : min day before ≡ before = omega (arith, all) in
      let sum = rw here at passed in omega (arith, flat, none, sum)

  -- as many days later as the interval has, a day has as many steps
  pub rest_same : (from day : ℕ) → 0 < seconds_of q.frequency → seconds_of q.frequency ≤ 86_400 → 1 ≤ q.interval → first < from * d → from ≤ day
      → timely_on q first (from + (day - from) % q.interval) ≡ timely_on q first day
  rest_same from day fine unit some later order =
      let run : IsDayRun q first from day = record { fine = fine; unit = unit; some = some; later = later; order = order } in
      let j = (day - from) % q.interval in
      let t = (day - from) / q.interval in
      count-same d (λ k. is_timely q first ((from + j) * d + k)) (λ k. is_timely q first (day * d + k)) (λ k l.
      let days = div-add-mod' (day - from) q.interval in
      let swap = mul_comm q.interval t in
      let whole : day ≡ (from + j) + q.interval * t = omega (arith, days, swap, order) in
      let wide = ap (λ x. x * d) whole in
      let spread = add-mul (from + j) (q.interval * t) d in
      let same : day * d + k ≡ (from + j) * d + k + q.interval * t * d = omega (arith, wide, spread) in
      let low : first ≤ (from + j) * d + k = (let apart = add-mul from j d in omega (arith, later, apart)) in
      sym (ap (is_timely q first) same ∙ step_later run ((from + j) * d + k) t low))

-- Days by rounds of the calendar.
module _ {q : EffectiveRule} {first from before : ℕ} (run : IsDayRun q first from before) where
  -- an allowed day, and those that follow it by rounds
  pub rounds_more : {day total more : ℕ} → from ≤ day → day < from + 146_097 → lets_date q day ≡ true
      → total ≡ count (before * per_day q.frequency) (placed q first 146_097 from (day - from))
      → more ≡ count (before * per_day q.frequency) (is_timely_on q first (is_stepped day 146_097))
      → total + more ≡ count (before * per_day q.frequency) (placed q first 146_097 from (day + 1 - from))
  rounds_more {day = day} low high is et em =
      let here : from + (day - from) ≡ day = omega (arith, low) in
      let next : day + 1 - from ≡ day - from + 1 = omega (arith, low) in
      let own = count-same (before * per_day q.frequency) (is_timely_on q first (is_stepped day 146_097))
      (λ p. is_stepped day 146_097 (p / per_day q.frequency) && is_open_period q first p)
      (λ p l. let same = date_of_round q day (p / per_day q.frequency) is in grind (arith, nat_tests, same)) in
      rw next (placed_next run (omega (arith, low, high)) et (rw here (em ∙ own)))

  -- days of which none is allowed, nor those that follow them by rounds
  pub rounds_none : {day : ℕ} (off : ℕ) → from ≤ day → ((e : ℕ) → day ≤ e → e < day + off → lets_date q e ≡ false)
      → count (before * per_day q.frequency) (placed q first 146_097 from (day - from))
      ≡ count (before * per_day q.frequency) (placed q first 146_097 from (day + off - from))
  rounds_none {day = day} off low none =
      count-same (before * per_day q.frequency) (placed q first 146_097 from (day - from)) (placed q first 146_097 from (day + off - from))
      (λ p l. let same = date_by_place q {from = from} (p / per_day q.frequency) in
      let out = none (from + (p / per_day q.frequency - from) % 146_097) in grind (arith, nat_tests, same, out))
