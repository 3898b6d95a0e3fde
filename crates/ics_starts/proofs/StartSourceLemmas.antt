-- What gives starts: the values by which it does lie in the years of stamps.
use Rattle.std.proofs.Common.{◌≡◌, ℕ, ◌<◌, ◌≤◌, ℤ, ◌≤ℤ◌, All, true, ◌⊎◌, ⊎_elim, Option, Some, refl, sym, ◌∙◌, ap, subst, arith, Bool, ◌&&◌, None, inl, inr}
use Rattle.std.proofs.Common.{◌==◌, int_lt, IfSome}
use Rattle.std.proofs.lemmas.Int.{ints}
use Rattle.std.proofs.lemmas.Bool.{cases_lt, eqb-true, eq-eqb, or_left, or_right}
use Rattle.std.proofs.lemmas.Bool.Decides.{nat_tests}
use Rattle.ics_fields.specs.Days.{IsDayNumber, IsStampDay}
use Rattle.ics_fields.specs.Locals.{local_at, number}
use Rattle.ics_values.specs.Stamps.{stamp_day}
use Rattle.ics_fields.specs.declared.local.Local.{Local}
use Rattle.ics_values.specs.declared.stamp.Stamp.{Stamp}
use Rattle.ics_values.specs.declared.stamp.Stamp.TheVariants.{Date}
use Rattle.ics_rule.specs.Kept.{is_kept, until_moment}
use Rattle.ics_period.specs.PeriodNumbers.{rules_end}
use Rattle.ics_period.specs.Recurrence.{Recurrence}
use Rattle.ics_rule.proofs.NextLemmas.{kept_earlier, kept_start}
use Rattle.ics_event.specs.Event.{Rdate}
use Rattle.ics_values.specs.declared.time.Rdate.TheVariants.{At, Span}
use Rattle.ics_event.specs.Event.{Time}
use Rattle.ics_event.specs.declared.event.Event.{Event}
use Rattle.ics_event.specs.Event.{HasZonesBelow, IsRdate, IsTime, RdateBelow, TimeBelow}
use Rattle.ics_listing.specs.declared.start.StartSource.{StartSource}
use Rattle.ics_listing.specs.declared.start.StartSource.TheVariants.{Kept, Listed}
use Rattle.ics_listing.specs.FileClocks.{Clocks}
use Rattle.ics_starts.specs.Clocks.{instant}
use Rattle.ics_starts.specs.Finish.{finish}
use Rattle.ics_starts.specs.Instances.{IsInstance}
use Rattle.ics_starts.specs.Starts.{given_by, given_from, time_by, recurrence_by, recurrence_of, GivesStart, IsRuleStart}
use Rattle.ics_listing.specs.StartTimes.{local_of, time_at, time_of}
use Rattle.ics_listing.proofs.Cases.{mapped-some, some-same}
use Rattle.ics_period.proofs.Tests.{or_true}
use Rattle.ics_listing.specs.declared.window.Window.{Window}
use Rattle.ics_zone.specs.Observances.{is_until}
use Rattle.ics_starts.specs.RuleStarts.{gives, lets_until, local_numbered, moment_numbered}
use Rattle.ics_listing.proofs.StartOrderLemmas.{number-seconds, same-number, own-time, time-at, own-day, calendar-day, same-source, rdate-time, date-time}
use Rattle.ics_listing.proofs.StartOrderLemmas.{all-at}

-- Kept locals.
pub kept-late : (r : Recurrence) (n : ℕ) → is_kept r n ≡ true → number r.start ≤ n
kept-late r n h = ⊎_elim (λ low. let out = kept_earlier r n low in absurd cc) (λ high. high) (cases_lt n (number r.start))

pub kept-early : (r : Recurrence) (n : ℕ) → is_kept r n ≡ true → (n ≡ number r.start) ⊎ (n < rules_end)
unfolding is_kept
kept-early r n h = grind (arith, nat_tests)

-- the rule of an event starts with its DTSTART
pub rule-first : (event : Event) (rule : Recurrence) → recurrence_of event ≡ Some rule → rule.start ≡ local_of event.start.stamp
rule-first event rule e = ap (λ (r : Recurrence). r.start) (mapped-some (recurrence_by event.start.stamp) event.rule rule e).2

-- What gives starts.
-- what the rule keeps is a time of the years of stamps
pub kept-time : (event : Event) {rule : Recurrence} (a : Local) → IsTime event.start → recurrence_of event ≡ Some rule → IsDayNumber a.day →
    is_kept rule (number a) ≡ true → IsTime (time_at event.start a)
kept-time event {rule = rule} a h e d k =
    let own = own-day event.start h in
    let start = number-seconds (local_of event.start.stamp) (calendar-day (local_of event.start.stamp).day own) in
    let first = ap (λ (l : Local). number l) (rule-first event rule e) in
    let there = number-seconds a d in
    let late = kept-late rule (number a) k in
    let second = (local_of event.start.stamp).second_in in
    time-at event.start a h (
      omega (arith, ints, own.0, start, first, there, late, a.second_in, second),
      ⊎_elim (λ same. omega (arith, ints, own.1, start, first, there, same, a.second_in, second)) (λ early. omega (arith, ints, there, early, a.second_in))
          (kept-early rule (number a) k),
    )

-- it gives one value
module _ (clocks : Clocks) (event : Event) where
  pub same-given : {g k : StartSource} (x y : Rdate) → g ≡ k → GivesStart clocks event g x → GivesStart clocks event k y → x ≡ y
  same-given {k = Kept local} x y e gives other = let h = rw e at gives in h.1 ∙ sym other.1
  same-given {k = Listed place} x y e gives other =
      let h = rw e at gives in h.2 ∙ (ap (given_by event.start) (some-same h.0 other.0 (sym h.1 ∙ other.1)) ∙ sym other.2)

-- an event has one occurrence at most with a start
pub one-instance : {clocks : Clocks} {event : Event} {start end other : ℤ} → IsInstance clocks event start end → IsInstance clocks event start other →
    end ≡ other
one-instance {clocks = clocks} {event = event} h k =
    let below = h.earliest k.source k.given k.gives (sym k.starts) in
    let above = k.earliest h.source h.given h.gives (sym h.starts) in
    h.ends ∙ (ap (finish clocks event) (same-given clocks event h.given k.given (same-source h.source k.source below above) h.gives k.gives) ∙ sym k.ends)

time-by : (first time : Time) (s : Stamp) → IsTime first → IsTime time → s ≡ time.stamp → IsTime (time_by first time s)
time-by first time (Date day) h t e = time-at first (local_at day (local_of first.stamp).second) h (subst (λ q. IsStampDay (stamp_day q)) (sym e) t.years)
time-by first time _ h t e = t

time-below : (zones : ℕ) (first time : Time) (s : Stamp) → TimeBelow zones first → TimeBelow zones time → TimeBelow zones (time_by first time s)
time-below zones first time (Date day) h t = h
time-below zones first time _ h t = t

pub given-value : (first : Time) (s : Stamp) (r : Rdate) → IsTime first → IsRdate r → IsRdate (given_from first s r)
given-value first (Date day) r h v = date-time (time_of r) (rdate-time r v)
given-value first _ (At time) h v = time-by first time time.stamp h v refl
given-value first _ (Span start lasts) h v = v

given-zone : (zones : ℕ) (first : Time) (s : Stamp) (r : Rdate) → TimeBelow zones first → RdateBelow zones r → RdateBelow zones (given_from first s r)
given-zone zones first (Date day) r h v = tt
given-zone zones first _ (At time) h v = time-below zones first time time.stamp h v
given-zone zones first _ (Span start lasts) h v = v

module _ (clocks : Clocks) (event : Event) where
  -- what gives a start of an event is a value such as RDATEs have
  pub gives-value : (g : StartSource) (given : Rdate) → IsTime event.start → All IsRdate event.rdates → GivesStart clocks event g given → IsRdate given
  gives-value (Kept local) given h all g =
      rw g.1 (⊎_elim (λ e. rw e (subst IsTime (sym (own-time event.start)) h)) (λ r. kept-time event local h r.has r.calendar r.kept) g.0)
  gives-value (Listed place) given h all g =
      rw g.2 (given-value event.start event.start.stamp g.0 h (all-at IsRdate event.rdates place g.0 all g.1))

  -- whose zones are the file's
  pub gives-below : {zones : ℕ} (g : StartSource) (given : Rdate) → HasZonesBelow zones event → GivesStart clocks event g given → RdateBelow zones given
  gives-below (Kept local) given below g = rw g.1 below.start
  gives-below {zones = zones} (Listed place) given below g =
      rw g.2 (given-zone zones event.start event.start.stamp g.0 below.start (all-at (RdateBelow zones) event.rdates place g.0 below.rdates g.1))

-- A local and its number.
-- Whether an instant is not after UNTIL, as a test and as a fact.
until-true : (o : Option ℤ) (t : ℤ) → IfSome o (λ last. t ≤ℤ last) → is_until o t ≡ true
until-true None t h = refl
until-true (Some last) t h = grind (arith, ints)

true-until : (o : Option ℤ) (t : ℤ) → is_until o t ≡ true → IfSome o (λ last. t ≤ℤ last)
true-until None t h = tt
true-until (Some last) t h = grind (arith, ints)

pub number-numbered : (n : ℕ) → number (local_numbered n) ≡ n
number-numbered n = omega (arith, ints)

pub numbered-number : (a : Local) → IsDayNumber a.day → local_numbered (number a) ≡ a
numbered-number a h =
    same-number (local_numbered (number a)) a
    (omega (arith, ints, h.0, a.second_in), omega (arith, ints, h.0, h.1, a.second_in)) h (number-numbered (number a))

-- whether a kept local gives a start
module _ (clocks : Clocks) (event : Event) (rule : Recurrence) (w : Window) (a : Local) where
  pub gives-kept : IsDayNumber a.day → is_kept rule (number a) ≡ true → gives clocks event rule w (number a)
      ≡ (lets_until rule (number a) (instant clocks (time_at event.start a)) && int_lt (instant clocks (time_at event.start a)) w.to)
  unfolding gives
  gives-kept h k = rw (k, numbered-number a h) refl

  -- the same of the test that was made, by the instant as it is read back
  pub gives-by : {t : ℤ} {b : Bool} → t ≡ instant clocks (time_at event.start a) → IsDayNumber a.day → is_kept rule (number a) ≡ true
      → b ≡ (lets_until rule (number a) t && int_lt t w.to) → b ≡ gives clocks event rule w (number a)
  gives-by is h k test = test ∙ (ap (λ x. lets_until rule (number a) x && int_lt x w.to) is ∙ sym (gives-kept h k))

-- a local that DTSTART has or a rule keeps lies in the calendar
pub kept-calendar : (clocks : Clocks) (event : Event) (local : Local) → IsTime event.start → (local ≡ local_of event.start.stamp)
    ⊎ IsRuleStart clocks event local → IsDayNumber local.day
kept-calendar clocks event local time k =
    ⊎_elim (λ s. subst (λ (l : Local). IsDayNumber l.day) (sym s) (calendar-day (local_of event.start.stamp).day (own-day event.start time)))
    (λ r. r.calendar) k

-- The locals that DTSTART has or a rule keeps are those that the rule keeps and whose instants it lets through.
module _ (clocks : Clocks) (event : Event) (rule : Recurrence) (has : recurrence_of event ≡ Some rule) (local : Local) where
  pub kept-ruled : IsTime event.start → IsDayNumber local.day → is_kept rule (number local) ≡ true →
      lets_until rule (number local) (moment_numbered clocks event (number local)) ≡ true
      → (local ≡ local_of event.start.stamp) ⊎ IsRuleStart clocks event local
  kept-ruled time day kept through =
      ⊎_elim
      (λ e. inl (same-number local (local_of event.start.stamp) day (calendar-day (local_of event.start.stamp).day (own-day event.start time))
      (eqb-true (number local) (number rule.start) e ∙ ap (λ (l : Local). number l) (rule-first event rule has))))
      (λ u. inr (record {
        rule = rule;
        has = has;
        calendar = day;
        kept = kept;
        until = rw (numbered-number local day) at (true-until (until_moment rule) (moment_numbered clocks event (number local)) u);
      }))
      (or_true {a = number local == number rule.start} through)

  pub ruled-kept : (local ≡ local_of event.start.stamp) ⊎ IsRuleStart clocks event local
      → (is_kept rule (number local) ≡ true) × (lets_until rule (number local) (instant clocks (time_at event.start local)) ≡ true)
  ruled-kept k =
      ⊎_elim
      (λ e.
      let first : number local ≡ number rule.start = ap (λ (l : Local). number l) (e ∙ sym (rule-first event rule has)) in
      (rw first (kept_start rule), or_left _ _ (eq-eqb _ _ first)))
      (λ r.
      let same : r.rule ≡ rule = some-same r.rule rule (sym r.has ∙ has) in
      (rw same at r.kept, or_right _ _ (rw same at (until-true (until_moment r.rule) (instant clocks (time_at event.start local)) r.until))))
      k
