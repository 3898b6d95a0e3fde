-- The starts of a rule: what reading a local does to those still to come, and where they lie by the days of their locals.
use Rattle.std.proofs.Common.{◌≡◌, ℕ, zero, suc, ◌+◌, ◌-◌, ◌<◌, ◌≤◌, max, ℤ, pos, ◌+ℤ◌, ◌-ℤ◌, Bool, true, false, ◌&&◌, List, [], ◌∷◌}
use Rattle.std.proofs.Common.{⊎_elim, refl, sym, ◌∙◌, ap, arith, add-one, ◌≤ℤ◌, ◌<ℤ◌, int_lt, Less}
use Rattle.std.proofs.lemmas.Bool.{cases_lt}
use Rattle.std.proofs.lemmas.Int.{ints}
use Rattle.std.specs.Cmp.{int_cmp_is}
use Rattle.ics_fields.specs.Days.{IsDayNumber}
use Rattle.ics_fields.specs.declared.local.Local.{Local}
use Rattle.ics_values.specs.declared.stamp.Stamp.{Stamp}
use Rattle.ics_values.specs.declared.stamp.Stamp.TheVariants.{Date}
use Rattle.ics_rule.specs.Kept.{is_kept}
use Rattle.ics_period.specs.PeriodNumbers.{rules_end}
use Rattle.ics_rule.specs.Next.{NoneKept, IsNextKept}
use Rattle.ics_period.specs.Recurrence.{Recurrence}
use Rattle.ics_period.proofs.Tests.{and_true}
use Rattle.ics_event.specs.declared.event.Event.{Event}
use Rattle.ics_zone.proofs.Cases.{int_lt_true}
use Rattle.ics_event.specs.Event.{stamp_seconds}
use Rattle.ics_fields.specs.Locals.{local_seconds, midnight, whole_days}
use Rattle.ics_listing.specs.declared.start.Start.{Start}
use Rattle.ics_listing.specs.declared.window.Window.{Window}
use Rattle.ics_starts.specs.declared.zones.FileZones.{FileZones}
use Rattle.ics_listing.specs.StartOrder.{moment_cmp}
use Rattle.ics_starts.specs.Found.{start_at}
use Rattle.ics_listing.specs.Listing.{IsIn}
use Rattle.ics_listing.specs.FileClocks.{Clocks}
use Rattle.ics_listing.specs.Merged.{put, union}
use Rattle.ics_listing.specs.Inner.MergedLaws.{rises-put, rises-union}
use Rattle.ics_listing.specs.Rising.{Rises}
use Rattle.ics_starts.specs.RuleStarts.{found, found_in, gives, lets_until, local_numbered, midnight_number, moment_numbered, to_come, with_held, with_put}
use Rattle.ics_listing.specs.StartTimes.{stamp_at, time_at}
use Rattle.ics_starts.specs.FileZones.{clocks_in}
use Rattle.ics_listing.proofs.FirstLemmas.{moment_total}
use Rattle.ics_listing.proofs.StartOrderLemmas.{written-at}
use Rattle.ics_starts.proofs.InstantLemmas.{instant-near}
use Rattle.ics_listing.proofs.Cases.{here-or-later}
use Rattle.ics_listing.proofs.UnionLemmas.{put-in, union_assoc}

-- what is so of a list and of the list with a start put in is so whatever the test
pub put-both : (b : Bool) (s : Start) (xs : List Start) (P : List Start → Type 0) → (b ≡ true → P (put moment_cmp s xs)) → (b ≡ false → P xs) →
    P (with_put b s xs)
put-both true s xs P f g = f refl
put-both false s xs P f g = g refl

module _ (clocks : Clocks) (event : Event) (rule : Recurrence) (w : Window) where
  -- none of the locals from one on and before another gives a start
  abbrev pub NoneGives : ℕ → ℕ → Type 0
  NoneGives from to = (n : ℕ) → from ≤ n → n < to → gives clocks event rule w n ≡ false

  pub found-first : (from : ℕ) → from < rules_end → found clocks event rule w from
      ≡ with_put (gives clocks event rule w from) (start_at clocks event (local_numbered from)) (found clocks event rule w (from + 1))
  unfolding found
  found-first from l =
      let one : rules_end - from ≡ suc (rules_end - (from + 1)) = omega (arith, l) in
      ap (λ k. found_in clocks event rule w from k) one

  -- locals that give none may be passed over
  found-skipped : (from to : ℕ) → from ≤ to → to ≤ rules_end → NoneGives from to → found clocks event rule w from ≡ found clocks event rule w to
  found-skipped from zero l h none = ap (found clocks event rule w) (omega (arith, l))
  found-skipped from (suc to) l h none =
      ⊎_elim (ap (found clocks event rule w))
      (λ less. found-skipped from to (omega (arith, less)) (omega (arith, h)) (λ n a b. none n a (omega (arith, b)))
      ∙ rw (found-first to (omega (arith, h)), none to (omega (arith, less)) (omega arith), add-one to) refl)
      (here-or-later from (suc to) l)

  unkept : (n : ℕ) → is_kept rule n ≡ false → gives clocks event rule w n ≡ false
  unfolding gives
  unkept n e = ap (λ b. b && (lets_until rule n (moment_numbered clocks event n) && int_lt (moment_numbered clocks event n) w.to)) e

  pub rises-found_in : (from n : ℕ) → Rises moment_cmp (found_in clocks event rule w from n)
  rises-found_in from zero = tt
  rises-found_in from (suc n) =
      let s = start_at clocks event (local_numbered from) in
      let rest = rises-found_in (from + 1) n in
      put-both (gives clocks event rule w from) s (found_in clocks event rule w (from + 1) n) (Rises moment_cmp)
      (λ e. rises-put moment_cmp moment_total s (found_in clocks event rule w (from + 1) n) rest) (λ e. rest)

  pub rises-found : (from : ℕ) → Rises moment_cmp (found clocks event rule w from)
  unfolding found
  rises-found from = rises-found_in from (rules_end - from)

  pub rises-to_come : (held : List Start) (place : ℕ) → Rises moment_cmp (to_come clocks event rule w held place)
  unfolding to_come
  rises-to_come held place = rises-union moment_cmp moment_total held (found clocks event rule w place) (rises-found place)

  -- the locals before a bound that give nothing are read
  pub come-skipped : (held : List Start) (place bound : ℕ) → bound ≤ rules_end
      → ((n : ℕ) → place ≤ n → n < bound → gives clocks event rule w n ≡ false)
      → to_come clocks event rule w held (max place bound) ≡ to_come clocks event rule w held place
  unfolding to_come
  come-skipped held place bound h none =
      ⊎_elim
      (λ early. ap (union moment_cmp held)
      (ap (found clocks event rule w) (omega (arith, early)) ∙ sym (found-skipped place bound (omega (arith, early)) h none)))
      (λ past. ap (λ p. union moment_cmp held (found clocks event rule w p)) (omega (arith, past)))
      (cases_lt place bound)

  -- such as those of which the rule keeps none
  pub come-none : (held : List Start) (place bound : ℕ) → bound ≤ rules_end → NoneKept rule place bound
      → to_come clocks event rule w held (max place bound) ≡ to_come clocks event rule w held place
  come-none held place bound h none = come-skipped held place bound h (λ n a b. unkept n (none n a b))

  -- the next kept local is read
  pub come-one : (held : List Start) {place bound l : ℕ} → Rises moment_cmp held → bound ≤ rules_end → IsNextKept rule place bound l
      → to_come clocks event rule w (with_held (gives clocks event rule w l) (start_at clocks event (local_numbered l)) held) (l + 1)
      ≡ to_come clocks event rule w held place
  unfolding to_come
  come-one held {place = place} {bound = bound} {l = l} r h next =
      one (gives clocks event rule w l)
      ∙ ap (union moment_cmp held) (sym (found-skipped place l next.from_place (omega (arith, next.in_bound, h)) (λ n a b. unkept n (next.least n a b))
      ∙ found-first l (omega (arith, next.in_bound, h))))
    where
      one : (b : Bool) → union moment_cmp (with_held b (start_at clocks event (local_numbered l)) held) (found clocks event rule w (l + 1))
          ≡ union moment_cmp held (with_put b (start_at clocks event (local_numbered l)) (found clocks event rule w (l + 1)))
      one true = union_assoc moment_cmp moment_total held (start_at clocks event (local_numbered l) ∷ []) (found clocks event rule w (l + 1)) r (tt, tt)
          (rises-found (l + 1))
      one false = refl

-- Numbers and days.
pub number-day : (day : ℤ) → IsDayNumber day → pos (midnight_number day) ≡ midnight day +ℤ pos 62_167_219_200
number-day day h = omega (arith, ints, h.0)

pub seconds-numbered : (n : ℕ) → local_seconds (local_numbered n) ≡ pos n -ℤ pos 62_167_219_200
seconds-numbered n = omega (arith, ints)

pub day-written : (s : Stamp) (a : Local) → midnight a.day ≤ℤ stamp_seconds (stamp_at s a)
day-written (Date day) a = omega (arith, ints)
day-written _ a = omega (arith, ints)

pub less-start : (s t : Start) → s.moment <ℤ t.moment → moment_cmp s t ≡ Less
less-start s t l = sym (int_cmp_is s.moment t.moment Less l)

module _ (zones : FileZones) (event : Event) where
  -- a local from a day's midnight on means an instant that is less than two days before it
  pub late-numbered : (day : ℤ) (n : ℕ) → IsDayNumber day → midnight_number day ≤ n →
      (midnight day -ℤ whole_days 2) <ℤ moment_numbered (clocks_in zones) event n
  late-numbered day n h l =
      let near = instant-near zones (time_at event.start (local_numbered n)) in
      let wrote = day-written event.start.stamp (local_numbered n) in
      omega (arith, ints, near.0, wrote, h.0, l)

  -- and one before it an instant that is less than two days after it
  pub early-numbered : (day : ℤ) (n : ℕ) → IsDayNumber day → n < midnight_number day →
      moment_numbered (clocks_in zones) event n <ℤ (midnight day +ℤ whole_days 2)
  early-numbered day n h l =
      let near = instant-near zones (time_at event.start (local_numbered n)) in
      let wrote = written-at event.start.stamp (local_numbered n) in
      omega (arith, ints, near.1, wrote.0, seconds-numbered n, number-day day h, l)

  module _ (rule : Recurrence) (w : Window) where
    -- what gives a start is kept, let through by UNTIL, and before the window's end
    pub given-parts : (n : ℕ) → gives (clocks_in zones) event rule w n ≡ true → (is_kept rule n ≡ true)
        × (lets_until rule n (moment_numbered (clocks_in zones) event n) ≡ true) × (moment_numbered (clocks_in zones) event n <ℤ w.to)
    unfolding gives
    given-parts n g =
        let kept = and_true {a = is_kept rule n} g in
        let within = and_true {a = lets_until rule n (moment_numbered (clocks_in zones) event n)} kept.1 in
        (kept.0, within.0, int_lt_true (moment_numbered (clocks_in zones) event n) w.to within.1)

    -- and so it lies before the end of the rules
    pub in-rules : (n : ℕ) → gives (clocks_in zones) event rule w n ≡ true → n < rules_end
    in-rules n g =
        let early = (given-parts n g).2 in
        let near = instant-near zones (time_at event.start (local_numbered n)) in
        let wrote = written-at event.start.stamp (local_numbered n) in
        omega (arith, ints, early, near.0, wrote.1, seconds-numbered n, w.not_late)

    -- What the locals from one on give.
    pub record IsFound (from : ℕ) (s : Start) : Type 0 where
      pub by : ℕ
      pub from_place : from ≤ by
      pub given : gives (clocks_in zones) event rule w by ≡ true
      pub is : s ≡ start_at (clocks_in zones) event (local_numbered by)

    later : (from : ℕ) (s : Start) → IsFound (from + 1) s → IsFound from s
    later from s f = record { by = f.by; from_place = omega (arith, f.from_place); given = f.given; is = f.is }

    found_in-is : (from n : ℕ) (s : Start) → IsIn s (found_in (clocks_in zones) event rule w from n) → IsFound from s
    found_in-is from zero s m = absurd m
    found_in-is from (suc n) s m =
        let x = start_at (clocks_in zones) event (local_numbered from) in
        let rest = found_in (clocks_in zones) event rule w (from + 1) n in
        put-both (gives (clocks_in zones) event rule w from) x rest (λ xs. IsIn s xs → IsFound from s)
        (λ e m. ⊎_elim (λ same. record { by = from; from_place = omega arith; given = e; is = same }) (λ k. later from s (found_in-is (from + 1) n s k.0))
        (put-in moment_cmp moment_total s x rest (rises-found_in (clocks_in zones) event rule w (from + 1) n) m))
        (λ e m. later from s (found_in-is (from + 1) n s m))
        m

    pub found-is : (from : ℕ) (s : Start) → IsIn s (found (clocks_in zones) event rule w from) → IsFound from s
    unfolding found
    found-is from s m = found_in-is from (rules_end - from) s m

    pub come-empty : (held : List Start) (place from : ℕ) → held ≡ [] → place ≡ from →
        to_come (clocks_in zones) event rule w held place ≡ found (clocks_in zones) event rule w from
    unfolding to_come
    come-empty held place from h e = ap (λ xs. union moment_cmp xs (found (clocks_in zones) event rule w place)) h ∙ ap (found (clocks_in zones) event rule w) e
