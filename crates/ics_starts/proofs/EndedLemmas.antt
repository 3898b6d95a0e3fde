-- Locals at which nothing begins that can meet the window may be passed over.
use Rattle.std.proofs.Common.{◌≡◌, ◌⊎◌, ◌≤ℤ◌, ◌<ℤ◌, ◌-ℤ◌, ℕ, ℤ, Bool, ◌&&◌, ◌||◌, ◌∙◌, true, false, not, int_le, if◌then◌else◌}
use Rattle.std.proofs.Common.{pos, [], MatchOption, Option, Some, None, ⊎_elim, sym, ap, subst, refl, arith}
use Rattle.std.specs.Int.{int_max}
use Rattle.std.proofs.lemmas.Bool.{and_parts}
use Rattle.std.proofs.lemmas.Int.{int_max_is, ints}
use Rattle.ics_event.specs.declared.event.Event.{Event}
use Rattle.ics_values.specs.declared.duration.Duration.{Duration}
use Rattle.ics_zone.specs.declared.bounds.Bounds.{Bounds}
use Rattle.ics_zone.specs.declared.stretch.Stretch.{Stretch}
use Rattle.ics_values.specs.declared.time.Rdate.TheVariants.{At}
use Rattle.ics_fields.specs.declared.local.Local.{Local}
use Rattle.ics_starts.specs.declared.rule_starts.RuleStarts.{RuleStarts}
use Rattle.ics_starts.specs.declared.series.Series.{Series}
use Rattle.ics_starts.specs.declared.zones.FileZones.{FileZones}
use Rattle.ics_listing.specs.declared.start.Start.{Start}
use Rattle.ics_listing.specs.declared.window.Window.{Window}
use Rattle.ics_starts.specs.Clocks.{clock_of, instant, IsBounded, IsStretched}
use Rattle.ics_listing.specs.FileClocks.{Clock}
use Rattle.ics_listing.specs.Entry.{Entry}
use Rattle.ics_starts.specs.Exclusions.{is_among, is_excluded}
use Rattle.ics_starts.specs.FileZones.{clocks_in}
use Rattle.ics_starts.specs.Finish.{end_of, AreLasting, AreOver}
use Rattle.ics_starts.specs.Found.{first_met, start_at}
use Rattle.ics_starts.specs.Leeway.{rule_late}
use Rattle.ics_listing.specs.KnownStarts.{listed_left}
use Rattle.ics_listing.specs.Listing.{IsIn}
use Rattle.ics_starts.specs.Meeting.{entry_from}
use Rattle.ics_listing.specs.WindowMeeting.{is_met}
use Rattle.ics_starts.specs.RuleFeed.{IsAmid, IsEarlier}
use Rattle.ics_starts.specs.RuleStarts.{local_numbered, moment_numbered}
use Rattle.ics_starts.specs.SeriesStarts.{is_left_out, is_wanted, wanted_by, IsFirstGiven}
use Rattle.ics_listing.specs.StartTimes.{time_at}
use Rattle.ics_starts.proofs.MeetsLemmas.{is_met-meets, less-le}
use Rattle.ics_starts.proofs.PassedLemmas.{by-test, own-of, IsTest}
use Rattle.ics_starts.proofs.SoughtLemmas.{met-from}
use Rattle.ics_zone.proofs.Cases.{int_le_true, true_int_le}

-- What is wanted of the rule is not before the first instant at which an event of this length can meet the window, less the seconds that it can end late.
module _ (zones : FileZones) (w : Window) (event : Event) (since : ℤ) where
  pub given-from : (b : Bounds) → IsBounded (clock_of (clocks_in zones) event.start) b → IsFirstGiven (clocks_in zones) w event since
      (int_max (first_met (clocks_in zones) w event -ℤ (if w.notstarted then pos 0 else rule_late b event)) since)
  given-from b bounded local e =
      let clocks = clocks_in zones in
      let o = entry_from clocks event (At (time_at event.start local)) in
      let parts = and_parts (int_le since o.start) (is_met w o && not (is_left_out clocks event [] o.start)) e in
      let met = and_parts (is_met w o) (not (is_left_out clocks event [] o.start)) parts.1 in
      let from = met-from zones w event b bounded local (is_met-meets w o met.0) w.notstarted refl in
      let late = if w.notstarted then pos 0 else rule_late b event in
      omega (arith, ints, from, int_le_true since o.start parts.0, int_max_is (first_met clocks w event -ℤ late) since)

  pub given-since : IsFirstGiven (clocks_in zones) w event since since
  given-since local e =
      let o = entry_from (clocks_in zones) event (At (time_at event.start local)) in
      int_le_true since o.start (and_parts (int_le since o.start) (is_met w o && not (is_left_out (clocks_in zones) event [] o.start)) e).0

  -- so of an earlier one
  pub given-sooner : {t u : ℤ} → u ≤ℤ t → IsFirstGiven (clocks_in zones) w event since t → IsFirstGiven (clocks_in zones) w event since u
  given-sooner l first local e = omega (arith, ints, l, first local e)

-- what is wanted is so whatever others replace
wanted-all : (a b c d : Bool) → (a && (b && not (c || d))) ≡ true → (a && (b && not (c || false))) ≡ true
wanted-all a b c d e = grind arith

-- A series, and an instant before which no start by the rule gives an occurrence.
module _ (s : Series) (to : ℤ) (first : IsFirstGiven (clocks_in s.zones) s.window s.event.now s.since to) where
  early-unwanted : (local : Local) → int_le to (instant (clocks_in s.zones) (time_at s.event.now.start local)) ≡ false
      → wanted_by (clocks_in s.zones) s.window s.event.now s.since s.replaced (start_at (clocks_in s.zones) s.event.now local) ≡ None
  early-unwanted local early =
      let o = entry_from (clocks_in s.zones) s.event.now (At (time_at s.event.now.start local)) in
      let all = wanted-all (int_le s.since o.start) (is_met s.window o) (is_excluded (clocks_in s.zones) s.event.now o.start)
      (is_among s.replaced o.start) in
      by-test (is_wanted (clocks_in s.zones) s.window s.event.now s.since s.replaced o)
      (λ e. let late = true_int_le to (instant (clocks_in s.zones) (time_at s.event.now.start local)) (first local (all e)) in absurd cc)
      (λ e. ap (λ b. if b then Some o else None) e)

-- No start that is known is earlier than it.
module _ (s : Series) (to : ℤ) (first : IsFirstGiven (clocks_in s.zones) s.window s.event.now s.since to)
    (listed : (t : Start) → IsIn t (listed_left s.listed) → to ≤ℤ t.moment) where
  past-out : (a : RuleStarts) → s.rule_starts ≡ Some a → (n : ℕ) → IsEarlier to a n → int_le to (moment_numbered (clocks_in s.zones) s.event.now n) ≡ false
  past-out a is n past =
      let own = own-of s a is in
      less-le to (moment_numbered (clocks_in s.zones) s.event.now n)
      (subst (λ t. t <ℤ to) (λ i. moment_numbered (clocks_in (own.zones_are i)) (own.event_is i) n) past)

  unwanted : (t : Start) → IsIn t (listed_left s.listed) ⊎ ((n : ℕ) × (t ≡ start_at (clocks_in s.zones) s.event.now (local_numbered n)))
      → int_le to t.moment ≡ false → wanted_by (clocks_in s.zones) s.window s.event.now s.since s.replaced t ≡ None
  unwanted t from e =
      ⊎_elim
      (λ m. let late = true_int_le to t.moment (listed t m) in absurd cc)
      (λ by.
      subst (λ (x : Start). wanted_by (clocks_in s.zones) s.window s.event.now s.since s.replaced x ≡ None) (sym by.1)
      (early-unwanted s to first (local_numbered by.0) (subst (λ (x : Start). int_le to x.moment ≡ false) by.1 e)))
      from

  pub ended-test : IsTest s (IsEarlier to) (λ t. int_le to t)
  ended-test = record { out = λ a is n past g. past-out a is n past; unwanted = λ t at from e. unwanted t from e }

le-less : (a b : ℤ) → int_le a b ≡ false → b <ℤ a
le-less a b e = grind (arith, ints)

amid-out : (from to t : ℤ) → from ≤ℤ t → t <ℤ to → not (int_le from t && not (int_le to t)) ≡ false
amid-out from to t a b = rw (true_int_le from t a, less-le to t b) refl

amid-parts : (x y : Bool) → not (x && not y) ≡ false → (x ≡ true) × (y ≡ false)
amid-parts true true e = let no : true ≡ false = e in absurd cc
amid-parts true false e = (refl, refl)
amid-parts false y e = let no : true ≡ false = e in absurd cc

-- By the rule nothing is given from one instant on and before another, and no start that is known is there.
module _ (s : Series) (from to : ℤ)
    (none : (local : Local) → let t = instant (clocks_in s.zones) (time_at s.event.now.start local) in from ≤ℤ t → t <ℤ to
    → wanted_by (clocks_in s.zones) s.window s.event.now s.since s.replaced (start_at (clocks_in s.zones) s.event.now local) ≡ None)
    (apart : (t : Start) → IsIn t (listed_left s.listed) → from ≤ℤ t.moment → to ≤ℤ t.moment) where
  amid-unwanted : (t : Start) → IsIn t (listed_left s.listed) ⊎ ((n : ℕ) × (t ≡ start_at (clocks_in s.zones) s.event.now (local_numbered n)))
      → not (int_le from t.moment && not (int_le to t.moment)) ≡ false
      → wanted_by (clocks_in s.zones) s.window s.event.now s.since s.replaced t ≡ None
  amid-unwanted t by e =
      let parts = amid-parts (int_le from t.moment) (int_le to t.moment) e in
      let late = int_le_true from t.moment parts.0 in
      ⊎_elim
      (λ m.
      let later = true_int_le to t.moment (apart t m late) in
      let early = parts.1 in
      absurd cc)
      (λ k.
      let at = ap (λ (x : Start). x.moment) k.1 in
      let before = le-less to t.moment parts.1 in
      subst (λ (x : Start). wanted_by (clocks_in s.zones) s.window s.event.now s.since s.replaced x ≡ None) (sym k.1)
      (none (local_numbered k.0) (omega (arith, ints, at, late)) (omega (arith, ints, at, before))))
      by

  amid-test : IsTest s (IsAmid from to) (λ t. not (int_le from t && not (int_le to t)))
  amid-test = record {
    out = λ a is n mid g.
        let own = own-of s a is in
        let same : moment_numbered (clocks_in a.zones) a.event.now n ≡ moment_numbered (clocks_in s.zones) s.event.now n =
        λ i. moment_numbered (clocks_in (own.zones_are i)) (own.event_is i) n in
        ap (λ t. not (int_le from t && not (int_le to t))) (sym same)
        ∙ amid-out from to (moment_numbered (clocks_in a.zones) a.event.now n) mid.from mid.before;
    unwanted = λ t at by e. amid-unwanted t by e;
  }

-- so of those that are too early to meet the window
pub leapt-test : (s : Series) (from to : ℤ) → IsFirstGiven (clocks_in s.zones) s.window s.event.now s.since to
    → ((t : Start) → IsIn t (listed_left s.listed) → from ≤ℤ t.moment → to ≤ℤ t.moment) → IsTest s (IsAmid from to)
    (λ t. not (int_le from t && not (int_le to t)))
leapt-test s from to first apart =
    amid-test s from to
    (λ local a b. early-unwanted s to first local (less-le to (instant (clocks_in s.zones) (time_at s.event.now.start local)) b)) apart

-- A series whose occurrences by the rule end a duration later, which those have done that begin from one instant on and before another.
module _ (s : Series) (duration : Duration) (lasting : AreLasting (clocks_in s.zones) s.event.now duration) (from to : ℤ)
    (over : AreOver (clock_of (clocks_in s.zones) s.event.now.start) duration s.window.from from to) where
  abbrev entry : Local → Entry
  entry local = entry_from (clocks_in s.zones) s.event.now (At (time_at s.event.now.start local))

  over-unmet : (local : Local) → from ≤ℤ (entry local).start → (entry local).start <ℤ to
      → is_wanted (clocks_in s.zones) s.window s.event.now s.since s.replaced (entry local) ≡ true → ⊥
  over-unmet local late early e =
      let o = entry local in
      let parts = and_parts (int_le s.since o.start) (is_met s.window o
      && not (is_left_out (clocks_in s.zones) s.event.now s.replaced o.start)) e in
      let met = and_parts (is_met s.window o) (not (is_left_out (clocks_in s.zones) s.event.now s.replaced o.start)) parts.1 in
      let gone = over o.start late early in
      let end = lasting local in
      let last = int_max_is o.start (end_of (clocks_in s.zones) s.event.now (At (time_at s.event.now.start local))) in
      ⊎_elim (λ l. omega (arith, ints, l, end, last, gone.begun, gone.ended)) (λ r. omega (arith, ints, r.1, gone.begun))
      (is_met-meets s.window o met.0).lasting

  over-unwanted : (local : Local) → let t = instant (clocks_in s.zones) (time_at s.event.now.start local) in from ≤ℤ t → t <ℤ to
      → wanted_by (clocks_in s.zones) s.window s.event.now s.since s.replaced (start_at (clocks_in s.zones) s.event.now local) ≡ None
  over-unwanted local late early =
      by-test (is_wanted (clocks_in s.zones) s.window s.event.now s.since s.replaced (entry local)) (λ e. absurd (over-unmet local late early e))
      (λ e. ap (λ b. if b then Some (entry local) else None) e)

  pub over-test : ((t : Start) → IsIn t (listed_left s.listed) → from ≤ℤ t.moment → to ≤ℤ t.moment) → IsTest s (IsAmid from to)
      (λ t. not (int_le from t && not (int_le to t)))
  over-test apart = amid-test s from to over-unwanted apart

-- The stretch that is known to the rule of a series is one of the clock of DTSTART.
pub own-stretch : (s : Series) (stretch : Stretch) → MatchOption s.rule_starts ((clock : Clock) → IsStretched clock stretch)
    (λ (a : RuleStarts). IsStretched (clock_of (clocks_in a.zones) a.event.now.start) stretch)
    → IsStretched (clock_of (clocks_in s.zones) s.event.now.start) stretch
own-stretch s stretch h = by s.rule_starts refl h
  where
    by : (o : Option RuleStarts) → s.rule_starts ≡ o → MatchOption o ((clock : Clock) → IsStretched clock stretch)
        (λ (a : RuleStarts). IsStretched (clock_of (clocks_in a.zones) a.event.now.start) stretch)
        → IsStretched (clock_of (clocks_in s.zones) s.event.now.start) stretch
    by None is k = k (clock_of (clocks_in s.zones) s.event.now.start)
    by (Some a) is k =
        let own = own-of s a is in
        subst (λ (clock : Clock). IsStretched clock stretch) (λ i. clock_of (clocks_in (own.zones_are i)) (own.event_is i).start) k
