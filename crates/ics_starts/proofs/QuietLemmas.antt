-- From when on an event can occur again.
use Rattle.std.proofs.Common.{◌≡◌, ◌⊎◌, ℕ, ◌+◌, ◌<◌, ◌≤◌, ℤ, ◌+ℤ◌, ◌<ℤ◌, ◌≤ℤ◌, inl, inr, true, false, max, Option, Some}
use Rattle.std.proofs.Common.{None, pos}
use Rattle.std.proofs.Common.{MatchOption, is_none, option_map, sym, ◌∙◌, ap, subst, arith}
use Rattle.std.proofs.lemmas.Bool.{and_from, and_parts, cases_lt}
use Rattle.std.proofs.lemmas.Bool.Decides.{nat_tests}
use Rattle.std.specs.Int.{int_max, int_min}
use Rattle.std.proofs.lemmas.Int.{int_max_is, int_min_is, ints}
use Rattle.ics_event.specs.declared.event.Event.{Event}
use Rattle.ics_event.specs.Event.{Rdate}
use Rattle.ics_fields.specs.Days.{IsDayNumber}
use Rattle.ics_fields.specs.Locals.{number, whole_days}
use Rattle.ics_fields.specs.RuleParts.{RuleParts}
use Rattle.ics_fields.specs.declared.local.Local.{Local}
use Rattle.ics_rule.specs.Cursors.{place_of}
use Rattle.ics_rule.specs.Kept.{is_kept, until_moment}
use Rattle.ics_rule.specs.Next.{IsNextKept, NoneKept}
use Rattle.ics_period.specs.Recurrence.{Recurrence}
use Rattle.ics_zone.proofs.Cases.{less_or_not_z}
use Rattle.ics_starts.specs.declared.rule_starts.RuleStarts.{RuleStarts}
use Rattle.ics_listing.specs.declared.start.StartSource.{StartSource}
use Rattle.ics_listing.specs.declared.start.StartSource.TheVariants.{Kept, Listed}
use Rattle.ics_listing.specs.declared.window.Window.{Window}
use Rattle.ics_starts.specs.declared.zones.FileZones.{FileZones}
use Rattle.ics_listing.specs.FileClocks.{Clocks}
use Rattle.ics_starts.specs.Clocks.{instant}
use Rattle.ics_starts.specs.Found.{earliest}
use Rattle.ics_starts.specs.FileZones.{clocks_in, IsOwnEvent}
use Rattle.ics_starts.specs.Quiet.{starts_by, AreBeyond, AreListedAgain, AreQuiet, IsFromOn, IsQuietTo}
use Rattle.ics_starts.specs.RuleStarts.{lets_until, moment_numbered}
use Rattle.ics_starts.specs.SeriesStarts.{first_of, listed_apart, HasOwnRule, IsOwnRule}
use Rattle.ics_listing.specs.StartTimes.{local_of, time_at, time_of}
use Rattle.ics_starts.specs.Starts.{recurrence_by, recurrence_of, GivesStart, IsRuleStart}
use Rattle.ics_starts.proofs.RawLemmas.{kept-first}
use Rattle.ics_starts.proofs.SoughtLemmas.{earliest-soon}
use Rattle.ics_listing.proofs.StartOrderLemmas.{calendar-day, number-seconds, own-day, own-time, same-number}
use Rattle.ics_starts.proofs.StartSourceLemmas.{kept-late, numbered-number, rule-first, ruled-kept}

-- what is not before an instant is not before an earlier one
pub again-less : {clocks : Clocks} {event : Event} {from t u : ℤ} → u ≤ℤ t → AreListedAgain clocks event from t → AreListedAgain clocks event from u
again-less l h = record {
  start = λ late. let k = h.start late in omega (arith, ints, k, l);
  each = λ place rdate stands late. let k = h.each place rdate stands late in omega (arith, ints, k, l);
}

pub quiet-less : {t u : ℤ} (o : Option RuleStarts) → u ≤ℤ t
    → MatchOption o (Unit {0}) (λ s. AreQuiet (clocks_in s.zones) s.event.now s.rule s.window (number s.from) t)
    → MatchOption o (Unit {0}) (λ s. AreQuiet (clocks_in s.zones) s.event.now s.rule s.window (number s.from) u)
quiet-less None l h = tt
quiet-less (Some s) l h = λ n on late by end. let k = h n on late by end in omega (arith, ints, k, l)

-- What was read of a rule past the window's end.
module _ (clocks : Clocks) (event : Event) (rule : Recurrence) (w : Window) (from : ℕ) where
  pub beyond-begun : (t : ℤ) → AreBeyond clocks event rule w from from t
  beyond-begun t n l u = absurd (omega (arith, l, u))

  kept-by : (n : ℕ) → starts_by clocks event rule n ≡ true → is_kept rule n ≡ true
  kept-by n by = (and_parts (is_kept rule n) (lets_until rule n (moment_numbered clocks event n)) by).0

  -- one that is not kept gives no start
  not-by : (t : ℤ) (n : ℕ) → is_kept rule n ≡ false → IsFromOn clocks event rule w t n
  not-by t n none by end = let no : true ≡ false = sym (kept-by n by) ∙ none in absurd cc

  beyond-to : {place now : ℕ} {t u : ℤ} → u ≤ℤ t → AreBeyond clocks event rule w from place t
      → ((n : ℕ) → place ≤ n → n < now → IsFromOn clocks event rule w u n) → AreBeyond clocks event rule w from now u
  beyond-to {place = place} less before rest n l h = elim (cases_lt n place) [
    | inl early ↦ λ by end. let b = before n l early by end in omega (arith, ints, b, less)
    | inr late ↦ rest n late h
  ]

module _ (s : RuleStarts) where
  abbrev clocks : Clocks
  clocks = clocks_in s.zones

  pub beyond-none : {bound : ℕ} {now : ℕ} → NoneKept s.rule (place_of s.cursor) bound × (now ≡ max (place_of s.cursor) bound)
      → AreBeyond clocks s.event.now s.rule s.window (number s.from) now s.beyond
  beyond-none {bound = bound} {now = now} next =
      beyond-to clocks s.event.now s.rule s.window (number s.from) {place = place_of s.cursor} {now = now} {t = s.beyond} {u = s.beyond} (omega (arith, ints))
      s.past_end (λ n l u. not-by clocks s.event.now s.rule s.window (number s.from) s.beyond n (next.0 n l (omega (arith, l, u, next.1))))

  pub beyond-one : {bound now : ℕ} (local : Local) {t : ℤ} → IsNextKept s.rule (place_of s.cursor) bound (number local) × (now ≡ number local + 1)
      → IsDayNumber local.day → t ≤ℤ s.beyond → (s.window.to ≤ℤ instant clocks (time_at s.event.now.start local)
      → t ≤ℤ instant clocks (time_at s.event.now.start local)) → AreBeyond clocks s.event.now s.rule s.window (number s.from) now t
  beyond-one {now = now} local {t = t} next day less own =
      beyond-to clocks s.event.now s.rule s.window (number s.from) {place = place_of s.cursor} {now = now} {t = s.beyond} {u = t} less s.past_end at
    where
      mine : IsFromOn clocks s.event.now s.rule s.window t (number local)
      mine by = rw (← numbered-number local day) at own

      at : (n : ℕ) → place_of s.cursor ≤ n → n < now → IsFromOn clocks s.event.now s.rule s.window t n
      at n l u = elim (cases_lt n (number local)) [
        | inl early ↦ not-by clocks s.event.now s.rule s.window (number s.from) t n (next.0.least n l early)
        | inr late ↦
            let same : number local ≡ n = omega (arith, late, u, next.1) in
            subst (IsFromOn clocks s.event.now s.rule s.window t) same mine
      ]

  -- locals before the window's end may be passed over
  pub beyond-passed : {now : ℕ} → ((n : ℕ) → place_of s.cursor ≤ n → n < now → moment_numbered clocks s.event.now n <ℤ s.window.to)
      → AreBeyond clocks s.event.now s.rule s.window (number s.from) now s.beyond
  beyond-passed {now = now} early =
      beyond-to clocks s.event.now s.rule s.window (number s.from) {place = place_of s.cursor} {now = now} {t = s.beyond} {u = s.beyond} (omega (arith, ints))
      s.past_end (λ n l u by end. let before = early n l u in absurd (omega (arith, ints, before, end)))

  -- and so may those that mean an instant no earlier than what was read
  pub beyond-past : {now : ℕ} → ((n : ℕ) → place_of s.cursor ≤ n → n < now → s.beyond ≤ℤ moment_numbered clocks s.event.now n)
      → AreBeyond clocks s.event.now s.rule s.window (number s.from) now s.beyond
  beyond-past {now = now} late =
      beyond-to clocks s.event.now s.rule s.window (number s.from) {place = place_of s.cursor} {now = now} {t = s.beyond} {u = s.beyond} (omega (arith, ints))
      s.past_end (λ n l u by end. late n l u)

  -- What is kept from the cursor's place on is not before this local, and so no start before its instant.
  pub quiet-by : (local : Local) {settled t : ℤ} → NoneKept s.rule (place_of s.cursor) (number local) → t ≤ℤ s.beyond → t ≤ℤ (settled +ℤ pos 1)
      → ((n : ℕ) → number local ≤ n → settled <ℤ moment_numbered clocks s.event.now n) → AreQuiet clocks s.event.now s.rule s.window (number s.from) t
  quiet-by local {t = t} none less near after n l late = elim (cases_lt n (place_of s.cursor)) [
    | inl early ↦ λ by end. let b = s.past_end n l early by end in omega (arith, ints, b, less)
    | inr past ↦ λ by end. elim (cases_lt n (number local)) [
      | inl before ↦ absurd (
          let no : true ≡ false =
          sym (kept-by clocks s.event.now s.rule s.window (number s.from) n by) ∙ none n past before in cc)
      | inr on ↦ let at = after n on in omega (arith, ints, at, near)
    ]
  ]

  -- Nor before the local's own instant, where none is kept from it up to a later one.
  pub quiet-past : (next later : Local) {settled t : ℤ} → IsDayNumber next.day → NoneKept s.rule (place_of s.cursor) (number next)
      → NoneKept s.rule (max (place_of s.cursor) (number next + 1)) (number later)
      → (t ≤ℤ s.beyond) × ((t ≤ℤ instant clocks (time_at s.event.now.start next)) × (t ≤ℤ (settled +ℤ pos 1)))
      → ((n : ℕ) → number later ≤ n → settled <ℤ moment_numbered clocks s.event.now n) → AreQuiet clocks s.event.now s.rule s.window (number s.from) t
  quiet-past next later {t = t} day none rest less after n l late = elim (cases_lt n (place_of s.cursor)) [
    | inl early ↦ λ by end. let b = s.past_end n l early by end in omega (arith, ints, b, less.0)
    | inr past ↦ λ by end.
        let kept = kept-by clocks s.event.now s.rule s.window (number s.from) n by in
        elim (cases_lt n (number next)) [
          | inl before ↦ absurd (let no : true ≡ false = sym kept ∙ none n past before in cc)
          | inr on ↦ elim (cases_lt (number next) n) [
            | inl behind ↦ elim (cases_lt n (number later)) [
              | inl before ↦ absurd (let no : true ≡ false = sym kept ∙ rest n (omega (arith, past, behind)) before in cc)
              | inr over ↦ let at = after n over in omega (arith, ints, at, less.1.1)
            ]
            | inr up ↦
                let same : number next ≡ n = omega (arith, on, up) in
                let own = ap (λ (a : Local). instant clocks (time_at s.event.now.start a)) (numbered-number next day) in
                let at : t ≤ℤ moment_numbered clocks s.event.now (number next) = omega (arith, ints, own, less.1.0) in
                subst (λ m. t ≤ℤ moment_numbered clocks s.event.now m) same at
          ]
        ]
  ]

  -- where UNTIL is before the window's end nothing is
  pub quiet-ended : {until : ℤ} (t : ℤ) → until_moment s.rule ≡ Some until → until <ℤ s.window.to
      → AreQuiet clocks s.event.now s.rule s.window (number s.from) t
  quiet-ended {until = until} t is less n l late by end =
      let lets = (and_parts (is_kept s.rule n) (lets_until s.rule n (moment_numbered clocks s.event.now n)) by).1 in
      let by-until = rw is at lets in
      let early : moment_numbered clocks s.event.now n ≤ℤ until = grind (arith, ints, nat_tests, by-until) in
      absurd (omega (arith, ints, early, less, end))

-- No occurrence of the event begins before the least of what its sources tell.
module _ (zones : FileZones) (event : Event) (own : IsOwnEvent zones event) (w : Window) (since t : ℤ)
    (again : AreListedAgain (clocks_in zones) event w.to t) where
  abbrev at-local : Local → ℤ
  at-local local = instant (clocks_in zones) (time_at event.start local)

  at-first : (local : Local) → local ≡ local_of event.start.stamp → w.to ≤ℤ at-local local → t ≤ℤ at-local local
  at-first local e end =
      let same : at-local local ≡ instant (clocks_in zones) event.start =
      ap at-local e ∙ ap (instant (clocks_in zones)) (own-time event.start) in
      let first = again.start (omega (arith, ints, end, same)) in
      omega (arith, ints, first, same)

  -- a local before the first that was read begins before the window's end, or too early
  too-early : (s : RuleStarts) → IsOwnRule zones event w (first_of (clocks_in zones) w event since) s → (local : Local)
      → (local ≡ local_of event.start.stamp) ⊎ IsRuleStart (clocks_in zones) event local → IsDayNumber local.day → number local < number s.from
      → (at-local local <ℤ w.to) ⊎ (at-local local <ℤ since)
  too-early s rule local by day early =
      let first = kept-first (clocks_in zones) event own.is_event.start local by in
      let soon = earliest-soon zones w event (listed_apart (clocks_in zones) w event since event.rule) in
      let begun = local_of event.start.stamp in
      let on : number (local_of event.start.stamp) ≤ number local =
      omega (arith, ints, first, number-seconds begun (calendar-day begun.day (own-day event.start own.is_event.start)), number-seconds local day) in
      let same : moment_numbered (clocks_in zones) event (number local) ≡ at-local local = ap at-local (numbered-number local day) in
      let low = rule.low (number local) on early in
      let before : at-local local <ℤ first_of (clocks_in zones) w event since = omega (arith, ints, low, same) in
      elim (int_max_cases (at-local local) (earliest (clocks_in zones) w event (listed_apart (clocks_in zones) w event since event.rule))
      (int_min since (w.to +ℤ whole_days 14)) before) [ inl a ↦ inl (omega (arith, ints, a, soon)) | inr b ↦ inr (omega (arith, ints, b, int_min_is)) ]
    where
      int_max_cases : (x a b : ℤ) → x <ℤ int_max a b → (x <ℤ a) ⊎ (x <ℤ b)
      int_max_cases x a b l = elim (less_or_not_z x a) [ inl less ↦ inl less | inr over ↦ inr (omega (arith, ints, int_max_is a b, l, over)) ]

  by-rule : (o : Option RuleStarts) → HasOwnRule zones event w (first_of (clocks_in zones) w event since) o
      → MatchOption o (Unit {0}) (λ s. AreQuiet (clocks_in s.zones) s.event.now s.rule s.window (number s.from) t) → (local : Local)
      → IsRuleStart (clocks_in zones) event local → w.to ≤ℤ at-local local → since ≤ℤ at-local local → t ≤ℤ at-local local
  by-rule None none q local r end late = absurd (no-rule event.rule none r.has)
    where
      no-rule : (parts : Option RuleParts) → is_none parts ≡ true → option_map (recurrence_by event.start.stamp) parts ≡ Some r.rule → ⊥
      no-rule None e f = let x : None ≡ Some r.rule = f in cc
      no-rule (Some parts) e f = let x : false ≡ true = e in cc
  by-rule (Some s) rule q local r end late =
      let has : recurrence_of event ≡ Some s.rule = rw rule.event_is at s.rule_of.of in
      let kept = ruled-kept (clocks_in zones) event s.rule has local (inr r) in
      let low = kept-late s.rule (number local) kept.0 in
      let day = r.calendar in
      elim (cases_lt (number s.rule.start) (number local)) [
        | inl after ↦ elim (cases_lt (number local) (number s.from)) [
          | inl early ↦ absurd (elim (too-early s rule local (inr r) day early) [
            | inl a ↦ omega (arith, ints, a, end)
            | inr b ↦ omega (arith, ints, b, late)
          ])
          | inr on ↦
              let quiet = rw (rule.zones_are, rule.event_is, rule.window_is) at q in
              let same : moment_numbered (clocks_in zones) event (number local) ≡ at-local local = ap at-local (numbered-number local day) in
              let is = quiet (number local) on after
              (and_from (is_kept s.rule (number local)) (lets_until s.rule (number local) (moment_numbered (clocks_in zones) event (number local))) kept.0
              (ap (lets_until s.rule (number local)) same ∙ kept.1)) (omega (arith, ints, same, end)) in
              omega (arith, ints, is, same)
        ]
        | inr most ↦
            let same : number local ≡ number s.rule.start = omega (arith, most, low) in
            at-first local
            (same-number local (local_of event.start.stamp) day (calendar-day (local_of event.start.stamp).day (own-day event.start own.is_event.start))
            (same ∙ ap (λ (l : Local). number l) (rule-first event s.rule has))) end
      ]

  pub quiet-to : (o : Option RuleStarts) → HasOwnRule zones event w (first_of (clocks_in zones) w event since) o
      → MatchOption o (Unit {0}) (λ s. AreQuiet (clocks_in s.zones) s.event.now s.rule s.window (number s.from) t) → IsQuietTo (clocks_in zones) event w since t
  quiet-to o rule q e of end late = by of.lasts.source of.lasts.given of.lasts.gives of.lasts.starts
    where
      by : (source : StartSource) (given : Rdate) → GivesStart (clocks_in zones) event source given → e.start ≡ instant (clocks_in zones) (time_of given)
          → t ≤ℤ e.start
      by (Kept local) given g is =
          let same : e.start ≡ at-local local = is ∙ ap (λ v. instant (clocks_in zones) (time_of v)) g.1 in
          elim g.0 [
            | inl first ↦ let k = at-first local first (omega (arith, ints, end, same)) in omega (arith, ints, k, same)
            | inr r ↦
                let k = by-rule o rule q local r (omega (arith, ints, end, same)) (omega (arith, ints, late, same)) in
                omega (arith, ints, k, same)
          ]
      by (Listed place) given g is =
          let same = is ∙ ap (λ v. instant (clocks_in zones) (time_of v)) g.2 in
          let k = again.each place g.0 g.1 (omega (arith, ints, end, same)) in
          omega (arith, ints, k, same)
