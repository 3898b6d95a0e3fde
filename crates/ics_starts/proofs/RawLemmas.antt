-- What gives an event a start whose instant passes a test stands in one list, which has as many members as are counted.
use Rattle.std.proofs.Common.{◌≡◌, ℕ, zero, suc, ◌+◌, ◌<◌, ℤ, Bool, true, false, ◌&&◌, cond, List, [], ◌∷◌, ◌++◌, length, Option, Some, None, ◌⊎◌, inl, inr}
use Rattle.std.proofs.Common.{⊎_elim, refl, sym, ◌∙◌, ap, length-append, arith, count_by, slice_get, if◌then◌else◌, is_gt, Ordering, Less, Greater, ◌≤◌, pos}
use Rattle.std.proofs.Common.{neg_ℤ, ◌+ℤ◌, ◌-ℤ◌, subst, ◌<ℤ◌, ◌≤ℤ◌, int_le, int_lt, unsigned_abs, All, sum_by, option_map, Contains, int_eq}
use Rattle.std.proofs.lemmas.Int.{ints}
use Rattle.std.proofs.lemmas.List.Sums.{sum_by-cons}
use Rattle.std.proofs.lemmas.Bool.{and_from, true_from_ne_false, cases_lt}
use Rattle.ics_period.specs.Ranks.{count}
use Rattle.ics_rule.specs.Kept.{is_kept}
use Rattle.ics_fields.specs.declared.local.Local.{Local}
use Rattle.ics_fields.specs.Locals.{number, calendar_end, midnight, local_seconds}
use Rattle.ics_period.specs.Recurrence.{Recurrence}
use Rattle.ics_period.proofs.Tests.{and_true}
use Rattle.ics_event.specs.Event.{IsTime, IsRdate}
use Rattle.ics_event.specs.declared.event.Event.{Event}
use Rattle.ics_event.specs.Event.{Rdate}
use Rattle.ics_values.specs.declared.time.Rdate.TheVariants.{At}
use Rattle.ics_listing.specs.declared.start.StartSource.{StartSource}
use Rattle.ics_listing.specs.declared.start.StartSource.TheVariants.{Kept, Listed}
use Rattle.ics_listing.specs.FileClocks.{Clocks}
use Rattle.ics_starts.specs.Clocks.{instant}
use Rattle.ics_listing.specs.StartOrder.{source_cmp, moment_cmp}
use Rattle.ics_starts.specs.Found.{start_at}
use Rattle.ics_starts.specs.RawStarts.{is_within_days, raw_by, raw_by_rule, raw_in, raw_listed, IsRaw, greatest, most_in_days}
use Rattle.ics_listing.specs.Listing.{IsListing, IsIn}
use Rattle.ics_listing.specs.Inner.MergedLaws.{back}
use Rattle.ics_starts.specs.RuleStarts.{lets_until, local_numbered, moment_numbered, number_in, AreHeld, IsHeld}
use Rattle.ics_starts.specs.Starts.{given_by, recurrence_of, GivesStart, IsRuleStart, recurrence_by}
use Rattle.ics_listing.specs.StartTimes.{local_of, time_at, time_of, IsNotAfter}
use Rattle.ics_listing.proofs.Cases.{below-or-last, some-same, equal-true, true-equal}
use Rattle.ics_listing.proofs.FirstLemmas.{source-order, source_total, moment_total}
use Rattle.ics_listing.proofs.StartOrderLemmas.{own-time, rdate-time, calendar-day, number-seconds, own-day}
use Rattle.ics_starts.proofs.StartSourceLemmas.{kept-calendar, kept-ruled, number-numbered, numbered-number, ruled-kept, gives-value, kept-late, rule-first}
use Rattle.ics_starts.proofs.JoinedLemmas.{joined, none-listed}
use Rattle.ics_zone.proofs.Cases.{true_int_lt, true_int_le, int_lt_true, int_le_true}
use Rattle.ics_listing.specs.declared.start.Start.{Start}
use Rattle.ics_listing.specs.declared.window.Window.{Window}
use Rattle.ics_starts.specs.declared.zones.FileZones.{FileZones}
use Rattle.ics_listing.specs.Rising.{Rises}
use Rattle.ics_starts.specs.FileZones.{clocks_in}
use Rattle.ics_listing.proofs.ListingLemmas.{sums-within, before-in}
use Rattle.ics_starts.proofs.RuleDayLemmas.{given-parts, in-rules}
use Rattle.ics_starts.proofs.InstantLemmas.{early, late}
use Rattle.std.proofs.lemmas.List.Folds.{list_any_at}
use Rattle.ics_event.specs.Event.{Time}
use Rattle.ics_starts.specs.Exclusions.{excludes, is_excluded}
use Rattle.ics_starts.specs.Finish.{finish}
use Rattle.ics_starts.specs.Instances.{IsInstance}
use Rattle.std.proofs.lemmas.Cmp.{tied_itself}

gt-Greater : (c : Ordering) → is_gt c ≡ true → c ≡ Greater
gt-Greater Greater e = refl
gt-Greater _ e = let f : false ≡ true = e in cc

-- What is not after another comes before it.
source-before : (a b : StartSource) → (IsNotAfter b a → ⊥) → source_cmp a b ≡ Less
source-before a b n =
    back source_cmp source_total b a
    (gt-Greater (source_cmp b a) (true_from_ne_false (is_gt (source_cmp b a)) (λ e. n (source-order b a e))))

-- So many sources, as they rise, are those for which something holds.
pub record Counts (P : StartSource → Type 0) (n : ℕ) : Type 0 where
  pub sources : List StartSource
  pub listing : IsListing source_cmp P sources
  pub count : length sources ≡ n

same-count : {P Q : StartSource → Type 0} {n : ℕ} → Counts P n → ((g : StartSource) → P g → Q g) → ((g : StartSource) → Q g → P g) → Counts Q n
same-count c to from = record {
  sources = c.sources;
  listing = record { rises = c.listing.rises; exact = λ g. (λ m. to g ((c.listing.exact g).0 m), λ q. (c.listing.exact g).1 (from g q)) };
  count = c.count;
}

-- those of one property, each of which comes before those of another
both-count : {P Q S : StartSource → Type 0} {m n : ℕ} → Counts P m → Counts Q n → ((x y : StartSource) → P x → Q y → source_cmp x y ≡ Less) →
    ((g : StartSource) → P g ⊎ Q g → S g) → ((g : StartSource) → S g → P g ⊎ Q g) → Counts S (m + n)
both-count {S = S} a b less to from = record {
  sources = a.sources ++ b.sources;
  listing = joined source_cmp S a.listing b.listing less to from;
  count = omega (arith, length-append a.sources b.sources, a.count, b.count);
}

no-count : {P : StartSource → Type 0} → ((g : StartSource) → P g → ⊥) → Counts P 0
no-count none = record { sources = []; listing = none-listed source_cmp none; count = refl }

one-or-none : (b : Bool) (s : StartSource) → Counts (λ g. (b ≡ true) × (g ≡ s)) (cond b 1 0)
one-or-none true s = record {
  sources = s ∷ [];
  listing = record { rises = (tt, tt); exact = λ g. (λ m. ⊎_elim (λ e. (refl, e)) (λ no. absurd no) m, λ p. inl p.1) };
  count = refl;
}
one-or-none false s = no-count (λ g p. let no : false ≡ true = p.0 in cc)

-- Of sources by their numbers, those with numbers below n that pass a test.
record IsPassing (source : ℕ → StartSource) (test : ℕ → Bool) (n : ℕ) (g : StartSource) : Type 0 where
  at : ℕ
  below : at < n
  passes : test at ≡ true
  is : g ≡ source at

module _ (source : ℕ → StartSource) (rises : (k n : ℕ) → k < n → source_cmp (source k) (source n) ≡ Less) (test : ℕ → Bool) where
  passing : (n : ℕ) → Counts (IsPassing source test n) (count n test)
  unfolding count
  passing zero = no-count (λ g p. omega (arith, p.below))
  passing (suc n) =
      both-count (passing n) (one-or-none (test n) (source n))
      (λ x y p q. ap (λ s. source_cmp s y) p.is ∙ (ap (source_cmp (source p.at)) q.1 ∙ rises p.at n p.below))
      (λ g. ⊎_elim (λ p. record { at = p.at; below = omega (arith, p.below); passes = p.passes; is = p.is })
      (λ q. record { at = n; below = omega arith; passes = q.0; is = q.1 }))
      (λ g p. ⊎_elim (λ l. inl (record { at = p.at; below = l; passes = p.passes; is = p.is }))
      (λ s. inr (ap test (sym s) ∙ p.passes, p.is ∙ ap source s)) (below-or-last p.at n p.below))

module _ (clocks : Clocks) (event : Event) (test : ℤ → Bool) (time : IsTime event.start) where
  abbrev is_there : Rdate → Bool
  is_there rdate = test (instant clocks (time_of (given_by event.start rdate)))

  -- what gives a start whose instant passes
  abbrev pub IsGiving : StartSource → Type 0
  IsGiving g = (given : Rdate) × GivesStart clocks event g given × (test (instant clocks (time_of given)) ≡ true)

  -- the rule gives the local with this number such a start
  abbrev is_tested : Recurrence → ℕ → Bool
  is_tested rule n = is_kept rule n && (lets_until rule n (moment_numbered clocks event n) && test (moment_numbered clocks event n))

  -- how many locals do, as DTSTART or by the rule
  abbrev kept_count : Option Recurrence → ℕ
  kept_count None = if test (instant clocks event.start) then 1 else 0
  kept_count (Some rule) = count calendar_end (is_tested rule)

  -- what such a local is
  abbrev IsRawKept : StartSource → Type 0
  IsRawKept g =
      (local : Local) × (g ≡ Kept local) × ((local ≡ local_of event.start.stamp) ⊎ IsRuleStart clocks event local)
      × (test (instant clocks (time_at event.start local)) ≡ true)

  own-instant : instant clocks (time_at event.start (local_of event.start.stamp)) ≡ instant clocks event.start
  own-instant = ap (instant clocks) (own-time event.start)

  -- under no rule
  once : recurrence_of event ≡ None → Counts IsRawKept (if test (instant clocks event.start) then 1 else 0)
  once none =
      same-count (one-or-none (test (instant clocks event.start)) (Kept (local_of event.start.stamp)))
      (λ g p. (local_of event.start.stamp, p.1, inl refl, ap test own-instant ∙ p.0))
      (λ g p.
      let same : local_of event.start.stamp ≡ p.0 = ⊎_elim sym (λ r. let no : Some r.rule ≡ None = sym r.has ∙ none in absurd cc) p.2 in
      (ap test (sym own-instant ∙ ap (λ l. instant clocks (time_at event.start l)) same) ∙ p.3, p.1 ∙ ap Kept (sym same)))

  -- and under one
  module _ (rule : Recurrence) (has : recurrence_of event ≡ Some rule) where
    pub numbered-raw : (n : ℕ) → n < calendar_end → is_kept rule n ≡ true → lets_until rule n (moment_numbered clocks event n) ≡ true →
        (local_numbered n ≡ local_of event.start.stamp) ⊎ IsRuleStart clocks event (local_numbered n)
    numbered-raw n l kept through =
        let same = number-numbered n in
        kept-ruled clocks event rule has (local_numbered n) time (omega (arith, ints), omega (arith, ints, l)) (ap (is_kept rule) same ∙ kept)
        (ap (λ k. lets_until rule k (moment_numbered clocks event k)) same ∙ through)

    raw-passing : (g : StartSource) → IsPassing (λ n. Kept (local_numbered n)) (is_tested rule) calendar_end g → IsRawKept g
    raw-passing g p =
        let kept = and_true {a = is_kept rule p.at} p.passes in
        let within = and_true {a = lets_until rule p.at (moment_numbered clocks event p.at)} kept.1 in
        (local_numbered p.at, p.is, numbered-raw p.at p.below kept.0 within.0, within.1)

    passing-raw : (g : StartSource) → IsRawKept g → IsPassing (λ n. Kept (local_numbered n)) (is_tested rule) calendar_end g
    passing-raw g p =
        let of_day = kept-calendar clocks event p.0 time p.2 in
        let same = numbered-number p.0 of_day in
        let parts = ruled-kept clocks event rule has p.0 p.2 in
        record {
          at = number p.0;
          below = omega (arith, ints, of_day.0, of_day.1, p.0.second_in);
          passes = rw (parts.0, same) (and_from _ _ parts.1 p.3);
          is = p.1 ∙ ap Kept (sym same);
        }

  kept-counts : (o : Option Recurrence) → recurrence_of event ≡ o → Counts IsRawKept (kept_count o)
  kept-counts None e = once e
  kept-counts (Some rule) e =
      same-count (passing (λ n. Kept (local_numbered n)) (λ k n l. source-before (Kept (local_numbered k)) (Kept (local_numbered n))
      (λ h. omega (arith, ints, l, h, number-numbered k, number-numbered n))) (is_tested rule) calendar_end) (raw-passing rule e) (passing-raw rule e)

  -- and so the RDATEs from a place on that give such a start
  abbrev IsRawFrom : ℕ → List Rdate → StartSource → Type 0
  IsRawFrom place rdates g =
      (k : ℕ) × (rdate : Rdate) × (slice_get rdates k ≡ Some rdate) × (is_there rdate ≡ true) × (g ≡ Listed (place + k))

  listed-counts : (place : ℕ) (rdates : List Rdate) → Counts (IsRawFrom place rdates) (count_by is_there rdates)
  listed-counts place [] = no-count (λ g p. let f : None ≡ Some p.1 = p.2 in absurd cc)
  listed-counts place (r ∷ rs) =
      rw (sum_by-cons (λ x. cond (is_there x) 1 0) r rs)
      (both-count (one-or-none (is_there r) (Listed place)) (listed-counts (place + 1) rs)
      (λ x y p q. rw (p.1, q.4) (source-before (Listed place) (Listed (place + 1 + q.0)) (λ h. omega (arith, h))))
      (λ g. ⊎_elim (λ p. (0, r, refl, p.0, p.1 ∙ ap Listed (omega arith))) (λ q. (suc q.0, q.1, q.2, q.3, q.4 ∙ ap Listed (omega arith)))) first)
    where
      first : (g : StartSource) → IsRawFrom place (r ∷ rs) g → ((is_there r ≡ true) × (g ≡ Listed place)) ⊎ IsRawFrom (place + 1) rs g
      first g (zero, x, e, t, is) = inl (ap is_there (some-same r x e) ∙ t, is ∙ ap Listed (omega arith))
      first g (suc k, x, e, t, is) = inr (k, x, e, t, is ∙ ap Listed (omega arith))

  -- both kinds, the locals first
  source-raw : (g : StartSource) → IsRawKept g ⊎ IsRawFrom 0 event.rdates g → IsGiving g
  source-raw g (inl p) = rw p.1 (At (time_at event.start p.0), (p.2, refl), p.3)
  source-raw g (inr q) = let is : g ≡ Listed q.0 = q.4 ∙ ap Listed (omega arith) in rw is (given_by event.start q.1, (q.1, q.2, refl), q.3)

  raw-source : (g : StartSource) → IsGiving g → IsRawKept g ⊎ IsRawFrom 0 event.rdates g
  raw-source (Kept local) r = inl (local, refl, r.1.0, ap (λ given. test (instant clocks (time_of given))) (sym r.1.1) ∙ r.2)
  raw-source (Listed place) r =
      inr (place, r.1.0, r.1.1, ap (λ given. test (instant clocks (time_of given))) (sym r.1.2) ∙ r.2, ap Listed (omega arith))

  pub giving : Counts IsGiving (kept_count (recurrence_of event) + count_by is_there event.rdates)
  giving =
      both-count (kept-counts (recurrence_of event) refl) (listed-counts 0 event.rdates)
      (λ x g p q. rw (p.1, q.4) (source-before (Kept p.0) (Listed (0 + q.0)) (λ no. no))) source-raw raw-source

kept-counted : (clocks : Clocks) (event : Event) (day : ℤ) (time : IsTime event.start) (o : Option Recurrence) →
    kept_count clocks event (is_within_days day) time o ≡ raw_by clocks event o day
unfolding raw_by_rule
kept-counted clocks event day time None = refl
kept-counted clocks event day time (Some rule) = refl

pub raw-counted : (clocks : Clocks) (event : Event) (day : ℤ) → IsTime event.start →
    (sources : List StartSource) × IsListing source_cmp (IsRaw clocks event day) sources × (length sources ≡ raw_in clocks event day)
unfolding raw_in raw_listed
raw-counted clocks event day time =
    let all = giving clocks event (is_within_days day) time in
    (all.sources, all.listing, all.count ∙ ap (λ n. n + raw_listed clocks event day) (kept-counted clocks event day time (recurrence_of event)))

-- The starts of a rule that are held are no more than the event has in five UTC days. The greatest number that it has in five days is that of
-- five days, and no five have more.
ones : {A : Type 0} (xs : List A) → sum_by (λ x. 1) xs ≡ length xs
ones [] = omega arith
ones (x ∷ xs) = omega (arith, sum_by-cons (λ y. 1) x xs, ones xs)

greatest-most : (n k : ℕ) (f : ℕ → ℕ) → k < n → f k ≤ greatest n f
unfolding greatest
greatest-most zero k f l = absurd (omega arith)
greatest-most (suc n) k f l = ⊎_elim (λ low. omega (arith, greatest-most n k f low)) (λ last. omega (arith, ap f last)) (below-or-last k n l)

-- Five days that hold an instant of a local of the calendar have no more than the greatest number.
pub days-most : (clocks : Clocks) (event : Event) (day : ℤ) → neg_ℤ (pos 719_534) ≤ℤ day → day <ℤ pos 2_932_899 →
    raw_in clocks event day ≤ most_in_days clocks event
unfolding most_in_days
days-most clocks event day low high =
    let k = unsigned_abs (day +ℤ pos 719_534) in
    let is : pos (unsigned_abs (day +ℤ pos 719_534)) -ℤ pos 719_534 ≡ day = omega (arith, ints, low) in
    let most = greatest-most 3_652_433 k (λ i. raw_in clocks event (pos i -ℤ pos 719_534)) (omega (arith, ints, low, high)) in
    omega (arith, most, ap (raw_in clocks event) is)

module _ (zones : FileZones) (event : Event) (rule : Recurrence) (w : Window) (time : IsTime event.start) (has : recurrence_of event ≡ Some rule) where
  held-raw : (asked : ℤ) (s : Start) → IsHeld (clocks_in zones) event rule w asked s → IsRaw (clocks_in zones) event (asked -ℤ pos 3) s.source
  held-raw asked s h =
      let n = number_in s.source in
      let t = moment_numbered (clocks_in zones) event (number_in s.source) in
      let given = given-parts zones event rule w n h.given in
      let is : s.moment ≡ moment_numbered (clocks_in zones) event (number_in s.source) = ap (λ (x : Start). x.moment) h.by in
      let below = in-rules zones event rule w n h.given in
      subst (IsRaw (clocks_in zones) event (asked -ℤ pos 3)) (sym (ap (λ (x : Start). x.source) h.by)) (
        At (time_at event.start (local_numbered n)),
        (
          numbered-raw (clocks_in zones) event (is_within_days (asked -ℤ pos 3)) time rule has n (omega (arith, below)) given.0 given.1,
          refl,
        ),
        and_from (int_le (midnight (asked -ℤ pos 3)) t) (int_lt t (midnight ((asked -ℤ pos 3) +ℤ pos 5)))
            (true_int_le (midnight (asked -ℤ pos 3)) t (omega (arith, ints, is, h.late)))
            (true_int_lt t (midnight ((asked -ℤ pos 3) +ℤ pos 5)) (omega (arith, ints, is, h.early))),
      )

  -- what is held is no more than the event has in the five days, and so in any five
  pub held-in-days : {asked : ℤ} (starts : List Start) → neg_ℤ (pos 719_531) ≤ℤ asked → asked <ℤ pos 2_932_902 → Rises moment_cmp starts
      → AreHeld (clocks_in zones) event rule w asked starts → length starts ≤ most_in_days (clocks_in zones) event
  held-in-days {asked = asked} starts low high r are =
      let all = raw-counted (clocks_in zones) event (asked -ℤ pos 3) time in
      let those = sums-within moment_cmp moment_total (λ s. s.source) (λ g. start_at (clocks_in zones) event (local_numbered (number_in g))) (λ g. 1) starts
      all.0 r (λ s m. ((all.1.exact s.source).1 (held-raw asked s (are s m)), (are s m).by)) in
      let in_any = days-most (clocks_in zones) event (asked -ℤ pos 3) (omega (arith, ints, low)) (omega (arith, ints, high)) in
      omega (arith, those, ones starts, ones all.0, all.2, in_any)

-- The greatest number is one of them.
greatest-given : (n : ℕ) (f : ℕ → ℕ) → (at : ℕ) × (greatest (suc n) f ≡ f at)
unfolding greatest
greatest-given zero f = (0, omega arith)
greatest-given (suc n) f =
    let rest = greatest-given n f in
    ⊎_elim (λ l. (suc n, omega (arith, l))) (λ l. (rest.0, omega (arith, l, rest.1))) (cases_lt (greatest (suc n) f) (f (suc n)))

-- no five days have more than the greatest number: what has a start has a time of the calendar
most-in-any : (zones : FileZones) (event : Event) → IsTime event.start → All IsRdate event.rdates → (day : ℤ) →
    raw_in (clocks_in zones) event day ≤ most_in_days (clocks_in zones) event
most-in-any zones event first rdates day = let all = raw-counted (clocks_in zones) event day first in by all.0 all.1 all.2
  where
    by : (sources : List StartSource) → IsListing source_cmp (IsRaw (clocks_in zones) event day) sources → length sources ≡ raw_in (clocks_in zones) event day →
        raw_in (clocks_in zones) event day ≤ most_in_days (clocks_in zones) event
    by [] l e = omega (arith, e)
    by (g ∷ gs) l e =
        let raw = (l.exact g).0 (inl refl) in
        let time = rdate-time raw.0 (gives-value (clocks_in zones) event g raw.0 first rdates raw.1) in
        let t = instant (clocks_in zones) (time_of raw.0) in
        let within = and_true {a = int_le (midnight day) t} raw.2 in
        let from = int_le_true (midnight day) t within.0 in
        let to = int_lt_true t (midnight (day +ℤ pos 5)) within.1 in
        let soon = early zones (time_of raw.0) time in
        let past = late zones (time_of raw.0) time in
        days-most (clocks_in zones) event day (omega (arith, ints, to, past)) (omega (arith, ints, from, soon))

-- so that it is the greatest, and it is that of some five days
pub most-in-days : (zones : FileZones) (event : Event) → IsTime event.start → All IsRdate event.rdates
    → ((day : ℤ) → raw_in (clocks_in zones) event day ≤ most_in_days (clocks_in zones) event) × (day : ℤ)
    × (most_in_days (clocks_in zones) event ≡ raw_in (clocks_in zones) event day)
unfolding most_in_days
most-in-days zones event first all =
    let given = greatest-given 3_652_432 (λ k. raw_in (clocks_in zones) event (pos k -ℤ pos 719_534)) in
    (most-in-any zones event first all, pos given.0 -ℤ pos 719_534, given.1)

-- Each start that something gives is that of an occurrence, unless an EXDATE takes it out: of what gives it one is the first.
module _ (clocks : Clocks) (event : Event) where
  -- an event without a rule and without RDATEs has the start at DTSTART alone
  ruleless : (source : StartSource) (given : Rdate) → event.rule ≡ None → event.rdates ≡ [] → GivesStart clocks event source given → given ≡ At event.start
  ruleless (Kept local) given none bare g =
      ⊎_elim (λ e. g.1 ∙ ap (λ l. At (time_at event.start l)) e ∙ ap At (own-time event.start))
      (λ r. let f : None ≡ Some r.rule = ap (option_map (recurrence_by event.start.stamp)) (sym none) ∙ r.has in absurd cc) g.0
  ruleless (Listed place) given none bare g = let f : None ≡ Some g.0 = ap (λ (xs : List Rdate). slice_get xs place) (sym bare) ∙ g.1 in absurd cc

  pub one-start : (start end : ℤ) → event.rule ≡ None → event.rdates ≡ [] → IsInstance clocks event start end
      → (start ≡ instant clocks event.start) × (end ≡ finish clocks event (At event.start))
  one-start start end none bare h =
      let same = ruleless h.source h.given none bare h.gives in (rw same at h.starts, rw same at h.ends)

  pub none-excluded : (exdate : Time) (start end : ℤ) → Contains event.exdates exdate → excludes clocks event.start exdate start ≡ true →
      ¬ IsInstance clocks event start end
  none-excluded exdate start end there out h =
      let some = list_any_at (λ x. excludes clocks event.start x start) event.exdates there.0 exdate there.1
      (ap (λ x. excludes clocks event.start x start) there.2 ∙ out) in
      let f : true ≡ false = sym some ∙ h.stays in absurd cc

module _ (clocks : Clocks) (event : Event) (time : IsTime event.start) where
  -- what the rule keeps is not before DTSTART
  pub kept-first : (local : Local) → (local ≡ local_of event.start.stamp) ⊎ IsRuleStart clocks event local →
      local_seconds (local_of event.start.stamp) ≤ℤ local_seconds local
  kept-first local k =
      ⊎_elim (λ e. let same = ap local_seconds e in omega (arith, ints, same))
      (λ r.
      let first = calendar-day (local_of event.start.stamp).day (own-day event.start time) in
      let start = ap (λ (l : Local). number l) (rule-first event r.rule r.has) in
      let late = kept-late r.rule (number local) r.kept in
      omega (arith, ints, start, late, number-seconds (local_of event.start.stamp) first, number-seconds local r.calendar))
      k

module _ (clocks : Clocks) (event : Event) where
  -- of what gives a start the first in their list is the first of all
  pub each-start : (source : StartSource) (given : Rdate) → IsTime event.start → GivesStart clocks event source given
      → is_excluded clocks event (instant clocks (time_of given)) ≡ false → (end : ℤ) × IsInstance clocks event (instant clocks (time_of given)) end
  each-start source given time g stays =
      let all = giving clocks event (λ x. int_eq x t) time in
      by all.sources all.listing ((all.listing.exact source).1 (given, g, true-equal t t refl))
    where
      t : ℤ
      t = instant clocks (time_of given)

      by : (sources : List StartSource) → IsListing source_cmp (IsGiving clocks event (λ x. int_eq x t) time) sources → IsIn source sources →
          (end : ℤ) × IsInstance clocks event t end
      by [] l m = absurd m
      by (x ∷ xs) l m =
          let own = (l.exact x).0 (inl refl) in (
            finish clocks event own.0,
            record {
              source = x;
              given = own.0;
              gives = own.1;
              starts = sym (equal-true (instant clocks (time_of own.0)) t own.2);
              earliest = λ other value k e. source-order x other (⊎_elim
                  (λ s. ap (λ o. is_gt (source_cmp x o)) s ∙ ap is_gt (tied_itself source_total x))
                  (λ n. ap is_gt (before-in source_cmp source_total x other xs l.rises.0 n))
                  ((l.exact other).1 (value, k, true-equal (instant clocks (time_of value)) t e)));
              ends = refl;
              stays = stays;
            },
          )
