-- Locals of a rule that give nothing may be passed over.
use Rattle.std.proofs.Common.{◌≡◌, ◌⊎◌, ℕ, zero, suc, ◌+◌, ◌-◌, ◌<◌, ◌≤◌, ℤ, Bool, true, false, cond, if◌then◌else◌}
use Rattle.std.proofs.Common.{List, [], ◌∷◌, filter, length, Option, Some, None, inl, inr, ⊎_elim, refl, sym, ◌∙◌, ap, subst, arith, add-one}
use Rattle.std.proofs.Common.{Ordering, Less, Equal, Greater}
use Rattle.std.specs.Cmp.{IsTotalOrder}
use Rattle.std.specs.List.{cons_option}
use Rattle.std.proofs.lemmas.Bool.{cases_lt}
use Rattle.std.proofs.lemmas.Cmp.{tied_back, tied_itself}
use Rattle.std.proofs.lemmas.Int.{ints}
use Rattle.ics_event.specs.declared.event.Event.{Event}
use Rattle.ics_fields.specs.Days.{day_index}
use Rattle.ics_rule.specs.Cursors.{place_of}
use Rattle.ics_rule.specs.Kept.{is_kept}
use Rattle.ics_period.specs.PeriodNumbers.{rules_end}
use Rattle.ics_period.specs.Recurrence.{Recurrence}
use Rattle.ics_starts.specs.declared.rule_starts.RuleStarts.{RuleStarts}
use Rattle.ics_starts.specs.declared.series.Series.{Series}
use Rattle.ics_listing.specs.declared.start.Start.{Start}
use Rattle.ics_listing.specs.declared.window.Window.{Window}
use Rattle.ics_starts.specs.Clocks.{instant}
use Rattle.ics_listing.specs.FileClocks.{Clocks}
use Rattle.ics_listing.specs.Entry.{Entry}
use Rattle.ics_starts.specs.FileZones.{clocks_in}
use Rattle.ics_listing.specs.StartOrder.{moment_cmp}
use Rattle.ics_starts.specs.Found.{start_at, IsStartIn}
use Rattle.ics_listing.specs.Listing.{IsIn}
use Rattle.ics_starts.specs.Meeting.{entry_from}
use Rattle.ics_listing.specs.Merged.{put, union, HasNoKey}
use Rattle.ics_listing.specs.Inner.MergedLaws.{back, before-filter, before-trans, rises-union}
use Rattle.ics_listing.specs.Rising.{IsBefore, Rises}
use Rattle.ics_starts.specs.RuleFeed.{held_in, starts_left, HasPassed}
use Rattle.ics_starts.specs.RuleStarts.{found, found_in, gives, local_numbered, midnight_number, moment_numbered, number_in, to_come, with_put}
use Rattle.ics_starts.specs.SeriesFeed.{series_left, series_of}
use Rattle.ics_starts.specs.SeriesStarts.{first_of, given_of, is_wanted, left, rule_steps, wanted_by, ArePassed, AreStartsIn, HasOwnRule}
use Rattle.ics_starts.specs.SeriesStarts.{HasRuled, HasSameRule, IsOwnRule}
use Rattle.ics_listing.specs.KnownStarts.{listed_left}
use Rattle.ics_starts.specs.Starts.{recurrence_of}
use Rattle.ics_listing.specs.StartTimes.{time_of}
use Rattle.ics_listing.proofs.BeginsLemmas.{put-before}
use Rattle.ics_listing.proofs.Cases.{by-cases, here-or-later}
use Rattle.ics_listing.proofs.FirstLemmas.{moment_total, tied-moment}
use Rattle.ics_listing.proofs.ListingLemmas.{before-in, filter-in, in-filter}
use Rattle.ics_starts.proofs.RuleDayLemmas.{found-first, found-is, given-parts, in-rules, rises-found}
use Rattle.ics_starts.proofs.SeriesLemmas.{in-moment, in-picked, moment-in, rises-listed}
use Rattle.ics_starts.proofs.StartSourceLemmas.{kept-time, number-numbered}
use Rattle.ics_listing.proofs.UnionLemmas.{no_key-put, no_key-union, union-in}

-- by what a test answers
pub by-test : {P : Type 0} (b : Bool) → (b ≡ true → P) → (b ≡ false → P) → P
by-test true f g = f refl
by-test false f g = g refl

-- What a test leaves of the union of rising lists, if it tells apart none that are tied.
module _ {A : Type 0} (R : A → A → Ordering) (o : IsTotalOrder R) (keep : A → Bool) (alike : (x y : A) → R x y ≡ Equal → keep x ≡ keep y) where
  kept-put : (x : A) (ys : List A) → Rises R ys → keep x ≡ true → filter keep (put R x ys) ≡ put R x (filter keep ys)
  kept-put x [] r k = rw k refl
  kept-put x (y ∷ ys) r k =
      by-cases (R x y)
      (λ p. rw (p, k) (sym (put-before R o x (filter keep (y ∷ ys)) (before-filter R keep x (y ∷ ys) (p, before-trans R o x y ys p r.0)))))
      (λ p. let q : keep y ≡ true = sym (alike x y p) ∙ k in rw (q, p, k) refl)
      (λ p. by-test (keep y)
      (λ q. rw (q, p, q) (ap (λ zs. y ∷ zs) (kept-put x ys r.1 k)))
      (λ q. rw (q, p, q) (kept-put x ys r.1 k)))

  pub dropped-put : (x : A) (ys : List A) → keep x ≡ false → filter keep (put R x ys) ≡ filter keep ys
  dropped-put x [] k = rw k refl
  dropped-put x (y ∷ ys) k =
      by-cases (R x y)
      (λ p. rw (p, k) refl)
      (λ p. let q : keep y ≡ false = sym (alike x y p) ∙ k in rw (p, k, q) refl)
      (λ p. rw p (ap (λ zs. cond (keep y) (y ∷ zs) zs) (dropped-put x ys k)))

  pub kept-union : (xs ys : List A) → Rises R ys → filter keep (union R xs ys) ≡ union R (filter keep xs) (filter keep ys)
  kept-union [] ys r = refl
  kept-union (x ∷ xs) ys r =
      by-test (keep x)
      (λ k. kept-put x (union R xs ys) (rises-union R o xs ys r) k ∙ rw k (ap (put R x) (kept-union xs ys r)))
      (λ k. dropped-put x (union R xs ys) k ∙ rw k (kept-union xs ys r))

-- A rising list whose keys stand in another is no longer than that.
module _ {A : Type 0} (R : A → A → Ordering) (o : IsTotalOrder R) where
  before-no_key : (x : A) (ys : List A) → IsBefore R x ys → HasNoKey R x ys
  before-no_key x [] b = tt
  before-no_key x (y ∷ ys) b = ((λ t. let q = b.0 in cc), before-no_key x ys b.1)

  pub shorter : (xs ys : List A) → Rises R xs → Rises R ys → ((e : A) → IsIn e xs → HasNoKey R e ys → ⊥) → length xs ≤ length ys
  shorter [] ys r s h = omega arith
  shorter (x ∷ xs) [] r s h = absurd (h x (inl refl) tt)
  shorter (x ∷ xs) (y ∷ ys) r s h =
      by-cases (R x y)
      (λ p. absurd (h x (inl refl) (before-no_key x (y ∷ ys) (p, before-trans R o x y ys p s.0))))
      (λ p.
      let ih = shorter xs ys r.1 s.1 (λ e m n. h e (inr m) ((λ t. behind e (sym (o.congr x y e p) ∙ before-in R o x e xs r.0 m) t), n)) in
      omega (arith, ih))
      (λ p. let ih = shorter (x ∷ xs) ys r s.1 (λ e m n. h e m ((λ t. behind e (from p e m) t), n)) in omega (arith, ih))
    where
      behind : (e : A) → R y e ≡ Less → R e y ≡ Equal → ⊥
      behind e l t = let u = tied_back o e y t in cc

      from : R x y ≡ Greater → (e : A) → IsIn e (x ∷ xs) → R y e ≡ Less
      from p e m = ⊎_elim (λ is. rw is (back R o x y p)) (λ k. o.trans y x e (back R o x y p) (before-in R o x e xs r.0 k)) m

module _ (clocks : Clocks) (event : Event) (rule : Recurrence) (w : Window) where
  -- past the end of the rules there is nothing
  none-past : (n : ℕ) → rules_end ≤ n → found clocks event rule w n ≡ []
  unfolding found
  none-past n l = let none : rules_end - n ≡ zero = omega (arith, l) in ap (found_in clocks event rule w n) none

  -- what one local gives is put into what the later ones give
  found-one : (n : ℕ) → (found clocks event rule w n ≡ found clocks event rule w (n + 1)) ⊎ (found clocks event rule w n
      ≡ with_put (gives clocks event rule w n) (start_at clocks event (local_numbered n)) (found clocks event rule w (n + 1)))
  found-one n = elim (cases_lt n rules_end) [
    | inl early ↦ inr (found-first clocks event rule w n early)
    | inr late ↦ inl (none-past n late ∙ sym (none-past (n + 1) (omega (arith, late))))
  ]

  -- what the locals from one on and before another give is left out
  found-kept : (keep : Start → Bool) (alike : (x y : Start) → moment_cmp x y ≡ Equal → keep x ≡ keep y) (from to : ℕ) → from ≤ to
      → ((n : ℕ) → from ≤ n → n < to → gives clocks event rule w n ≡ true → keep (start_at clocks event (local_numbered n)) ≡ false)
      → filter keep (found clocks event rule w from) ≡ filter keep (found clocks event rule w to)
  found-kept keep alike from zero l out = ap (λ n. filter keep (found clocks event rule w n)) (omega (arith, l))
  found-kept keep alike from (suc to) l out =
      ⊎_elim (ap (λ n. filter keep (found clocks event rule w n)))
      (λ less. found-kept keep alike from to (omega (arith, less)) (λ n a b. out n a (omega (arith, b)))
      ∙ (⊎_elim (ap (filter keep)) (λ e. ap (filter keep) e ∙ one (gives clocks event rule w to) (out to (omega (arith, less)) (omega arith))) (found-one to)
      ∙ ap (λ n. filter keep (found clocks event rule w n)) (add-one to)))
      (here-or-later from (suc to) l)
    where
      one : (b : Bool) → (b ≡ true → keep (start_at clocks event (local_numbered to)) ≡ false)
          → filter keep (with_put b (start_at clocks event (local_numbered to)) (found clocks event rule w (to + 1)))
          ≡ filter keep (found clocks event rule w (to + 1))
      one true f = dropped-put moment_cmp moment_total keep alike (start_at clocks event (local_numbered to)) (found clocks event rule w (to + 1)) (f refl)
      one false f = refl

  -- the later locals give no key that those from an earlier one on do not give
  found-keys : (from to : ℕ) → from ≤ to → (e : Start) → HasNoKey moment_cmp e (found clocks event rule w from)
      → HasNoKey moment_cmp e (found clocks event rule w to)
  found-keys from zero l e n = subst (λ k. HasNoKey moment_cmp e (found clocks event rule w k)) (omega (arith, l)) n
  found-keys from (suc to) l e n =
      ⊎_elim (λ same. subst (λ k. HasNoKey moment_cmp e (found clocks event rule w k)) same n)
      (λ less.
      let before = found-keys from to (omega (arith, less)) e n in
      subst (λ k. HasNoKey moment_cmp e (found clocks event rule w k)) (add-one to)
      (⊎_elim (λ same. subst (HasNoKey moment_cmp e) same before) (λ put. one (gives clocks event rule w to) (subst (HasNoKey moment_cmp e) put before))
      (found-one to)))
      (here-or-later from (suc to) l)
    where
      one : (b : Bool) → HasNoKey moment_cmp e (with_put b (start_at clocks event (local_numbered to)) (found clocks event rule w (to + 1)))
          → HasNoKey moment_cmp e (found clocks event rule w (to + 1))
      one true k = ((no_key-put moment_cmp moment_total e (start_at clocks event (local_numbered to)) (found clocks event rule w (to + 1))).0 k).1
      one false k = k

-- the starts by the rule of a series are those of its event
pub own-of : (s : Series) (a : RuleStarts) → s.rule_starts ≡ Some a
    → IsOwnRule s.zones s.event.now s.window (first_of (clocks_in s.zones) s.window s.event.now s.since) a
own-of s a is = subst (HasOwnRule s.zones s.event.now s.window (first_of (clocks_in s.zones) s.window s.event.now s.since)) is s.own_rule

-- Of the instants of a series, a test lets through those at which it gives something, and none of those of locals of which something holds.
pub record IsTest (s : Series) (P : RuleStarts → ℕ → Type 0) (keep : ℤ → Bool) : Type 0 where
  pub out : (a : RuleStarts) → s.rule_starts ≡ Some a → (n : ℕ) → P a n → gives (clocks_in s.zones) s.event.now a.rule s.window n ≡ true
      → keep (moment_numbered (clocks_in s.zones) s.event.now n) ≡ false
  pub unwanted : (t : Start) → t.moment ≡ instant (clocks_in s.zones) (time_of t.given)
      → IsIn t (listed_left s.listed) ⊎ ((n : ℕ) × (t ≡ start_at (clocks_in s.zones) s.event.now (local_numbered n)))
      → keep t.moment ≡ false → wanted_by (clocks_in s.zones) s.window s.event.now s.since s.replaced t ≡ None

-- A series of whose rule locals are passed over that such a test tells apart.
module _ (s : Series) {P : RuleStarts → ℕ → Type 0} {keep : ℤ → Bool} (test : IsTest s P keep) (a b : RuleStarts) (is : s.rule_starts ≡ Some a)
    (k : HasPassed (P a) a b) where
  abbrev clocks : Clocks
  clocks = clocks_in s.zones

  abbrev event : Event
  event = s.event.now

  abbrev from : ℕ
  from = place_of a.cursor

  abbrev to : ℕ
  to = place_of b.cursor

  abbrev listed : List Start
  listed = listed_left s.listed

  -- the starts by the rule, and all starts, that are to come where it is read from a local on
  abbrev by-rule : ℕ → List Start
  by-rule n = to_come clocks event a.rule s.window (held_in a) n

  abbrev all : ℕ → List Start
  all n = union moment_cmp (by-rule n) listed

  abbrev given : List Start → List Entry
  given starts = given_of clocks s.window event s.since s.replaced starts

  own : IsOwnRule s.zones event s.window (first_of clocks s.window event s.since) a
  own = own-of s a is

  ruled-is : (n : ℕ) → to_come (clocks_in a.zones) a.event.now a.rule a.window (held_in a) n ≡ by-rule n
  ruled-is n = λ i. to_come (clocks_in (own.zones_are i)) (own.event_is i) a.rule (own.window_is i) (held_in a) n

  before : series_left s ≡ all from
  before = ap (λ o. left o s.listed) is ∙ ap (λ xs. union moment_cmp xs listed) (ruled-is from)

  rule-after : starts_left b ≡ by-rule to
  rule-after = k.left ∙ ruled-is to

  after : left (Some b) s.listed ≡ all to
  after = ap (λ xs. union moment_cmp xs listed) rule-after

  abbrev kept : Start → Bool
  kept t = keep t.moment

  alike : (x y : Start) → moment_cmp x y ≡ Equal → kept x ≡ kept y
  alike x y t = ap keep (tied-moment x y t)

  ruled-kept : filter kept (by-rule from) ≡ filter kept (by-rule to)
  unfolding to_come
  ruled-kept =
      kept-union moment_cmp moment_total kept alike (held_in a) (found clocks event a.rule s.window from) (rises-found clocks event a.rule s.window from)
      ∙ (ap (union moment_cmp (filter kept (held_in a)))
      (found-kept clocks event a.rule s.window kept alike from to k.on (λ n l u g. test.out a is n (k.each n l u) g))
      ∙ sym (kept-union moment_cmp moment_total kept alike (held_in a) (found clocks event a.rule s.window to) (rises-found clocks event a.rule s.window to)))

  all-kept : filter kept (all from) ≡ filter kept (all to)
  all-kept =
      kept-union moment_cmp moment_total kept alike (by-rule from) listed (rises-listed s.listed)
      ∙ (ap (λ xs. union moment_cmp xs (filter kept listed)) ruled-kept
      ∙ sym (kept-union moment_cmp moment_total kept alike (by-rule to) listed (rises-listed s.listed)))

  -- the times of all starts to come are those of the file
  rule-in : (n : ℕ) → gives clocks event a.rule s.window n ≡ true → IsStartIn s.zones (start_at clocks event (local_numbered n))
  rule-in n g =
      let early = in-rules s.zones event a.rule s.window n g in
      let has : recurrence_of event ≡ Some a.rule = ap recurrence_of (sym own.event_is) ∙ a.rule_of.of in
      record {
        value = kept-time event (local_numbered n) s.own.start.is_time has (omega (arith, ints), omega (arith, ints, early))
            (ap (is_kept a.rule) (number-numbered n) ∙ (given-parts s.zones event a.rule s.window n g).0);
        below = s.own.start.within;
        moment = refl;
      }

  -- a start by a local that gives one
  abbrev IsByLocal : Start → Type 0
  IsByLocal t = (n : ℕ) × (t ≡ start_at clocks event (local_numbered n)) × (gives clocks event a.rule s.window n ≡ true)

  held-by : (t : Start) → IsIn t (held_in a) → IsByLocal t
  held-by t m =
      let h = a.are t m in (
        number_in t.source,
        h.by ∙ (λ i. start_at (clocks_in (own.zones_are i)) (own.event_is i) (local_numbered (number_in t.source))),
        sym (λ i. gives (clocks_in (own.zones_are i)) (own.event_is i) a.rule (own.window_is i) (number_in t.source)) ∙ h.given,
      )

  ruled-by : (n : ℕ) (t : Start) → IsIn t (by-rule n) → IsByLocal t
  unfolding to_come
  ruled-by n t m =
      ⊎_elim (held-by t)
      (λ q. let f = found-is s.zones event a.rule s.window n t q.1 in (f.by, f.is, f.given))
      (union-in moment_cmp moment_total t (held_in a) (found clocks event a.rule s.window n) (rises-found clocks event a.rule s.window n) m)

  listed-or-ruled : (n : ℕ) (t : Start) → IsIn t (all n) → IsIn t listed ⊎ IsByLocal t
  listed-or-ruled n t m =
      ⊎_elim (λ q. inr (ruled-by n t q)) (λ q. inl q.1) (union-in moment_cmp moment_total t (by-rule n) listed (rises-listed s.listed) m)

  known-all : (n : ℕ) → AreStartsIn s.zones (all n)
  known-all n t m =
      ⊎_elim (s.listed_known t) (λ q. subst (IsStartIn s.zones) (sym q.1) (rule-in q.0 q.2)) (listed-or-ruled n t m)

  -- so nothing that is wanted goes
  none-lost : (n : ℕ) (t : Start) → IsIn t (all n) → keep t.moment ≡ false → wanted_by clocks s.window event s.since s.replaced t ≡ None
  none-lost n t m e = test.unwanted t (known-all n t m).moment (⊎_elim inl (λ q. inr (q.0, q.1)) (listed-or-ruled n t m)) e

  given-kept : (starts : List Start)
      → ((t : Start) → IsIn t starts → keep t.moment ≡ false → wanted_by clocks s.window event s.since s.replaced t ≡ None)
      → given starts ≡ given (filter kept starts)
  given-kept [] lost = refl
  given-kept (t ∷ starts) lost =
      let ih = given-kept starts (λ u m. lost u (inr m)) in
      by-test (keep t.moment)
      (λ e. rw e (ap (cons_option (wanted_by clocks s.window event s.since s.replaced t)) ih))
      (λ e. rw (e, lost t (inl refl) e) ih)

  same-given : given (left (Some b) s.listed) ≡ given (series_left s)
  same-given =
      ap given after
      ∙ (given-kept (all to) (none-lost to)
      ∙ (ap given (sym all-kept) ∙ (sym (given-kept (all from) (none-lost from)) ∙ ap given (sym before))))

  -- and what is left is no more
  fewer-left : length (all to) ≤ length (all from)
  unfolding to_come
  fewer-left =
      shorter moment_cmp moment_total (all to) (all from) (rises-union moment_cmp moment_total (by-rule to) listed (rises-listed s.listed))
      (rises-union moment_cmp moment_total (by-rule from) listed (rises-listed s.listed))
      (λ e m n.
      let outer = (no_key-union moment_cmp moment_total e (by-rule from) listed).0 n in
      let inner = (no_key-union moment_cmp moment_total e (held_in a) (found clocks event a.rule s.window from)).0 outer.0 in
      itself e (all to) m
      ((no_key-union moment_cmp moment_total e (by-rule to) listed).1 (
        (no_key-union moment_cmp moment_total e (held_in a) (found clocks event a.rule s.window to)).1
            (inner.0, found-keys clocks event a.rule s.window from to k.on e inner.1),
        outer.1,
      )))
    where
      itself : (e : Start) (xs : List Start) → IsIn e xs → HasNoKey moment_cmp e xs → ⊥
      itself e [] m n = m
      itself e (x ∷ xs) m n = ⊎_elim (λ same. n.0 (rw (← same) (tied_itself moment_total e))) (λ j. itself e xs j n.1) m

  -- what is given begins at an instant that the test lets through
  given-passes : (o : Entry) → IsIn o (given (series_left s)) → keep o.start ≡ true
  given-passes o there =
      let picked = in-picked clocks event (is_wanted clocks s.window event s.since s.replaced) (series_left s) o there in
      let u = picked.start in
      let at : u.moment ≡ o.start = (s.known u picked.stands).moment ∙ ap (λ (e : Entry). e.start) (sym picked.is) in
      let own-entry : Entry = entry_from clocks event u.given in
      let is : is_wanted clocks s.window event s.since s.replaced own-entry ≡ true =
      ap (is_wanted clocks s.window event s.since s.replaced) (sym picked.is) ∙ picked.passes in
      let some : wanted_by clocks s.window event s.since s.replaced u ≡ Some own-entry = ap (λ b. if b then Some own-entry else None) is in
      ap keep (sym at)
      ∙ by-test (keep u.moment) (λ e. e)
      (λ e. let f : None ≡ Some own-entry = sym (none-lost from u (subst (IsIn u) before picked.stands) e) ∙ some in absurd cc)

  -- a start of the rule at which an occurrence still begins stays
  ruled-after : HasRuled clocks event (Some b) (given (left (Some b) s.listed))
  ruled-after o m local j =
      let there : IsIn o (given (series_left s)) = subst (IsIn o) same-given m in
      let old : HasRuled clocks event (Some a) (given (series_left s)) = subst (λ q. HasRuled clocks event q (given (series_left s))) is s.ruled in
      let x = moment-in (starts_left a) o.start (old o there local j) in
      let stays : kept x.0 ≡ true = ap keep x.2 ∙ given-passes o there in
      let in-old : IsIn x.0 (filter kept (by-rule from)) = in-filter kept x.0 (by-rule from) stays (subst (IsIn x.0) (ruled-is from) x.1) in
      let in-new = (filter-in kept x.0 (by-rule to) (subst (IsIn x.0) ruled-kept in-old)).0 in
      in-moment x.0 o.start (starts_left b) x.2 (subst (IsIn x.0) (sym rule-after) in-new)

-- What is known of a series once locals of its rule were passed over.
pub record IsSkipped (s : Series) (rule : Option RuleStarts) : Type 0 where
  pub known : AreStartsIn s.zones (left rule s.listed)
  pub ruled : HasRuled (clocks_in s.zones) s.event.now rule (series_of s (left rule s.listed))
  pub coming : series_of s (left rule s.listed) ≡ series_of s (series_left s)
  pub fewer : length (left rule s.listed) ≤ length (series_left s)
  pub same : HasSameRule s.rule_starts rule
  pub steps : rule_steps rule ≤ rule_steps s.rule_starts

-- no more of a rule is left to be read
steps-passed : {P : ℕ → Type 0} {a b : RuleStarts} → HasPassed P a b → rule_steps (Some b) ≤ rule_steps (Some a)
steps-passed {a = a} {b = b} k =
    let end = ap midnight_number k.source.end in
    let days : day_index b.end - day_index b.day ≡ day_index a.end - day_index a.day =
    (λ i. day_index (k.source.end i) - day_index (k.day i)) in
    omega (arith, end, days, k.on)

pub passed : (s : Series) {P : RuleStarts → ℕ → Type 0} {keep : ℤ → Bool} → IsTest s P keep → (rule : Option RuleStarts) → ArePassed P s.rule_starts rule
    → IsSkipped s rule
passed s {P = P} test rule h = by s.rule_starts refl rule h
  where
    by : (o : Option RuleStarts) → s.rule_starts ≡ o → (rule : Option RuleStarts) → ArePassed P o rule → IsSkipped s rule
    by None is None k = record {
      known = subst (λ o. AreStartsIn s.zones (left o s.listed)) is s.known;
      ruled = tt;
      coming = ap (λ o. series_of s (left o s.listed)) (sym is);
      fewer = subst (λ o. length (left o s.listed) ≤ length (series_left s)) is (omega arith);
      same = subst (λ o. HasSameRule o None) (sym is) tt;
      steps = subst (λ o. 0 ≤ rule_steps o) (sym is) (omega arith);
    }
    by (Some a) is (Some b) k = record {
      known = subst (AreStartsIn s.zones) (sym (after s test a b is k)) (known-all s test a b is k (place_of b.cursor));
      ruled = ruled-after s test a b is k;
      coming = same-given s test a b is k;
      fewer = omega (arith, ap length (after s test a b is k), ap length (before s test a b is k), fewer-left s test a b is k);
      same = subst (λ o. HasSameRule o (Some b)) (sym is) k.source;
      steps = subst (λ o. rule_steps (Some b) ≤ rule_steps o) (sym is) (steps-passed k);
    }
    by None is (Some b) k = absurd k
    by (Some a) is None k = absurd k
