-- Places of a list of locals, in the order of these.
use Rattle.std.proofs.Common.{◌≡◌, ◌∙◌, ℕ, zero, suc, ◌<◌, ◌≤◌, ◌+◌, ℤ, ◌+ℤ◌, ◌-ℤ◌, ◌≤ℤ◌, ◌<ℤ◌, pos, ◌⊎◌, ⊎_elim, inl, inr, true, false}
use Rattle.std.proofs.Common.{List, [], ◌∷◌, ◌++◌, length, take, drop, get_or, slice_get, Some, nat_eq, sym, ap, subst, arith, int_le, int_lt, int_cmp, is_lt}
use Rattle.std.proofs.Common.{neg_ℤ, negsuc, Bor, option_map, w64}
use Rattle.std.specs.List.Sorted.{IsPartitionedBy, IsPermutation, IsSorted, IsSortedByKeyClosure}
use Rattle.std.specs.Fn.{Called, Mut}
use Rattle.std.specs.Int.{saturate_signed}
use Rattle.std.specs.Ordering.{int_eq, on, ord_max}
use Rattle.std.proofs.lemmas.Bool.{eqb-true, eq-eqb, or_cases, or_left, or_right}
use Rattle.std.proofs.lemmas.Cmp.{int_cmp_total}
use Rattle.std.proofs.lemmas.Fn.{always_returns_same}
use Rattle.std.proofs.lemmas.Int.{ints}
use Rattle.std.proofs.lemmas.List.{get_or_default, length-map, take_all}
use Rattle.std.proofs.lemmas.List.Elements.{Contains-get_or}
use Rattle.std.proofs.lemmas.List.Folds.{list_any-append, list_any_more}
use Rattle.std.proofs.lemmas.List.Sorted.{list_any-IsPermutation, ranks_by, sorted_far, IsPermutation-sym}
use Rattle.std.proofs.lemmas.Option.{slice_get-map, slice_get_within}
use Rattle.ics_fields.specs.Locals.{whole_days}
use Rattle.ics_zone.proofs.Cases.{below_or_at, int_le_true, int_lt_true, less_or_not_z, true_int_lt}
use Rattle.ics_listing.specs.Listing.{IsIn}
use Rattle.ics_listing.proofs.Cases.{equal-true, some-same}
use Rattle.ics_listing.proofs.ListingLemmas.{any-in, contains-in, in-append, in-append_left, in-append_right, in-contains, in-permutation}
use Rattle.ics_event.specs.Event.{stamp_seconds, IsSpan, IsTime, Length, Rdate, Time}
use Rattle.ics_values.specs.declared.time.Length.TheVariants.{Lasting, Open, Until}
use Rattle.ics_starts.proofs.InstantLemmas.{written}
use Rattle.ics_event.specs.declared.event.Event.{Event}
use Rattle.ics_values.specs.declared.time.Rdate.TheVariants.{At, Span}
use Rattle.ics_listing.specs.StartTimes.{time_of}
use Rattle.ics_starts.specs.Found.{span_local}
use Rattle.ics_starts.specs.Starts.{given_by}
use Rattle.ics_starts.specs.declared.by_local.PlacedLocal.{PlacedLocal}
use Rattle.ics_starts.specs.declared.by_local.Places.TheVariants.{Near}
use Rattle.ics_starts.specs.Inner.ByLocal.{has_place, local_in, nowhere, place_at, rdate_locals, AreByLocal, AreLastingBy, AreNearIn, AreNextIn, AreSpansNear}
use Rattle.ics_starts.specs.Inner.ByLocal.{AreKnownBy, AreUp, IsAmongPlaces, IsLastingBy, IsSpanNear, IsWrittenLocal}
use Rattle.ics_starts.specs.Exclusions.{is_among}

-- Members of a list of places.
pub among-in : (xs : List PlacedLocal) (p : PlacedLocal) → IsIn p xs → IsAmongPlaces (length xs) (place_at xs) p.place
among-in xs p m =
    let at = contains-in p xs m in
    record { k = at.0; within = at.1; is = ap (λ (q : PlacedLocal). q.place) (get_or_default xs at.0 nowhere p at.1 ∙ at.2) }

pub at-in : (xs : List PlacedLocal) (k : ℕ) → k < length xs → IsIn (get_or xs k nowhere) xs
at-in xs k l = in-contains (get_or xs k nowhere) xs (Contains-get_or xs k nowhere l)

pub in-drop : (i : ℕ) (xs : List PlacedLocal) (p : PlacedLocal) → IsIn p (drop i xs) → IsIn p xs
in-drop zero xs p m = m
in-drop (suc i) [] p m = m
in-drop (suc i) (x ∷ xs) p m = inr (in-drop i xs p m)

pub in-take : (n : ℕ) (xs : List PlacedLocal) (p : PlacedLocal) → IsIn p (take n xs) → IsIn p xs
in-take zero xs p m = absurd m
in-take (suc n) [] p m = m
in-take (suc n) (x ∷ xs) p m = ⊎_elim inl (λ k. inr (in-take n xs p k)) m

-- one is not among the first, if the locals of these are before its own
pub kept-drop : (i : ℕ) (xs : List PlacedLocal) (p : PlacedLocal) → ((k : ℕ) (d : PlacedLocal) → k < i → (get_or xs k d).local <ℤ p.local) → IsIn p xs →
    IsIn p (drop i xs)
kept-drop zero xs p low m = m
kept-drop (suc i) [] p low m = m
kept-drop (suc i) (x ∷ xs) p low m = ⊎_elim
    (λ e. let first = low 0 p (omega arith) in let same = ap (λ (q : PlacedLocal). q.local) e in absurd (omega (arith, ints, first, same)))
    (kept-drop i xs p (λ k d l. low (suc k) d (omega (arith, l)))) m

-- one is among the first, if the locals of all others are past its own
pub kept-take : (n : ℕ) (xs : List PlacedLocal) (p : PlacedLocal)
    → ((k : ℕ) (d : PlacedLocal) → n ≤ k → k < length xs → p.local <ℤ (get_or xs k d).local) → IsIn p xs → IsIn p (take n xs)
kept-take zero xs p high m =
    let at = contains-in p xs m in
    let past = high at.0 p (omega arith) at.1 in
    let same = ap (λ (q : PlacedLocal). q.local) at.2 in
    absurd (omega (arith, ints, past, same))
kept-take (suc n) [] p high m = m
kept-take (suc n) (x ∷ xs) p high m =
    ⊎_elim inl (λ k. inr (kept-take n xs p (λ j d l h. high (suc j) d (omega (arith, l)) (omega (arith, h))) k)) m

-- Locals in order.
abbrev pub AreRising : List PlacedLocal → Type 0
AreRising xs = (j k : ℕ) (d : PlacedLocal) → j ≤ k → k < length xs → (get_or xs j d).local ≤ℤ (get_or xs k d).local

not-less : (s t : ℤ) → is_lt (int_cmp t s) ≡ false → s ≤ℤ t
not-less s t e = grind (arith, ints)

pub rising-of : (xs : List PlacedLocal) → IsSorted (on (λ p. p.local) int_cmp) xs → AreRising xs
rising-of xs up j k d l h =
    not-less _ _ (sorted_far (λ x y. is_lt (on (λ (p : PlacedLocal). p.local) int_cmp x y)) (ranks_by int_cmp_total (λ p. p.local)) xs up j k d l h)

-- what a sort by the locals leaves
pub sorted-by : {F : Type 0} {g : Mut F (Bor PlacedLocal × Unit {0}) ℤ} {f : F} (xs : List PlacedLocal) → IsSortedByKeyClosure g int_cmp f xs
    → ((a : Bor PlacedLocal × Unit {0}) (r : ℤ) (f' : F) → Called g f a r f' → (r ≡ a.0.now.local) × (f' ≡ f)) → IsSorted (on (λ p. p.local) int_cmp) xs
sorted-by {g = g} {f = f} xs up h = up (λ p. p.local) (always_returns_same g (λ a r. r ≡ a.0.now.local) f h)

pub rising-drop : (i : ℕ) (xs : List PlacedLocal) → AreRising xs → AreRising (drop i xs)
rising-drop zero xs up = up
rising-drop (suc i) [] up = up
rising-drop (suc i) (x ∷ xs) up = rising-drop i xs (λ j k d l h. up (suc j) (suc k) d (omega (arith, l)) (omega (arith, h)))

pub parted : (xs : List PlacedLocal) (t : ℤ) → AreRising xs → IsPartitionedBy (λ p. int_lt p.local t) xs
parted xs t up i j d l h e =
    let later = up i j d l h in let before = int_lt_true _ t e in true_int_lt _ t (omega (arith, ints, later, before))

pub not-before : (a b : ℤ) → int_lt a b ≡ false → b ≤ℤ a
not-before a b e = grind (arith, ints)

-- an end is four days past the local of one that is two days past an instant
pub record IsEndAfter (from end : ℤ) (xs : List PlacedLocal) : Type 0 where
  pub first : PlacedLocal
  pub member : IsIn first xs
  pub past : (from +ℤ whole_days 2) ≤ℤ first.local
  pub is : end ≡ first.local +ℤ whole_days 4

module _ {locals : List ℤ} {xs : List PlacedLocal} (by : AreByLocal locals xs) where
  -- a local of the list stands at its place
  pub placed-in : (place : ℕ) (local : ℤ) → slice_get locals place ≡ Some local →
      (p : PlacedLocal) × IsIn p xs × (p.place ≡ place) × (p.local ≡ local)
  placed-in place local at =
      let one = any-in (λ p. nat_eq p.place place) xs (by.all place (slice_get_within locals place local at)) in
      let same : one.0.place ≡ place = eqb-true one.0.place place one.2 in
      (one.0, one.1, same, some-same one.0.local local (sym (by.are one.0 one.1) ∙ (ap (slice_get locals) same ∙ at)))

  -- those of them that hold all whose locals are from one on and before another
  pub near-of : (from to : ℤ) (ys : List PlacedLocal) → ((p : PlacedLocal) → IsIn p ys → IsIn p xs)
      → ((p : PlacedLocal) → IsIn p xs → from ≤ℤ p.local → p.local <ℤ to → IsIn p ys) → AreNearIn locals from to ys
  near-of from to ys held found = record {
    within = λ k l. let p = get_or ys k nowhere in slice_get_within locals p.place p.local (by.are p (held p (at-in ys k l)));
    all = λ place local at low high.
        let one = placed-in place local at in
        let here = found one.0 one.1 (subst (λ t. from ≤ℤ t) (sym one.3) low) (subst (λ t. t <ℤ to) (sym one.3) high) in
        subst (IsAmongPlaces (length ys) (place_at ys)) one.2 (among-in ys one.0 here);
  }

  -- those up to four days past the first that is two days past an instant
  module _ (from : ℤ) {end : ℤ} (ys : List PlacedLocal) (near : AreNearIn locals (from -ℤ whole_days 2) end ys) where
    pub next-none : ((p : PlacedLocal) → IsIn p xs → p.local <ℤ end) → AreNextIn locals from ys
    next-none early = record {
      within = near.within;
      all = λ place local at low. let one = placed-in place local at in
          inl (near.all place local at low (subst (λ t. t <ℤ end) one.3 (early one.0 one.1)));
    }

    pub next-some : IsEndAfter from end xs → AreNextIn locals from ys
    next-some after = record {
      within = near.within;
      all = λ place local at low. ⊎_elim
          (λ before. inl (near.all place local at low before))
          (λ late.
          let p = after.first in
          let past = after.past in
          let is = after.is in
          let here = near.all p.place p.local (by.are p after.member) (omega (arith, ints, past)) (omega (arith, ints, is)) in
          inr (record {
            k = here.k;
            sooner = p.local;
            within = here.within;
            is = ap (slice_get locals) here.is ∙ by.are p after.member;
            past = past;
            before = omega (arith, ints, is, late);
          }))
          (less_or_not_z local end);
    }

-- Places that were listed so far.
pub record ArePlaced (n : ℕ) (locals : List ℤ) (xs : List PlacedLocal) : Type 0 where
  pub are : (p : PlacedLocal) → IsIn p xs → slice_get locals p.place ≡ Some p.local
  pub all : (k : ℕ) → k < n → has_place xs k ≡ true
  pub written : (p : PlacedLocal) → IsIn p xs → IsWrittenLocal p.local

in-pushed : (p q : PlacedLocal) (xs : List PlacedLocal) → IsIn p (xs ++ (q ∷ [])) → IsIn p xs ⊎ (p ≡ q)
in-pushed p q xs m = ⊎_elim inl (λ n. ⊎_elim inr (λ none. absurd none) n) (in-append p xs (q ∷ []) m)

pub placed-more : {locals : List ℤ} {n : ℕ} {local : ℤ} {xs ys : List PlacedLocal} {q : PlacedLocal} → ys ≡ xs ++ (q ∷ []) → q.place ≡ n → q.local ≡ local
    → slice_get locals n ≡ Some local → IsWrittenLocal local → ArePlaced n locals xs → ArePlaced (n + 1) locals ys
placed-more {locals = locals} {n = n} {local = local} {xs = xs} {q = q} is place same at written placed =
    subst (ArePlaced (n + 1) locals) (sym is) (record {
      are = λ p m. ⊎_elim (placed.are p)
          (λ e. subst (λ (r : PlacedLocal). slice_get locals r.place ≡ Some r.local) (sym e) (ap (slice_get locals) place ∙ (at ∙ ap Some (sym same))))
          (in-pushed p q xs m);
      all = λ k l. list_any-append (λ p. nat_eq p.place k) xs (q ∷ [])
          ∙ ⊎_elim (λ before. or_left (has_place xs k) _ (placed.all k before))
          (λ e. or_right (has_place xs k) _ (or_left (nat_eq q.place k) false (eq-eqb q.place k (place ∙ sym e)))) (below_or_at k n (omega (arith, l)));
      written = λ p m. ⊎_elim (placed.written p) (λ e. subst (λ (r : PlacedLocal). IsWrittenLocal r.local) (sym e) (subst IsWrittenLocal (sym same) written))
          (in-pushed p q xs m);
    })

pub placed-sorted : {locals : List ℤ} {n : ℕ} (xs ys : List PlacedLocal) → length locals ≤ n → IsPermutation xs ys
    → IsSorted (on (λ p. p.local) int_cmp) ys → ArePlaced n locals xs → AreByLocal locals ys
placed-sorted {locals = locals} {n = n} xs ys over moved up placed = record {
  rise = up;
  are = λ p m. placed.are p (in-permutation p ys xs (IsPermutation-sym xs ys moved) m);
  all = λ k l. sym (list_any-IsPermutation (λ p. nat_eq p.place k) xs ys moved) ∙ placed.all k (omega (arith, l, over));
  written = λ p m. placed.written p (in-permutation p ys xs (IsPermutation-sym xs ys moved) m);
}

-- A number of few digits fits.
pub saturated : (z : ℤ) → neg_ℤ (pos 1_000_000_000_000) ≤ℤ z → z ≤ℤ pos 2_000_000_000_000 → saturate_signed w64 z ≡ z
saturated (pos n) low high = ap pos (omega (arith, ints, high))
saturated (negsuc n) low high = ap negsuc (omega (arith, ints, low))

-- the same between the same two
pub near-at : {locals : List ℤ} {from to first end : ℤ} (xs : List PlacedLocal) → from ≡ first → to ≡ end → AreNearIn locals from to xs →
    AreNearIn locals first end xs
near-at {locals = locals} {from = from} {end = end} xs low high near =
    subst (λ t. AreNearIn locals t end xs) low (subst (λ t. AreNearIn locals from t xs) high near)

-- A place among some is among those that hold them.
among-kept : (xs ys : List PlacedLocal) → ((p : PlacedLocal) → IsIn p xs → IsIn p ys) → (place : ℕ) → IsAmongPlaces (length xs) (place_at xs) place
    → IsAmongPlaces (length ys) (place_at ys) place
among-kept xs ys held place one =
    subst (IsAmongPlaces (length ys) (place_at ys)) one.is (among-in ys (get_or xs one.k nowhere) (held _ (at-in xs one.k one.within)))

in-within : {n : ℕ} (xs : List PlacedLocal) → ((k : ℕ) → k < length xs → place_at xs k < n) → (p : PlacedLocal) → IsIn p xs → p.place < n
in-within {n = n} xs within p m =
    let at = contains-in p xs m in
    subst (λ (q : PlacedLocal). q.place < n) (get_or_default xs at.0 nowhere p at.1 ∙ at.2) (within at.0 at.1)

not-past : (z local : ℤ) → z ≤ℤ local → IsWrittenLocal local → saturate_signed w64 z ≤ℤ local
not-past (pos n) local low written = omega (arith, ints, low)
not-past (negsuc n) local low written = omega (arith, ints, low, written.0)

still-past : (z local : ℤ) → local <ℤ z → IsWrittenLocal local → local <ℤ saturate_signed w64 z
still-past (pos n) local high written = omega (arith, ints, high, written.1)
still-past (negsuc n) local high written = omega (arith, ints, high)

-- Ends that fit a number lose no local.
pub near-about : {locals : List ℤ} {from to : ℤ} {xs : List PlacedLocal} (ys : List PlacedLocal) → AreByLocal locals xs
    → AreNearIn locals (saturate_signed w64 from) (saturate_signed w64 to) ys → AreNearIn locals from to ys
near-about {from = from} {to = to} ys by near = record {
  within = near.within;
  all = λ place local at low high.
      let one = placed-in by place local at in
      let written : IsWrittenLocal local = subst IsWrittenLocal one.3 (by.written one.0 one.1) in
      near.all place local at (not-past from local low written) (still-past to local high written);
}

-- Places of a list of locals: those whose locals are less than four days from one of the first instants of some are among them.
pub record AreFound (locals : List ℤ) (n : ℕ) (running : List ℤ) (xs : List PlacedLocal) : Type 0 where
  pub within : (p : PlacedLocal) → IsIn p xs → p.place < length locals
  pub all : (t : ℤ) → is_among (take n running) t ≡ true → (place : ℕ) (local : ℤ) → slice_get locals place ≡ Some local
      → (t -ℤ whole_days 4) ≤ℤ local → local <ℤ (t +ℤ whole_days 4) → IsAmongPlaces (length xs) (place_at xs) place

pub found-none : (locals running : List ℤ) → AreFound locals 0 running []
found-none locals running = record { within = λ p m. absurd m; all = λ t e. let f : false ≡ true = e in absurd cc }

module _ {locals running : List ℤ} {n : ℕ} {from to : ℤ} (xs ys : List PlacedLocal) (found : AreFound locals n running xs)
    (near : AreNearIn locals from to ys) where
  held-within : (p : PlacedLocal) → IsIn p (xs ++ ys) → p.place < length locals
  held-within p m = ⊎_elim (found.within p) (in-within ys near.within p) (in-append p xs ys m)

  pub found-more : (d : ℤ) → n < length running → from ≡ get_or running n d -ℤ whole_days 4 → to ≡ get_or running n d +ℤ whole_days 4
      → AreFound locals (n + 1) running (xs ++ ys)
  found-more d l low high = record {
    within = held-within;
    all = λ t e place local at after before. ⊎_elim
        (λ old. among-kept xs (xs ++ ys) (λ p. in-append_left p xs ys) place (found.all t old place local at after before))
        (λ new.
        let same = equal-true _ t new in
        among-kept ys (xs ++ ys) (λ p. in-append_right p xs ys) place
        (near.all place local at (omega (arith, ints, same, low, after)) (omega (arith, ints, same, high, before))))
        (or_cases (is_among (take n running) t) _ (sym (list_any_more (λ y. int_eq y t) running n d l) ∙ e));
  }

  -- with those near an instant and an end, and between, in the order of their places
  pub found-known : {first end : ℤ} (zs : List PlacedLocal) → length running ≤ n → from ≡ first -ℤ whole_days 4 → to ≡ end +ℤ whole_days 4
      → IsPermutation (xs ++ ys) zs → AreUp (length zs) (place_at zs) → AreKnownBy locals first running end (length zs) (place_at zs)
  found-known {first = first} zs over low high moved up = record {
    within = λ k l. held-within (get_or zs k nowhere) (in-permutation _ zs (xs ++ ys) (IsPermutation-sym (xs ++ ys) zs moved) (at-in zs k l));
    up = up;
    all = λ t known early place local at after before. among-kept (xs ++ ys) zs (λ p. in-permutation p (xs ++ ys) zs moved) place (⊎_elim
        (λ late.
        let since = int_le_true first t late in
        among-kept ys (xs ++ ys) (λ p. in-append_right p xs ys) place
        (near.all place local at (omega (arith, ints, low, since, after)) (omega (arith, ints, high, early, before))))
        (λ one. among-kept xs (xs ++ ys) (λ p. in-append_left p xs ys) place
        (found.all t (ap (λ ts. is_among ts t) (take_all n running over) ∙ one) place local at after before))
        (or_cases (int_le first t) (is_among running t) known));
  }

-- PERIODs, by the most that one lasts.
pub lasting-more : (a b : ℤ) (given : Rdate) → a ≤ℤ b → IsLastingBy a given → IsLastingBy b given
lasting-more a b (At time) l h = tt
lasting-more a b (Span start length) l h = omega (arith, ints, l, h)

-- those of so many of the event's values do not last longer
abbrev pub AreLastingSoFar : Event → ℕ → ℤ → Type 0
AreLastingSoFar event n most = (k : ℕ) (rdate : Rdate) → k < n → slice_get event.rdates k ≡ Some rdate → IsLastingBy most (given_by event.start rdate)

pub lasting-next : (event : Event) {old new : ℤ} {n : ℕ} (x : Rdate) → slice_get event.rdates n ≡ Some x → old ≤ℤ new → IsLastingBy new (given_by event.start x)
    → AreLastingSoFar event n old → AreLastingSoFar event (n + 1) new
lasting-next event {old = old} {new = new} {n = n} x at more lasts each = λ k rdate l stands. ⊎_elim
    (λ before. lasting-more old new (given_by event.start rdate) more (each k rdate before stands))
    (λ e. subst (λ r. IsLastingBy new (given_by event.start r)) (some-same x rdate (sym at ∙ (ap (slice_get event.rdates) (sym e) ∙ stands))) lasts)
    (below_or_at k n (omega (arith, l)))

pub span-short : (start : Time) (lasts : Length) → IsTime start → IsSpan lasts →
    (span_local start lasts ≤ℤ (stamp_seconds start.stamp +ℤ pos 1_000_000_000_000))
    × ((stamp_seconds start.stamp -ℤ pos 1_000_000_000_000) ≤ℤ span_local start lasts)
span-short start Open h l = absurd l
span-short start (Until end) h l =
    let from = written start.stamp h.years in
    let to = written end.stamp l.years in
    (omega (arith, ints, from.0, to.1), omega (arith, ints, from.1, to.0))
span-short start (Lasting duration) h l = (omega (arith, ints, l.short), omega (arith, ints))

pub greater : (a b m : ℤ) → m ≡ ord_max int_cmp a b → (a ≤ℤ m) × (b ≤ℤ m) × ((m ≡ a) ⊎ (m ≡ b))
greater a b m e = (grind (arith, ints, e), grind (arith, ints, e), grind (arith, ints, e))

span-from : (by to most : ℤ) (given : Rdate) → (pos 0 ≤ℤ most) × IsLastingBy most given → IsSpanNear by to given →
    ((by -ℤ most) ≤ℤ local_in (time_of given)) × (local_in (time_of given) <ℤ to)
span-from by to most (At time) lasts is = absurd is
span-from by to most (Span start length) lasts is =
    (⊎_elim (λ b. omega (arith, ints, lasts.0, b)) (λ b. omega (arith, ints, lasts.1, b)) is.0, is.1)

pub spans-near : {by to most : ℤ} (event : Event) (near : Bor (List PlacedLocal)) → AreLastingBy event most →
    AreNearIn (rdate_locals event) (by -ℤ most) to near.now → AreSpansNear event by to (Near near)
spans-near {by = by} {to = to} {most = most} event near lasting are =
    let start : Rdate → ℤ = λ rdate. local_in (time_of (given_by event.start rdate)) in
    record {
      within = λ k l. subst (λ n. place_at near.now k < n) (length-map event.rdates start) (are.within k l);
      all = λ place rdate at is.
          let given = given_by event.start rdate in
          let range = span-from by to most given (lasting.least, lasting.each place rdate at) is in
          are.all place (start rdate) (slice_get-map start event.rdates place ∙ ap (option_map start) at) range.0 range.1;
    }
