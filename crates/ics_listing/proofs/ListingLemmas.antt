-- There is one listing at most.
use Rattle.std.proofs.Common.{◌≡◌, ℕ, ◌+◌, ◌<◌, ◌≤◌, List, [], ◌∷◌, ◌++◌, Some, None, drop, get_or, take, ◌⊎◌, inl, inr, ⊎_elim, false, refl, sym, ◌∙◌, ap}
use Rattle.std.proofs.Common.{arith, slice_get, sum_by, zero, suc, is_gt, nat_cmp, Ordering, Less, Equal, Greater, map, Option, Bool, true, filter, length}
use Rattle.std.proofs.Common.{set, subst, ◌↔◌, is_eq, is_lt, Bor, Result, Ok, Err, is_ok}
use Rattle.std.specs.Cmp.{IsTotalOrder}
use Rattle.std.specs.List.{AllByRecursion, cons_option, filter_map, list_any, swap, Contains, IsDistinct}
use Rattle.std.specs.List.Sorted.{IsStrictlySortedBy, apply_swaps, IsPermutation, IsSortedByClosure, SwapsInRange}
use Rattle.std.specs.Ordering.{ordering_reverse, MatchOrdering, eq_by_cmp, on}
use Rattle.std.proofs.lemmas.Cmp.{alike_right, ranked, tied_back, tied_itself, eq_by_cmp_equiv}
use Rattle.std.proofs.lemmas.List.Sums.{sum_by-cons}
use Rattle.std.proofs.lemmas.Map.Keys.{Less-from_sorted, IsDistinct-from_sorted, IsDistinct-head, IsDistinct-IsPermutation, IsDistinct-tail}
use Rattle.std.proofs.lemmas.Option.{get_or_from_slice_get, slice_get_within}
use Rattle.ics_listing.specs.Inner.MergedLaws.{rises-filter}
use Rattle.ics_listing.specs.Rising.{IsBefore, Rises}
use Rattle.ics_listing.specs.Listing.{IsIn, IsListing}
use Rattle.ics_listing.proofs.Cases.{some-same, eq-Equal, less-by, by-cases, option-cases}
use Rattle.std.proofs.lemmas.Bool.{cond_both, false_from_ne_true, cases_lt}
use Rattle.ics_listing.proofs.BeginsLemmas.{before-all}
use Rattle.std.specs.Prelude.{⊤}
use Rattle.std.specs.Fn.{Called}
use Rattle.std.proofs.lemmas.List.Elements.{recursion_from_All}
use Rattle.std.proofs.lemmas.List.Folds.{Any-from_list_any, list_any-from_Any, list_any_at, list_any_none}
use Rattle.std.proofs.lemmas.List.Sorted.{Contains-permutation, IsPermutation-sym, answers_always, ranks_by, sorted_far, searchable_from_sorted}
use Rattle.std.proofs.Math.ListN.{get_or-map}
use Rattle.std.proofs.lemmas.List.{length-map, map-set}
use denote.Param.Members.{Mut}
use Rattle.std.specs.List.Sorted.{IsBinarySearchResult, IsSearchInRange, IsSorted}

-- a list without one of its members
record Rest {A : Type 0} (f : A → ℕ) (x : A) (xs : List A) : Type 0 where
  rest : List A
  sum : sum_by f xs ≡ f x + sum_by f rest
  others : (y : A) → IsIn y xs → (y ≡ x) ⊎ IsIn y rest

without : {A : Type 0} (f : A → ℕ) (x : A) (xs : List A) → IsIn x xs → Rest f x xs
without f x [] m = absurd m
without f x (y ∷ ys) (inl e) = record {
  rest = ys;
  sum = sum_by-cons f y ys ∙ ap (λ z. f z + sum_by f ys) (sym e);
  others = λ z m. ⊎_elim (λ s. inl (s ∙ sym e)) inr m;
}
without f x (y ∷ ys) (inr m) =
    let w = without f x ys m in
    record {
      rest = y ∷ w.rest;
      sum = omega (arith, sum_by-cons f y ys, sum_by-cons f y w.rest, w.sum);
      others = λ z n. ⊎_elim (λ s. inr (inl s)) (λ k. ⊎_elim inl (λ i. inr (inr i)) (w.others z k)) n;
    }

-- Members of two lists joined.
module _ {A : Type 0} where
  pub in-append_left : (x : A) (xs ys : List A) → IsIn x xs → IsIn x (xs ++ ys)
  in-append_left x [] ys m = absurd m
  in-append_left x (z ∷ zs) ys m = ⊎_elim inl (λ n. inr (in-append_left x zs ys n)) m

  pub in-append_right : (x : A) (xs ys : List A) → IsIn x ys → IsIn x (xs ++ ys)
  in-append_right x [] ys m = m
  in-append_right x (z ∷ zs) ys m = inr (in-append_right x zs ys m)

  pub in-append : (x : A) (xs ys : List A) → IsIn x (xs ++ ys) → IsIn x xs ⊎ IsIn x ys
  in-append x [] ys m = inr m
  in-append x (z ∷ zs) ys m = ⊎_elim (λ e. inl (inl e)) (λ n. ⊎_elim (λ a. inl (inr a)) inr (in-append x zs ys n)) m

-- a list at one of its places
pub split-at : {A : Type 0} (xs : List A) (i : ℕ) {x : A} → slice_get xs i ≡ Some x → xs ≡ take i xs ++ x ∷ drop (suc i) xs
split-at [] i {x = x} e = let f : None ≡ Some x = e in absurd cc
split-at (y ∷ ys) zero {x = x} e = ap (λ z. z ∷ ys) (some-same y x e)
split-at (y ∷ ys) (suc i) e = ap (λ zs. y ∷ zs) (split-at ys i e)

-- a listing of what P holds of is one of what Q holds of, if these are the same
pub relisted : {A : Type 0} {R : A → A → Ordering} {P Q : A → Type 0} {xs : List A} → IsListing R P xs → ((x : A) → P x → Q x) → ((x : A) → Q x → P x) →
    IsListing R Q xs
relisted l f g = record { rises = l.rises; exact = λ x. (λ m. f x ((l.exact x).0 m), λ q. (l.exact x).1 (g x q)) }

-- what comes before a list comes before each of it
pub before-each : {A : Type 0} (R : A → A → Ordering) (x y : A) (ys : List A) → IsBefore R x ys → IsIn y ys → R x y ≡ Less
before-each R x y [] h m = absurd m
before-each R x y (z ∷ zs) h m = ⊎_elim (λ e. ap (R x) e ∙ h.0) (λ k. before-each R x y zs h.1 k) m

module _ {A : Type 0} (R : A → A → Ordering) (o : IsTotalOrder R) where
  pub before-in : (x y : A) (ys : List A) → IsBefore R x ys → IsIn y ys → R x y ≡ Less
  before-in = before-each R

  pub not-less-itself : (x : A) → R x x ≡ Less → ⊥
  not-less-itself x h = let t = tied_itself o x in cc

  -- the end of a rising list rises, and what stands before it comes before it
  pub rises-end : (front back : List A) → Rises R (front ++ back) → Rises R back
  rises-end [] back r = r
  rises-end (x ∷ xs) back r = rises-end xs back r.1

  pub front-before : (front behind : List A) {x y : A} → Rises R (front ++ y ∷ behind) → IsIn x front → R x y ≡ Less
  front-before [] behind r m = absurd m
  front-before (z ∷ zs) behind {y = y} r m =
      ⊎_elim (λ e. ap (λ v. R v y) e ∙ before-in z y (zs ++ y ∷ behind) r.0 (in-append_right y zs (y ∷ behind) (inl refl)))
      (λ k. front-before zs behind r.1 k) m

  -- of a rising list two that tie are one
  pub one-of-tied : {x y : A} (xs : List A) → R x y ≡ Equal → Rises R xs → IsIn x xs → IsIn y xs → x ≡ y
  one-of-tied [] t r m n = absurd m
  one-of-tied (z ∷ zs) t r (inl a) (inl b) = a ∙ sym b
  one-of-tied (z ∷ zs) t r (inr a) (inr b) = one-of-tied zs t r.1 a b
  one-of-tied {y = y} (z ∷ zs) t r (inl a) (inr b) = let less = ap (λ v. R v y) a ∙ before-in z y zs r.0 b in absurd cc
  one-of-tied {x = x} {y = y} (z ∷ zs) t r (inr a) (inl b) =
      let less = ap (λ v. R v x) b ∙ before-in z x zs r.0 a in let back = tied_back o x y t in absurd cc

  pub not-both-less : (x y : A) → R x y ≡ Less → R y x ≡ Less → ⊥
  not-both-less x y h k = let t = o.antisymm x y ∙ ap ordering_reverse k in cc

  -- what comes before y comes before what y is not after
  pub less-up-to : (x y z : A) → R x y ≡ Less → is_gt (R y z) ≡ false → R x z ≡ Less
  less-up-to x y z l g = by-cases (R y z) (o.trans x y z l) (λ e. sym (alike_right o y z x e) ∙ l) (λ e. let f = rw e at g in cc)

  -- as std says it
  pub strictly-sorted : (xs : List A) → Rises R xs → IsStrictlySortedBy R xs
  unfolding IsStrictlySortedBy
  strictly-sorted [] h = tt
  strictly-sorted (x ∷ xs) h = (each xs h.0, strictly-sorted xs h.1)
    where
      each : (ys : List A) → IsBefore R x ys → AllByRecursion (λ y. R x y ≡ Less) ys
      each [] h = tt
      each (y ∷ ys) h = (h.0, each ys h.1)

  pub rises-sorted : (xs : List A) → Rises R xs → IsSorted R xs
  rises-sorted xs h = λ k d a b.
      let less = Less-from_sorted R xs k (k + 1) d (strictly-sorted xs h) (omega arith) b in
      ap is_lt (o.antisymm (get_or xs (k + 1) d) (get_or xs k d) ∙ ap ordering_reverse less)

  -- of two places in a rising list
  pub rises-by_place : (xs : List A) (i j : ℕ) {x y : A} → Rises R xs → slice_get xs i ≡ Some x → slice_get xs j ≡ Some y → R x y ≡ nat_cmp i j
  rises-by_place xs i j {x = x} {y = y} r p q =
      sym (λ t. R (get_or_from_slice_get xs i x x p t) (get_or_from_slice_get xs j y x q t)) ∙ by (nat_cmp i j) (ranked i j (nat_cmp i j) refl)
    where
      by : (c : Ordering) → MatchOrdering c (i < j) (i ≡ j) (j < i) → R (get_or xs i x) (get_or xs j x) ≡ c
      by Less m = Less-from_sorted R xs i j x (strictly-sorted xs r) m (slice_get_within xs j y q)
      by Equal m = ap (λ n. R (get_or xs i x) (get_or xs n x)) (sym m) ∙ tied_itself o (get_or xs i x)
      by Greater m =
          o.antisymm (get_or xs i x) (get_or xs j x) ∙ ap ordering_reverse (Less-from_sorted R xs j i x (strictly-sorted xs r) m (slice_get_within xs i x p))

  -- the first of two rising lists with the same members is the same
  same-first : {x y : A} (xs ys : List A) → IsBefore R x xs → IsBefore R y ys → IsIn x (y ∷ ys) → IsIn y (x ∷ xs) → x ≡ y
  same-first {x = x} {y = y} xs ys h k m n =
      ⊎_elim (λ e. e) (λ a. ⊎_elim (λ e. sym e) (λ b. absurd (not-both-less x y (before-in x y xs h b) (before-in y x ys k a))) n) m

  -- what stands behind the first is not the first
  tail-in : {x y : A} (e : A) (ys : List A) → x ≡ y → R x e ≡ Less → IsIn e (y ∷ ys) → IsIn e ys
  tail-in {x = x} e ys s l n = ⊎_elim (λ p. absurd (not-less-itself x (ap (R x) (s ∙ sym p) ∙ l))) (λ k. k) n

  pub one-rising : (xs ys : List A) → Rises R xs → Rises R ys → ((e : A) → IsIn e xs → IsIn e ys) → ((e : A) → IsIn e ys → IsIn e xs) → xs ≡ ys
  one-rising [] [] h k f g = refl
  one-rising [] (y ∷ ys) h k f g = absurd (g y (inl refl))
  one-rising (x ∷ xs) [] h k f g = absurd (f x (inl refl))
  one-rising (x ∷ xs) (y ∷ ys) h k f g =
      let same : x ≡ y = same-first xs ys h.0 k.0 (f x (inl refl)) (g y (inl refl)) in
      let rest : xs ≡ ys = one-rising xs ys h.1 k.1
      (λ e m. tail-in e ys same (before-in x e xs h.0 m) (f e (inr m)))
      (λ e m. tail-in e xs (sym same) (before-in y e ys k.0 m) (g e (inr m))) in
      cc

  -- Where each of a rising list is told by one of another list, a sum over the first is at most that over the other.
  module _ {B : Type 0} (f : A → B) (g : B → A) (size : B → ℕ) where
    pub sums-within : (xs : List A) (ys : List B) → Rises R xs → ((x : A) → IsIn x xs → IsIn (f x) ys × (x ≡ g (f x))) →
        sum_by (λ x. size (f x)) xs ≤ sum_by size ys
    sums-within [] ys r h = omega arith
    sums-within (x ∷ xs) ys r h =
        let own = h x (inl refl) in
        let w = without size (f x) ys own.0 in
        let rest = sums-within xs w.rest r.1 (λ y m.
        let k = h y (inr m) in (
          ⊎_elim (λ e. absurd (not-less-itself x (ap (R x) (own.1 ∙ (ap g (sym e) ∙ sym k.1)) ∙ before-in x y xs r.0 m))) (λ i. i) (w.others (f y) k.0),
          k.1,
        )) in
        omega (arith, sum_by-cons (λ z. size (f z)) x xs, rest, w.sum)

  -- there is one listing at most
  pub one-listing : (P : A → Type 0) (xs ys : List A) → IsListing R P xs → IsListing R P ys → xs ≡ ys
  one-listing P xs ys h k = one-rising xs ys h.rises k.rises (λ e m. (k.exact e).1 ((h.exact e).0 m)) (λ e m. (h.exact e).1 ((k.exact e).0 m))

-- A listing of those of a listing that pass a test, or of what is picked from one.
module _ {A : Type 0} (test : A → Bool) where
  pub filter-in : (x : A) (xs : List A) → IsIn x (filter test xs) → IsIn x xs × (test x ≡ true)
  filter-in x [] m = absurd m
  filter-in x (y ∷ ys) m =
      cond_both (test y) (y ∷ filter test ys) (filter test ys) (λ zs. IsIn x zs → IsIn x (y ∷ ys) × (test x ≡ true))
      (λ e m. ⊎_elim (λ s. (inl s, ap test s ∙ e)) (λ n. let k = filter-in x ys n in (inr k.0, k.1)) m)
      (λ e m. let k = filter-in x ys m in (inr k.0, k.1)) m

  pub in-filter : (x : A) (xs : List A) → test x ≡ true → IsIn x xs → IsIn x (filter test xs)
  in-filter x [] t m = absurd m
  in-filter x (y ∷ ys) t m =
      cond_both (test y) (y ∷ filter test ys) (filter test ys) (IsIn x)
      (λ e. ⊎_elim inl (λ n. inr (in-filter x ys t n)) m)
      (λ e. ⊎_elim (λ s. let f : false ≡ true = sym e ∙ (ap test (sym s) ∙ t) in absurd cc) (λ n. in-filter x ys t n) m)

  module _ (R : A → A → Ordering) where
    pub listing-filter : (P Q : A → Type 0) (xs : List A) → IsListing R P xs → ((x : A) → P x → test x ≡ true → Q x) → ((x : A) → Q x → P x × (test x ≡ true)) →
        IsListing R Q (filter test xs)
    listing-filter P Q xs l f g = record {
      rises = rises-filter R test xs l.rises;
      exact = λ x. (
        λ m. let k = filter-in x xs m in f x ((l.exact x).0 k.0) k.1,
        λ q. let k = g x q in in-filter x xs k.1 ((l.exact x).1 k.0),
      );
    }

pub filter_map-map : {A B C : Type 0} (f : A → B) (h : B → Option C) (xs : List A) → filter_map h (map f xs) ≡ filter_map (λ x. h (f x)) xs
filter_map-map f h [] = refl
filter_map-map f h (x ∷ xs) = ap (cons_option (h (f x))) (filter_map-map f h xs)

module _ {A B : Type 0} (h : A → Option B) where
  -- what is picked is picked from one of the list
  pub picked : (y : B) (xs : List A) → IsIn y (filter_map h xs) → (x : A) × IsIn x xs × (h x ≡ Some y)
  picked y [] m = absurd m
  picked y (x ∷ xs) m =
      option-cases (h x) (λ e. let n = rw e at m in let k = picked y xs n in (k.0, inr k.1, k.2))
      (λ v e. let n = rw e at m in ⊎_elim (λ s. (x, inl refl, e ∙ ap Some (sym s))) (λ l. let k = picked y xs l in (k.0, inr k.1, k.2)) n)

  in-picked : (x : A) (y : B) (xs : List A) → h x ≡ Some y → IsIn x xs → IsIn y (filter_map h xs)
  in-picked x y [] t m = absurd m
  in-picked x y (z ∷ xs) t m =
      option-cases (h z)
      (λ e. rw e (⊎_elim (λ s. let f : Some y ≡ None = sym t ∙ (ap h s ∙ e) in absurd cc) (in-picked x y xs t) m))
      (λ v e. rw e (⊎_elim (λ s. inl (some-same y v (sym t ∙ (ap h s ∙ e)))) (λ n. inr (in-picked x y xs t n)) m))

  -- S orders what is picked of those that P holds of as R orders these
  abbrev pub KeepsOrder : (A → A → Ordering) → (B → B → Ordering) → (A → Type 0) → Type 0
  KeepsOrder R S P = (x z : A) (y v : B) → P x → P z → h x ≡ Some y → h z ≡ Some v → R x z ≡ Less → S y v ≡ Less

  module _ (R : A → A → Ordering) (S : B → B → Ordering) (P : A → Type 0) (keeps : KeepsOrder R S P) where
    pub rises-picked : (xs : List A) → ((x : A) → IsIn x xs → P x) → Rises R xs → Rises S (filter_map h xs)
    rises-picked [] all r = tt
    rises-picked (x ∷ xs) all r = by (h x) refl (rises-picked xs (λ z m. all z (inr m)) r.1)
      where
        by : (option : Option B) → h x ≡ option → Rises S (filter_map h xs) → Rises S (cons_option option (filter_map h xs))
        by (Some y) e ih = (
          before-all S y (filter_map h xs) (λ v m. let k = picked v xs m in keeps x k.0 y v (all x (inl refl)) (all k.0 (inr k.1)) e k.2
              (before-each R x k.0 xs r.0 k.1)),
          ih,
        )
        by None e ih = ih

    -- of a listing of what P holds of, what is picked is the listing of what Q holds of
    pub listing-picked : (Q : B → Type 0) (xs : List A) → IsListing R P xs → ((x : A) (y : B) → P x → h x ≡ Some y → Q y) →
        ((y : B) → Q y → (x : A) × P x × (h x ≡ Some y)) → IsListing S Q (filter_map h xs)
    listing-picked Q xs l f g = record {
      rises = rises-picked xs (λ x m. (l.exact x).0 m) l.rises;
      exact = λ y. (
        λ m. let k = picked y xs m in f k.0 y ((l.exact k.0).0 k.1) k.2,
        λ q. let k = g y q in in-picked k.0 y xs k.2 ((l.exact k.0).1 k.1),
      );
    }

-- What a sort leaves: the same members, none of them after a later one.
-- x is not after any of the list
abbrev pub IsUpTo : {A : Type 0} → (A → A → Ordering) → A → List A → Type 0
IsUpTo R x ys = AllByRecursion (λ y. is_gt (R x y) ≡ false) ys

-- none is after a later one
abbrev pub Climbs : {A : Type 0} → (A → A → Ordering) → List A → Type 0
Climbs R [] = ⊤
Climbs R (x ∷ xs) = IsUpTo R x xs × Climbs R xs

-- Members.
module _ {A : Type 0} where
  pub in-contains : (x : A) (xs : List A) → Contains xs x → IsIn x xs
  in-contains x [] h = absurd (omega (arith, h.1))
  in-contains x (y ∷ ys) (zero, l, e) = inl (sym e)
  in-contains x (y ∷ ys) (suc k, l, e) = inr (in-contains x ys (k, omega arith, e))

  pub contains-in : (x : A) (xs : List A) → IsIn x xs → Contains xs x
  contains-in x [] m = absurd m
  contains-in x (y ∷ ys) m =
      ⊎_elim (λ e. (0, omega arith, sym e)) (λ n. let c = contains-in x ys n in (suc c.0, omega (arith, c.1), c.2)) m

  pub get-in : (x : A) (xs : List A) (k : ℕ) → slice_get xs k ≡ Some x → IsIn x xs
  get-in x xs k e = in-contains x xs (k, slice_get_within xs k x e, get_or_from_slice_get xs k x x e)

  -- one of a list passes a test
  pub any-in : (test : A → Bool) (xs : List A) → list_any test xs ≡ true → (x : A) × IsIn x xs × (test x ≡ true)
  any-in test xs e = let k = Any-from_list_any test xs e in (k.1, in-contains k.1 xs (k.0, k.2, k.3), k.4)

  pub in-any : (test : A → Bool) (x : A) (xs : List A) → test x ≡ true → IsIn x xs → list_any test xs ≡ true
  in-any test x xs is m = let k = contains-in x xs m in list_any-from_Any test xs (k.0, x, k.1, k.2, is)

  -- what holds of all of a list
  pub all-as : (P Q : A → Type 0) (xs : List A) → ((x : A) → P x → Q x) → AllByRecursion P xs → AllByRecursion Q xs
  all-as P Q [] f h = tt
  all-as P Q (x ∷ xs) f h = (f x h.0, all-as P Q xs f h.1)

  pub all-in : (P : A → Type 0) (xs : List A) → AllByRecursion P xs → (x : A) → IsIn x xs → P x
  all-in P [] h x m = absurd m
  all-in P (y ∷ ys) h x (inl e) = subst P (sym e) h.0
  all-in P (y ∷ ys) h x (inr n) = all-in P ys h.1 x n

  pub in-all : (P : A → Type 0) (xs : List A) → ((x : A) → IsIn x xs → P x) → AllByRecursion P xs
  in-all P [] f = tt
  in-all P (x ∷ xs) f = (f x (inl refl), in-all P xs (λ y m. f y (inr m)))

  pub in-permutation : (x : A) (xs ys : List A) → IsPermutation xs ys → IsIn x xs → IsIn x ys
  in-permutation x xs ys p m = in-contains x ys (Contains-permutation xs ys x p (contains-in x xs m))

  pub up-to-in : (R : A → A → Ordering) (x y : A) (ys : List A) → IsUpTo R x ys → IsIn y ys → is_gt (R x y) ≡ false
  up-to-in R x y ys h = all-in (λ z. is_gt (R x z) ≡ false) ys h y

-- A list in order.
module _ {A : Type 0} (R : A → A → Ordering) (o : IsTotalOrder R) where
  not-after : (x y : A) → is_lt (R y x) ≡ false → is_gt (R x y) ≡ false
  not-after x y h = turned (R y x) (R x y) (o.antisymm x y) h
    where
      turned : (c d : Ordering) → d ≡ ordering_reverse c → is_lt c ≡ false → is_gt d ≡ false
      turned Less d e h = let f : is_lt Less ≡ false = h in cc
      turned _ d e h = ap is_gt e

  climbs : (xs : List A) → ((i j : ℕ) (d : A) → i ≤ j → j < length xs → is_lt (R (get_or xs j d) (get_or xs i d)) ≡ false) → Climbs R xs
  climbs [] h = tt
  climbs (x ∷ xs) h =
      let first = recursion_from_All (λ y. is_gt (R x y) ≡ false) xs (λ j d l. not-after x (get_or xs j d) (h 0 (suc j) d (omega arith) (omega arith))) in
      (first, climbs xs (λ i j d a b. h (suc i) (suc j) d (omega arith) (omega arith)))

  -- what a sort by a function leaves
  pub climbs-by : {F : Type 0} {g : Mut F (Bor A × (Bor A × Unit {0})) Ordering} {f : F} (xs : List A) → IsSortedByClosure g f xs
      → ((f : F) (a : Bor A × (Bor A × Unit {0})) (r : Ordering) (f' : F) → Called g f a r f' → r ≡ R a.0.now a.1.0.now) → Climbs R xs
  climbs-by {g = g} {f = f} xs s h =
      let sorted = s (λ x y. is_lt (R x y)) (ranks_by o (λ x. x))
      (answers_always g (λ a r. is_lt r ≡ is_lt (R a.0.now a.1.0.now)) f (λ k a r f' c. ap is_lt (h k a r f' c))) in
      climbs xs (λ i j d a b. sorted_far (λ x y. is_lt (R x y)) (ranks_by o (λ x. x)) xs sorted i j d a b)

-- Whether a search finds something.
module _ {A B : Type 0} {R : B → B → Ordering} (o : IsTotalOrder R) (f : A → B) (b : B) where
  pub search-finds : (xs : List A) (r : Result ℕ ℕ) → IsSorted (on f R) xs → IsSearchInRange r (length xs) →
      IsBinarySearchResult (λ x. R (f x) b) xs r → is_ok r ≡ list_any (λ x. is_eq (R (f x) b)) xs
  search-finds xs (Err i) sorted within parted =
      let halves = parted (searchable_from_sorted o f xs b sorted) in
      sym (list_any_none (λ x. is_eq (R (f x) b)) xs (λ k d l.
      ⊎_elim (λ less. ap is_eq (halves.0 k d (omega arith) less)) (λ more. ap is_eq (halves.1 k d more l)) (cases_lt k i)))
  search-finds [] (Ok k) sorted within found = absurd (omega (arith, within))
  search-finds (x ∷ xs) (Ok k) sorted within found = sym (list_any_at (λ y. is_eq (R (f y) b)) (x ∷ xs) k x within (ap is_eq (found x)))

-- A list that is mapped.
module _ {A B : Type 0} (f : A → B) where
  before-on : (R : B → B → Ordering) (x : A) (ys : List A) → IsBefore R (f x) (map f ys) ↔ IsBefore (on f R) x ys
  before-on R x [] = (λ h. h, λ h. h)
  before-on R x (y ∷ ys) = let k = before-on R x ys in (λ h. (h.0, k.0 h.1), λ h. (h.0, k.1 h.1))

  pub rises-on : (R : B → B → Ordering) (xs : List A) → Rises R (map f xs) ↔ Rises (on f R) xs
  rises-on R [] = (λ h. h, λ h. h)
  rises-on R (x ∷ xs) = let k = before-on R x xs in let l = rises-on R xs in (λ h. (k.0 h.0, l.0 h.1), λ h. (k.1 h.0, l.1 h.1))

  up-to-on : (R : B → B → Ordering) (x : A) (ys : List A) → IsUpTo R (f x) (map f ys) ↔ IsUpTo (on f R) x ys
  up-to-on R x [] = (λ h. h, λ h. h)
  up-to-on R x (y ∷ ys) = let k = up-to-on R x ys in (λ h. (h.0, k.0 h.1), λ h. (h.0, k.1 h.1))

  climbs-on : (R : B → B → Ordering) (xs : List A) → Climbs R (map f xs) ↔ Climbs (on f R) xs
  climbs-on R [] = (λ h. h, λ h. h)
  climbs-on R (x ∷ xs) =
      let k = up-to-on R x xs in let l = climbs-on R xs in (λ h. (k.0 h.0, l.0 h.1), λ h. (k.1 h.0, l.1 h.1))

  pub climbs-map : (R : B → B → Ordering) (xs : List A) → Climbs R (map f xs) → Climbs (on f R) xs
  climbs-map R xs = (climbs-on R xs).0

  pub map-climbs : (R : B → B → Ordering) (xs : List A) → Climbs (on f R) xs → Climbs R (map f xs)
  map-climbs R xs = (climbs-on R xs).1

  map-swap : (xs : List A) (i j : ℕ) → map f (swap xs i j) ≡ swap (map f xs) i j
  map-swap [] i j = refl
  map-swap (x ∷ xs) i j =
      let d = get_or (x ∷ xs) in
      let first = map-set f (x ∷ xs) i (d j x) ∙ ap (set (map f (x ∷ xs)) i) (sym (get_or-map f (x ∷ xs) j x)) in
      map-set f (set (x ∷ xs) i (d j x)) j (d i x) ∙ (λ k. set (first k) j (sym (get_or-map f (x ∷ xs) i x) k))

  map-swaps : (xs : List A) (moves : List (ℕ × ℕ)) → map f (apply_swaps xs moves) ≡ apply_swaps (map f xs) moves
  map-swaps xs [] = refl
  map-swaps xs (m ∷ moves) = map-swap (apply_swaps xs moves) m.0 m.1 ∙ ap (λ l. swap l m.0 m.1) (map-swaps xs moves)

  -- where a mapped list was put in another order, so can be the list itself
  pub followed : (xs : List A) (ys zs : List B) → ys ≡ map f xs → IsPermutation ys zs → (ws : List A) × IsPermutation xs ws × (map f ws ≡ zs)
  followed xs ys zs e p = (
    apply_swaps xs p.moves,
    record { moves = p.moves; below = subst (λ n. SwapsInRange n p.moves) (ap length e ∙ length-map xs f) p.below; is = refl },
    map-swaps xs p.moves ∙ sym (p.is ∙ ap (λ l. apply_swaps l p.moves) e),
  )

-- A list whose members differ by one order, put in the order of another that ties no more.
module _ {A : Type 0} (R : A → A → Ordering) (o : IsTotalOrder R) where
  -- S orders what P holds of, and ties no more there than R does
  module _ (S : A → A → Ordering) (P : A → Type 0) (finer : (x y : A) → P x → P y → S x y ≡ Equal → R x y ≡ Equal) where
    before-climbing : (x : A) (ys : List A) → P x → ((y : A) → IsIn y ys → P y) → IsUpTo S x ys → AllByRecursion (λ y. eq_by_cmp R x y ≡ false) ys →
        IsBefore S x ys
    before-climbing x [] p all h d = tt
    before-climbing x (y ∷ ys) p all h d = (
      less-by (S x y) h.0 (false_from_ne_true (is_eq (S x y)) (λ e. let t = finer x y p (all y (inl refl)) (eq-Equal (S x y) e) in let n = rw t at d.0 in cc)),
      before-climbing x ys p (λ z m. all z (inr m)) h.1 d.1,
    )

    rises-climbing : (xs : List A) → ((x : A) → IsIn x xs → P x) → Climbs S xs → IsDistinct (eq_by_cmp R) xs → Rises S xs
    rises-climbing [] all h d = tt
    rises-climbing (x ∷ xs) all h d = (
      before-climbing x xs (all x (inl refl)) (λ y m. all y (inr m)) h.0 (IsDistinct-head (eq_by_cmp R) x xs d),
      rises-climbing xs (λ y m. all y (inr m)) h.1 (IsDistinct-tail (eq_by_cmp R) x xs d),
    )

    -- a listing by R, sorted by S, is the listing by S
    pub listing-sorted : (xs ys : List A) → IsListing R P xs → IsPermutation xs ys → Climbs S ys → IsListing S P ys
    listing-sorted xs ys l p h =
        let back : (x : A) → IsIn x ys → P x = λ x m. (l.exact x).0 (in-permutation x ys xs (IsPermutation-sym xs ys p) m) in
        let apart = IsDistinct-from_sorted R xs (strictly-sorted R o xs l.rises) in
        record {
          rises = rises-climbing ys back h (IsDistinct-IsPermutation (eq_by_cmp R) (eq_by_cmp_equiv o).symm xs ys p apart);
          exact = λ x. (λ m. back x m, λ m. in-permutation x xs ys p ((l.exact x).1 m));
        }
