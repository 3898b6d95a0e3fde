-- What the merge of rising lists begins with, and what it leaves.
use Rattle.std.specs.List.{AllByRecursion}
use Rattle.std.proofs.Common.{◌≡◌, ℕ, zero, suc, ◌<◌, List, [], ◌∷◌, ◌⊎◌, inl, inr, ⊎_elim, refl, sym, ◌∙◌, ap, subst, map, get_or, length, arith, Ordering}
use Rattle.std.proofs.Common.{Less, Equal, Greater}
use Rattle.std.specs.Cmp.{IsTotalOrder}
use Rattle.std.specs.Ordering.{ordering_reverse}
use Rattle.std.proofs.lemmas.Cmp.{alike_right, tied_back, tied_itself}
use Rattle.ics_listing.specs.Rising.{IsBefore, Rises}
use Rattle.ics_listing.specs.Merged.{by_order, put, union, merged, cut}
use Rattle.ics_listing.specs.Inner.MergedLaws.{before-put, before-tied, before-trans}
use Rattle.ics_listing.specs.Listing.{IsIn}
use Rattle.ics_listing.proofs.Cases.{by-cases}

-- x comes before each of the lists, but for an entry of its key at the front
abbrev pub AllFront : {A : Type 0} → (A → A → Ordering) → A → List (List A) → Type 0
AllFront R x lists = AllByRecursion (IsBefore R x) (map (cut R x) lists)

abbrev pub AllRise : {A : Type 0} → (A → A → Ordering) → List (List A) → Type 0
AllRise R = AllByRecursion (Rises R)

module _ {A : Type 0} (R : A → A → Ordering) (o : IsTotalOrder R) where
  pub over : (x y : A) → R x y ≡ Less → R y x ≡ Greater
  over x y e = o.antisymm y x ∙ ap ordering_reverse e

  pub before-union : (x : A) (ys zs : List A) → IsBefore R x ys → IsBefore R x zs → IsBefore R x (union R ys zs)
  before-union x [] zs h k = k
  before-union x (y ∷ ys) zs h k = before-put R o x y (union R ys zs) h.0 (before-union x ys zs h.1 k)

  pub cut-own : (s : A) (xs : List A) → cut R s (s ∷ xs) ≡ xs
  cut-own s xs = rw (tied_itself o s) refl

  pub cut-before : (x : A) (ys : List A) → IsBefore R x ys → cut R x ys ≡ ys
  cut-before x [] h = refl
  cut-before x (y ∷ ys) h = ap (λ c. by_order c (y ∷ ys) ys (y ∷ ys)) h.0

  -- what stays was there
  pub in-cut : (s e : A) (xs : List A) → IsIn e (cut R s xs) → IsIn e xs
  in-cut s e [] m = m
  in-cut s e (x ∷ xs) m = by-cases (R s x) (λ p. rw p at m) (λ p. inr (rw p at m)) (λ p. rw p at m)

  -- what is not tied with what goes stays
  pub member-cut : (s e : A) (xs : List A) → (R s e ≡ Equal → ⊥) → IsIn e xs → IsIn e (cut R s xs)
  member-cut s e [] n m = absurd m
  member-cut s e (x ∷ xs) n m =
      by-cases (R s x) (λ p. rw p m) (λ p. rw p (⊎_elim (λ is. absurd (n (ap (R s) is ∙ p))) (λ k. k) m)) (λ p. rw p m)

  -- what is not after the first of a rising list comes before all of it but for one of its key
  pub not-after-front : (x y : A) (ys : List A) → (R x y ≡ Greater → ⊥) → Rises R (y ∷ ys) → IsBefore R x (cut R x (y ∷ ys))
  not-after-front x y ys n r =
      by-cases (R x y) (λ e. rw e (e, before-trans R o x y ys e r.0)) (λ e. rw e (before-tied R o x y ys e r.0)) (λ e. absurd (n e))

  -- what comes before all of a list but for one of its key at the front comes before that too, or is tied with it
  pub front-cases : (e y : A) (ys : List A) → IsBefore R e (cut R e (y ∷ ys)) → IsBefore R e (y ∷ ys) ⊎ ((R e y ≡ Equal) × IsBefore R e ys)
  front-cases e y ys h = by-cases (R e y) (λ p. inl (rw p at h)) (λ p. inr (p, rw p at h)) (λ p. inl (rw p at h))

  -- x, of e's key, goes to the front where e would
  pub put-front : (e x : A) (ys : List A) → R e x ≡ Equal → IsBefore R e (cut R e ys) → put R x ys ≡ x ∷ cut R e ys
  put-front e x [] t h = refl
  put-front e x (y ∷ ys) t h = rw (sym (o.congr e x y t)) (⊎_elim (λ l. rw l.0 refl) (λ q. rw q.0 refl) (front-cases e y ys h))

  -- what comes before both lists stands at the front of their union
  pub union-front : (e : A) (xs ys : List A) → IsBefore R e xs → union R xs (e ∷ ys) ≡ e ∷ union R xs ys
  union-front e [] ys h = refl
  union-front e (x ∷ xs) ys h = rw (union-front e xs ys h.1, over e x h.0) refl

  pub cut-union : (e : A) (xs ys : List A) → IsBefore R e xs → IsBefore R e (cut R e ys) → cut R e (union R xs ys) ≡ union R xs (cut R e ys)
  cut-union e xs [] h k = cut-before e (union R xs []) (before-union e xs [] h tt)
  cut-union e xs (y ∷ ys) h k =
      ⊎_elim
      (λ l. rw l.0 (cut-before e (union R xs (y ∷ ys)) (before-union e xs (y ∷ ys) h l)))
      (λ q. rw (union-front y xs ys (before-tied R o y e xs (tied_back o e y q.0) h), q.0) refl)
      (front-cases e y ys k)

  pub front-union : (e : A) (xs ys : List A) → IsBefore R e xs → IsBefore R e (cut R e ys) → IsBefore R e (cut R e (union R xs ys))
  front-union e xs ys h k = subst (IsBefore R e) (sym (cut-union e xs ys h k)) (before-union e xs (cut R e ys) h k)

  -- the same, where e's key may stand at the front of the first list too
  pub cut-union-both : (e : A) (xs ys : List A) → IsBefore R e (cut R e xs) → Rises R xs → IsBefore R e (cut R e ys)
      → cut R e (union R xs ys) ≡ union R (cut R e xs) (cut R e ys)
  cut-union-both e [] ys h r k = refl
  cut-union-both e (x ∷ xs) ys h r k =
      ⊎_elim
      (λ l. rw l.0 (cut-union e (x ∷ xs) ys l k))
      (λ q. rw (put-front e x (union R xs ys) q.0 (front-union e xs ys q.1 k), q.0) (cut-union e xs ys q.1 k))
      (front-cases e x xs h)

  -- and of several
  cut-merged : (e : A) (xss : List (List A)) → AllFront R e xss → AllRise R xss →
      IsBefore R e (cut R e (merged R xss)) × (cut R e (merged R xss) ≡ merged R (map (cut R e) xss))
  cut-merged e [] h r = (tt, refl)
  cut-merged e (xs ∷ xss) h r =
      let k = cut-merged e xss h.1 r.1 in
      let same = cut-union-both e xs (merged R xss) h.0 r.0 k.0 in
      (subst (IsBefore R e) (sym same) (before-union e (cut R e xs) (cut R e (merged R xss)) h.0 k.0), same ∙ ap (union R (cut R e xs)) k.1)

  -- from y to x, where x does not come after y
  before-front : (x y : A) (zs : List A) → R x y ≡ Less → IsBefore R y (cut R y zs) → IsBefore R x zs
  before-front x y [] l h = tt
  before-front x y (z ∷ zs) l h =
      ⊎_elim (before-trans R o x y (z ∷ zs) l) (λ q. (sym (alike_right o y z x q.0) ∙ l, before-trans R o x y zs l q.1)) (front-cases y z zs h)

  -- what the union of two lists begins with, and what it leaves, where the first of all stands in the one or in the other
  pub begins-first : (s : A) (xs ys : List A) → Rises R (s ∷ xs) → IsBefore R s (cut R s ys) → union R (s ∷ xs) ys ≡ s ∷ union R (cut R s (s ∷ xs)) (cut R s ys)
  begins-first s xs ys r h =
      rw (put-front s s (union R xs ys) (tied_itself o s) (front-union s xs ys r.0 h), cut-union s xs ys r.0 h, cut-own s xs) refl

  pub begins-second : (s : A) (xs ys : List A) → IsBefore R s xs → union R xs (s ∷ ys) ≡ s ∷ union R (cut R s xs) (cut R s (s ∷ ys))
  begins-second s xs ys h = rw (union-front s xs ys h, cut-before s xs h, cut-own s ys) refl

  pub all_front : (e : A) (xss : List (List A)) → ((i : ℕ) → i < length xss → IsBefore R e (cut R e (get_or xss i []))) → AllFront R e xss
  all_front e [] h = tt
  all_front e (xs ∷ xss) h = (h 0 (omega arith), all_front e xss (λ i l. h (suc i) (omega arith)))

  -- what the merge begins with, and what it leaves: e stands at the front of a list, and before all of each list in front of that one
  pub begins-at : {e : A} {xs : List A} (xss : List (List A)) (place : ℕ) → AllRise R xss → get_or xss place [] ≡ e ∷ xs
      → ((i : ℕ) → i < place → i < length xss → IsBefore R e (get_or xss i [])) → AllFront R e xss → merged R xss ≡ e ∷ merged R (map (cut R e) xss)
  begins-at [] place r is before fronts = cc
  begins-at {e = e} {xs = xs} (ys ∷ yss) zero r is before fronts =
      let rises : Rises R (e ∷ xs) = rw is at r.0 in
      let k = cut-merged e yss fronts.1 r.1 in
      rw is (begins-first e xs (merged R yss) rises k.0 ∙ ap (λ zs. e ∷ union R (cut R e (e ∷ xs)) zs) k.1)
  begins-at {e = e} (ys ∷ yss) (suc place) r is before fronts =
      let first = before 0 (omega arith) (omega arith) in
      let rest = begins-at yss place r.1 is (λ i l m. before (suc i) (omega arith) (omega arith)) fronts.1 in
      rw (rest, union-front e ys (merged R (map (cut R e) yss)) first, cut-before e ys first) refl

  pub front-at : (x : A) (xss : List (List A)) (i : ℕ) → AllFront R x xss → IsBefore R x (cut R x (get_or xss i []))
  front-at x [] i h = tt
  front-at x (xs ∷ xss) zero h = h.0
  front-at x (xs ∷ xss) (suc i) h = front-at x xss i h.1

  -- a key before all that there is cuts nothing
  pub uncut : (x e : A) (xss : List (List A)) → R x e ≡ Less → AllFront R e xss → map (cut R x) xss ≡ xss
  uncut x e [] l h = refl
  uncut x e (xs ∷ xss) l h = ap (λ ys. ys ∷ map (cut R x) xss) (cut-before x xs (before-front x e xs l h.0)) ∙ ap (λ yss. xs ∷ yss) (uncut x e xss l h.1)

-- Where one value more stands in a rising list.
pub before-all : {A : Type 0} (R : A → A → Ordering) (x : A) (ys : List A) → ((y : A) → IsIn y ys → R x y ≡ Less) → IsBefore R x ys
before-all R x [] f = tt
before-all R x (y ∷ ys) f = (f y (inl refl), before-all R x ys (λ z m. f z (inr m)))

module _ {A : Type 0} (R : A → A → Ordering) (o : IsTotalOrder R) where
  pub put-before : (x : A) (ys : List A) → IsBefore R x ys → put R x ys ≡ x ∷ ys
  put-before x [] h = refl
  put-before x (y ∷ ys) h = ap (λ c. by_order c (x ∷ y ∷ ys) (x ∷ ys) (y ∷ put R x ys)) h.0

  alone : (xs : List A) → Rises R xs → union R xs [] ≡ xs
  alone [] r = refl
  alone (x ∷ xs) r = ap (put R x) (alone xs r.1) ∙ put-before x xs r.0

  -- what comes before all of a rising list stands before it
  pub one-first : (s : A) (xs : List A) → Rises R xs → IsBefore R s xs → union R xs (s ∷ []) ≡ s ∷ xs
  one-first s xs r h = union-front R o s xs [] h ∙ ap (λ ws. s ∷ ws) (alone xs r)

  -- what is tied with the first changes nothing
  pub one-tied : (s x : A) (xs : List A) → Rises R (x ∷ xs) → R s x ≡ Equal → IsBefore R s xs → union R (x ∷ xs) (s ∷ []) ≡ x ∷ xs
  one-tied s x xs r same h =
      let tied : R x s ≡ Equal = o.antisymm x s ∙ ap ordering_reverse same in
      ap (put R x) (one-first s xs r.1 h) ∙ ap (λ c. by_order c (x ∷ s ∷ xs) (x ∷ xs) (s ∷ put R x xs)) tied
