-- What stands in the union of two lists and in the merge of several. A list whose members differ by an order has a listing by that order.
use Rattle.std.proofs.Common.{◌≡◌, ◌≢◌, List, [], ◌∷◌, ◌⊎◌, inl, inr, ⊎_elim, refl, sym, ◌∙◌, ap, subst, ◌↔◌, Ordering, Equal}
use Rattle.std.specs.List.{AllByRecursion}
use Rattle.std.specs.Cmp.{IsTotalOrder}
use Rattle.std.proofs.lemmas.Cmp.{alike_right, tied_back}
use Rattle.ics_listing.specs.Listing.{IsIn, IsListing}
use Rattle.ics_listing.specs.Merged.{put, union, merged, HasNoKey, IsFromFirst}
use Rattle.ics_listing.specs.Inner.MergedLaws.{before-tied, before-trans, rises-merged, rises-union}
use Rattle.ics_listing.specs.Rising.{Rises}
use Rattle.ics_listing.proofs.ListingLemmas.{before-in, one-rising, relisted}
use Rattle.ics_listing.proofs.Cases.{by-cases}

module _ {A : Type 0} (R : A → A → Ordering) (o : IsTotalOrder R) where
  -- x takes the place of an entry of its key
  pub put-in : (e x : A) (ys : List A) → Rises R ys → IsIn e (put R x ys) → (e ≡ x) ⊎ (IsIn e ys × (R x e ≢ Equal))
  put-in e x [] h m = ⊎_elim inl (λ k. absurd k) m
  put-in e x (y ∷ ys) h m =
      by-cases (R x y)
      (λ p. let n = rw p at m in
      ⊎_elim inl (λ k. inr (k, λ t. let q = before-in R o x e (y ∷ ys) (p, before-trans R o x y ys p h.0) k in cc)) n)
      (λ p. let n = rw p at m in ⊎_elim inl (λ k. inr (inr k, λ t. let q = before-in R o x e ys (before-tied R o x y ys p h.0) k in cc)) n)
      (λ p. let n = rw p at m in
      ⊎_elim (λ s. inr (inl s, λ t. let q : R x y ≡ Equal = sym (ap (R x) s) ∙ t in cc))
      (λ l. ⊎_elim inl (λ k. inr (inr k.0, k.1)) (put-in e x ys h.1 l)) n)

  pub in-put : (e x : A) (ys : List A) → (e ≡ x) ⊎ (IsIn e ys × (R x e ≢ Equal)) → IsIn e (put R x ys)
  in-put e x [] m = ⊎_elim inl (λ k. absurd k.0) m
  in-put e x (y ∷ ys) m =
      by-cases (R x y)
      (λ p. rw p (⊎_elim inl (λ k. inr k.0) m))
      (λ p. rw p (⊎_elim inl (λ k. inr (⊎_elim (λ s. absurd (k.1 (ap (R x) s ∙ p))) (λ n. n) k.0)) m))
      (λ p. rw p (⊎_elim (λ s. inr (in-put e x ys (inl s))) (λ k. ⊎_elim inl (λ n. inr (in-put e x ys (inr (n, k.1)))) k.0) m))

  pub itself-put : (x : A) (ys : List A) → IsIn x (put R x ys)
  itself-put x ys = in-put x x ys (inl refl)

  -- what stands in a list stays there with one more, unless it is tied with that
  pub member-put : (e x : A) (ys : List A) → IsIn e ys → IsIn e (put R x ys) ⊎ (R x e ≡ Equal)
  member-put e x ys m = by-cases (R x e) (λ p. inl (in-put e x ys (inr (m, λ t. cc)))) inr (λ p. inl (in-put e x ys (inr (m, λ t. cc))))

  not-tied-back : (x y : A) → R x y ≢ Equal → R y x ≢ Equal
  not-tied-back x y h e = h (tied_back o y x e)

  -- what of the second list stands in the union has no key of the first
  pub union-in : (e : A) (xs ys : List A) → Rises R ys → IsIn e (union R xs ys) → IsIn e xs ⊎ (HasNoKey R e xs × IsIn e ys)
  union-in e [] ys h m = inr (tt, m)
  union-in e (x ∷ xs) ys h m =
      ⊎_elim (λ s. inl (inl s))
      (λ k. ⊎_elim (λ n. inl (inr n)) (λ n. inr ((not-tied-back x e k.1, n.0), n.1)) (union-in e xs ys h k.0))
      (put-in e x (union R xs ys) (rises-union R o xs ys h) m)

  pub in-union : (e : A) (xs ys : List A) → Rises R xs → IsIn e xs ⊎ (HasNoKey R e xs × IsIn e ys) → IsIn e (union R xs ys)
  in-union e [] ys h m = ⊎_elim (λ k. absurd k) (λ k. k.1) m
  in-union e (x ∷ xs) ys h m =
      in-put e x (union R xs ys)
      (⊎_elim
      (λ k. ⊎_elim inl (λ n. inr (in-union e xs ys h.1 (inl n), λ t. let q = before-in R o x e xs h.0 n in cc)) k)
      (λ k. inr (in-union e xs ys h.1 (inr (k.0.1, k.1)), not-tied-back e x k.0.0))
      m)

  pub merged-in : (e : A) (xss : List (List A)) → IsIn e (merged R xss) → IsFromFirst R e xss
  merged-in e [] m = m
  merged-in e (xs ∷ xss) m = ⊎_elim inl (λ k. inr (k.0, merged-in e xss k.1)) (union-in e xs (merged R xss) (rises-merged R o xss) m)

  in-merged : (e : A) (xss : List (List A)) → AllByRecursion (Rises R) xss → IsFromFirst R e xss → IsIn e (merged R xss)
  in-merged e [] h m = m
  in-merged e (xs ∷ xss) h m = in-union e xs (merged R xss) h.0 (⊎_elim inl (λ k. inr (k.0, in-merged e xss h.1 k.1)) m)

  -- the merge of rising lists is the listing of what stands in them, of equal keys in the first of them
  pub merged-is : (xss : List (List A)) → AllByRecursion (Rises R) xss → IsListing R (λ e. IsFromFirst R e xss) (merged R xss)
  merged-is xss h = record { rises = rises-merged R o xss; exact = λ e. (merged-in e xss, in-merged e xss h) }

  -- a key is that of nothing in the list with x exactly if it is not x's, and that of nothing in the list
  pub no_key-put : (e x : A) (ys : List A) → HasNoKey R e (put R x ys) ↔ ((R e x ≢ Equal) × HasNoKey R e ys)
  no_key-put e x [] = (λ h. h, λ h. h)
  no_key-put e x (y ∷ ys) =
      let ih = no_key-put e x ys in
      by-cases (R x y)
      (λ p. rw p (λ h. h, λ h. h))
      (λ p. rw p (λ h. (h.0, (λ t. h.0 (alike_right o x y e p ∙ t), h.1)), λ h. (h.0, h.1.1)))
      (λ p. rw p (λ h. let k = ih.0 h.1 in (k.0, (h.0, k.1)), λ h. (h.1.0, ih.1 (h.0, h.1.1))))

  pub no_key-union : (e : A) (xs ys : List A) → HasNoKey R e (union R xs ys) ↔ (HasNoKey R e xs × HasNoKey R e ys)
  no_key-union e [] ys = (λ h. (tt, h), λ h. h.1)
  no_key-union e (x ∷ xs) ys =
      let one = no_key-put e x (union R xs ys) in
      let rest = no_key-union e xs ys in
      (λ h. let k = one.0 h in let r = rest.0 k.1 in ((k.0, r.0), r.1), λ h. one.1 (h.0.0, rest.1 (h.0.1, h.1)))

  -- the union of rising lists is the same however they are grouped
  pub union_assoc : (xs ys zs : List A) → Rises R xs → Rises R ys → Rises R zs → union R (union R xs ys) zs ≡ union R xs (union R ys zs)
  union_assoc xs ys zs p q r =
      one-rising R o (union R (union R xs ys) zs) (union R xs (union R ys zs)) (rises-union R o (union R xs ys) zs r)
      (rises-union R o xs (union R ys zs) (rises-union R o ys zs r))
      (λ e m. in-union e xs (union R ys zs) p
      (⊎_elim
      (λ k. ⊎_elim inl (λ n. inr (n.0, in-union e ys zs q (inl n.1))) (union-in e xs ys q k))
      (λ k. let n = (no_key-union e xs ys).0 k.0 in inr (n.0, in-union e ys zs q (inr (n.1, k.1))))
      (union-in e (union R xs ys) zs r m)))
      (λ e m. in-union e (union R xs ys) zs (rises-union R o xs ys q)
      (⊎_elim
      (λ k. inl (in-union e xs ys p (inl k)))
      (λ k. ⊎_elim (λ n. inl (in-union e xs ys p (inr (k.0, n)))) (λ n. inr ((no_key-union e xs ys).1 (k.0, n.0), n.1)) (union-in e ys zs r k.1))
      (union-in e xs (union R ys zs) (rises-union R o ys zs r) m)))

-- what R ties S ties too, so that a listing by S is one by R in another order
module _ {A : Type 0} (R : A → A → Ordering) (o : IsTotalOrder R) (S : A → A → Ordering) (s : IsTotalOrder S) (P : A → Type 0)
    (finer : (x y : A) → P x → P y → R x y ≡ Equal → S x y ≡ Equal) where
  stays-in : (e : A) (xs : List A) → Rises S xs → ((x : A) → IsIn x xs → P x) → IsIn e xs → IsIn e (union R xs [])
  stays-in e [] r p m = m
  stays-in e (x ∷ xs) r p m =
      in-put R o e x (union R xs [])
      (⊎_elim inl
      (λ n. inr (
        stays-in e xs r.1 (λ y k. p y (inr k)) n,
        λ t.
            let less = before-in S s x e xs r.0 n in
            let tied = finer x e (p x (inl refl)) (p e (inr n)) t in
            cc,
      )) m)

  pub listing-ordered : (xs : List A) → IsListing S P xs → (ys : List A) × IsListing R P ys
  listing-ordered xs l = (
    union R xs [],
    record {
      rises = rises-union R o xs [] tt;
      exact = λ e. (
        λ m. (l.exact e).0 (⊎_elim (λ k. k) (λ k. absurd k.1) (union-in R o e xs [] tt m)),
        λ q. stays-in e xs l.rises (λ x m. (l.exact x).0 m) ((l.exact e).1 q),
      );
    },
  )

module _ {A : Type 0} (R : A → A → Ordering) (o : IsTotalOrder R) where
  -- e stands in one of the lists
  abbrev pub IsInOne : A → List (List A) → Type 0
  IsInOne e [] = ⊥
  IsInOne e (xs ∷ xss) = IsIn e xs ⊎ IsInOne e xss

  pub from-one : (e : A) (xss : List (List A)) → IsFromFirst R e xss → IsInOne e xss
  from-one e [] m = m
  from-one e (xs ∷ xss) m = ⊎_elim inl (λ k. inr (from-one e xss k.1)) m

  -- a list has an entry of e's key, or none
  record HasKey (e : A) (xs : List A) : Type 0 where
    entry : A
    stands : IsIn entry xs
    tied : R e entry ≡ Equal

  key-by : (e x : A) (xs : List A) (c : Ordering) → R e x ≡ c → HasKey e xs ⊎ HasNoKey R e xs → HasKey e (x ∷ xs) ⊎ HasNoKey R e (x ∷ xs)
  key-by e x xs Equal p ih = inl (record { entry = x; stands = inl refl; tied = p })
  key-by e x xs _ p (inl k) = inl (record { entry = k.entry; stands = inr k.stands; tied = k.tied })
  key-by e x xs _ p (inr n) = inr ((λ t. cc), n)

  has-key : (e : A) (xs : List A) → HasKey e xs ⊎ HasNoKey R e xs
  has-key e [] = inr tt
  has-key e (x ∷ xs) = key-by e x xs (R e x) refl (has-key e xs)

  pub one-from : (e : A) (xss : List (List A)) → ((x : A) → IsInOne x xss → R e x ≡ Equal → x ≡ e) → IsInOne e xss → IsFromFirst R e xss
  one-from e [] one m = m
  one-from e (xs ∷ xss) one (inl m) = inl m
  one-from e (xs ∷ xss) one (inr m) =
      ⊎_elim (λ k. inl (subst (λ x. IsIn x xs) (one k.entry (inl k.stands) k.tied) k.stands))
      (λ n. inr (n, one-from e xss (λ x k t. one x (inr k) t) m)) (has-key e xs)

  -- where entries of one key are one, the merge of rising lists is the listing of what stands in one of them
  pub merged-listing : (P : A → Type 0) (xss : List (List A)) → AllByRecursion (Rises R) xss → ((e : A) → IsInOne e xss → P e) → ((e : A) → P e → IsInOne e xss)
      → ((x y : A) → P x → P y → R x y ≡ Equal → x ≡ y) → IsListing R P (merged R xss)
  merged-listing P xss h in-P P-in one =
      relisted (merged-is R o xss h) (λ e m. in-P e (from-one e xss m)) (λ e p. one-from e xss (λ x k t. sym (one e x p (in-P x k) t)) (P-in e p))
