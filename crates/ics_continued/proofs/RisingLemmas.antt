-- Lists of entries whose keys rise.
use Rattle.std.proofs.Common.{◌≡◌, ◌∙◌, ◌<ℤ◌, ◌≤ℤ◌, ℕ, zero, suc, ℤ, List, [], ◌∷◌, ◌++◌, drop, map, inl, inr, ⊎_elim, refl, sym, ap, arith}
use Rattle.std.proofs.Common.{false, int_cmp, is_gt, Ordering, Less, Equal, Greater}
use Rattle.std.specs.Cmp.{int_cmp_is}
use Rattle.std.specs.Ordering.{MatchOrdering}
use Rattle.std.specs.Coded.{codes}
use Rattle.std.proofs.Props.{props}
use Rattle.std.proofs.lemmas.Cmp.{int_ranked}
use Rattle.std.proofs.lemmas.Int.{ints}
use Rattle.ics_listing.specs.Entry.{entry_cmp, Entry}
use Rattle.ics_listing.specs.Listing.{IsIn}
use Rattle.ics_listing.specs.Rising.{IsBefore, Rises}
use Rattle.ics_listing.specs.Inner.EntryLaws.{entry_total}
use Rattle.ics_listing.proofs.Cases.{up-to-front}
use Rattle.ics_listing.proofs.BeginsLemmas.{before-all}
use Rattle.ics_listing.proofs.ListingLemmas.{before-in, not-less-itself}
use Rattle.ics_starts.specs.SeriesLaws.{event-set}

-- one of a list that rises goes
module _ {A : Type 0} (R : A → A → Ordering) where
  before-without : (x y : A) (xs ys : List A) → IsBefore R x (xs ++ y ∷ ys) → IsBefore R x (xs ++ ys)
  before-without x y [] ys h = h.1
  before-without x y (z ∷ zs) ys h = (h.0, before-without x y zs ys h.1)

  pub rises-without : (y : A) (xs ys : List A) → Rises R (xs ++ y ∷ ys) → Rises R (xs ++ ys)
  rises-without y [] ys h = h.1
  rises-without y (x ∷ xs) ys h = (before-without x y xs ys h.0, rises-without y xs ys h.1)

  -- the front of a list that rises does so too
  before-front : (x : A) (ys zs : List A) → IsBefore R x (ys ++ zs) → IsBefore R x ys
  before-front x [] zs h = tt
  before-front x (y ∷ ys) zs h = (h.0, before-front x ys zs h.1)

  pub rises-front : (xs ys : List A) → Rises R (xs ++ ys) → Rises R xs
  rises-front [] ys h = tt
  rises-front (x ∷ xs) ys h = (before-front x xs ys h.0, rises-front xs ys h.1)

  before-both : (x : A) (ys zs : List A) → IsBefore R x ys → IsBefore R x zs → IsBefore R x (ys ++ zs)
  before-both x [] zs h k = k
  before-both x (y ∷ ys) zs h k = (h.0, before-both x ys zs h.1 k)

  -- two lists that rise do so together, if each of the first comes before each of the other
  pub rises-both : (xs ys : List A) → Rises R xs → Rises R ys → ((x y : A) → IsIn x xs → IsIn y ys → R x y ≡ Less) → Rises R (xs ++ ys)
  rises-both [] ys h k before = k
  rises-both (x ∷ xs) ys h k before = (
    before-both x xs ys h.0 (before-all R x ys (λ y m. before x y (inl refl) m)),
    rises-both xs ys h.1 k (λ z y m n. before z y (inr m) n),
  )

-- members
pub in-drop : {A : Type 0} (x : A) (n : ℕ) (xs : List A) → IsIn x (drop n xs) → IsIn x xs
in-drop x zero xs m = m
in-drop x (suc n) [] m = m
in-drop x (suc n) (y ∷ ys) m = inr (in-drop x n ys m)

module _ {A B : Type 0} (f : A → B) where
  pub in-map : (y : B) (xs : List A) → IsIn y (map f xs) → (x : A) × IsIn x xs × (y ≡ f x)
  in-map y [] m = absurd m
  in-map y (x ∷ xs) m = ⊎_elim (λ e. (x, inl refl, e)) (λ n. let k = in-map y xs n in (k.0, inr k.1, k.2)) m

  pub map-in : (x : A) (xs : List A) → IsIn x xs → IsIn (f x) (map f xs)
  map-in x [] m = absurd m
  map-in x (y ∷ ys) m = ⊎_elim (λ e. inl (ap f e)) (λ n. inr (map-in x ys n)) m

-- an entry is in a rising list at one place at most
entry-set : (a b : Entry) → IsProp (a ≡ b)
entry-set a b = hlevel (props, codes, event-set)

pub in-prop : (x : Entry) (xs : List Entry) → Rises entry_cmp xs → IsProp (IsIn x xs)
in-prop x [] r a b = absurd a
in-prop x (y ∷ ys) r (inl a) (inl b) = ap inl (entry-set x y a b)
in-prop x (y ∷ ys) r (inr a) (inr b) = ap inr (in-prop x ys r.1 a b)
in-prop x (y ∷ ys) r (inl a) (inr b) =
    absurd (not-less-itself entry_cmp entry_total x (ap (λ v. entry_cmp v x) a ∙ before-in entry_cmp entry_total y x ys r.0 b))
in-prop x (y ∷ ys) r (inr a) (inl b) =
    absurd (not-less-itself entry_cmp entry_total x (ap (λ v. entry_cmp v x) b ∙ before-in entry_cmp entry_total y x ys r.0 a))

-- by their starts
pub begins-before : (a b : Entry) → a.start <ℤ b.start → entry_cmp a b ≡ Less
begins-before a b l = let less : int_cmp a.start b.start ≡ Less = sym (int_cmp_is a.start b.start Less l) in rw less refl

up-to : (a b : ℤ) → is_gt (int_cmp a b) ≡ false → a ≤ℤ b
up-to a b e = by (int_cmp a b) (int_ranked a b (int_cmp a b) refl) e
  where
    by : (c : Ordering) → MatchOrdering c (a <ℤ b) (a ≡ b) (b <ℤ a) → is_gt c ≡ false → a ≤ℤ b
    by Less m g = omega (arith, ints, m)
    by Equal m g = omega (arith, ints, m)
    by Greater m g = cc

pub before-begins : (a b : Entry) → entry_cmp a b ≡ Less → a.start ≤ℤ b.start
before-begins a b e = up-to a.start b.start (up-to-front (int_cmp a.start b.start) _ (ap is_gt e))

-- the first of a rising list begins first
pub first-begins : (a o : Entry) (xs : List Entry) → Rises entry_cmp (a ∷ xs) → IsIn o (a ∷ xs) → a.start ≤ℤ o.start
first-begins a o xs r m =
    ⊎_elim (λ e. let same = ap (λ (x : Entry). x.start) e in omega (arith, ints, same))
    (λ n. before-begins a o (before-in entry_cmp entry_total a o xs r.0 n)) m
