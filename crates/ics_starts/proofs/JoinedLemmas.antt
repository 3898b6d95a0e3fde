-- Lists that rise, of which one follows the other.
use Rattle.std.proofs.Common.{◌≡◌, List, [], ◌∷◌, ◌++◌, ◌⊎◌, inl, inr, ⊎_elim, refl, Ordering, Less}
use Rattle.ics_listing.specs.Listing.{IsIn, IsListing}
use Rattle.ics_listing.specs.Rising.{IsBefore, Rises}
use Rattle.ics_listing.proofs.ListingLemmas.{in-append, in-append_left, in-append_right}

-- Two listings, of which each of the first comes before each of the second.
module _ {A : Type 0} (R : A → A → Ordering) where
  pub none-listed : {P : A → Type 0} → ((x : A) → P x → ⊥) → IsListing R P []
  none-listed none = record { rises = tt; exact = λ x. (λ m. absurd m, λ p. absurd (none x p)) }

  before-append : (x : A) (xs ys : List A) → IsBefore R x xs → ((y : A) → IsIn y ys → R x y ≡ Less) → IsBefore R x (xs ++ ys)
  before-append x [] [] h f = tt
  before-append x [] (y ∷ ys) h f = (f y (inl refl), before-append x [] ys tt (λ z m. f z (inr m)))
  before-append x (z ∷ xs) ys h f = (h.0, before-append x xs ys h.1 f)

  pub rises-append : (xs ys : List A) → Rises R xs → Rises R ys → ((x y : A) → IsIn x xs → IsIn y ys → R x y ≡ Less) → Rises R (xs ++ ys)
  rises-append [] ys h k f = k
  rises-append (x ∷ xs) ys h k f = (before-append x xs ys h.0 (λ y m. f x y (inl refl) m), rises-append xs ys h.1 k (λ z y m n. f z y (inr m) n))

  pub joined : {P Q : A → Type 0} (S : A → Type 0) {xs ys : List A} → IsListing R P xs → IsListing R Q ys → ((x y : A) → P x → Q y → R x y ≡ Less)
      → ((x : A) → P x ⊎ Q x → S x) → ((x : A) → S x → P x ⊎ Q x) → IsListing R S (xs ++ ys)
  joined S {xs = xs} {ys = ys} h k f to from = record {
    rises = rises-append xs ys h.rises k.rises (λ x y m n. f x y ((h.exact x).0 m) ((k.exact y).0 n));
    exact = λ x. (
      λ m. to x (⊎_elim (λ n. inl ((h.exact x).0 n)) (λ n. inr ((k.exact x).0 n)) (in-append x xs ys m)),
      λ s. ⊎_elim (λ p. in-append_left x xs ys ((h.exact x).1 p)) (λ q. in-append_right x xs ys ((k.exact x).1 q)) (from x s),
    );
  }
