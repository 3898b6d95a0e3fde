-- What a listing goes on with after a key, and from which instant on the occurrences of a master come after one.
use Rattle.std.proofs.Common.{◌≡◌, List, ◌∷◌, ◌++◌, Option, Some, None, refl, sym, ◌∙◌, ap, ◌<ℤ◌, ℕ, w64, ℤ, pos, ◌+ℤ◌, false, arith}
use Rattle.std.proofs.Common.{filter, is_lt, int_cmp, nat_cmp, Less, Equal, Greater, ◌≤ℤ◌, int_le, neg_ℤ, SFits, Ordering}
use Rattle.std.specs.Ordering.{ordering_reverse, ordering_then, MatchOrdering}
use Rattle.std.specs.Cmp.{int_ranks}
use Rattle.std.specs.Cmp.Lexicographic.{slice_cmp}
use Rattle.std.specs.Int.{saturate_signed}
use Rattle.std.proofs.lemmas.Int.{ints}
use Rattle.ics_file.specs.File.{FileSaid}
use Rattle.ics_listing.specs.declared.window.Window.{Window}
use Rattle.ics_listing.specs.After.{after_key, is_after}
use Rattle.ics_listing.specs.FileClocks.{Clock}
use Rattle.ics_listing.specs.Entry.{Entry, Rank, entry_cmp, rank_cmp, rank_of}
use Rattle.ics_listing.specs.Inner.EntryLaws.{entry_total}
use Rattle.ics_listing.specs.Listing.{IsListing}
use Rattle.ics_series.specs.Meets.{IsListed, IsToCome}
use Rattle.ics_series.specs.Inner.Masters.{IsSince}
use Rattle.ics_listing.proofs.ListingLemmas.{listing-filter, one-listing}
use Rattle.ics_series.proofs.OnDayLemmas.{greater-behind}
use Rattle.ics_series.proofs.ToComeLemmas.{lt-Less}
use Rattle.ics_series.proofs.VersionLemmas.{subject_total}

module _ (files : List FileSaid) (display : Clock) (w : Window) where
  pub listing-after : (key : Rank) (xs ys : List Entry) → IsListing entry_cmp (IsListed files display w) xs →
      IsListing entry_cmp (IsToCome files display w (Some key)) ys → ys ≡ filter (λ o. is_lt (rank_cmp key (rank_of o))) xs
  listing-after key xs ys h k =
      one-listing entry_cmp entry_total (IsToCome files display w (Some key)) ys (filter (λ o. is_lt (rank_cmp key (rank_of o))) xs) k
      (listing-filter (λ o. is_lt (rank_cmp key (rank_of o))) entry_cmp (IsListed files display w) (IsToCome files display w (Some key)) xs h
      (λ o l e. (l, lt-Less (rank_cmp key (rank_of o)) e)) (λ o t. (t.0, ap is_lt t.1)))

  -- so too where there may be no key
  pub listing-after_key : (after : Option Rank) (xs ys : List Entry) → IsListing entry_cmp (IsListed files display w) xs →
      IsListing entry_cmp (IsToCome files display w after) ys → ys ≡ after_key after xs
  listing-after_key None xs ys h k = one-listing entry_cmp entry_total (IsListed files display w) ys xs k h
  listing-after_key (Some key) xs ys h k = listing-after key xs ys h k

  pub listing-behind : (front : List Entry) (o : Entry) (behind ys : List Entry) → IsListing entry_cmp (IsListed files display w) (front ++ o ∷ behind) →
      IsListing entry_cmp (IsToCome files display w (Some (rank_of o))) ys → ys ≡ behind
  listing-behind front o behind ys h k =
      listing-after (rank_of o) (front ++ o ∷ behind) ys h k ∙ greater-behind entry_cmp entry_total front o behind h.rises

-- what decides between a key and an occurrence of one start
abbrev rest : Rank → Entry → Ordering
rest key o = ordering_then (slice_cmp nat_cmp key.uid o.event.uid) (int_cmp key.recurrence o.recurrence)

-- so it is for an occurrence of a master
abbrev pub turned : Rank → List ℕ → Ordering
turned key uid = ordering_then (slice_cmp nat_cmp uid key.uid) (int_cmp key.start key.recurrence)

rest-turned : (key : Rank) (uid : List ℕ) (o : Entry) → o.event.uid ≡ uid → o.recurrence ≡ o.start → key.start ≡ o.start →
    rest key o ≡ ordering_reverse (turned key uid)
rest-turned key uid o u r s =
    (λ i. ordering_then (slice_cmp nat_cmp key.uid (u i)) (int_cmp key.recurrence ((r ∙ sym s) i)))
    ∙ subject_total.antisymm (record { uid = key.uid; recurrence = Some key.recurrence }) (record { uid = uid; recurrence = Some key.start })

-- by the starts, and at one start by the rest
by-start : (a b : ℤ) (c r : Ordering) → MatchOrdering c (a <ℤ b) (a ≡ b) (b <ℤ a) → (a ≡ b → r ≡ Less) → is_lt (ordering_then c r) ≡ int_le a b
by-start a b Equal r h k = ap is_lt (k h) ∙ grind (arith, ints)
by-start a b _ r h k = grind (arith, ints)

not-Less : (c : Ordering) → (c ≡ Greater → ⊥) → is_lt (ordering_reverse c) ≡ false
not-Less Greater n = absurd (n refl)
not-Less _ n = refl

by-next : {a b next : ℤ} (c r : Ordering) → MatchOrdering c (a <ℤ b) (a ≡ b) (b <ℤ a) → (a ≡ b → is_lt r ≡ false) → (a <ℤ b → next ≤ℤ b) →
    (b ≤ℤ a → b <ℤ next) → is_lt (ordering_then c r) ≡ int_le next b
by-next Less r h k low high = let l = low h in grind (arith, ints)
by-next Equal r h k low high = k h ∙ (let l = high (omega (arith, ints, h)) in grind (arith, ints))
by-next Greater r h k low high = let l = high (omega (arith, ints, h)) in grind (arith, ints)

-- with no key all come
pub since-none : (after : Option Rank) (uid : List ℕ) → after ≡ None → IsSince after uid (neg_ℤ (pos 9_223_372_036_854_775_808))
since-none after uid e = λ o u r low high.
    let least : neg_ℤ (pos 9_223_372_036_854_775_808) ≤ℤ o.start = omega (arith, ints, low) in
    ap (λ a. is_after a o) e ∙ grind (arith, ints)

-- where those come that begin at the key's start
pub since-start : {after : Option Rank} {key : Rank} (uid : List ℕ) {t : ℤ} → after ≡ Some key → turned key uid ≡ Greater → t ≡ key.start → IsSince after uid t
since-start {key = key} uid k g e = λ o u r low high.
    ap (λ a. is_after a o) k
    ∙ (by-start key.start o.start (int_cmp key.start o.start) (rest key o) (int_ranks key.start o.start) (λ s. rest-turned key uid o u r s
    ∙ ap ordering_reverse g)
    ∙ ap (λ x. int_le x o.start) (sym e))

-- the next instant, where there is one
pub saturated : (a t x : ℤ) → t ≡ saturate_signed w64 (a +ℤ pos 1) → SFits w64 a → x <ℤ pos 9_223_372_036_854_775_807 → (a <ℤ x → t ≤ℤ x) × (x ≤ℤ a → x <ℤ t)
saturated (pos n) t x e f h = (λ l. grind (arith, ints), λ l. grind (arith, ints))
saturated _ t x e f h = (λ l. grind (arith, ints), λ l. grind (arith, ints))

-- where they do not
pub since-next : {after : Option Rank} {key : Rank} (uid : List ℕ) {t : ℤ} → after ≡ Some key → (turned key uid ≡ Greater → ⊥) →
    t ≡ saturate_signed w64 (key.start +ℤ pos 1) → SFits w64 key.start → IsSince after uid t
since-next {key = key} uid {t = t} a n e f = λ o u r low high.
    let k = saturated key.start t o.start e f (omega (arith, ints, high)) in
    ap (λ a. is_after a o) a
    ∙ by-next (int_cmp key.start o.start) (rest key o) (int_ranks key.start o.start) (λ s. ap is_lt (rest-turned key uid o u r s)
    ∙ not-Less (turned key uid) n) k.0 k.1
