-- A walk over places that rise: what lies between two of them is none of them.
use Rattle.std.proofs.Common.{◌≡◌, ℕ, zero, suc, ◌+◌, ◌-◌, ◌<◌, ◌≤◌, List, [], ◌∷◌, ◌++◌, map, length, drop, get_or, inl, ⊎_elim, Option, Some, None, Less}
use Rattle.std.proofs.Common.{refl, sym, ◌∙◌, ap, subst, arith, slice_get, option_map, take, true, ℤ}
use Rattle.std.specs.List.{filter_map}
use Rattle.std.specs.Ordering.{nat_cmp, MatchOrdering}
use Rattle.std.proofs.lemmas.Cmp.{ranked}
use Rattle.std.proofs.lemmas.List.{drop_all, drop_more}
use Rattle.std.proofs.lemmas.Option.{get_or_from_slice_get, slice_get-get_or, slice_get-map, slice_get_within}
use Rattle.ics_file.specs.File.{FileSaid}
use Rattle.ics_listing.specs.After.{is_after}
use Rattle.ics_listing.specs.Entry.{Entry, Rank}
use Rattle.ics_listing.specs.FeedSources.{Source}
use Rattle.ics_listing.specs.FileClocks.{Clock}
use Rattle.ics_listing.specs.Listing.{IsIn}
use Rattle.ics_listing.specs.Rising.{Rises}
use Rattle.ics_listing.specs.declared.window.Window.{Window}
use Rattle.ics_listing.proofs.ListingLemmas.{all-in, before-each, get-in}
use Rattle.ics_series.specs.Inner.Masters.{HasLists, HasSources}
use Rattle.ics_days.specs.NearPlaces.{AreNear, AreSameBut}
use Rattle.ics_series.specs.Inner.Spans.{AreSpans, IsSpanPut, IsStartedBy}
use Rattle.ics_series.specs.Singles.{single_at}
use Rattle.ics_days.specs.declared.span.Span.{Span}
use Rattle.ics_series.specs.declared.version.Version.{Version}
use Rattle.ics_series.specs.Versions.{seen, AreChosen, Label}
use Rattle.ics_series.proofs.OverrideLemmas.{any_version}
use Rattle.ics_series.proofs.SourceLemmas.{sources-skip, versions-none}
use Rattle.ics_series.proofs.SpanLemmas.{out-none, out-version, picked-skip}

-- of places the first so many are below a number, no greater than another, and the others are not
pub record IsLookedTo (near : List ℕ) (count i next : ℕ) : Type 0 where
  pub within : next ≤ count
  pub rises : Rises nat_cmp (drop i near)
  pub ahead : (k : ℕ) → IsIn k (drop i near) → next ≤ k
  pub before : (k : ℕ) → IsIn k near → next ≤ k → IsIn k (drop i near)

pub looked-none : (near : List ℕ) (count : ℕ) → Rises nat_cmp near → IsLookedTo near count 0 0
looked-none near count r = record { within = omega arith; rises = r; ahead = λ k m. omega arith; before = λ k m low. m }

pub looked-all : (near : List ℕ) {count : ℕ} (i next : ℕ) → length near ≤ i → IsLookedTo near count i next → (j : ℕ) → next ≤ j → IsIn j near → ⊥
looked-all near i next end h j low m = let none : IsIn j [] = subst (IsIn j) (drop_all i near end) (h.before j m low) in none

less-than : (k j : ℕ) → nat_cmp k j ≡ Less → k < j
less-than k j e = subst (λ c. MatchOrdering c (k < j) (k ≡ j) (j < k)) e (ranked k j (nat_cmp k j) refl)

-- at one of them
module _ (near : List ℕ) (i : ℕ) {count k next : ℕ} (at : slice_get near i ≡ Some k) (h : IsLookedTo near count i next) where
  split : drop i near ≡ k ∷ drop (i + 1) near
  split = subst (λ x. drop i near ≡ x ∷ drop (i + 1) near) (get_or_from_slice_get near i k k at) (drop_more near i k (slice_get_within near i k at))

  later : Rises nat_cmp (k ∷ drop (i + 1) near)
  later = subst (Rises nat_cmp) split h.rises

  behind : (j : ℕ) → IsIn j (drop (i + 1) near) → k < j
  behind j m = less-than k j (before-each nat_cmp k j (drop (i + 1) near) later.0 m)

  pub place-low : next ≤ k
  place-low = h.ahead k (subst (IsIn k) (sym split) (inl refl))

  pub place-gap : (j : ℕ) → next ≤ j → j < k → IsIn j near → ⊥
  place-gap j low less m =
      ⊎_elim (λ e. omega (arith, less, e)) (λ n. let more = behind j n in omega (arith, less, more)) (subst (IsIn j) split (h.before j m low))

  pub looked-one : k < count → IsLookedTo near count (i + 1) (k + 1)
  looked-one below = record {
    within = omega (arith, below);
    rises = later.1;
    ahead = λ j m. let more = behind j m in omega (arith, more);
    before = λ j m low.
        ⊎_elim (λ e. absurd (omega (arith, low, e))) (λ n. n) (subst (IsIn j) split (h.before j m (omega (arith, low, place-low))));
  }

-- what each step keeps
pub step-up : (P : ℕ → Type 0) (from to : ℕ) → from ≤ to → ((j : ℕ) → from ≤ j → j < to → P j → P (j + 1)) → P from → P to
step-up P from to l step h = let whole : from + (to - from) ≡ to = omega (arith, l) in subst P whole (by (to - from) (omega (arith, l)))
  where
    by : (n : ℕ) → from + n ≤ to → P (from + n)
    by zero b = let same : from ≡ from + zero = omega arith in subst P same h
    by (suc n) b = let same : from + n + 1 ≡ from + suc n = omega arith in
        subst P same (step (from + n) (omega arith) (omega (arith, b)) (by n (omega (arith, b))))

-- versions that give nothing
pub picked-gap : {A : Type 0} (g : Label → Option A) (vs : List Version) (from to : ℕ) (front : List A) {total : List A} → from ≤ to → to ≤ length vs
    → ((j : ℕ) (v : Version) → from ≤ j → j < to → slice_get vs j ≡ Some v → g (seen v) ≡ None)
    → front ++ filter_map g (map seen (drop from vs)) ≡ total → front ++ filter_map g (map seen (drop to vs)) ≡ total
picked-gap g vs from to front {total = total} l within none whole =
    step-up (λ n. front ++ filter_map g (map seen (drop n vs)) ≡ total) from to l
    (λ j low high h.
    picked-skip g vs j any_version front (omega (arith, high, within))
    (none j (get_or vs j any_version) low high (slice_get-get_or vs j any_version (omega (arith, high, within)))) h) whole

-- a place that is looked at is that of a version
pub place-within : {spans : List Span} {w : Window} {count : ℕ} {near : List ℕ} → AreNear spans w count near → (i : ℕ) → i < length near
    → get_or near i 0 < count
place-within {count = count} {near = near} h i l =
    all-in (λ k. k < count) near h.below (get_or near i 0) (get-in (get_or near i 0) near i (slice_get-get_or near i 0 l))

-- What the versions between two near places give, whose spans cannot meet the window: nothing.
module _ (files : List FileSaid) (display : Clock) (w : Window) {floor : Option ℤ} (vs : List Version) (spans : List Span)
    (are : AreSpans files display w floor (map seen vs) spans) (near : List ℕ) (h : AreNear spans w (length vs) near)
    (from to : ℕ) (low : from ≤ to) (high : to ≤ length vs) (gap : (j : ℕ) → from ≤ j → j < to → IsIn j near → ⊥) where
  seen-at : (j : ℕ) {v : Version} → slice_get vs j ≡ Some v → slice_get (map seen vs) j ≡ Some (seen v)
  seen-at j there = slice_get-map seen vs j ∙ ap (option_map seen) there

  pub singles-gap : (os : List Label) (after : Option Rank) (front : List Entry) {total : List Entry}
      → front ++ filter_map (single_at files display w os after) (map seen (drop from vs)) ≡ total
      → front ++ filter_map (single_at files display w os after) (map seen (drop to vs)) ≡ total
  singles-gap os after front whole =
      picked-gap (single_at files display w os after) vs from to front low high
      (λ j v a b there. out-none files display w (map seen vs) spans are j (seen-at j there) (h.out j (omega (arith, b, high)) (gap j a b)) os after) whole

  pub lists-gap : (after : Option Rank) → ((o : Entry) → is_after after o ≡ true → IsStartedBy floor o) → {before now : List (List Entry)}
      → HasLists files display w after (map seen (take from vs)) before now → HasLists files display w after (map seen (take to vs)) before now
  lists-gap after above {before = before} {now = now} has =
      step-up (λ n. HasLists files display w after (map seen (take n vs)) before now) from to low
      (λ j a b k.
      let within : j < length vs = omega (arith, b, high) in
      let there = slice_get-get_or vs j any_version within in
      versions-none vs j there k (out-version files display w (map seen vs) spans are j (seen-at j there) (h.out j within (gap j a b)) after above) refl) has

  pub sources-gap : (after : Option Rank) → AreChosen files display vs → {before now : List Source}
      → HasSources files display w after (map seen (take from vs)) before now → HasSources files display w after (map seen (take to vs)) before now
  sources-gap after chosen {before = before} {now = now} has =
      step-up (λ n. HasSources files display w after (map seen (take n vs)) before now) from to low
      (λ j a b k. sources-skip chosen j (slice_get-get_or vs j any_version (omega (arith, b, high))) k refl) has

-- Spans of which that at one of the near places is put anew are as they were at the others.
pub put-others : (old new : List Span) (near : List ℕ) (k : ℕ) {span : Span} → IsIn k near → IsSpanPut old k span new → AreSameBut near old new
put-others old new near k m put j away = by (slice_get new j) refl
  where
    none : (o : Option Span) → slice_get old j ≡ o → slice_get new j ≡ None → slice_get new j ≡ slice_get old j
    none None e n = n ∙ sym e
    none (Some s) e n =
        let within = slice_get_within old j s e in
        let there : Some (get_or new j s) ≡ None = sym (slice_get-get_or new j s (omega (arith, within, put.0))) ∙ n in absurd cc

    by : (o : Option Span) → slice_get new j ≡ o → slice_get new j ≡ slice_get old j
    by None e = none (slice_get old j) refl e
    by (Some s) e = ⊎_elim (λ before. e ∙ sym before) (λ mine. absurd (away (subst (λ n. IsIn n near) (sym mine.0) m))) (put.1 j s e)
