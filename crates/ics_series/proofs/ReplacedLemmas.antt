-- The instances of a UID that overrides replace.
use Rattle.std.proofs.Common.{◌≡◌, ◌↔◌, ◌≤◌, ◌<◌, ◌++◌, ℕ, zero, suc, ℤ, ◌||◌, List, [], ◌∷◌, map, length, drop, take, Option, Some, None, Bool}
use Rattle.std.proofs.Common.{true, false, if◌then◌else◌, refl, sym, ◌∙◌, ap, subst, arith, int_cmp, nat_cmp, is_eq, get_or, slice_get, inl, inr}
use Rattle.std.proofs.Common.{Ordering, Less, Equal, Greater}
use Rattle.std.specs.List.{cons_option, filter_map}
use Rattle.std.specs.List.Sorted.{IsPartitionedBy, IsPartitionPoint, IsSorted}
use Rattle.std.specs.Cmp.Lexicographic.{slice_cmp}
use Rattle.std.specs.Option.{option_cmp}
use Rattle.std.specs.Ordering.{ordering_reverse, ordering_then}
use Rattle.std.specs.Str.{bytes_eq}
use Rattle.std.proofs.lemmas.Bool.{false_from_ne_true}
use Rattle.std.proofs.lemmas.Cmp.{int_cmp_total, nat_list_cmp_total, on_total, tied_itself}
use Rattle.std.proofs.lemmas.Map.Text.{is_eq-slice_cmp}
use Rattle.std.proofs.lemmas.List.{map-append}
use Rattle.std.proofs.lemmas.Option.{slice_get-get_or}
use Rattle.std.proofs.lemmas.Slice.Eq.{bytes_eq-Decides}
use Rattle.ics_file.specs.File.{FileSaid}
use Rattle.ics_listing.specs.FileClocks.{Clock}
use Rattle.ics_listing.specs.Listing.{IsIn}
use Rattle.ics_listing.specs.Rising.{Rises}
use Rattle.ics_listing.proofs.ListingLemmas.{before-in, front-before, get-in, rises-end, rises-picked, rises-sorted, split-at}
use Rattle.ics_series.specs.Chosen.{IsOverridden, SubjectSeen}
use Rattle.ics_series.specs.Inner.Masters.{named, named_by}
use Rattle.ics_series.specs.Replaced.{AreReplaced}
use Rattle.ics_series.specs.Versions.{is_named, seen, subject_cmp, AreChosen, Label}
use Rattle.ics_series.specs.declared.version.Version.{Version}
use Rattle.ics_series.proofs.OverrideLemmas.{instance, label_subject_cmp, named-overridden, overridden-named}
use Rattle.ics_series.proofs.VersionLemmas.{map-in, subject_total}
use Rattle.ics_starts.specs.Exclusions.{is_among}

-- What is replaced is what the versions name.
pub are-replaced : (files : List FileSaid) (display : Clock) (vs : List Version) → AreChosen files display vs → (uid : List ℕ) {replaced : List ℤ}
    → ((t : ℤ) → is_among replaced t ≡ is_named (instance uid t) (map seen vs)) → AreReplaced files display uid replaced
are-replaced files display vs h uid {replaced = replaced} names = record {
  each = λ t. (
    λ f o. let no : true ≡ false = sym (overridden-named files display vs h uid t o) ∙ (sym (names t) ∙ f) in absurd cc,
    λ k. false_from_ne_true (is_among replaced t) (λ y. k (named-overridden files display vs h uid t (sym (names t) ∙ y))),
  );
}

module _ (uid : List ℕ) where
  named-one : (l : Label) (t : ℤ) (rest : List ℤ) → is_among (cons_option (named uid l) rest) t
      ≡ (is_eq (subject_cmp l.subject (instance uid t)) || is_among rest t)
  named-one l t rest =
      by (bytes_eq l.subject.uid uid) (slice_cmp nat_cmp l.subject.uid uid) (is_eq-slice_cmp l.subject.uid uid) l.subject.recurrence
    where
      by : (b : Bool) (c : Ordering) → is_eq c ≡ b → (r : Option ℤ) → is_among (cons_option (if b then r else None) rest) t
          ≡ (is_eq (ordering_then c (option_cmp int_cmp r (Some t))) || is_among rest t)
      by true Equal e None = refl
      by true Equal e (Some u) = refl
      by true Less e r = let no : false ≡ true = e in absurd cc
      by true Greater e r = let no : false ≡ true = e in absurd cc
      by false Equal e r = let no : true ≡ false = e in absurd cc
      by false Less e r = refl
      by false Greater e r = refl

  -- these versions override exactly those instances
  pub named-among : (t : ℤ) (ls : List Label) → is_among (named_by uid ls) t ≡ is_named (instance uid t) ls
  named-among t [] = refl
  named-among t (l ∷ ls) =
      named-one l t (named_by uid ls) ∙ ap (λ b. is_eq (subject_cmp l.subject (instance uid t)) || b) (named-among t ls)

  named-is : (l : Label) (t : ℤ) → named uid l ≡ Some t → l.subject ≡ instance uid t
  named-is l t e = by (bytes_eq l.subject.uid uid) refl e
    where
      by : (b : Bool) → bytes_eq l.subject.uid uid ≡ b → (if b then l.subject.recurrence else None) ≡ Some t → l.subject ≡ instance uid t
      by true same is = λ i. record { uid = (bytes_eq-Decides l.subject.uid uid).0 same i; recurrence = is i }
      by false same is = let no : None ≡ Some t = is in absurd cc

  keeps : (x y : Label) (a b : ℤ) → named uid x ≡ Some a → named uid y ≡ Some b → label_subject_cmp x y ≡ Less → int_cmp a b ≡ Less
  keeps x y a b e f less =
      sym (ap (λ c. ordering_then c (int_cmp a b)) (tied_itself nat_list_cmp_total uid))
      ∙ (sym (λ i. subject_cmp (named-is x a e i) (named-is y b f i)) ∙ less)

  -- they are in order
  pub named-sorted : (ls : List Label) → Rises label_subject_cmp ls → IsSorted int_cmp (named_by uid ls)
  named-sorted ls r =
      rises-sorted int_cmp int_cmp_total (named_by uid ls)
      (rises-picked (named uid) label_subject_cmp int_cmp (λ l. IsIn l ls) (λ x y a b m n e f less. keeps x y a b e f less) ls (λ l m. m) r)

  -- none of them is that of a master or of a version before it
  before-none : (m x : Label) → m.subject ≡ record { uid = uid; recurrence = None } → label_subject_cmp x m ≡ Less → named uid x ≡ None
  before-none m x is less = by (named uid x) refl
    where
      by : (o : Option ℤ) → named uid x ≡ o → named uid x ≡ None
      by None e = e
      by (Some t) e =
          let after : ordering_then (slice_cmp nat_cmp uid uid) Greater ≡ Less = sym (λ i. subject_cmp (named-is x t e i) (is i)) ∙ less in
          let no : Greater ≡ Less = sym (ap (λ c. ordering_then c Greater) (tied_itself nat_list_cmp_total uid)) ∙ after in absurd cc

  front-none : (front back : List Label) → ((x : Label) → IsIn x front → named uid x ≡ None) → named_by uid (front ++ back) ≡ named_by uid back
  front-none [] back none = refl
  front-none (x ∷ front) back none =
      ap (λ o. cons_option o (named_by uid (front ++ back))) (none x (inl refl)) ∙ front-none front back (λ y m. none y (inr m))

  own-none : (m : Label) → m.subject ≡ record { uid = uid; recurrence = None } → named uid m ≡ None
  own-none m is = by (bytes_eq m.subject.uid uid) (ap (λ (s : SubjectSeen). s.recurrence) is)
    where
      by : (b : Bool) → m.subject.recurrence ≡ None → (if b then m.subject.recurrence else None) ≡ None
      by true e = e
      by false e = refl

  pub named-behind : (vs : List Version) (k : ℕ) {m : Version} → slice_get vs k ≡ Some m → (seen m).subject ≡ record { uid = uid; recurrence = None }
      → Rises label_subject_cmp (map seen vs) → named_by uid (map seen vs) ≡ named_by uid (map seen (drop (suc k) vs))
  named-behind vs k {m = m} there is r =
      let front = map seen (take k vs) in
      let back = map seen (drop (suc k) vs) in
      let split = ap (map seen) (split-at vs k there) ∙ map-append seen (take k vs) (m ∷ drop (suc k) vs) in
      ap (named_by uid) split
      ∙ (front-none front (seen m ∷ back)
      (λ x n. before-none (seen m) x is
      (front-before label_subject_cmp (on_total (λ l. l.subject) subject_total) front back (subst (Rises label_subject_cmp) split r) n))
      ∙ ap (λ o. cons_option o (named_by uid back)) (own-none (seen m) is))

  -- Behind a master those of its UID come first.
  abbrev has : Version → Bool
  has v = bytes_eq v.subject.uid.now uid

  between : (m x y : Label) → m.subject.uid ≡ uid → bytes_eq y.subject.uid uid ≡ true → label_subject_cmp m x ≡ Less → label_subject_cmp x y ≡ Less
      → bytes_eq x.subject.uid uid ≡ true
  between m x y is same a b =
      let last : y.subject.uid ≡ uid = (bytes_eq-Decides y.subject.uid uid).0 same in
      sym (is_eq-slice_cmp x.subject.uid uid)
      ∙ by (slice_cmp nat_cmp uid x.subject.uid) (slice_cmp nat_cmp x.subject.uid uid) (nat_list_cmp_total.antisymm x.subject.uid uid)
      (option_cmp int_cmp m.subject.recurrence x.subject.recurrence) (option_cmp int_cmp x.subject.recurrence y.subject.recurrence)
      (sym (ap (λ u. ordering_then (slice_cmp nat_cmp u x.subject.uid) (option_cmp int_cmp m.subject.recurrence x.subject.recurrence)) is) ∙ a)
      (sym (ap (λ u. ordering_then (slice_cmp nat_cmp x.subject.uid u) (option_cmp int_cmp x.subject.recurrence y.subject.recurrence)) last) ∙ b)
    where
      by : (c d : Ordering) → d ≡ ordering_reverse c → (p q : Ordering) → ordering_then c p ≡ Less → ordering_then d q ≡ Less → is_eq d ≡ true
      by Less d e p q f g = let no : Greater ≡ Less = sym (ap (λ x. ordering_then x q) e) ∙ g in absurd cc
      by Equal d e p q f g = ap is_eq e
      by Greater d e p q f g = let no : Greater ≡ Less = f in absurd cc

  parted : (m : Label) (vs : List Version) → m.subject.uid ≡ uid → Rises label_subject_cmp (m ∷ map seen vs) → IsPartitionedBy has vs
  parted m [] is r i j d l b t = absurd (omega (arith, b))
  parted m (x ∷ xs) is r zero zero d l b t = t
  parted m (x ∷ xs) is r zero (suc j) d l b t =
      let y = get_or xs j d in
      let there : IsIn (seen y) (map seen xs) = map-in seen y xs (get-in y xs j (slice_get-get_or xs j d (omega (arith, b)))) in
      between m (seen x) (seen y) is t r.0.0 (before-in label_subject_cmp (on_total (λ l. l.subject) subject_total) (seen x) (seen y) (map seen xs) r.1.0 there)
  parted m (x ∷ xs) is r (suc i) zero d l b t = absurd (omega (arith, l))
  parted m (x ∷ xs) is r (suc i) (suc j) d l b t = parted m xs is (r.0.1, r.1.1) i j d (omega (arith, l)) (omega (arith, b)) t

  pub behind-parted : (vs : List Version) (k : ℕ) {m : Version} → slice_get vs k ≡ Some m → m.subject.uid.now ≡ uid → Rises label_subject_cmp (map seen vs)
      → IsPartitionedBy has (drop (suc k) vs)
  behind-parted vs k {m = m} there is r =
      parted (seen m) (drop (suc k) vs) is
      (rises-end label_subject_cmp (on_total (λ l. l.subject) subject_total) (map seen (take k vs)) (seen m ∷ map seen (drop (suc k) vs))
      (subst (Rises label_subject_cmp) (ap (map seen) (split-at vs k there) ∙ map-append seen (take k vs) (m ∷ drop (suc k) vs)) r))

  -- so they are those up to a place
  pub named-point : (vs : List Version) (i : ℕ) → IsPartitionPoint (λ v. has v ≡ true) (λ v. has v ≡ false) vs i
      → filter_map (λ (l : Label). l.subject.recurrence) (map seen (take i vs)) ≡ named_by uid (map seen vs)
  named-point vs i p = by vs i p.0 p.1
    where
      one : (b : Bool) (r : Option ℤ) {xs ys : List ℤ} → b ≡ true → xs ≡ ys → cons_option r xs ≡ cons_option (if b then r else None) ys
      one b r e f = rw (e, f) refl

      none : (b : Bool) (r : Option ℤ) {ys : List ℤ} → b ≡ false → [] ≡ ys → [] ≡ cons_option (if b then r else None) ys
      none b r e f = rw e f

      by : (vs : List Version) (i : ℕ) → ((k : ℕ) (d : Version) → 0 ≤ k → k < i → has (get_or vs k d) ≡ true)
          → ((k : ℕ) (d : Version) → i ≤ k → k < length vs → has (get_or vs k d) ≡ false)
          → filter_map (λ (l : Label). l.subject.recurrence) (map seen (take i vs)) ≡ named_by uid (map seen vs)
      by [] zero f g = refl
      by [] (suc i) f g = refl
      by (x ∷ xs) zero f g =
          none (has x) x.subject.recurrence (g 0 x (omega arith) (omega arith))
          (by xs zero (λ k d a b. absurd (omega (arith, b))) (λ k d a b. g (suc k) d (omega arith) (omega (arith, b))))
      by (x ∷ xs) (suc i) f g =
          one (has x) x.subject.recurrence (f 0 x (omega arith) (omega arith))
          (by xs i (λ k d a b. f (suc k) d (omega arith) (omega (arith, b))) (λ k d a b. g (suc k) d (omega (arith, a)) (omega (arith, b))))
