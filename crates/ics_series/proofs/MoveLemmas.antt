-- Files that stand among others, with which they share no UID, have the occurrences there that they have alone.
use Rattle.std.proofs.Common.{◌≡◌, ℕ, ◌+◌, List, [], ◌∷◌, ◌++◌, length, Some, None, ◌⊎◌, inl, inr, ⊎_elim, refl, sym, ◌∙◌, ap, subst, arith, ℤ, zero, suc}
use Rattle.std.proofs.Common.{slice_get, nat_cmp}
use Rattle.std.specs.Ordering.{ordering_then}
use Rattle.std.proofs.lemmas.Cmp.{nat_cmp_total, tied_itself}
use Rattle.std.proofs.lemmas.Bool.Decides.{nat_tests}
use Rattle.std.proofs.lemmas.Map.Lookups.{exact_unsigned}
use Rattle.ics_file.specs.File.{FileSaid}
use Rattle.ics_event.specs.declared.event.Event.{Event}
use Rattle.ics_series.specs.Chosen.{subject_by, subject_of, IsChosen, IsOverride, IsOverridden, SubjectSeen}
use Rattle.ics_listing.specs.FileClocks.{Clock}
use Rattle.ics_starts.specs.Clocks.{clocks_of}
use Rattle.ics_listing.specs.Entry.{Entry}
use Rattle.ics_series.specs.Laws.{AddedFiles, AreApart, AreReordered, HaveApartVersions, OrderOfFiles}
use Rattle.ics_series.specs.Occurs.{Occurs}
use Rattle.ics_series.specs.PlacedEvents.{Placed, IsPlaced, clocks_at, placed_cmp, zones_of}
use Rattle.ics_listing.proofs.Cases.{by-cases}

-- the event, in the file that its own has become
abbrev move : (ℕ → ℕ) → Placed → Placed
move to p = record { file = to p.file; place = p.place; event = p.event }

-- an event of the files, and what it becomes
abbrev Moved : List FileSaid → (ℕ → ℕ) → Placed → Placed → Type 0
Moved files to p x = IsPlaced files p × (move to p ≡ x)

-- an event of files, and the same event of others
record IsSame (files others : List FileSaid) (display : Clock) (p x : Placed) : Type 0 where
  placed : IsPlaced files p
  there : IsPlaced others x
  clocks : clocks_at files display p.file ≡ clocks_at others display x.file
  event : p.event ≡ x.event

-- an event that the other is matched with
abbrev HasMatch : (Placed → Placed → Type 0) → Placed → Type 0
HasMatch R q = (y : Placed) × R q y

-- Events of files and of others that are the same: on both sides each event with the UID of one of them is one of them.
record IsMatch (files others : List FileSaid) (display : Clock) (R : Placed → Placed → Type 0) : Type 0 where
  same : (p x : Placed) → R p x → IsSame files others display p x
  orders : (p q x y : Placed) → R p x × R q y → subject_of files display p ≡ subject_of files display q → placed_cmp p q ≡ placed_cmp x y
  there : (p q x : Placed) → R p x → IsPlaced files q → q.event.uid ≡ p.event.uid → HasMatch R q
  here : (p x y : Placed) → R p x → IsPlaced others y → y.event.uid ≡ x.event.uid → HasMatch (λ z q. R q z) y

-- what gives an occurrence
abbrev giver : (files : List FileSaid) (display : Clock) (o : Entry) → Occurs files display o → Placed
giver files display o (inl h) = h.master
giver files display o (inr h) = h.override

giver-placed : (files : List FileSaid) (display : Clock) (o : Entry) (h : Occurs files display o) → IsPlaced files (giver files display o h)
giver-placed files display o (inl h) = h.is.chosen.placed
giver-placed files display o (inr h) = h.is.chosen.placed

module _ {files others : List FileSaid} {display : Clock} {R : Placed → Placed → Type 0} (m : IsMatch files others display R) where
  same-subject : (p x : Placed) → R p x → subject_of files display p ≡ subject_of others display x
  same-subject p x r = let s = m.same p x r in λ i. subject_by (s.clocks i) (s.event i)

  turned : IsMatch others files display (λ x p. R p x)
  turned = record {
    same = λ x p r. let s = m.same p x r in record { placed = s.there; there = s.placed; clocks = sym s.clocks; event = sym s.event };
    orders = λ x y p q r u. sym (m.orders p q x y r (same-subject p x r.0 ∙ u ∙ sym (same-subject q y r.1)));
    there = λ x y p r k e. m.here p x y r k e;
    here = λ x p q r k e. m.there p q x r k e;
  }

  chosen-there : (p x : Placed) → R p x → IsChosen files display p → IsChosen others display x
  chosen-there p x r h = record {
    placed = (m.same p x r).there;
    greatest = λ y k u l.
        let q = m.here p x y r k (ap (λ (s : SubjectSeen). s.uid) u) in
        let same = same-subject q.0 y q.1 ∙ u ∙ sym (same-subject p x r) in
        h.greatest q.0 (m.same q.0 y q.1).placed same (m.orders p q.0 x y (r, q.1) (sym same) ∙ l);
  }

  override-there : (p x : Placed) (t : ℤ) → R p x → IsOverride files display p t → IsOverride others display x t
  override-there p x t r h = record {
    chosen = chosen-there p x r h.chosen;
    of = ap (λ (s : SubjectSeen). s.recurrence) (sym (same-subject p x r)) ∙ h.of;
  }

  overridden-there : (p x : Placed) {uid : List ℕ} (t : ℤ) → R p x → uid ≡ p.event.uid → IsOverridden files display uid t → IsOverridden others display uid t
  overridden-there p x t r e h =
      let y = m.there p h.by x r h.is.chosen.placed (h.same ∙ e) in
      record { by = y.0; is = override-there h.by y.0 t y.1 h.is; same = ap (λ (s : SubjectSeen). s.uid) (sym (same-subject h.by y.0 y.1)) ∙ h.same }

-- what occurs in the files, given by an event of the others too, occurs among them
occurs-there : {files others : List FileSaid} {display : Clock} {R : Placed → Placed → Type 0} (m : IsMatch files others display R) (o : Entry)
    (h : Occurs files display o) (x : Placed) → R (giver files display o h) x → Occurs others display o
occurs-there m o (inl h) x r =
    let s = m.same h.master x r in
    inl (record {
      master = x;
      is = record { chosen = chosen-there m h.master x r h.is.chosen; single = ap (λ (e : Event). e.recurrence) (sym s.event) ∙ h.is.single };
      of = rw (s.clocks, s.event) at h.of;
      kept = λ k. h.kept (overridden-there (turned m) x h.master o.recurrence r (ap (λ (e : Event). e.uid) (h.of.event ∙ s.event)) k);
    })
occurs-there m o (inr h) x r =
    let s = m.same h.override x r in
    inr (record { override = x; is = override-there m h.override x o.recurrence r h.is; of = rw (s.clocks, s.event) at h.of })

-- Files stand among others as numbered by `to`: each is there, versions of a subject keep their order, and no other event has a UID of theirs.
abbrev IsMove : List FileSaid → List FileSaid → Clock → (ℕ → ℕ) → Type 0
IsMove files others display to = IsMatch files others display (Moved files to)

matched : {files others : List FileSaid} {display : Clock} (to : ℕ → ℕ)
    → ((k : ℕ) (f : FileSaid) → slice_get files k ≡ Some f → slice_get others (to k) ≡ Some f)
    → ((p q : Placed) → IsPlaced files p → IsPlaced files q → subject_of files display p ≡ subject_of files display q →
    placed_cmp p q ≡ placed_cmp (move to p) (move to q))
    → ((p q : Placed) → IsPlaced files p → IsPlaced others q → q.event.uid ≡ p.event.uid → (r : Placed) × Moved files to r q)
    → IsMove files others display to
matched {others = others} {display = display} to keep orders meets = record {
  same = λ p x r. let keeps = keep p.file r.0.within.0 r.0.within.1 in record {
    placed = r.0;
    there = subst (IsPlaced others) r.1 (record { within = (r.0.within.0, keeps, r.0.within.2) });
    clocks = ap (λ o. clocks_of display (zones_of o)) (r.0.within.1 ∙ sym keeps) ∙ ap (λ (q : Placed). clocks_at others display q.file) r.1;
    event = ap (λ (q : Placed). q.event) r.1;
  };
  orders = λ p q x y r u. orders p q r.0.0 r.1.0 u ∙ (λ i. placed_cmp (r.0.1 i) (r.1.1 i));
  there = λ p q x r k e. (move to q, (k, refl));
  here = λ p x y r k e. meets p y r.0 k (e ∙ sym (ap (λ (q : Placed). q.event.uid) r.1));
}

occurs-moved : {files others : List FileSaid} {display : Clock} (to : ℕ → ℕ) → IsMove files others display to → (o : Entry) → Occurs files display o →
    Occurs others display o
occurs-moved {files = files} {display = display} to m o h =
    occurs-there m o h (move to (giver files display o h)) (giver-placed files display o h, refl)

module _ {A : Type 0} where
  get-left : (xs ys : List A) (k : ℕ) (x : A) → slice_get xs k ≡ Some x → slice_get (xs ++ ys) k ≡ Some x
  get-left [] ys k x e = let f : None ≡ Some x = e in cc
  get-left (z ∷ zs) ys zero x e = e
  get-left (z ∷ zs) ys (suc k) x e = get-left zs ys k x e

  get-right : (xs ys : List A) (k : ℕ) → slice_get (xs ++ ys) (length xs + k) ≡ slice_get ys k
  get-right [] ys k = ap (slice_get ys) (omega arith)
  get-right (z ∷ zs) ys k = let next : suc (length zs) + k ≡ suc (length zs + k) = omega arith in ap (slice_get (z ∷ (zs ++ ys))) next ∙ get-right zs ys k

  get-split : (xs ys : List A) (k : ℕ) (x : A) → slice_get (xs ++ ys) k ≡ Some x →
      (slice_get xs k ≡ Some x) ⊎ ((j : ℕ) × (k ≡ length xs + j) × (slice_get ys j ≡ Some x))
  get-split [] ys k x e = inr (k, omega arith, e)
  get-split (z ∷ zs) ys zero x e = inl e
  get-split (z ∷ zs) ys (suc k) x e = ⊎_elim inl (λ r. inr (r.0, omega (arith, r.1), r.2)) (get-split zs ys k x e)

-- places that are moved alike are compared as before
cmp-behind : (n a b : ℕ) → nat_cmp a b ≡ nat_cmp (n + a) (n + b)
cmp-behind n a b = grind (arith, nat_tests)

module _ (files more : List FileSaid) (display : Clock) (apart : AreApart files more) where
  -- an event of all files is one of the first or one of those behind
  whose : (q : Placed) → IsPlaced (files ++ more) q → IsPlaced files q ⊎ ((r : Placed) × Moved more (λ k. length files + k) r q)
  whose q h = ⊎_elim (λ e. inl (record { within = (h.within.0, e, h.within.2) }))
      (λ s. let r : Placed = record { file = s.0; place = q.place; event = q.event } in
      inr (r, (record { within = (h.within.0, s.2, h.within.2) }, ap (λ (n : ℕ). record { file = n; place = q.place; event = q.event }) (sym s.1))))
      (get-split files more q.file h.within.0 h.within.1)

  first-stay : IsMove files (files ++ more) display (λ k. k)
  first-stay =
      matched (λ k. k) (get-left files more) (λ p q h k u. refl)
      (λ p q h k u. ⊎_elim (λ n. (q, (n, refl))) (λ s. absurd (apart p s.0 h s.1.0 (sym u ∙ sym (ap (λ (x : Placed). x.event.uid) s.1.1)))) (whose q k))

  others-behind : IsMove more (files ++ more) display (λ k. length files + k)
  others-behind =
      matched (λ k. length files + k) (λ k f e. get-right files more k ∙ e)
      (λ p q h k u. ap (λ c. ordering_then (nat_cmp p.event.sequence q.event.sequence) (ordering_then c (nat_cmp p.place q.place)))
      (cmp-behind (length files) p.file q.file))
      (λ p q h k u. ⊎_elim (λ n. absurd (apart q p n h u)) (λ s. s) (whose q k))

  occurs-one : (o : Entry) → Occurs (files ++ more) display o → Occurs files display o ⊎ Occurs more display o
  occurs-one o h =
      let q = giver (files ++ more) display o h in
      ⊎_elim (λ n. inl (occurs-there (turned first-stay) o h q (n, refl))) (λ s. inr (occurs-there (turned others-behind) o h s.0 s.1))
      (whose q (giver-placed (files ++ more) display o h))

pub added-files : AddedFiles
added-files files more display w apart o = (
  (λ h. ⊎_elim (λ k. inl (k, h.1)) (λ k. inr (k, h.1)) (occurs-one files more display apart o h.0)),
  λ h. ⊎_elim (λ k. (occurs-moved (λ k. k) (first-stay files more display apart) o k.0, k.1))
      (λ k. (occurs-moved (λ k. length files + k) (others-behind files more display apart) o k.0, k.1)) h,
)

-- of two numbers that do not tie the rest is not asked
by-sequence : (p q : Placed) (to : ℕ → ℕ) → (p.event.sequence ≡ q.event.sequence → p.file ≡ q.file) → placed_cmp p q ≡ placed_cmp (move to p) (move to q)
by-sequence p q to h =
    by-cases (nat_cmp p.event.sequence q.event.sequence) (λ e. rw e refl)
    (λ e.
    let same = h (exact_unsigned p.event.sequence q.event.sequence e) in
    rw (e, same, tied_itself nat_cmp_total q.file, tied_itself nat_cmp_total (to q.file)) refl)
    (λ e. rw e refl)

module _ (files others : List FileSaid) (display : Clock) (m : AreReordered files others) where
  own-place : (q : Placed) → IsPlaced others q → (r : Placed) × Moved files m.there r q
  own-place q k = (
    move m.back q,
    (
      record { within = (k.within.0, sym (m.moved (m.back q.file)) ∙ (ap (slice_get others) (m.from q.file) ∙ k.within.1), k.within.2) },
      ap (λ (n : ℕ). record { file = n; place = q.place; event = q.event }) (m.from q.file),
    ),
  )

  reordered-move : HaveApartVersions files display → IsMove files others display m.there
  reordered-move apart =
      matched m.there (λ k f e. m.moved k ∙ e) (λ p q h k u. by-sequence p q m.there (λ e. apart p q h k u e)) (λ p q h k u. own-place q k)

pub order-of-files : OrderOfFiles
order-of-files files others display w m apart o =
    let by = reordered-move files others display m apart in (
      (λ h. (occurs-moved m.there by o h.0, h.1)),
      λ h.
          let own = own-place files others display m (giver others display o h.0) (giver-placed others display o h.0) in
          (occurs-there (turned by) o h.0 own.0 own.1, h.1),
    )
