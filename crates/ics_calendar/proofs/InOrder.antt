-- Faults in order: two lists with the same members are one list in order.
use Rattle.std.proofs.Common.{◌≡◌, ◌⊎◌, inl, inr, List, [], ◌∷◌, refl, sym, ap, ◌∙◌, subst, ⊎_elim}
use Rattle.std.specs.Prelude.{fold}
use Rattle.std.specs.BTreeSet.{insert_key}
use Rattle.std.specs.Cmp.{IsTotalOrder}
use Rattle.std.specs.List.{Contains}
use Rattle.std.specs.Ordering.{match_ordering, ordering_reverse}
use Rattle.std.specs.declared.cmp.Ordering.{Ordering}
use Rattle.std.specs.declared.cmp.Ordering.TheVariants.{Less, Equal, Greater}
use Rattle.std.proofs.lemmas.Cmp.{nat_cmp_total, on_total, then_total}
use Rattle.ics_components.specs.contracts.fault.FaultKindOrd.TheImpl.Laws.{total-law}
use Rattle.ics_components.specs.declared.fault.Fault.{Fault}
use Rattle.ics_calendar.specs.Parts.{fault_cmp, in_order}
use Rattle.ics_calendar.proofs.PartLaws.{at-cons, here, is-here, no-element, ordered-has, there}

fault-total : IsTotalOrder fault_cmp
fault-total = then_total (on_total (λ f. f.line) nat_cmp_total) (on_total (λ f. f.kind) total-law)

not-both : (x y : Fault) → fault_cmp x y ≡ Less → fault_cmp y x ≡ Less → ⊥
not-both x y e f = let back : fault_cmp x y ≡ Greater = fault-total.antisymm x y ∙ ap ordering_reverse f in cc

-- each fault is below those behind it
abbrev Rises : List Fault → Type 0
Rises [] = Unit {0}
Rises (x ∷ xs) = ((y : Fault) → Contains xs y → fault_cmp x y ≡ Less) × Rises xs

inserted : (xs : List Fault) (k fault : Fault) → Contains (insert_key fault_cmp xs k) fault → (k ≡ fault) ⊎ Contains xs fault
inserted [] k fault h = inl (is-here k fault h)
inserted (x ∷ xs) k fault h = by_order (inserted xs k fault) (fault_cmp k x) h
  where
    by_order : (Contains (insert_key fault_cmp xs k) fault → (k ≡ fault) ⊎ Contains xs fault) → (r : Ordering) →
        Contains (match_ordering r (k ∷ x ∷ xs) (x ∷ xs) (x ∷ insert_key fault_cmp xs k)) fault → (k ≡ fault) ⊎ Contains (x ∷ xs) fault
    by_order again Less h = at-cons k (x ∷ xs) fault h
    by_order again Equal h = inr h
    by_order again Greater h =
        ⊎_elim (λ (e : x ≡ fault). inr (subst (λ z. Contains (z ∷ xs) fault) (sym e) (here fault xs)))
        (λ l. ⊎_elim (λ (e : k ≡ fault). inl e) (λ m. inr (there x xs fault m)) (again l)) (at-cons x (insert_key fault_cmp xs k) fault h)

still-rises : (xs : List Fault) (k : Fault) → Rises xs → Rises (insert_key fault_cmp xs k)
still-rises [] k r = (λ y h. absurd (no-element y h), tt)
still-rises (x ∷ xs) k r = by_order (still-rises xs k r.1) (fault_cmp k x) refl
  where
    by_order : Rises (insert_key fault_cmp xs k) → (answer : Ordering) → fault_cmp k x ≡ answer →
        Rises (match_ordering answer (k ∷ x ∷ xs) (x ∷ xs) (x ∷ insert_key fault_cmp xs k))
    by_order again Less e =
        (λ y h. ⊎_elim (λ (s : x ≡ y). ap (fault_cmp k) (sym s) ∙ e) (λ m. fault-total.trans k x y e (r.0 y m)) (at-cons x xs y h), r)
    by_order again Equal e = r
    by_order again Greater e =
        let back : fault_cmp x k ≡ Less = fault-total.antisymm x k ∙ ap ordering_reverse e in
        (λ y h. ⊎_elim (λ (s : k ≡ y). ap (fault_cmp x) (sym s) ∙ back) (r.0 y) (inserted xs k y h), again)

all-rise : (had more : List Fault) → Rises had → Rises (fold (insert_key fault_cmp) had more)
all-rise had [] r = r
all-rise had (k ∷ ks) r = all-rise (insert_key fault_cmp had k) ks (still-rises had k r)

was-folded : (had more : List Fault) (fault : Fault) → Contains (fold (insert_key fault_cmp) had more) fault → Contains had fault ⊎ Contains more fault
was-folded had [] fault h = inl h
was-folded had (k ∷ ks) fault h =
    ⊎_elim
    (λ l. ⊎_elim (λ (e : k ≡ fault). inr (subst (λ z. Contains (z ∷ ks) fault) (sym e) (here fault ks))) (λ m. inl m) (inserted had k fault l))
    (λ m. inr (there k ks fault m)) (was-folded (insert_key fault_cmp had k) ks fault h)

pub ordered-was : (faults : List Fault) (fault : Fault) → Contains (in_order faults) fault → Contains faults fault
ordered-was faults fault h = ⊎_elim (λ l. absurd (no-element fault l)) (λ m. m) (was-folded [] faults fault h)

abbrev pub IsWithin : List Fault → List Fault → Type 0
IsWithin xs ys = (fault : Fault) → Contains xs fault → Contains ys fault

behind : (x : Fault) (xs ys : List Fault) → ((y : Fault) → Contains xs y → fault_cmp x y ≡ Less) → IsWithin (x ∷ xs) (x ∷ ys) → IsWithin xs ys
behind x xs ys r h fault m =
    ⊎_elim (λ (e : x ≡ fault). let less : fault_cmp x x ≡ Less = ap (fault_cmp x) e ∙ r fault m in absurd (not-both x x less less)) (λ l. l)
    (at-cons x ys fault (h fault (there x xs fault m)))

one-list : (xs ys : List Fault) → Rises xs → Rises ys → IsWithin xs ys → IsWithin ys xs → xs ≡ ys
one-list [] [] r s h k = refl
one-list [] (y ∷ ys) r s h k = absurd (no-element y (k y (here y ys)))
one-list (x ∷ xs) [] r s h k = absurd (no-element x (h x (here x xs)))
one-list (x ∷ xs) (y ∷ ys) r s h k = by_first (one-list xs ys r.1 s.1) first
  where
    first : x ≡ y
    first =
        ⊎_elim (λ (e : y ≡ x). sym e)
        (λ l. ⊎_elim (λ (e : x ≡ y). e) (λ m. absurd (not-both x y (r.0 y m) (s.0 x l))) (at-cons x xs y (k y (here y ys))))
        (at-cons y ys x (h x (here x xs)))

    by_first : (IsWithin xs ys → IsWithin ys xs → xs ≡ ys) → x ≡ y → (x ∷ xs) ≡ (y ∷ ys)
    by_first again e =
        let into : IsWithin xs ys = behind x xs ys r.0 (subst (λ z. IsWithin (x ∷ xs) (z ∷ ys)) (sym e) h) in
        let back : IsWithin ys xs = behind y ys xs s.0 (subst (λ z. IsWithin (y ∷ ys) (z ∷ xs)) e k) in
        λ i. e i ∷ again into back i

-- TWO LISTS WITH THE SAME MEMBERS are one list in order.
pub same-order : (xs ys : List Fault) → IsWithin xs ys → IsWithin ys xs → in_order xs ≡ in_order ys
same-order xs ys h k =
    one-list (in_order xs) (in_order ys) (all-rise [] xs tt) (all-rise [] ys tt)
    (λ fault m. ordered-has ys fault (h fault (ordered-was xs fault m))) (λ fault m. ordered-has xs fault (k fault (ordered-was ys fault m)))
