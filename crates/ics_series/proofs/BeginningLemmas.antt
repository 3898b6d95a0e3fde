-- Two UIDs whose first bytes differ stand in the order of these.
use Rattle.std.proofs.Common.{◌≡◌, ℕ, zero, suc, List, [], ◌∷◌, refl, sym, ◌∙◌, ap, add-one, ◌+◌, ◌*◌, ◌-◌, ◌^◌, ◌<◌, ◌≤◌, drop, get_or, ⊎_elim, ◌⊎◌}
use Rattle.std.proofs.Common.{inl, inr, arith, Bool, true, false, bytes_eq}
use Rattle.std.proofs.Common.{nat_cmp, Ordering, Less, Equal, Greater}
use Rattle.std.specs.Cmp.Lexicographic.{bytes_decides, slice_cmp}
use Rattle.std.specs.Ordering.{int_cmp, on, ordering_reverse, ordering_then, then_cmp}
use Rattle.std.specs.Cmp.{nat_cmp_is}
use Rattle.std.proofs.lemmas.Cmp.{nat_cmp_total, nat_list_cmp_total}
use Rattle.ics_listing.proofs.Cases.{here-or-later}
use Rattle.ics_series.specs.Versions.{is_same, label_cmp, seen}
use Rattle.ics_series.specs.declared.version.Version.{Version}
use Rattle.std.specs.Option.{option_cmp}
use Rattle.std.proofs.lemmas.Nat.{pow-add}
use Rattle.std.proofs.Math.Pow.{pow_mono}
use Rattle.hex.specs.Hex.{IsBytes}
use Rattle.ics_series.specs.Inner.Beginnings.{beginning_of, number_by}
use Rattle.ics_period.proofs.Tests.{and_true}

number-next : (more number place : ℕ) (bytes : List ℕ) →
    number_by (suc more) number (drop place bytes) ≡ number_by more (number * 256 + get_or bytes place 0) (drop (suc place) bytes)
number-next more number zero [] = refl
number-next more number (suc place) [] = refl
number-next more number zero (byte ∷ bytes) = refl
number-next more number (suc place) (byte ∷ bytes) = number-next more number place bytes

pub number-step : (number place : ℕ) (bytes : List ℕ) → place < 8 →
    number_by (8 - (place + 1)) (number * 256 + get_or bytes place 0) (drop (place + 1) bytes) ≡ number_by (8 - place) number (drop place bytes)
number-step number place bytes h =
    let more : suc (8 - (place + 1)) ≡ 8 - place = omega (arith, h) in
    ap (λ n. number_by (8 - (place + 1)) (number * 256 + get_or bytes place 0) (drop n bytes)) (add-one place)
    ∙ (sym (number-next (8 - (place + 1)) number place bytes) ∙ ap (λ n. number_by n number (drop place bytes)) more)

-- a number of so many bytes, and one byte more
pub more-below : (number byte place : ℕ) → number < 2 ^ (8 * place) → byte < 256 → number * 256 + byte < 2 ^ (8 * (place + 1))
more-below number byte place h b =
    let places : 8 * (place + 1) ≡ 8 * place + 8 = omega arith in
    let more : 2 ^ (8 * (place + 1)) ≡ 2 ^ (8 * place) * 2 ^ 8 = ap (λ n. 2 ^ n) places ∙ pow-add 2 (8 * place) 8 in
    omega (arith, h, b, more)

pub fits-below : (number byte place : ℕ) → number < 2 ^ (8 * place) → byte < 256 → place < 8 → number * 256 + byte < 2 ^ 64
fits-below number byte place h b l =
    let most : 2 ^ (8 * (place + 1)) ≤ 2 ^ 64 = pow_mono {i = 8 * (place + 1)} {j = 64} (omega (arith, l)) in
    omega (arith, more-below number byte place h b, most)

-- the cases of two numbers, and what their order says of them
which : (x y : ℕ) → (x < y) ⊎ ((x ≡ y) ⊎ (y < x))
which x y = grind arith

less-is : (x y : ℕ) → nat_cmp x y ≡ Less → x < y
less-is x y h =
    ⊎_elim (λ l. l)
    (λ k. ⊎_elim (λ e. let f : Equal ≡ Less = nat_cmp_is x y Equal e ∙ h in absurd cc)
    (λ g. let f : Greater ≡ Less = nat_cmp_is x y Greater g ∙ h in absurd cc) k)
    (which x y)

not-before : (xs : List ℕ) → slice_cmp nat_cmp xs [] ≡ Less → ⊥
not-before [] h = let f : Equal ≡ Less = h in cc
not-before (x ∷ xs) h = let f : Greater ≡ Less = h in cc

-- the first number that differs decides
first-differs : (x y : ℕ) (xs ys : List ℕ) → x < y → slice_cmp nat_cmp (x ∷ xs) (y ∷ ys) ≡ Less
first-differs x y xs ys h = ap (λ o. ordering_then o (slice_cmp nat_cmp xs ys)) (sym (nat_cmp_is x y Less h))

first-same : (x y : ℕ) (xs ys : List ℕ) → x ≡ y → slice_cmp nat_cmp xs ys ≡ Less → slice_cmp nat_cmp (x ∷ xs) (y ∷ ys) ≡ Less
first-same x y xs ys e h = ap (λ o. ordering_then o (slice_cmp nat_cmp xs ys)) (sym (nat_cmp_is x y Equal e)) ∙ h

earlier : (more m n : ℕ) (xs ys : List ℕ) → IsBytes xs → IsBytes ys → number_by more m xs < number_by more n ys
    → (m < n) ⊎ ((m ≡ n) × (slice_cmp nat_cmp xs ys ≡ Less))
earlier zero m n xs ys p q h = inl h
earlier (suc more) m n [] [] p q h =
    ⊎_elim (λ l. inl (omega (arith, l))) (λ e. absurd (not-before [] e.1)) (earlier more (m * 256 + 0) (n * 256 + 0) [] [] p q h)
earlier (suc more) m n [] (y ∷ ys) p q h =
    let least : m ≤ n =
    ⊎_elim (λ l. omega (arith, l, q 0)) (λ e. omega (arith, e.0, q 0)) (earlier more (m * 256 + 0) (n * 256 + y) [] ys p (λ i. q (suc i)) h) in
    ⊎_elim (λ e. inr (e, refl)) (λ l. inl l) (here-or-later m n least)
earlier (suc more) m n (x ∷ xs) [] p q h =
    ⊎_elim (λ l. inl (omega (arith, l))) (λ e. absurd (not-before xs e.1)) (earlier more (m * 256 + x) (n * 256 + 0) xs [] (λ i. p (suc i)) q h)
earlier (suc more) m n (x ∷ xs) (y ∷ ys) p q h =
    ⊎_elim
    (λ l. ⊎_elim (λ e. inr (e, first-differs x y xs ys (omega (arith, l, e)))) (λ k. inl k) (here-or-later m n (omega (arith, l, p 0, q 0))))
    (λ e. inr (omega (arith, e.0, p 0, q 0), first-same x y xs ys (omega (arith, e.0, p 0, q 0)) e.1))
    (earlier more (m * 256 + x) (n * 256 + y) xs ys (λ i. p (suc i)) (λ i. q (suc i)) h)

before : (xs ys : List ℕ) → IsBytes xs → IsBytes ys → nat_cmp (beginning_of xs) (beginning_of ys) ≡ Less → slice_cmp nat_cmp xs ys ≡ Less
before xs ys p q h = ⊎_elim (λ l. absurd (omega (arith, l))) (λ e. e.1) (earlier 8 0 0 xs ys p q (less-is (beginning_of xs) (beginning_of ys) h))

by-beginnings : (xs ys : List ℕ) (r : Ordering) → IsBytes xs → IsBytes ys → r ≡ nat_cmp (beginning_of xs) (beginning_of ys) → (r ≡ Equal → ⊥) →
    slice_cmp nat_cmp xs ys ≡ r
by-beginnings xs ys Less p q h n = before xs ys p q (sym h)
by-beginnings xs ys Equal p q h n = absurd (n refl)
by-beginnings xs ys Greater p q h n =
    nat_list_cmp_total.antisymm xs ys
    ∙ ap ordering_reverse (before ys xs q p (nat_cmp_total.antisymm (beginning_of ys) (beginning_of xs) ∙ ap ordering_reverse (sym h)))

by-first : (r o p : Ordering) → (r ≡ Equal → ⊥) → ordering_then (ordering_then r o) p ≡ r
by-first Less o p n = refl
by-first Equal o p n = absurd (n refl)
by-first Greater o p n = refl

pub by-labels : (a b : Version) (r : Ordering) → IsBytes a.subject.uid.now → IsBytes b.subject.uid.now → r ≡ nat_cmp a.beginning b.beginning →
    (r ≡ Equal → ⊥) → r ≡ label_cmp (seen a) (seen b)
by-labels a b r p q h n =
    let first : slice_cmp nat_cmp a.subject.uid.now b.subject.uid.now ≡ r =
    by-beginnings a.subject.uid.now b.subject.uid.now r p q (h ∙ (λ i. nat_cmp (a.begins i) (b.begins i))) n in
    let rest = then_cmp (on (λ l. l.sequence) nat_cmp) (then_cmp (on (λ l. l.spot.file) nat_cmp) (on (λ l. l.spot.place) nat_cmp)) in
    sym
    (ap (λ o. ordering_then (ordering_then o (option_cmp int_cmp a.subject.recurrence b.subject.recurrence)) (rest (seen a) (seen b))) first
    ∙ by-first r _ _ n)

-- Versions whose first bytes differ are of two subjects.
apart-by : (a b : Version) (same : Bool) → same ≡ is_same (seen a) (seen b) → (a.beginning ≡ b.beginning → ⊥) → false ≡ same
apart-by a b false is n = refl
apart-by a b true is n =
    let uids = and_true {a = bytes_eq a.subject.uid.now b.subject.uid.now} (sym is) in
    absurd (n (a.begins ∙ ap beginning_of ((bytes_decides a.subject.uid.now b.subject.uid.now).0 uids.0) ∙ sym b.begins))

pub apart : (a b : Version) → (a.beginning ≡ b.beginning → ⊥) → false ≡ is_same (seen a) (seen b)
apart a b n = apart-by a b (is_same (seen a) (seen b)) refl n
