-- Lists of starts that wait, and one more put in its place.
use Rattle.std.proofs.Common.{◌≡◌, ℕ, suc, ◌+◌, ◌-◌, ◌<◌, ℤ, Bool, true, false, cond, ◌||◌, List, [], ◌∷◌, ◌++◌, length}
use Rattle.std.proofs.Common.{get_or, slice_get, drop, inr, refl, sym, ◌∙◌, ap, arith}
use Rattle.std.proofs.Common.{◌<ℤ◌, int_cmp, int_eq, int_lt, is_eq, is_ok, is_some, Less, Equal, Greater, Some, Result, Ok, Err, OnOk, OnErr}
use Rattle.std.proofs.Math.Bool.{or-false}
use Rattle.std.specs.BTreeMap.{insert_entry, is_at}
use Rattle.std.specs.Cmp.{IsTotalOrder, int_cmp_is}
use Rattle.std.specs.List.{AllByRecursion}
use Rattle.std.specs.List.Sorted.{IsBinarySearchResult, IsSearchInRange}
use Rattle.std.specs.BTreeMap.Range.{IsLtBy}
use Rattle.std.specs.Map.{keys_of, lookup}
use Rattle.std.proofs.lemmas.Bool.{or_parts}
use Rattle.std.proofs.lemmas.Cmp.{int_cmp_total, on_total, tied_back, tied_itself}
use Rattle.std.proofs.lemmas.Int.{ints}
use Rattle.std.proofs.lemmas.Option.{same_Some}
use Rattle.ics_fields.specs.declared.local.Local.{Local}
use Rattle.ics_listing.specs.declared.queue.Waiting.{Waiting}
use Rattle.ics_listing.specs.declared.start.Start.{Start}
use Rattle.ics_listing.specs.StartOrder.{moment_cmp}
use Rattle.ics_listing.specs.Merged.{by_order, put, union}
use Rattle.ics_listing.specs.Inner.MergedLaws.{back, before-tied, before-trans}
use Rattle.ics_listing.specs.Rising.{IsBefore, Rises}
use Rattle.ics_listing.specs.Listing.{IsIn}
use Rattle.ics_listing.specs.WaitingOrder.{begins_after, begins_between, between_in, ends_before, in_order, waiting_cmp, waits_at}
use Rattle.ics_listing.proofs.BeginsLemmas.{one-first, one-tied, over, put-before}
use Rattle.ics_listing.proofs.FirstLemmas.{int-less}
use Rattle.ics_listing.proofs.ListingLemmas.{rises-sorted, search-finds}
use Rattle.ics_listing.proofs.Cases.{by-cases, equal-true, int_lt_true}

pub waiting_total : IsTotalOrder waiting_cmp
waiting_total = on_total (λ w. w.moment) int_cmp_total

less-waiting : (v w : Waiting) → v.moment <ℤ w.moment → waiting_cmp v w ≡ Less
less-waiting v w l = sym (int_cmp_is v.moment w.moment Less l)

tied-waiting : (s v : Waiting) → s.moment ≡ v.moment → waiting_cmp s v ≡ Equal
tied-waiting s v e = ap (int_cmp s.moment) (sym e) ∙ tied_itself int_cmp_total s.moment

-- One more put in its place in a list.
abbrev pub placed : Waiting → List Waiting → List Waiting
placed s [] = s ∷ []
placed s (w ∷ ws) = by_order (waiting_cmp s w) (s ∷ w ∷ ws) (w ∷ ws) (w ∷ placed s ws)

before-placed : (w s : Waiting) (ws : List Waiting) → IsBefore waiting_cmp w ws → waiting_cmp w s ≡ Less → IsBefore waiting_cmp w (placed s ws)
before-placed w s [] h l = (l, tt)
before-placed w s (v ∷ ws) h l = by-cases (waiting_cmp s v) (λ e. rw e (l, h)) (λ e. rw e h) (λ e. rw e (h.0, before-placed w s ws h.1 l))

pub union-placed : (s : Waiting) (ws : List Waiting) → Rises waiting_cmp ws → union waiting_cmp ws (s ∷ []) ≡ placed s ws
union-placed s [] r = refl
union-placed s (w ∷ ws) r =
    by-cases (waiting_cmp s w)
    (λ e. rw e (one-first waiting_cmp waiting_total s (w ∷ ws) r (e, before-trans waiting_cmp waiting_total s w ws e r.0)))
    (λ e. rw e (one-tied waiting_cmp waiting_total s w ws r e (before-tied waiting_cmp waiting_total s w ws e r.0)))
    (λ e. rw e (ap (put waiting_cmp w) (union-placed s ws r.1)
    ∙ put-before waiting_cmp waiting_total w (placed s ws) (before-placed w s ws r.0 (back waiting_cmp waiting_total s w e))))

-- a list with one at its instant stays as it is
pub union-tied : (s : Waiting) (ws : List Waiting) → Rises waiting_cmp ws → waits_at s.moment ws ≡ true → union waiting_cmp ws (s ∷ []) ≡ ws
union-tied s [] r h = let no : false ≡ true = h in absurd cc
union-tied s (w ∷ ws) r h = by (int_eq w.moment s.moment) refl (union-tied s ws r.1) h
  where
    by : (b : Bool) → int_eq w.moment s.moment ≡ b → (waits_at s.moment ws ≡ true → union waiting_cmp ws (s ∷ []) ≡ ws) →
        (b || waits_at s.moment ws) ≡ true → union waiting_cmp (w ∷ ws) (s ∷ []) ≡ w ∷ ws
    by true e ih h =
        let tied = tied-waiting s w (sym (equal-true w.moment s.moment e)) in
        one-tied waiting_cmp waiting_total s w ws r tied (before-tied waiting_cmp waiting_total s w ws tied r.0)
    by false e ih h = ap (put waiting_cmp w) (ih h) ∙ put-before waiting_cmp waiting_total w ws r.0

-- Two lists in the order of their instants.
in_order-alone : (ws : List Waiting) → in_order ws [] ≡ ws
in_order-alone [] = refl
in_order-alone (w ∷ ws) = refl

before-line : (x : Waiting) (ws vs : List Waiting) → IsBefore waiting_cmp x (in_order ws vs) → IsBefore waiting_cmp x ws
before-line x [] vs h = tt
before-line x (w ∷ ws) [] h = h
before-line x (w ∷ ws) (v ∷ vs) h = by (int_lt v.moment w.moment) (before-line x (w ∷ ws) vs) (before-line x ws (v ∷ vs)) h
  where
    by : (b : Bool) → (IsBefore waiting_cmp x (in_order (w ∷ ws) vs) → IsBefore waiting_cmp x (w ∷ ws)) →
        (IsBefore waiting_cmp x (in_order ws (v ∷ vs)) → IsBefore waiting_cmp x ws) →
        IsBefore waiting_cmp x (cond b (v ∷ in_order (w ∷ ws) vs) (w ∷ in_order ws (v ∷ vs))) → IsBefore waiting_cmp x (w ∷ ws)
    by true f g h = f h.1
    by false f g h = (h.0, g h.1)

pub rises-line : (ws vs : List Waiting) → Rises waiting_cmp (in_order ws vs) → Rises waiting_cmp ws
rises-line [] vs h = tt
rises-line (w ∷ ws) [] h = h
rises-line (w ∷ ws) (v ∷ vs) h = by (int_lt v.moment w.moment) (rises-line (w ∷ ws) vs) (rises-line ws (v ∷ vs)) h
  where
    by : (b : Bool) → (Rises waiting_cmp (in_order (w ∷ ws) vs) → Rises waiting_cmp (w ∷ ws)) →
        (Rises waiting_cmp (in_order ws (v ∷ vs)) → Rises waiting_cmp ws) →
        Rises waiting_cmp (cond b (v ∷ in_order (w ∷ ws) vs) (w ∷ in_order ws (v ∷ vs))) → Rises waiting_cmp (w ∷ ws)
    by true f g h = f h.1
    by false f g h = (before-line w ws (v ∷ vs) h.0, g h.1)

or-second : (a b c d : Bool) → (c || ((a || b) || d)) ≡ ((a || b) || (c || d))
or-second a b c d = grind arith

or-first : (a b c d : Bool) → (a || (b || (c || d))) ≡ ((a || b) || (c || d))
or-first a b c d = grind arith

pub waits-in_order : (t : ℤ) (ws vs : List Waiting) → waits_at t (in_order ws vs) ≡ (waits_at t ws || waits_at t vs)
waits-in_order t [] vs = refl
waits-in_order t (w ∷ ws) [] = sym (or-false (waits_at t (w ∷ ws)))
waits-in_order t (w ∷ ws) (v ∷ vs) = by (int_lt v.moment w.moment) (waits-in_order t (w ∷ ws) vs) (waits-in_order t ws (v ∷ vs))
  where
    by : (b : Bool) → waits_at t (in_order (w ∷ ws) vs) ≡ (waits_at t (w ∷ ws) || waits_at t vs) →
        waits_at t (in_order ws (v ∷ vs)) ≡ (waits_at t ws || waits_at t (v ∷ vs)) →
        waits_at t (cond b (v ∷ in_order (w ∷ ws) vs) (w ∷ in_order ws (v ∷ vs))) ≡ (waits_at t (w ∷ ws) || waits_at t (v ∷ vs))
    by true h k = ap (λ c. int_eq v.moment t || c) h ∙ or-second (int_eq w.moment t) (waits_at t ws) (int_eq v.moment t) (waits_at t vs)
    by false h k = ap (λ c. int_eq w.moment t || c) k ∙ or-first (int_eq w.moment t) (waits_at t ws) (int_eq v.moment t) (waits_at t vs)

pub length-in_order : (ws vs : List Waiting) → length (in_order ws vs) ≡ length ws + length vs
length-in_order [] vs = omega arith
length-in_order (w ∷ ws) [] = omega arith
length-in_order (w ∷ ws) (v ∷ vs) = by (int_lt v.moment w.moment) (length-in_order (w ∷ ws) vs) (length-in_order ws (v ∷ vs))
  where
    by : (b : Bool) → length (in_order (w ∷ ws) vs) ≡ length (w ∷ ws) + length vs → length (in_order ws (v ∷ vs)) ≡ length ws + length (v ∷ vs) →
        length (cond b (v ∷ in_order (w ∷ ws) vs) (w ∷ in_order ws (v ∷ vs))) ≡ length (w ∷ ws) + length (v ∷ vs)
    by true h k = omega (arith, h)
    by false h k = omega (arith, k)

-- what the first in the line leaves
pub rest-line : (ws vs : List Waiting) → begins_between ws vs ≡ false → in_order (drop 1 ws) vs ≡ drop 1 (in_order ws vs)
rest-line [] [] b = refl
rest-line (w ∷ ws) [] b = in_order-alone ws
rest-line [] (v ∷ vs) b = let no : true ≡ false = b in absurd cc
rest-line (w ∷ ws) (v ∷ vs) b = rw b refl

-- One more among two lists: at the end of the first, if that is before it,
lt-less : (a b : ℤ) → int_cmp a b ≡ Less → int_lt a b ≡ true
lt-less a b e = grind (arith, ints)

lt-greater : (a b : ℤ) → int_cmp a b ≡ Greater → int_lt a b ≡ false
lt-greater a b e = grind (arith, ints)

early-less : (a b c : ℤ) → int_cmp a b ≡ Less → int_lt b c ≡ true → int_lt a c ≡ true
early-less a b c e l = grind (arith, ints)

less-up-to : (a b c : ℤ) → int_cmp a b ≡ Less → int_lt c b ≡ false → int_cmp a c ≡ Less
less-up-to a b c e l = grind (arith, ints)

not-before : (a b : ℤ) → int_lt a b ≡ true → int_lt b a ≡ false
not-before a b l = grind (arith, ints)

earlier-still : (a b c : ℤ) → int_lt a b ≡ true → int_lt c b ≡ false → int_lt c a ≡ false
earlier-still a b c l n = grind (arith, ints)

is-less : (s w : Waiting) → int_lt s.moment w.moment ≡ true → waiting_cmp s w ≡ Less
is-less s w l = less-waiting s w (int_lt_true s.moment w.moment l)

greater-over : (s w : Waiting) → w.moment <ℤ s.moment → waiting_cmp s w ≡ Greater
greater-over s w l = over waiting_cmp waiting_total w s (less-waiting w s l)

early-over : (a b c : ℤ) → int_lt a b ≡ true → b <ℤ c → a <ℤ c
early-over a b c e l = let m = int_lt_true a b e in omega (arith, ints, m, l)

unequal : (s v : Waiting) (vs : List Waiting) → waits_at s.moment (v ∷ vs) ≡ false → waiting_cmp s v ≡ Equal → ⊥
unequal s v vs n e =
    let tied : int_eq v.moment s.moment ≡ true = ap is_eq (tied_back waiting_total s v e) in
    let no : true ≡ false = sym (ap (λ b. b || waits_at s.moment vs) tied) ∙ n in
    absurd cc

abbrev AllBefore : ℤ → List Waiting → Type 0
AllBefore t ws = AllByRecursion (λ w. w.moment <ℤ t) ws

first-before : (t : ℤ) (w : Waiting) (ws : List Waiting) → Rises waiting_cmp (w ∷ ws) → ends_before t (w ∷ ws) ≡ true → w.moment <ℤ t
first-before t w [] r e = int_lt_true w.moment t e
first-before t w (v ∷ ws) r e =
    let less = int-less w.moment v.moment r.0.0 in
    let last = first-before t v ws r.1 e in
    omega (arith, ints, less, last)

all-before : (t : ℤ) (ws : List Waiting) → Rises waiting_cmp ws → ends_before t ws ≡ true → AllBefore t ws
all-before t [] r e = tt
all-before t (w ∷ []) r e = (int_lt_true w.moment t e, tt)
all-before t (w ∷ v ∷ ws) r e = (first-before t w (v ∷ ws) r e, all-before t (v ∷ ws) r.1 e)

place-last : (s : Waiting) (ws vs : List Waiting) → AllBefore s.moment ws → waits_at s.moment vs ≡ false
    → placed s (in_order ws vs) ≡ in_order (ws ++ s ∷ []) vs
place-last s [] [] a n = refl
place-last s [] (v ∷ vs) a n =
    by-cases (waiting_cmp s v)
    (λ e. let late = not-later s.moment v.moment e in rw (e, late) refl)
    (λ e. absurd (unequal s v vs n e))
    (λ e. let early = lt-less v.moment s.moment (back waiting_cmp waiting_total s v e) in
    rw (e, early) (ap (λ xs. v ∷ xs) (place-last s [] vs a (or_parts (int_eq v.moment s.moment) (waits_at s.moment vs) n).1)))
  where
    not-later : (a b : ℤ) → int_cmp a b ≡ Less → int_lt b a ≡ false
    not-later a b e = grind (arith, ints)
place-last s (w ∷ ws) [] a n =
    rw (greater-over s w a.0) (ap (λ xs. w ∷ xs)
    (ap (placed s) (sym (in_order-alone ws)) ∙ (place-last s ws [] a.1 n ∙ in_order-alone (ws ++ s ∷ []))))
place-last s (w ∷ ws) (v ∷ vs) a n =
    by (int_lt v.moment w.moment) refl
    (place-last s (w ∷ ws) vs a (or_parts (int_eq v.moment s.moment) (waits_at s.moment vs) n).1) (place-last s ws (v ∷ vs) a.1 n)
  where
    by : (b : Bool) → int_lt v.moment w.moment ≡ b → placed s (in_order (w ∷ ws) vs) ≡ in_order (w ∷ (ws ++ s ∷ [])) vs →
        placed s (in_order ws (v ∷ vs)) ≡ in_order (ws ++ s ∷ []) (v ∷ vs) →
        placed s (cond b (v ∷ in_order (w ∷ ws) vs) (w ∷ in_order ws (v ∷ vs)))
        ≡ cond b (v ∷ in_order (w ∷ (ws ++ s ∷ [])) vs) (w ∷ in_order (ws ++ s ∷ []) (v ∷ vs))
    by true e h k = rw (greater-over s v (early-over v.moment w.moment s.moment e a.0)) (ap (λ xs. v ∷ xs) h)
    by false e h k = rw (greater-over s w a.0) (ap (λ xs. w ∷ xs) k)

-- and else in the second, if none of the first is at its instant.
place-second : (s : Waiting) (ws vs : List Waiting) → waits_at s.moment ws ≡ false → placed s (in_order ws vs) ≡ in_order ws (placed s vs)
place-second s [] vs n = refl
place-second s (w ∷ ws) [] n =
    by-cases (waiting_cmp s w)
    (λ e. rw (e, lt-less s.moment w.moment e) refl)
    (λ e. absurd (unequal s w ws n e))
    (λ e. rw (e, lt-greater s.moment w.moment e) (ap (λ xs. w ∷ xs)
    (ap (placed s) (sym (in_order-alone ws)) ∙ place-second s ws [] (or_parts (int_eq w.moment s.moment) (waits_at s.moment ws) n).1)))
place-second s (w ∷ ws) (v ∷ vs) n =
    by (int_lt v.moment w.moment) refl (place-second s (w ∷ ws) vs n)
    (place-second s ws (v ∷ vs) (or_parts (int_eq w.moment s.moment) (waits_at s.moment ws) n).1)
  where
    by : (b : Bool) → int_lt v.moment w.moment ≡ b → placed s (in_order (w ∷ ws) vs) ≡ in_order (w ∷ ws) (placed s vs) →
        placed s (in_order ws (v ∷ vs)) ≡ in_order ws (placed s (v ∷ vs)) →
        placed s (cond b (v ∷ in_order (w ∷ ws) vs) (w ∷ in_order ws (v ∷ vs))) ≡ in_order (w ∷ ws) (placed s (v ∷ vs))
    by true l h k =
        by-cases (waiting_cmp s v)
        (λ e. rw (e, early-less s.moment v.moment w.moment e l, l) refl)
        (λ e. rw (e, l) refl)
        (λ e. rw (e, l) (ap (λ xs. v ∷ xs) h))
    by false l h k =
        by-cases (waiting_cmp s w)
        (λ e. rw (e, less-up-to s.moment w.moment v.moment e l, lt-less s.moment w.moment e, l) refl)
        (λ e. absurd (unequal s w ws n e))
        (λ e. rw e (ap (λ xs. w ∷ xs) k ∙
        by-cases (waiting_cmp s v)
        (λ f. rw (f, lt-greater s.moment w.moment e) refl)
        (λ f. rw (f, l) refl)
        (λ f. rw (f, l) refl)))

place-front : (s : Waiting) (ws vs : List Waiting) → begins_between ws vs ≡ false → begins_after s.moment ws ≡ true
    → placed s (in_order ws vs) ≡ in_order (s ∷ ws) vs
place-front s [] [] b a = refl
place-front s [] (v ∷ vs) b a = let no : true ≡ false = b in absurd cc
place-front s (w ∷ ws) [] b a = rw (is-less s w a) refl
place-front s (w ∷ ws) (v ∷ vs) b a = rw (b, is-less s w a, earlier-still s.moment w.moment v.moment a b) refl

-- One more put in a queue.
pub put-last : (s : Waiting) (ws vs : List Waiting) → Rises waiting_cmp (in_order ws vs) → ends_before s.moment ws ≡ true → waits_at s.moment vs ≡ false
    → in_order (ws ++ s ∷ []) vs ≡ union waiting_cmp (in_order ws vs) (s ∷ [])
put-last s ws vs r ends n =
    sym (union-placed s (in_order ws vs) r ∙ place-last s ws vs (all-before s.moment ws (rises-line ws vs r) ends) n)

pub put-between : (s : Waiting) (ws vs : List Waiting) → Rises waiting_cmp (in_order ws vs) → waits_at s.moment ws ≡ false
    → in_order ws (placed s vs) ≡ union waiting_cmp (in_order ws vs) (s ∷ [])
put-between s ws vs r n = sym (union-placed s (in_order ws vs) r ∙ place-second s ws vs n)

pub put-none : (s : Waiting) (ws vs : List Waiting) → Rises waiting_cmp (in_order ws vs) → (waits_at s.moment ws || waits_at s.moment vs) ≡ true
    → in_order ws vs ≡ union waiting_cmp (in_order ws vs) (s ∷ [])
put-none s ws vs r h = sym (union-tied s (in_order ws vs) r (waits-in_order s.moment ws vs ∙ h))

-- The map of what is not in the line.
equal-back : (a b : ℤ) → int_eq a b ≡ int_eq b a
equal-back a b = grind (arith, ints)

pub waits-between : (t : ℤ) (es : List (ℤ × Local)) → is_some (lookup (is_at (int_cmp t)) es) ≡ waits_at t (between_in es)
waits-between t [] = refl
waits-between t (e ∷ es) = by (int_eq t e.0) (int_eq e.0 t) (equal-back t e.0) (waits-between t es)
  where
    by : (b c : Bool) → b ≡ c → is_some (lookup (is_at (int_cmp t)) es) ≡ waits_at t (between_in es) →
        is_some (cond b (Some e.1) (lookup (is_at (int_cmp t)) es)) ≡ (c || waits_at t (between_in es))
    by true c same ih = rw (← same) refl
    by false c same ih = rw (← same) ih

pub placed-between : (s : Waiting) (es : List (ℤ × Local)) → waits_at s.moment (between_in es) ≡ false
    → between_in (insert_entry int_cmp es s.moment s.local) ≡ placed s (between_in es)
placed-between s [] n = refl
placed-between s (e ∷ es) n =
    by-cases (int_cmp s.moment e.0)
    (λ o. rw o refl)
    (λ o. absurd (unequal s (record { moment = e.0; local = e.1 }) (between_in es) n o))
    (λ o. rw o (ap (λ ws. record { moment = e.0; local = e.1 } ∷ ws)
    (placed-between s es (or_parts (int_eq e.0 s.moment) (waits_at s.moment (between_in es)) n).1)))

pub next-after : (t : ℤ) (es : List (ℤ × Local)) → AllByRecursion (IsLtBy int_cmp t) (keys_of es) → begins_after t (between_in es) ≡ true
next-after t [] a = refl
next-after t (e ∷ es) a = lt-less t e.0 a.0

-- What moves from the second list to the first.
pub moved-first : (v : Waiting) (ws vs : List Waiting) → begins_after v.moment ws ≡ true → begins_after v.moment vs ≡ true
    → in_order (v ∷ ws) vs ≡ in_order ws (v ∷ vs)
moved-first v [] [] b a = refl
moved-first v [] (u ∷ us) b a = rw (not-before v.moment u.moment a) refl
moved-first v (w ∷ ws) [] b a = rw b refl
moved-first v (w ∷ ws) (u ∷ us) b a = rw (b, not-before v.moment u.moment a) refl

pub first-moved : (v : Waiting) (ws vs : List Waiting) → begins_after v.moment vs ≡ true → begins_between (v ∷ ws) vs ≡ false
first-moved v ws [] a = refl
first-moved v ws (u ∷ us) a = not-before v.moment u.moment a

-- Which is the first of a queue with one more.
pub first-last : (s : Waiting) (ws vs : List Waiting) → begins_between ws vs ≡ false → begins_between (ws ++ s ∷ []) vs ≡ false
first-last s ws [] b = refl
first-last s [] (v ∷ vs) b = let no : true ≡ false = b in absurd cc
first-last s (w ∷ ws) (v ∷ vs) b = b

pub first-front : (s : Waiting) (ws vs : List Waiting) → begins_between ws vs ≡ false → begins_after s.moment ws ≡ true → begins_between (s ∷ ws) vs ≡ false
first-front s ws [] b a = refl
first-front s [] (v ∷ vs) b a = let no : true ≡ false = b in absurd cc
first-front s (w ∷ ws) (v ∷ vs) b a = earlier-still s.moment w.moment v.moment a b

first-amid : (s : Waiting) (ws vs : List Waiting) → begins_between ws vs ≡ false → begins_after s.moment ws ≡ false
    → begins_between ws (placed s vs) ≡ false
first-amid s ws [] b a = a
first-amid s ws (v ∷ vs) b a = by-cases (waiting_cmp s v) (λ e. rw e a) (λ e. rw e b) (λ e. rw e b)

pub first-inserted : {T E : Type 0} (s : Waiting) (ws : List Waiting) (es fs : List (ℤ × Local)) (r : Result T E) →
    OnOk r (fs ≡ insert_entry int_cmp es s.moment s.local) → OnErr r (fs ≡ es) → waits_at s.moment (between_in es) ≡ false →
    begins_between ws (between_in es) ≡ false → begins_after s.moment ws ≡ false → begins_between ws (between_in fs) ≡ false
first-inserted s ws es fs (Ok x) put same n b a = rw (put, placed-between s es n) (first-amid s ws (between_in es) b a)
first-inserted s ws es fs (Err e) put same n b a = rw same b

-- what is before both lists stands at the front of the first
pub put-front : (s : Waiting) (ws vs : List Waiting) → Rises waiting_cmp (in_order ws vs) → begins_between ws vs ≡ false → begins_after s.moment ws ≡ true
    → in_order (s ∷ ws) vs ≡ union waiting_cmp (in_order ws vs) (s ∷ [])
put-front s ws vs r b a = sym (union-placed s (in_order ws vs) r ∙ place-front s ws vs b a)

pub begins-some : (ws : List Waiting) (es : List (ℤ × Local)) (e : ℤ × Local) → slice_get es 0 ≡ Some e
    → begins_after e.0 ws ≡ begins_between ws (between_in es)
begins-some ws [] e is = absurd cc
begins-some ws (f ∷ es) e is = ap (λ (x : ℤ × Local). begins_after x.0 ws) (same_Some e f (sym is))

-- The ends of the line.
pub last-before : (t : ℤ) (ws : List Waiting) (d : Waiting) → 0 < length ws → int_lt (get_or ws (length ws - 1) d).moment t ≡ ends_before t ws
last-before t [] d l = absurd (omega (arith, l))
last-before t (w ∷ []) d l = refl
last-before t (w ∷ v ∷ ws) d l =
    let up : length (w ∷ v ∷ ws) - 1 ≡ suc (length (v ∷ ws) - 1) = omega arith in
    ap (λ k. int_lt (get_or (w ∷ v ∷ ws) k d).moment t) up ∙ last-before t (v ∷ ws) d (omega arith)

pub found-in_line : (t : ℤ) (ws : List Waiting) (r : Result ℕ ℕ) → Rises waiting_cmp ws → IsSearchInRange r (length ws)
    → IsBinarySearchResult (λ w. int_cmp w.moment t) ws r → is_ok r ≡ waits_at t ws
found-in_line t ws r rises within found =
    search-finds int_cmp_total (λ (w : Waiting). w.moment) t ws r (rises-sorted waiting_cmp waiting_total ws rises) within found

-- What is so of a list is so without its first.
pub rises-drop : (xs : List Start) → Rises moment_cmp xs → Rises moment_cmp (drop 1 xs)
rises-drop [] r = tt
rises-drop (x ∷ xs) r = r.1

pub in-drop : (s : Start) (xs : List Start) → IsIn s (drop 1 xs) → IsIn s xs
in-drop s [] m = absurd m
in-drop s (x ∷ xs) m = inr m
