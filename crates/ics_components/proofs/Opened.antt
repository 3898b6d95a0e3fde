-- Each component that is open before a line of lines in their places began on a line of its own, and within an event or a time zone none begins.
use Rattle.std.proofs.Common.{◌≡◌, ◌⊎◌, inl, inr, ℕ, ◌<◌, ◌≤◌, Bool, true, false, ◌&&◌, ◌||◌, ◌==◌, List, [], ◌∷◌, drop, refl, sym, ap, ◌∙◌, arith, cond}
use Rattle.std.proofs.Common.{Option, Some, None, subst}
use Rattle.std.specs.List.{list_any}
use Rattle.std.specs.Option.{option_or}
use Rattle.std.proofs.lemmas.Bool.{eq-eqb, eqb-true}
use Rattle.ics_components.specs.Parted.{AreInPlace, begins_part, is_line_of, is_part, part_in}
use Rattle.ics_components.specs.PlacedLines.{Open, Placed, component, innermost, is_begin, is_end, path_behind}
use Rattle.ics_components.proofs.ChosenLines.{AllTaken, TakesWhole}
use Rattle.ics_components.proofs.ItemFaults.{IsIn}
use Rattle.ics_components.proofs.PartPaths.{begins-by, none-begins}
use Rattle.ics_components.proofs.WholeComponents.{AreOfWhole, IsOfWhole}

-- THE LINE on which a component began that is open, in others.
pub record IsOpened (ls : List Placed) (c : Open) (cs : List Open) : Type 0 where
  pub begin : Placed
  pub among : IsIn begin ls
  pub begins : is_begin begin ≡ true
  pub called : component begin ≡ c.name
  pub number : begin.number ≡ c.begun
  pub path : begin.path ≡ cs

abbrev pub AllOpened : List Placed → List Open → Type 0
AllOpened ls [] = Unit {0}
AllOpened ls (c ∷ cs) = IsOpened ls c cs × AllOpened ls cs

opened-behind : (whole : List Placed) (l : Placed) → IsIn l whole → AllOpened whole l.path → AllOpened whole (path_behind l)
opened-behind whole l i all = by_kind (is_begin l) (is_end l) refl
  where
    out : (path : List Open) → AllOpened whole path → AllOpened whole (drop 1 path)
    out [] all = tt
    out (c ∷ cs) all = all.1

    by_kind : (b e : Bool) → is_begin l ≡ b →
        AllOpened whole (cond b (record { name = component l; begun = l.number } ∷ l.path) (cond e (drop 1 l.path) l.path))
    by_kind true e b = (record { begin = l; among = i; begins = b; called = refl; number = refl; path = refl }, all)
    by_kind false true b = out l.path all
    by_kind false false b = all

opened-in : (whole ls : List Placed) (n : ℕ) (path : List Open) → ((k : Placed) → IsIn k ls → IsIn k whole) → AllOpened whole path → AreInPlace n path ls →
    (l : Placed) → IsIn l ls → AllOpened whole l.path
opened-in whole [] n path among all h l i = absurd i
opened-in whole (m ∷ ms) n path among all h l i =
    by_place (λ j. opened-in whole ms m.number (path_behind m) (λ k j. among k (inr j)) (opened-behind whole m (among m (inl refl)) here) h.4 l j) i
  where
    here : AllOpened whole m.path
    here = subst (λ (p : List Open). AllOpened whole p) (sym h.0) all

    by_place : (IsIn l ms → AllOpened whole l.path) → (m ≡ l) ⊎ IsIn l ms → AllOpened whole l.path
    by_place later (inl same) = subst (λ (k : Placed). AllOpened whole k.path) same here
    by_place later (inr j) = later j

pub opened : (ls : List Placed) → AreInPlace 0 [] ls → (l : Placed) → IsIn l ls → AllOpened ls l.path
opened ls h l i = opened-in ls ls 0 [] (λ k j. j) tt h l i

-- NUMBERS: a line stands behind those before it, and no other has the number of a BEGIN line.
pub above : (ls : List Placed) (n : ℕ) (path : List Open) → AreInPlace n path ls → (l : Placed) → IsIn l ls →
    (n ≤ l.number) × (innermost path < l.number) × (is_begin l ≡ true → n < l.number)
above [] n path h l i = absurd i
above (m ∷ ms) n path h l i = by_place (λ j. above ms m.number (path_behind m) h.4 l j) i
  where
    by_place : (IsIn l ms → (m.number ≤ l.number) × (innermost (path_behind m) < l.number) × (is_begin l ≡ true → m.number < l.number)) →
        (m ≡ l) ⊎ IsIn l ms → (n ≤ l.number) × (innermost path < l.number) × (is_begin l ≡ true → n < l.number)
    by_place later (inl same) =
        subst (λ (k : Placed). (n ≤ k.number) × (innermost path < k.number) × (is_begin k ≡ true → n < k.number)) same (h.1, h.3, h.2)
    by_place later (inr j) =
        let up = later j in (omega (arith, up.0, h.1), omega (arith, up.0, h.3), λ b. let less = up.2 b in omega (arith, less, h.1))

pub one-begin : (ls : List Placed) (n : ℕ) (path : List Open) → AreInPlace n path ls → (k l : Placed) → IsIn k ls → IsIn l ls → is_begin k ≡ true →
    l.number ≡ k.number → l ≡ k
one-begin [] n path h k l i j b e = absurd i
one-begin (m ∷ ms) n path h k l i j b e =
    by_place (λ i j. one-begin ms m.number (path_behind m) h.4 k l i j b e) i j
  where
    by_place : (IsIn k ms → IsIn l ms → l ≡ k) → (m ≡ k) ⊎ IsIn k ms → (m ≡ l) ⊎ IsIn l ms → l ≡ k
    by_place later (inl i) (inl j) = sym j ∙ i
    by_place later (inl i) (inr j) =
        let begins : is_begin m ≡ true = ap is_begin i ∙ b in
        let mine : innermost (path_behind m) ≡ m.number = rw begins refl in
        let up = above ms m.number (path_behind m) h.4 l j in
        absurd (omega (arith, up.1, mine, e, ap (λ (x : Placed). x.number) i))
    by_place later (inr i) (inl j) =
        let up = above ms m.number (path_behind m) h.4 k i in
        let less = up.2 b in
        absurd (omega (arith, less, e, ap (λ (x : Placed). x.number) j))
    by_place later (inr i) (inr j) = later i j

-- AN EVENT OR A TIME ZONE begins in none.
pub begun-outside : (b : Placed) → begins_part b ≡ true → part_in b.path ≡ None
begun-outside b e = by_part (part_in b.path) refl
  where
    by_part : (o : Option ℕ) → part_in b.path ≡ o → o ≡ None
    by_part None p = refl
    by_part (Some k) p =
        let no : begins_part b ≡ false = begins-by b ∙ ap (λ t. is_begin b && t) (none-begins b.path k p (component b)) ∙ never (is_begin b) in cc
      where
        never : (t : Bool) → (t && false) ≡ false
        never t = grind arith

part-parts : (a b : Bool) → (a && b) ≡ true → (a ≡ true) × (b ≡ true)
part-parts a b e = (grind (arith, e), grind (arith, e))

abbrev pub within : ℕ → List Open → Bool
within b path = list_any (λ c. c.begun == b) path

module _ (ls : List Placed) (h : AreInPlace 0 [] ls) where
  -- the components in which one stands are open with it
  pub within-path : (path : List Open) → AllOpened ls path → (b : Placed) → IsIn b ls → is_begin b ≡ true → within b.number path ≡ true →
      (n : ℕ) → within n b.path ≡ true → within n path ≡ true
  within-path [] all b i begins e n w = cc
  within-path (c ∷ cs) all b i begins e n w = by_test (λ t. within-path cs all.1 b i begins t n w) (c.begun == b.number) refl e
    where
      or-right : (a t : Bool) → t ≡ true → (a || t) ≡ true
      or-right a t e = grind (arith, e)

      by_test : (within b.number cs ≡ true → within n cs ≡ true) → (t : Bool) → (c.begun == b.number) ≡ t → (t || within b.number cs) ≡ true →
          ((c.begun == n) || within n cs) ≡ true
      by_test later true t e =
          let same = one-begin ls 0 [] h b all.0.begin i all.0.among begins (all.0.number ∙ eqb-true c.begun b.number t) in
          let at : within n cs ≡ true = ap (within n) (sym (all.0.path) ∙ ap (λ (x : Placed). x.path) same) ∙ w in
          or-right (c.begun == n) (within n cs) at
      by_test later false t e = or-right (c.begun == n) (within n cs) (later e)

  pub within-part : (path : List Open) → AllOpened ls path → (b : Placed) → IsIn b ls → begins_part b ≡ true → within b.number path ≡ true →
      part_in path ≡ Some b.number
  within-part [] all b i begins e = cc
  within-part (c ∷ cs) all b i begins e = by_test (λ t. within-part cs all.1 b i begins t) (c.begun == b.number) refl e
    where
      both : (is_begin b ≡ true) × (is_part b.path (component b) ≡ true)
      both = part-parts (is_begin b) (is_part b.path (component b)) (sym (begins-by b) ∙ begins)

      by_test : (within b.number cs ≡ true → part_in cs ≡ Some b.number) → (t : Bool) → (c.begun == b.number) ≡ t → (t || within b.number cs) ≡ true →
          option_or (part_in cs) (cond (is_part cs c.name) (Some c.begun) None) ≡ Some b.number
      by_test later true t e =
          let same = one-begin ls 0 [] h b all.0.begin i all.0.among both.0 (all.0.number ∙ eqb-true c.begun b.number t) in
          let path : cs ≡ b.path = sym (all.0.path) ∙ ap (λ (x : Placed). x.path) same in
          let called : c.name ≡ component b = sym (all.0.called) ∙ ap component same in
          rw (path, called, begun-outside b begins, both.1) (ap Some (eqb-true c.begun b.number t))
      by_test later false t e = rw (later e) refl

-- WHOLE COMPONENTS, by their BEGIN lines that are taken.
pub record IsFound (p : Placed → Bool) (ks : List Placed) : Type 0 where
  pub one : Placed
  pub among : IsIn one ks
  pub holds : p one ≡ true

pub any-in : (p : Placed → Bool) (ks : List Placed) (k : Placed) → IsIn k ks → p k ≡ true → list_any p ks ≡ true
any-in p [] k i e = absurd i
any-in p (m ∷ ms) k i e = by_place (λ j. any-in p ms k j e) i
  where
    or-right : (a t : Bool) → t ≡ true → (a || t) ≡ true
    or-right a t e = grind (arith, e)

    by_place : (IsIn k ms → list_any p ms ≡ true) → (m ≡ k) ⊎ IsIn k ms → (p m || list_any p ms) ≡ true
    by_place later (inl same) = let here : p m ≡ true = ap p same ∙ e in rw here refl
    by_place later (inr j) = or-right (p m) (list_any p ms) (later j)

pub in-any : (p : Placed → Bool) (ks : List Placed) → list_any p ks ≡ true → IsFound p ks
in-any p [] e = cc
in-any p (m ∷ ms) e = by_test (λ t. in-any p ms t) (p m) refl e
  where
    behind : IsFound p ms → IsFound p (m ∷ ms)
    behind f = record { one = f.one; among = inr f.among; holds = f.holds }

    by_test : (list_any p ms ≡ true → IsFound p ms) → (t : Bool) → p m ≡ t → (t || list_any p ms) ≡ true → IsFound p (m ∷ ms)
    by_test later true t e = record { one = m; among = inl refl; holds = t }
    by_test later false t e = behind (later e)

abbrev pub begins_taken : (Placed → Bool) → List Placed → ℕ → Bool
begins_taken taken ls n = list_any (λ k. is_begin k && (k.number == n && taken k)) ls

same-truth : (a b : Bool) → (a ≡ true → b ≡ true) → (b ≡ true → a ≡ true) → a ≡ b
same-truth true b f g = sym (f refl)
same-truth false true f g = g refl
same-truth false false f g = refl

module _ (taken : Placed → Bool) (ls : List Placed) (h : AreInPlace 0 [] ls) where
  three-of : (a b c : Bool) → (a && (b && c)) ≡ true → (a ≡ true) × (b ≡ true) × (c ≡ true)
  three-of a b c e = (grind (arith, e), grind (arith, e), grind (arith, e))

  pub begin-taken : (k : Placed) → IsIn k ls → is_begin k ≡ true → (n : ℕ) → k.number ≡ n → begins_taken taken ls n ≡ taken k
  begin-taken k i begins n e =
      same-truth (begins_taken taken ls n) (taken k) taken-then
      (λ t. any-in (λ m. is_begin m && (m.number == n && taken m)) ls k i (rw (begins, eq-eqb k.number n e, t) refl))
    where
      taken-then : begins_taken taken ls n ≡ true → taken k ≡ true
      taken-then t =
          let f = in-any (λ m. is_begin m && (m.number == n && taken m)) ls t in
          let all = three-of (is_begin f.one) (f.one.number == n) (taken f.one) f.holds in
          let same = one-begin ls 0 [] h f.one k f.among i all.0 (e ∙ sym (eqb-true f.one.number n all.1)) in
          ap taken same ∙ all.2

-- What holds of each line holds of all.
pub of_whole : (taken : Placed → Bool) (whole : ℕ → Bool) (ks : List Placed) → ((l : Placed) → IsIn l ks → IsOfWhole taken whole l) → AreOfWhole taken whole ks
of_whole taken whole [] each = tt
of_whole taken whole (k ∷ ks) each = (each k (inl refl), of_whole taken whole ks (λ l i. each l (inr i)))

all-taken : (taken : Placed → Bool) (e : Placed) (ks : List Placed) → ((k : Placed) → IsIn k ks → is_line_of e k ≡ true → taken k ≡ true) → AllTaken taken e ks
all-taken taken e [] each = tt
all-taken taken e (k ∷ ks) each = (each k (inl refl), all-taken taken e ks (λ l i. each l (inr i)))

pub takes_whole : (taken : Placed → Bool) (lines ks : List Placed) →
    ((e k : Placed) → IsIn e ks → IsIn k lines → begins_part e ≡ true → taken e ≡ true → is_line_of e k ≡ true → taken k ≡ true) →
    TakesWhole taken lines ks
takes_whole taken lines [] each = tt
takes_whole taken lines (e ∷ es) each =
    (λ b t. all-taken taken e lines (λ k i. each e k (inl refl) i b t), takes_whole taken lines es (λ m k i. each m k (inr i)))
