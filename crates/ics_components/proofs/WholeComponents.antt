-- Lines in their places of which some whole components are taken are in their places.
use Rattle.std.proofs.Common.{◌≡◌, ℕ, Bool, true, false, ◌&&◌, List, [], ◌∷◌, drop, filter, refl, sym, ap, ◌∙◌, arith, cond, subst}
use Rattle.std.specs.List.{list_all}
use Rattle.ics_components.specs.EventLines.{path_at_end}
use Rattle.ics_components.specs.Parted.{AreInPlace}
use Rattle.ics_components.specs.PlacedLines.{Placed, Open, component, is_begin, is_end, path_behind}
use Rattle.ics_components.proofs.Placing.{from-less}

-- Whether a line is taken, and whether the component is that begins on a line: a line is taken only in components that are, and BEGIN and END of one
-- are taken with it.
pub record IsOfWhole (taken : Placed → Bool) (whole : ℕ → Bool) (l : Placed) : Type 0 where
  pub begins : is_begin l ≡ true → taken l ≡ whole l.number
  pub inside : taken l ≡ true → list_all (λ c. whole c.begun) l.path ≡ true
  pub ends : is_end l ≡ true → (c : Open) (cs : List Open) → l.path ≡ c ∷ cs → taken l ≡ whole c.begun

abbrev pub AreOfWhole : (Placed → Bool) → (ℕ → Bool) → List Placed → Type 0
AreOfWhole taken whole [] = Unit {0}
AreOfWhole taken whole (l ∷ ls) = IsOfWhole taken whole l × AreOfWhole taken whole ls

module _ (taken : Placed → Bool) (whole : ℕ → Bool) where
  abbrev all_whole : List Open → Bool
  all_whole path = list_all (λ c. whole c.begun) path

  -- the components that are open among those that are taken
  abbrev kept : List Open → List Open
  kept [] = []
  kept (c ∷ cs) = cond (all_whole (c ∷ cs)) (c ∷ cs) (kept cs)

  kept-all : (path : List Open) → all_whole path ≡ true → kept path ≡ path
  kept-all [] e = refl
  kept-all (c ∷ cs) e = rw e refl

  kept-less : (c : Open) (cs : List Open) → whole c.begun ≡ false → kept (c ∷ cs) ≡ kept cs
  kept-less c cs e = rw e refl

  less-whole : (path : List Open) → all_whole path ≡ true → all_whole (drop 1 path) ≡ true
  less-whole [] e = refl
  less-whole (c ∷ cs) e = second (whole c.begun) (all_whole cs) e
    where
      second : (a b : Bool) → (a && b) ≡ true → b ≡ true
      second a b e = grind (arith, e)

  -- behind a line that is taken, and behind one that is not
  behind-taken : (l : Placed) → IsOfWhole taken whole l → taken l ≡ true → all_whole (path_behind l) ≡ true
  behind-taken l w t = by_kind (is_begin l) (is_end l) refl
    where
      by_kind : (b e : Bool) → is_begin l ≡ b →
          all_whole (cond b (record { name = component l; begun = l.number } ∷ l.path) (cond e (drop 1 l.path) l.path)) ≡ true
      by_kind true e b = rw (sym (w.begins b) ∙ t) (w.inside t)
      by_kind false true b = less-whole l.path (w.inside t)
      by_kind false false b = w.inside t

  behind-left : (l : Placed) → IsOfWhole taken whole l → taken l ≡ false → kept (path_behind l) ≡ kept l.path
  behind-left l w t = by_kind (is_begin l) (is_end l) refl refl
    where
      by_path : (path : List Open) → l.path ≡ path → is_end l ≡ true → kept (drop 1 path) ≡ kept path
      by_path [] at e = refl
      by_path (c ∷ cs) at e = sym (kept-less c cs (sym (w.ends e c cs at) ∙ t))

      by_kind : (b e : Bool) → is_begin l ≡ b → is_end l ≡ e →
          kept (cond b (record { name = component l; begun = l.number } ∷ l.path) (cond e (drop 1 l.path) l.path)) ≡ kept l.path
      by_kind true e b d = kept-less (record { name = component l; begun = l.number }) l.path (sym (w.begins b) ∙ t)
      by_kind false true b d = by_path l.path refl d
      by_kind false false b d = refl

  placed-still : (ls : List Placed) (n : ℕ) (path : List Open) → AreInPlace n path ls → AreOfWhole taken whole ls →
      AreInPlace n (kept path) (filter taken ls)
  placed-still [] n path h w = tt
  placed-still (l ∷ ls) n path h w = by_test (taken l) refl (placed-still ls l.number (path_behind l) h.4 w.1)
    where
      by_test : (t : Bool) → taken l ≡ t → AreInPlace l.number (kept (path_behind l)) (filter taken ls) →
          AreInPlace n (kept path) (cond t (l ∷ filter taken ls) (filter taken ls))
      by_test true t later =
          let same : kept path ≡ path = kept-all path (ap all_whole (sym h.0) ∙ w.0.inside t) in
          rw same (
            h.0,
            h.1,
            h.2,
            h.3,
            subst (λ (p : List Open). AreInPlace l.number p (filter taken ls)) (kept-all (path_behind l) (behind-taken l w.0 t)) later,
          )
      by_test false t later =
          let same : kept (path_behind l) ≡ kept path = behind-left l w.0 t ∙ ap kept h.0 in
          from-less (filter taken ls) n l.number (kept path) h.1 (subst (λ (p : List Open). AreInPlace l.number p (filter taken ls)) same later)

  pub whole_in_place : (ls : List Placed) → AreInPlace 0 [] ls → AreOfWhole taken whole ls → AreInPlace 0 [] (filter taken ls)
  whole_in_place ls h w = placed-still ls 0 [] h w

  -- at their end those are open that are taken of those that are open
  ends-still : (ls : List Placed) (n : ℕ) (path : List Open) → AreInPlace n path ls → AreOfWhole taken whole ls →
      path_at_end (kept path) (filter taken ls) ≡ kept (path_at_end path ls)
  ends-still [] n path h w = refl
  ends-still (l ∷ ls) n path h w = by_test (taken l) refl (ends-still ls l.number (path_behind l) h.4 w.1)
    where
      by_test : (t : Bool) → taken l ≡ t → path_at_end (kept (path_behind l)) (filter taken ls) ≡ kept (path_at_end (path_behind l) ls) →
          path_at_end (kept path) (cond t (l ∷ filter taken ls) (filter taken ls)) ≡ kept (path_at_end (path_behind l) ls)
      by_test true t later = ap (λ p. path_at_end p (filter taken ls)) (sym (kept-all (path_behind l) (behind-taken l w.0 t))) ∙ later
      by_test false t later = ap (λ p. path_at_end p (filter taken ls)) (sym (behind-left l w.0 t ∙ ap kept h.0)) ∙ later

  pub whole_ends : (ls : List Placed) → AreInPlace 0 [] ls → AreOfWhole taken whole ls → path_at_end [] ls ≡ [] → path_at_end [] (filter taken ls) ≡ []
  whole_ends ls h w e = ends-still ls 0 [] h w ∙ ap kept e
