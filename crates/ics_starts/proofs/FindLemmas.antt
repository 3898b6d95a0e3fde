-- What searches of a rule find, put together.
use Rattle.std.proofs.Common.{◌≡◌, ℕ, zero, suc, ◌<◌, ◌≤◌, List, ◌∷◌, [], ◌++◌, take, Option, Some, None, MatchOption}
use Rattle.std.proofs.Common.{is_some, true, false, slice_get, arith, refl, subst, ⊎_elim}
use Rattle.std.proofs.lemmas.Bool.{cases_lt}
use Rattle.std.proofs.lemmas.List.Elements.{All-from_recursion, All-take, recursion_from_All}
use Rattle.ics_fields.specs.Locals.{number}
use Rattle.ics_fields.specs.declared.local.Local.{Local}
use Rattle.ics_period.specs.Recurrence.{Recurrence}
use Rattle.ics_rule.specs.Cursors.{place_of, HasLooked, IsCursorOf}
use Rattle.ics_rule.specs.Next.{NoneKept}
use Rattle.ics_rule.specs.declared.cursor.Cursor.{Cursor}
use Rattle.ics_starts.specs.Inner.Finds.{IsFound, IsStep}
use Rattle.ics_starts.specs.Inner.KeptFinds.{AreFinds, IsFind}
use Rattle.ics_starts.specs.declared.kept_locals.Find.{Find}
use Rattle.ics_listing.proofs.LeadLemmas.{all-pushed}

module _ (rule : Recurrence) where
  none-on : (from mid to : ℕ) → NoneKept rule from mid → NoneKept rule mid to → NoneKept rule from to
  none-on from mid to a b n l u = ⊎_elim (λ e. a n l e) (λ e. b n e u) (cases_lt n mid)

  -- where none is kept before what is found both are found as one
  pub found-on : (from mid to : ℕ) (answer : Option Local) → from ≤ mid → NoneKept rule from mid → IsFound rule mid to answer → IsFound rule from to answer
  found-on from mid to None l a b = none-on from mid to a b
  found-on from mid to (Some local) l a b =
      let next = b.1.0 in (
        b.0,
        (
          record {
            kept = next.kept;
            from_place = omega (arith, next.from_place, l);
            in_bound = next.in_bound;
            least = none-on from mid
                (number local) a next.least;
          },
          b.1.1,
        ),
      )

  -- what is found from a local on is found from a later one on, if that is before the end
  pub found-from : (from place to : ℕ) (answer : Option Local) → from ≤ place → place < to → IsFound rule from to answer → IsFound rule place to answer
  found-from from place to None l u f = λ n a b. f n (omega (arith, l, a)) b
  found-from from place to (Some local) l u f =
      let next = f.1.0 in (
        f.0,
        (
          record {
            kept = next.kept;
            from_place = omega (arith, u, f.1.1);
            in_bound = next.in_bound;
            least = λ n a b. next.least n (omega (arith, l, a)) b;
          },
          f.1.1,
        ),
      )

  -- and none is found before a bound that is not past the end
  pub none-from : (from place to bound : ℕ) (answer : Option Local) → from ≤ place → bound < to → IsFound rule from to answer → NoneKept rule place bound
  none-from from place to bound None l u f = λ n a b. f n (omega (arith, l, a)) (omega (arith, b, u))
  none-from from place to bound (Some local) l u f = λ n a b. f.1.0.least n (omega (arith, l, a)) (omega (arith, b, u, f.1.1))

  -- a find without a local has none
  pub none-found : (from to : ℕ) (answer : Option Local) → is_some answer ≡ false → IsFound rule from to answer → NoneKept rule from to
  none-found from to None e f = f
  none-found from to (Some local) e f = let no : true ≡ false = e in absurd cc

  pub found-placed : {from to a b : ℕ} (answer : Option Local) → from ≡ a → to ≡ b → IsFound rule a b answer → IsFound rule from to answer
  found-placed answer e f h = rw (e, f) h

  -- a step is one still once its cursor has learnt more
  pub step-on : {bound : ℕ} {before now more : Cursor} (answer : Option Local) → place_of more ≡ place_of now → IsCursorOf rule more
      → ((a b : ℕ) → HasLooked rule now a b → HasLooked rule more a b) → IsStep rule bound answer before now → IsStep rule bound answer before more
  step-on answer same own looked step = record {
    found = found-placed answer refl same step.found;
    later = omega (arith, same, step.later);
    within = omega (arith, same, step.within);
    own = own;
    looked = λ from b l h. looked _ b (step.looked from b (omega (arith, same, l)) h);
  }

  -- what is found at a place of a list is so
  pub find-in : (finds : List Find) (at : ℕ) (find : Find) → AreFinds rule finds → slice_get finds at ≡ Some find → IsFind rule find
  find-in [] at find are e = let f : None ≡ Some find = e in absurd cc
  find-in (x ∷ finds) zero find are e = subst (λ o. MatchOption o (Unit {0}) (IsFind rule)) e are.0
  find-in (x ∷ finds) (suc at) find are e = find-in finds at find are.1 e

  pub found-at : (finds : List Find) (at : ℕ) (result : Option Find) → AreFinds rule finds
      → MatchOption result (Unit {0}) (λ find. slice_get finds at ≡ Some find)
      → MatchOption result (Unit {0}) (IsFind rule)
  found-at finds at None are h = tt
  found-at finds at (Some find) are h = find-in finds at find are h

  pub finds-taken : (n : ℕ) (finds : List Find) → AreFinds rule finds → AreFinds rule (take n finds)
  finds-taken n finds are = recursion_from_All (IsFind rule) (take n finds) (All-take (IsFind rule) n finds (All-from_recursion (IsFind rule) finds are))

  pub finds-pushed : (finds : List Find) (find : Find) → AreFinds rule finds → IsFind rule find → AreFinds rule (finds ++ find ∷ [])
  finds-pushed finds find are is = all-pushed (IsFind rule) finds find are is
