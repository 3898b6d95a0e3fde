use Rattle.std.proofs.Common.{rules, inl, inr, ◌≤ℤ◌, ◌≡◌, ℤ, get_or, arith, w64}
use Rattle.std.proofs.lemmas.Int.{ints, to_z-of_z}
use Rattle.std.proofs.lemmas.List.{get_or_default}
use Rattle.ics_zone.specs.declared.onsets.Onsets.{Onsets}
use Rattle.ics_zone.specs.Inner.OnsetSets.{Has, IsSound}
use Rattle.ics_zone.proofs.onsets.Onsets.first.Goals as goal

first_is : (s : Onsets) → IsSound s → (f : ℤ) → f ≡ get_or s.listed.items 0 f → (t : ℤ) → Has s t → f ≤ℤ t
first_is s sound f is t (inl h) =
    let low = sound.in_order 0 h.0 t (omega arith) h.1 in
    let same = get_or_default s.listed.items 0 t f sound.some in
    omega (arith, ints)
first_is s sound f is t (inr h) = let low = sound.first t f h in omega (arith, ints)

pub returns-clause-first : goal.returns-clause-first
returns-clause-first c = rw (to_z-of_z w64 c.index.result.now (search rules)) (first_is c.args.self.now c.requires c.index.result.now c.index.ensures)
