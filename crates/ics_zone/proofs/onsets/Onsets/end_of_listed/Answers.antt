use Rattle.std.proofs.Common.{rules, ℕ, ◌-◌, ◌≤ℤ◌, ◌≡◌, ℤ, Contains, get_or, length, arith, w64}
use Rattle.std.proofs.lemmas.Int.{ints, to_z-of_z}
use Rattle.std.proofs.lemmas.List.{get_or_default}
use Rattle.ics_zone.specs.declared.onsets.Onsets.{Onsets}
use Rattle.ics_zone.specs.Inner.OnsetSets.{IsSound}
use Rattle.ics_zone.proofs.onsets.Onsets.end_of_listed.Goals as goal

last_is : (s : Onsets) → IsSound s → (l : ℤ) (k : ℕ) → k ≡ length s.listed.items → l ≡ get_or s.listed.items (k - 1) l → (t : ℤ)
    → Contains s.listed.items t → t ≤ℤ l
last_is s sound l k all is t h =
    let some = sound.some in
    let inside = h.1 in
    let up = sound.in_order h.0 (k - 1) t (omega (arith, inside, all)) (omega (arith, some, all)) in
    let same = get_or_default s.listed.items (k - 1) t l (omega (arith, some, all)) in
    omega (arith, ints, inside, up, same, is)

pub returns : goal.returns
returns c =
    rw (to_z-of_z w64 c.index.result.now (search rules)) (last_is c.args.self.now c.requires c.index.result.now _ c.args.self.now.listed.ok.0
    (rw c.len.ensures at c.index.ensures))
