-- A part that lists nothing is the empty one.
use Rattle.std.proofs.Common.{◌≡◌, ℕ, zero, suc, true, List, [], ◌∷◌, length, refl, arith}
use Rattle.std.proofs.lemmas.Bool.{and_parts, eqb-true}
use Rattle.ics_fields.specs.Ordinals.{no_ordinals, all_list_none, lists_none}
use Rattle.ics_fields.specs.Sets.{is_empty}
use Rattle.ics_fields.specs.declared.ordinals.Ordinals.{Ordinals}

-- a part that lists nothing is the empty one
pub no-ordinal : (o : Ordinals) → lists_none o ≡ true → o ≡ no_ordinals
no-ordinal o none =
    let both = and_parts (is_empty o.front) (is_empty o.back) none in
    let front = eqb-true o.front 0 both.0 in
    let back = eqb-true o.back 0 both.1 in
    λ i. record { front = front i; back = back i }

abbrev pub nothing : ℕ → List Ordinals
nothing zero = []
nothing (suc n) = no_ordinals ∷ nothing n

pub no-numbers : (n : ℕ) (os : List Ordinals) → length os ≡ n → all_list_none os ≡ true → os ≡ nothing n
no-numbers zero [] long none = refl
no-numbers zero (o ∷ os) long none = absurd (omega arith)
no-numbers (suc n) [] long none = absurd (omega arith)
no-numbers (suc n) (o ∷ os) long none =
    let both = and_parts (lists_none o) (all_list_none os) none in
    let first = no-ordinal o both.0 in
    let rest = no-numbers n os (omega arith) both.1 in
    λ i. first i ∷ rest i
