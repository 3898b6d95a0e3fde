-- That a search under COUNT can go on from a mark.
use Rattle.std.proofs.Common.{◌≡◌, ℕ, Option, Some, None, is_some, true, false, refl}
use Rattle.ics_rule.specs.Cursors.{looks_from}

-- under COUNT a search looks from the start on, wherever it begins
pub looks-counted : (o : Option ℕ) (start a b : ℕ) → is_some o ≡ true → looks_from o start a ≡ looks_from o start b
looks-counted None start a b h = let f : false ≡ true = h in absurd cc
looks-counted (Some c) start a b h = refl
