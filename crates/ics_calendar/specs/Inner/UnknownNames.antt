-- Names of time zones that are gathered, each once.
use Rattle.std.specs.Prelude.{◌≡◌, ℕ, List, [], ◌∷◌, Option, Some, None}
use Rattle.std.specs.BTreeSet.{contains}
use Rattle.std.specs.Cmp.Lexicographic.{slice_cmp}
use Rattle.std.specs.List.{list_any}
use Rattle.std.specs.Ordering.{nat_cmp}
use Rattle.std.specs.Str.{bytes_eq}
use Rattle.ics_calendar.specs.declared.unknown_zones.UnknownNames.{UnknownNames}
use Rattle.ics_calendar.specs.Wanted.{each_once}

-- These are the names, and the set says of each whether it is one of them.
pub record AreNames (names : List (List ℕ)) (unknown : UnknownNames) : Type 0 where
  pub once : unknown.names.items ≡ each_once names
  pub seen : (name : List ℕ) → contains (slice_cmp nat_cmp) unknown.seen name ≡ list_any (bytes_eq name) names

-- the name, if there is one
abbrev pub name_in : Option (List ℕ) → List (List ℕ)
name_in None = []
name_in (Some name) = name ∷ []
