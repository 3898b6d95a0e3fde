-- The zone files that a run asks for: the names that its files want, each once, in order.
use Rattle.std.specs.Prelude.{◌≡◌, ◌⊎◌, ℕ, Bool, true, false, List, [], ◌∷◌, ◌++◌, ◌&&◌, map, Some, Err, if◌then◌else◌}
use Rattle.std.specs.List.{list_any}
use Rattle.std.specs.Str.{bytes_eq}
use Rattle.ics_calendar.specs.GivenFiles.{GivenFiles, no_files, with_file}
use Rattle.khal_ports.specs.Finds.{FindAnswer, Found, found_of}
use Rattle.khal_ports.specs.declared.fault.SourceFault.TheVariants.{Memory}

-- a name that was asked for, and what was found
abbrev pub Asked : Type 0
Asked = List ℕ × Found

abbrev pub names_of : List Asked → List (List ℕ)
names_of asked = map (λ one. one.0) asked

-- the zone files that are given so far, and those of what was found next
abbrev pub with_found : GivenFiles → Asked → GivenFiles
with_found files (name, Found.Given bytes) = with_file files name bytes
with_found files (name, Found.Absent) = files
with_found files (name, Found.Unread) = files

abbrev pub given_from : GivenFiles → List Asked → GivenFiles
given_from files [] = files
given_from files (one ∷ asked) = given_from (with_found files one) asked

-- THE ZONE FILES that were found.
abbrev pub given_files : List Asked → GivenFiles
given_files asked = given_from no_files asked

abbrev pub was_unread : Found → Bool
was_unread Found.Unread = true
was_unread _ = false

-- the zone file of this name was not read
abbrev pub is_unread : List Asked → List ℕ → Bool
is_unread asked name = list_any (λ one. bytes_eq name one.0 && was_unread one.1) asked

-- the names and one more, unless it is among them
abbrev pub and_name : List (List ℕ) → List ℕ → List (List ℕ)
and_name names name = if list_any (bytes_eq name) names then names else names ++ name ∷ []

-- the names and others, each once
abbrev pub and_names : List (List ℕ) → List (List ℕ) → List (List ℕ)
and_names names [] = names
and_names names (name ∷ more) = and_names (and_name names name) more

-- each name is asked for, from one state to the next, and no allocation fails
abbrev pub FindsEach : {Z : Type 0} → (Z → List ℕ → FindAnswer → Z → Type 0) → Z → List Asked → Z → Type 0
FindsEach finds before [] after = after ≡ before
FindsEach {Z} finds before (one ∷ asked) after =
    (answer : FindAnswer) × (next : Z) × finds before one.0 answer next × (found_of answer ≡ Some one.1) × FindsEach finds next asked after

-- Of the names that are wanted those that were not asked for are asked for, each once, in order.
pub record AsksAll {Z : Type 0} (finds : Z → List ℕ → FindAnswer → Z →
    Type 0) (asked : List Asked) (wanted : List (List ℕ)) (before : Z) (more : List Asked) (after : Z) : Type 0 where
  pub each : FindsEach finds before more after
  pub names : names_of (asked ++ more) ≡ and_names (names_of asked) wanted

-- The first of them are asked for. One for which an allocation failed is the last, and found nothing.
pub record AsksSome {Z : Type 0} (finds : Z → List ℕ → FindAnswer → Z →
    Type 0) (asked : List Asked) (wanted : List (List ℕ)) (before : Z) (more : List Asked) (after : Z) : Type 0 where
  pub last : Z
  pub each : FindsEach finds before more last
  pub rest : List (List ℕ)
  pub names : names_of (asked ++ more) ++ rest ≡ and_names (names_of asked) wanted
  pub ended : (after ≡ last) ⊎ ((name : List ℕ) × (others : List (List ℕ)) × (rest ≡ name ∷ others) × finds last name (Err Memory) after)
