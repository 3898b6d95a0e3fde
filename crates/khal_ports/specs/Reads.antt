-- The reads of a source: each file once, in order.
use Rattle.std.specs.Prelude.{◌≡◌, ◌⊎◌, ◌+◌, ◌≤◌, ◌<◌, ℕ, List, [], ◌∷◌, Some, Err, length}
use Rattle.khal_ports.specs.Answers.{Answer, Contents, contents_of}
use Rattle.khal_ports.specs.declared.fault.SourceFault.TheVariants.{Memory}

-- each index from i on is read once, in order, from one state to the next, and no allocation fails in these reads
abbrev pub ReadsFrom : {S : Type 0} → (S → ℕ → Answer → S → Type 0) → S → ℕ → List Contents → S → Type 0
ReadsFrom reads before i [] after = after ≡ before
ReadsFrom {S} reads before i (given ∷ contents) after =
    (answer : Answer) × (next : S) × reads before i answer next × (contents_of answer ≡ Some given) × ReadsFrom reads next (i + 1) contents after

-- The first files are read, from one state to another. A read in which an allocation failed is the last, and gave nothing.
pub record ReadsSome {S : Type 0} (reads : S → ℕ → Answer → S →
    Type 0) (names : List (List ℕ)) (before : S) (contents : List Contents) (after : S) : Type 0 where
  pub last : S
  pub from_first : ReadsFrom reads before 0 contents last
  pub ended : ((after ≡ last) × (length contents ≤ length names))
      ⊎ (reads last (length contents) (Err Memory) after × (length contents < length names))

-- every file is read
pub record ReadsAll {S : Type 0} (reads : S → ℕ → Answer → S →
    Type 0) (names : List (List ℕ)) (before : S) (contents : List Contents) (after : S) : Type 0 where
  pub from_first : ReadsFrom reads before 0 contents after
  pub each : length contents ≡ length names
