-- What of a file is handed on.
use Rattle.std.proofs.Common.{◌≡◌, ◌≤◌, ◌+◌, ◌-◌, ℕ, List, [], ◌++◌, length, arith, length-append}
use Rattle.khal_ports.specs.Answers.{most_bytes, Takes, TakesFile}

-- these bytes are, and so many more may be
abbrev pub HandedOn : {S P : Type 0} → (S → List ℕ → P → Type 0) → P → P → ℕ → Type 0
HandedOn {S} took first now left =
    (bytes : List ℕ) × (length bytes + left ≡ most_bytes) × ((setting : S) → took setting [] first → took setting bytes now)

-- and a piece more
pub and-piece : {S P : Type 0} (took : S → List ℕ → P → Type 0) {first before after : P} {left count : ℕ} {piece : List ℕ}
    → HandedOn took first before left → Takes took before piece after → length piece ≡ count → count ≤ left → HandedOn took first after (left - count)
and-piece took {left = left} {count = count} {piece = piece} (bytes, short, told) takes long fits = (
  bytes ++ piece,
  omega (arith, length-append bytes piece, short, long, fits),
  λ setting none. takes setting bytes (told setting none) (omega (arith, short, long, fits)),
)

-- all of it is
pub all-handed : {S P : Type 0} (took : S → List ℕ → P → Type 0) {first now : P} (left : ℕ) → HandedOn took first now left
    → (bytes : List ℕ) × TakesFile took first bytes now
all-handed took left (bytes, short, told) = (bytes, (omega (arith, short), told))
