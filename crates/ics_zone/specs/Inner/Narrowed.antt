-- Stretches of locals that are cut to what one offset after the other shows.
use Rattle.std.specs.Prelude.{◌≡◌, ◌≢◌, ℕ, ◌<◌, ◌⊎◌, List, slice_index_or, ℤ, pos, neg_ℤ, ◌-ℤ◌, ◌<ℤ◌, ◌≤ℤ◌}
use Rattle.ics_zone.specs.declared.stretch.Stretch.{Stretch}

-- an offset shows each local of a stretch that was cut, and is its offset, or it shows none, and the stretch keeps the offset that it had
abbrev pub IsNarrowed : (ℤ → ℤ) → ℤ → Stretch → Stretch → Type 0
IsNarrowed clock offset was now = (local : ℤ) → now.from ≤ℤ local → local <ℤ now.to
    → ((now.offset ≡ offset) × (clock (local -ℤ offset) ≡ offset)) ⊎ ((now.offset ≡ was.offset) × (clock (local -ℤ offset) ≢ offset))

-- of the first `count` offsets none that is greater than the stretch's shows one of its locals; its own shows each of them, if it has one
pub record IsGreatestOf (clock : ℤ → ℤ) (offsets : List ℤ) (count : ℕ) (s : Stretch) : Type 0 where
  pub unseen : (k : ℕ) (d local : ℤ) → k < count → s.from ≤ℤ local → local <ℤ s.to
      → (slice_index_or offsets k d ≤ℤ s.offset) ⊎ (clock (local -ℤ slice_index_or offsets k d) ≢ slice_index_or offsets k d)
  pub shown : neg_ℤ (pos 86_400) <ℤ s.offset → (local : ℤ) → s.from ≤ℤ local → local <ℤ s.to → clock (local -ℤ s.offset) ≡ s.offset
