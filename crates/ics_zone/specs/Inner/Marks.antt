-- The onsets of an hour that show later locals than one, and the marks at those that do not.
use Rattle.std.specs.Prelude.{◌≡◌, ℕ, ◌/◌, ◌%◌, ◌⊎◌, Bool, true, List, slice_index_or, ℤ, pos, ◌+ℤ◌, ◌<ℤ◌, ◌≤ℤ◌}
use Rattle.std.specs.List.{Contains}
use Rattle.ics_fields.specs.Sets.{contains}
use Rattle.ics_zone.specs.declared.onsets.Onsets.{Onsets}
use Rattle.ics_zone.specs.Inner.OnsetSets.{Has, IsKeptAt}

-- the k-th second of an hour is marked, which has a word for each minute
abbrev pub is_marked : List ℕ → ℕ → Bool
is_marked marks k = contains (slice_index_or marks (k / 60) 0) (k % 60)

abbrev pub IsMarked : List ℕ → ℕ → Type 0
IsMarked marks k = is_marked marks k ≡ true

-- t is a listed onset or, where the rule is asked too, one of the rule
abbrev pub IsAsked : Onsets → Bool → ℤ → Type 0
IsAsked onsets with_rule t = Contains onsets.listed.items t ⊎ ((with_rule ≡ true) × IsKeptAt onsets t)

-- a second that is marked now was marked before, or the observance has an onset there that does not show a later local
abbrev pub AreMarks : Onsets → ℤ → ℤ → List ℕ → List ℕ → Type 0
AreMarks onsets local from before now =
    (k : ℕ) → IsMarked now k → IsMarked before k ⊎ (Has onsets (from +ℤ pos k) × ((from +ℤ pos k +ℤ onsets.offset_to) ≤ℤ local))

-- each onset of the observance from an instant on and before another that shows a later local is marked
abbrev pub AreClear : Onsets → ℤ → ℤ → List ℕ → ℤ → Type 0
AreClear onsets local from marks next =
    (k : ℕ) → Has onsets (from +ℤ pos k) → (from +ℤ pos k) <ℤ next → local <ℤ (from +ℤ pos k +ℤ onsets.offset_to) → IsMarked marks k
