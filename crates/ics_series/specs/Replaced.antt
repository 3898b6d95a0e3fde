-- The instances of a UID that overrides replace.
use Rattle.std.specs.Prelude.{◌≡◌, ◌↔◌, ℕ, ℤ, List, false}
use Rattle.std.proofs.Props.{props}
use Rattle.ics_file.specs.File.{FileSaid}
use Rattle.ics_listing.specs.FileClocks.{Clock}
use Rattle.ics_series.specs.Chosen.{IsOverridden}
use Rattle.ics_starts.specs.Exclusions.{is_among}

-- the instants are those of the instances of this UID that overrides replace
pub record AreReplaced (files : List FileSaid) (display : Clock) (uid : List ℕ) (replaced : List ℤ) : Type 0 where
  pub each : (t : ℤ) → (is_among replaced t ≡ false) ↔ (IsOverridden files display uid t → ⊥)

pub replaced-prop : (files : List FileSaid) (display : Clock) (uid : List ℕ) (replaced : List ℤ) → IsProp (AreReplaced files display uid replaced)
replaced-prop files display uid replaced = hlevel props
