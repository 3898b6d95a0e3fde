-- The offset of a clock at each second of some days.
use Rattle.std.specs.Prelude.{◌≡◌, ℕ, ◌<◌, length, slice_index_or, ℤ, pos, ◌+ℤ◌}
use Rattle.ics_zone.specs.declared.seconds.OffsetEachSecond.{OffsetEachSecond}

-- the k-th offset is the one that the clock has k seconds after the first instant
abbrev pub TellsOffsets : (ℤ → ℤ) → OffsetEachSecond → Type 0
TellsOffsets offset list = (k : ℕ) (d : ℤ) → k < length list.offsets.items → slice_index_or list.offsets.items k d ≡ offset (list.from +ℤ pos k)
