-- Stretches of the clock of a zone file, told of a part of its table.
use Rattle.std.specs.Prelude.{◌≡◌, ℕ, ◌-◌, ◌<◌, ◌≤◌, length, ℤ, ◌+ℤ◌, ◌-ℤ◌, ◌≤ℤ◌}
use Rattle.jiff_core.specs.Timestamp.{nanos_of_seconds}
use Rattle.jiff_tz.specs.PosixRule.{match_some}
use Rattle.jiff_tz.specs.TzifReader.{TzifText}
use Rattle.jiff_tz.specs.TzifText.{TransitionText}
use Rattle.ics_zone.specs.Stretches.{IsStretch}
use Rattle.ics_zone.specs.ZoneFiles.{row_at, offset_after, rule_after, rule_type, rule_reading}
use Rattle.ics_zone.specs.declared.stretch.Stretch.{Stretch}

-- the offset at an instant, and the one by which a local outside gaps and folds is read, as they are after so many transitions
abbrev pub offset_past : TzifText → ℕ → ℤ → ℤ
offset_past file count t = match_some (rule_after file count) (offset_after file count) (λ rule. (rule_type rule (nanos_of_seconds t)).seconds)

abbrev pub reading_past : TzifText → ℕ → ℤ → ℤ
reading_past file count local =
    match_some (rule_after file count) (offset_after file count) (λ rule. rule_reading rule.std_seconds rule.dst (nanos_of_seconds local))

-- the local that the clock would show at a transition by the offset before it: where its gap begins, or where its fold ends
abbrev pub left_at : TransitionText → ℤ
left_at row = row.second +ℤ row.before

-- the transition is the last of so many
pub record IsLastOf (file : TzifText) (count : ℕ) (row : TransitionText) : Type 0 where
  pub some : 0 < count
  pub within : count ≤ length file.transitions
  pub is : row_at file (count - 1) ≡ row

-- a stretch of this, which ends where the gap of the next transition begins or where its fold ends, and has the offset before it
pub record IsStretchAfter (file : TzifText) (count : ℕ) (s : Stretch) : Type 0 where
  pub stretch : IsStretch (offset_past file count) (λ local. local -ℤ reading_past file count local) s
  pub ends : count < length file.transitions → s.to ≤ℤ left_at (row_at file count)
  pub before : count < length file.transitions → s.offset ≡ (row_at file count).before
