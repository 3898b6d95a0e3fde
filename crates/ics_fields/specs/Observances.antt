-- What an observance of a VTIMEZONE says (RFC 5545, section 3.6.5).
use Rattle.std.specs.Prelude.{Bool, true, false, List, Option, Some, None, ℤ, All}
use Rattle.jiff_core.specs.Calendar.{IsWithin}
use Rattle.ics_fields.specs.Days.{IsStampDay}
use Rattle.ics_fields.specs.RuleParts.{RuleParts}
use Rattle.ics_fields.specs.declared.frequency.Frequency.{Frequency}
use Rattle.ics_fields.specs.declared.frequency.Frequency.TheVariants.{Secondly, Minutely, Hourly}
use Rattle.ics_fields.specs.declared.local.Local.{Local}

-- what an observance says: when it begins, and the offsets before and after that
pub record ObservanceSaid : Type 0 where
  pub start : Local
  pub offset_from : ℤ
  pub offset_to : ℤ
  pub rule : Option RuleParts
  pub rdates : List Local

-- an observance begins in the years 0001 to 9899, and its offsets are less than a day
pub record IsObservanceSaid (p : ObservanceSaid) : Type 0 where
  pub start_in : IsStampDay p.start.day
  pub from_in : IsWithin 86_399 p.offset_from
  pub to_in : IsWithin 86_399 p.offset_to

-- the same, and its RDATEs are of these years
pub record IsObservance (p : ObservanceSaid) : Type 0 where
  pub bounds : IsObservanceSaid p
  pub rdates_in : All (λ (rdate : Local). IsStampDay rdate.day) p.rdates

-- the rule repeats more often than daily
abbrev pub is_finer_than_daily : Frequency → Bool
is_finer_than_daily Secondly = true
is_finer_than_daily Minutely = true
is_finer_than_daily Hourly = true
is_finer_than_daily frequency = false

abbrev pub is_finer_rule : Option RuleParts → Bool
is_finer_rule None = false
is_finer_rule (Some parts) = is_finer_than_daily parts.frequency

abbrev pub has_finer_rule : ObservanceSaid → Bool
has_finer_rule p = is_finer_rule p.rule
