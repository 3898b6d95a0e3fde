-- Locals whose instants are known.
use Rattle.std.specs.Prelude.{List, ℤ}
use Rattle.std.specs.List.{All}
use Rattle.ics_zone.specs.declared.answers.Answer.{Answer}
use Rattle.ics_zone.specs.Observances.{ObservanceSaid}
use Rattle.ics_zone.specs.ZoneOffsets.{zone_offset}
use Rattle.ics_zone.specs.Moments.{IsMomentBy}

-- each instant is the one that its local means on a clock with changing offsets
abbrev pub AreAnswersBy : (ℤ → ℤ) → List Answer → Type 0
AreAnswersBy offset answers = All (λ (a : Answer). IsMomentBy offset a.seconds a.moment) answers

-- the same in a zone
abbrev pub AreAnswers : List ObservanceSaid → List Answer → Type 0
AreAnswers zone answers = AreAnswersBy (zone_offset zone) answers
