-- The parts' round over the lines of a front: no event of them is read again.
use Rattle.std.specs.Prelude.{◌≡◌, ℕ, Bool, true, false, List, [], ◌∷◌, ◌++◌, Option, Some, None, Result, Err, if◌then◌else◌, option_map}
use Rattle.std.specs.Option.{option_or}
use Rattle.ics_values.specs.KeptTexts.{KeptTexts, all_texts}
use Rattle.ics_components.specs.declared.fault.FaultKind.TheVariants.{BadLine}
use Rattle.ics_components.specs.declared.fault.FileFault.{FileFault}
use Rattle.ics_components.specs.declared.fault.FileFault.TheVariants.{At, Memory}
use Rattle.ics_components.specs.declared.first_round.FirstRound.{FirstRound}
use Rattle.ics_components.specs.declared.frame.Frame.{Frame}
use Rattle.ics_components.specs.EventLines.{is_uid}
use Rattle.ics_components.specs.FrontSeen.{FrontSeen}
use Rattle.ics_components.specs.Inner.FrontParts.{front_behind, front_read, has_events}
use Rattle.ics_components.specs.Inner.PartsPass.{PartSeen, RoundSeen, and_closed, and_outside, by_part, closes_part, goes_on}
use Rattle.ics_components.specs.Inner.PartsPass.{part_begun, round_over, with_line}
use Rattle.ics_components.specs.ParsedFileSeen.{ParsedFileSeen}
use Rattle.ics_components.specs.Parted.{Broken, LinesRead, PartedFileSeen, Reads, read_behind}
use Rattle.ics_components.specs.PlacedLines.{Placed, path_behind}

-- At a fault or where the lines end, what the first round has gathered is what it reads of the lines before some of these lines, where all texts are kept.
pub record IsReadOf (lines : List Placed) (round : FirstRound) (had : ParsedFileSeen) : Type 0 where
  pub before : List Placed
  pub behind : List Placed
  pub parts : lines ≡ before ++ behind
  pub frames : List Frame
  pub reads : read_behind (Reads round.stack round.parsed) before ≡ Reads frames had

abbrev pub IsReadTo : {X : Type 0} → KeptTexts → Result X FileFault → List Placed → FirstRound → FirstRound → Type 0
IsReadTo keep (Err Memory) lines round now = Unit {0}
IsReadTo keep read lines round now = keep ≡ all_texts → IsReadOf lines round now.parsed

-- THE PARTS' ROUND WITH A FRONT, as long as that has events. Their lines are not read: the reader stands still.
abbrev pub still : LinesRead
still = Broken (record { line = 0; kind = BadLine })

pub record FrontedSeen : Type 0 where
  pub round : RoundSeen
  pub front : FrontSeen

abbrev pub begun_still : Placed → Option PartSeen
begun_still line = option_map (λ part. if part.notes.is_event then record part { read = still } else part) (part_begun line)

abbrev pub closed_with : ℕ → FrontSeen → PartSeen → PartSeen
closed_with number front part = if part.notes.is_event then record part { read = Reads [] (front_read number front) } else part

abbrev pub front_left : ℕ → FrontSeen → PartSeen → FrontSeen
front_left number front part = if part.notes.is_event then front_behind number front else front

-- where the part that is open ends on that line, if one is open
abbrev pub closed_fronted : ℕ → Option PartSeen → FrontSeen → RoundSeen → RoundSeen
closed_fronted number None front round = round
closed_fronted number (Some part) front round = record round { part = None; parted = and_closed (closed_with number front part) round.parted }

abbrev pub front_closed : ℕ → Option PartSeen → FrontSeen → FrontSeen
front_closed number None front = front
front_closed number (Some part) front = front_left number front part

-- a line of the event or the time zone that is open, or of none
abbrev pub parted_fronted : Option PartSeen → Placed → FrontedSeen → PartedFileSeen
parted_fronted None line seen = and_outside line seen.round.parted
parted_fronted (Some part) line seen =
    if closes_part line part then and_closed (closed_with line.number seen.front (with_line line part)) seen.round.parted else seen.round.parted

abbrev pub front_past : Option PartSeen → Placed → FrontSeen → FrontSeen
front_past None line front = front
front_past (Some part) line front = if closes_part line part then front_left line.number front (with_line line part) else front

abbrev pub by_fronted : Option PartSeen → Placed → FrontedSeen → FrontedSeen
by_fronted part line seen = record {
  round = record (by_part part line seen.round) { parted = parted_fronted part line seen };
  front = front_past part line seen.front;
}

abbrev pub fronted_behind : Placed → FrontedSeen → FrontedSeen
fronted_behind line seen =
    let taken : FrontedSeen = by_fronted (option_or seen.round.part (begun_still line)) line seen in
    record taken { round = record taken.round { path = path_behind line; is_behind_uid = is_uid line } }

abbrev pub StepsFronted : Bool → Placed → FrontedSeen → FrontedSeen → Type 0
StepsFronted true line seen behind = (goes_on line seen.round ≡ true) × (behind ≡ fronted_behind line seen)
StepsFronted false line seen behind = goes_on line seen.round ≡ false

abbrev pub fronted_over : FrontedSeen → List Placed → Option PartedFileSeen
fronted_over seen [] = round_over seen.round []
fronted_over seen (line ∷ lines) =
    if has_events seen.front
    then (if goes_on line seen.round then fronted_over (fronted_behind line seen) lines else None)
    else round_over seen.round (line ∷ lines)

-- lines of the front are gone over, and the others are to come
abbrev pub GoesFronted : Bool → FrontedSeen → List Placed → RoundSeen → List Placed → Type 0
GoesFronted true seen lines behind rest = fronted_over seen lines ≡ round_over behind rest
GoesFronted false seen lines behind rest = fronted_over seen lines ≡ None
