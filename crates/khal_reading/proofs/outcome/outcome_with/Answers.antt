use Rattle.std.proofs.Common.{◌≡◌, true, false, List, sym, ◌∙◌}
use Rattle.std.proofs.lemmas.Result.{IfOk-weaker}
use Rattle.std.specs.BTreeSet.{contains}
use Rattle.std.specs.Cmp.Lexicographic.{slice_cmp}
use Rattle.std.specs.List.{list_any}
use Rattle.std.specs.Ordering.{nat_cmp}
use Rattle.ics_calendar.specs.ZoneTables.{given_by}
use Rattle.khal_reading.specs.declared.answered.Answered.{Answered}
use Rattle.khal_reading.specs.declared.outcome.Outcome.{Outcome}
use Rattle.khal_reading.specs.Asked.{Asked}
use Rattle.khal_reading.specs.Gives.{FileGives}
use Rattle.khal_reading.specs.Inner.Learned.{Knows, Learns, Settles, WantedCount}
use Rattle.khal_reading.specs.Inner.Outcomes.{half_gives, seen_outcome}
use Rattle.khal_reading.proofs.OutcomeLemmas.{asked-settles}
use Rattle.khal_reading.proofs.outcome.outcome_with.Goals as goal

pub returns-in_ok-refused-in-Ok-true-clause-ok : goal.returns-in_ok-refused-in-Ok-true-clause-ok
returns-in_ok-refused-in-Ok-true-clause-ok g c = λ asked k count.
    asked-settles g.Z.ZoneSource.finds asked (half_gives c.args.half) c.args.zones.now c.wants_unread.new.zones c.wants_unread.new.answered count
    (c.in-Ok-true.ensures.ok asked k) true (sym c.in-Ok-true.field-0-test ∙ c.in-Ok-true.ensures.unread) c.in_ok-refused-in-Ok-true.ensures

pub returns-in-Ok-false-clause-ok : goal.returns-in-Ok-false-clause-ok
returns-in-Ok-false-clause-ok g c = IfOk-weaker c.settle.result _ _ (settled (half_gives c.args.half) c.in-Ok-false.ensures.ok
    (sym c.in-Ok-false.field-0-test ∙ c.in-Ok-false.ensures.unread)) c.settle.ensures.ok
  where
    -- what the file comes to with what is answered
    settled : (file : FileGives) {before after : g.row.Z.Denot} {old new : Answered}
        → ((asked : List Asked) → Knows asked old → Learns g.Z.ZoneSource.finds asked file.wants before after new)
        → false ≡ list_any (contains (slice_cmp nat_cmp) new.unread) file.wants → (outcome : Outcome)
        → seen_outcome outcome ≡ file.gives (given_by new.files) → (asked : List Asked) → Knows asked old → WantedCount file
        → Settles g.Z.ZoneSource.finds asked file before after new (seen_outcome outcome)
    settled file {before} {after} {old} {new} learns lacks outcome is asked k count =
        asked-settles g.Z.ZoneSource.finds asked file before after new count (learns asked k) false lacks is
