use Rattle.std.proofs.Common.{◌+ℤ◌, ◌∙◌, sym, arith, to_z, of_z, w64}
use Rattle.std.proofs.lemmas.Int.{ints}
use Rattle.ics_event.specs.Event.{stamp_seconds}
use Rattle.ics_fields.specs.Locals.{whole_days}
use Rattle.ics_starts.proofs.InstantLemmas.{instant-near}
use Rattle.ics_zone.proofs.Cases.{int_le_true}
use Rattle.ics_starts.proofs.listed.lesser_again.Goals as goal

pub returns-then-is_early-clause-second : goal.returns-then-is_early-clause-second
returns-then-is_early-clause-second c = λ late.
    let past = int_le_true (stamp_seconds c.args.time.stamp +ℤ whole_days 2) (to_z w64 (of_z w64 c.args.end)) (sym c.is_early.ensures ∙ c.if-is_early.true) in
    absurd (omega (arith, ints, past, late, c.ranges.end, instant-near c.args.zones c.args.time))
