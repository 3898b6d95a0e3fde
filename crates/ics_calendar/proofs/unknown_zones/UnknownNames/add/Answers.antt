use Rattle.std.proofs.Common.{subst, ◌++◌, take}
use Rattle.ics_calendar.specs.Settled.{all_unknown}
use Rattle.ics_calendar.specs.Inner.UnknownNames.{AreNames}
use Rattle.ics_calendar.specs.ZoneTables.{known_by}
use Rattle.ics_calendar.proofs.PartsGiven.{unknown-more}
use Rattle.ics_calendar.proofs.unknown_zones.UnknownNames.add.Goals as goal

pub loop-deferred-preserved : goal.loop-deferred-preserved
loop-deferred-preserved c = λ names are.
    let index = (known_by c.args.table.now).index in
    let i = c.loop-deferred.deferred-index in
    subst (λ ns. AreNames ns c.note.new.self)
    (unknown-more index names c.args.checks.now i c.deferred-item.result c.deferred-item.is c.loop-deferred-test.true)
    (c.in_ok-note.ensures (names ++ all_unknown index (take i c.args.checks.now)) (c.loop-deferred.invariant names are))
