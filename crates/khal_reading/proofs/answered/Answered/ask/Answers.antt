use Rattle.khal_reading.specs.Inner.Learned.{seen_found}
use Rattle.khal_reading.proofs.LearnedLemmas.{fails, learns-one, learns-some-one}
use Rattle.khal_ports.proofs.Written.{on_err}
use Rattle.khal_reading.proofs.answered.Answered.ask.Goals as goal

pub returns-in_err-found-clause-some : goal.returns-in_err-found-clause-some
returns-in_err-found-clause-some g c =
    let f = c.in_err-found.ensures.found in
    on_err c.from_residual.result (λ asked k. fails g.Z.ZoneSource.finds asked c.args.zones.now c.find.new.zones c.args.self.now k c.contains.ensures
    c.if-contains.false c.as_slice.ensures f.0 f.1 f.2)

pub returns-in_err-keep-clause-some : goal.returns-in_err-keep-clause-some
returns-in_err-keep-clause-some g c =
    let f = c.in_ok-found.ensures.found in
    on_err c.from_residual-in_err-keep.result (λ asked k. learns-some-one g.Z.ZoneSource.finds asked c.args.zones.now c.find.new.zones c.args.self.now k
    c.contains.ensures c.if-contains.false c.as_slice.ensures f.0 f.1 (seen_found c.in_ok-found.found) f.2)

pub returns-clause-ok : goal.returns-clause-ok
returns-clause-ok g c = λ asked k.
    let f = c.in_ok-found.ensures.found in
    learns-one g.Z.ZoneSource.finds asked c.args.zones.now c.find.new.zones c.args.self.now k c.contains.ensures c.if-contains.false c.as_slice.ensures f.0 f.1
    (seen_found c.in_ok-found.found) f.2 c.keep.new.self c.in_ok-keep.ensures.files c.in_ok-keep.ensures.names c.in_ok-keep.ensures.unread
