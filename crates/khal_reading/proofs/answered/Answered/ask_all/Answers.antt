use Rattle.std.proofs.Common.{◌+◌, ◌++◌, ℕ, List, drop, subst}
use Rattle.std.proofs.lemmas.List.{take-append-drop, take_more}
use Rattle.khal_reading.specs.Inner.Learned.{LearnsSome}
use Rattle.khal_reading.proofs.AskedLemmas.{all-then-some, some-front}
use Rattle.khal_reading.proofs.LearnedLemmas.{learns-then}
use Rattle.khal_ports.proofs.Written.{on_err}
use Rattle.khal_reading.proofs.answered.Answered.ask_all.Goals as goal

pub returns-in_err-ask-clause-some : goal.returns-in_err-ask-clause-some
returns-in_err-ask-clause-some g c = on_err c.from_residual.result (λ asked k.
    let names = c.args.names.now in
    let i : ℕ = c.loop-name.name-index in
    let h = c.loop-name.invariant asked k in
    let some = c.in_err-ask.ensures.some _ h.knows in
    subst (λ (all : List (List ℕ)). LearnsSome g.Z.ZoneSource.finds asked all c.args.zones.now c.ask.new.zones) (take-append-drop (i + 1) names)
    (rw (take_more names i c.name-item.result c.loop-name-test.true, ← c.name-item.is) (record {
      more = h.more ++ some.more;
      asks = some-front g.Z.ZoneSource.finds (drop (i + 1) names) (all-then-some g.Z.ZoneSource.finds h.asks some.asks);
    })))

pub loop-name-preserved : goal.loop-name-preserved
loop-name-preserved g c = λ asked k.
    let h = c.loop-name.invariant asked k in
    rw (take_more c.args.names.now c.loop-name.name-index c.name-item.result c.loop-name-test.true, ← c.name-item.is)
    (learns-then g.Z.ZoneSource.finds h (c.in_ok-ask.ensures.ok _ h.knows))
