use Rattle.std.proofs.Common.{rules, inl, refl}
use Rattle.std.specs.Option.{option_map}
use Rattle.std.specs.String.{string_bytes}
use Rattle.khal_list.proofs.RunLemmas.{lists, stops, stops-lines, stops-more, stops-reading}
use Rattle.khal_ports.proofs.Written.{on_err, part_front}
use Rattle.khal_list.proofs.running.run.Goals as goal

pub returns-in_err-reading-clause-stops : goal.returns-in_err-reading-clause-stops
returns-in_err-reading-clause-stops g c = on_err c.from_residual.result (stops-reading c.in_err-reading.ensures.some)

pub returns-in_err-put_all-clause-stops : goal.returns-in_err-put_all-clause-stops
returns-in_err-put_all-clause-stops g c =
    on_err c.from_residual-in_err-put_all.result (stops-lines c.in_ok-reading.ensures.all c.deref.ensures.value refl (part_front c.in_err-put_all.ensures.err))

pub returns-in_err-token-clause-stops : goal.returns-in_err-token-clause-stops
returns-in_err-token-clause-stops g c =
    on_err c.from_residual-in_err-token.result (stops c.in_ok-reading.ensures.all c.deref.ensures.value c.texts_named.ensures
    (g.E.Sink.taken c.put_all.new.sink) c.in_ok-put_all.ensures.ok refl c.in_err-token.ensures.err)

pub returns-in_err-token-clause-cause : goal.returns-in_err-token-clause-cause
returns-in_err-token-clause-cause g c = λ is. inl (c.in_err-token.ensures.cause (search rules))

pub returns-in_err-put_more-clause-stops : goal.returns-in_err-put_more-clause-stops
returns-in_err-put_more-clause-stops g c =
    on_err c.from_residual-in_err-put_more.result (stops-more c.in_ok-reading.ensures.all c.deref.ensures.value c.texts_named.ensures
    (g.E.Sink.taken c.put_all.new.sink) c.in_ok-put_all.ensures.ok (option_map string_bytes c.in_ok-token.token) c.in_ok-token.ensures.ok
    c.in_err-put_more.ensures.err)

pub returns-clause-lists : goal.returns-clause-lists
returns-clause-lists g c =
    lists c.in_ok-reading.ensures.all c.deref.ensures.value c.texts_named.ensures (g.E.Sink.taken c.put_all.new.sink) c.in_ok-put_all.ensures.ok
    (option_map string_bytes c.in_ok-token.token) c.in_ok-token.ensures.ok c.in_ok-put_more.ensures.ok c.status-status.result c.status-status.ensures
