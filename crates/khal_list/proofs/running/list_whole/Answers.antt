use Rattle.std.proofs.Common.{map}
use Rattle.std.specs.Option.{option_map}
use Rattle.std.specs.String.{string_bytes}
use Rattle.ics_file.specs.File.{said_by}
use Rattle.khal_list.specs.Headline.{Shows}
use Rattle.khal_list.proofs.RunLemmas.{part-kept, shown-kept}
use Rattle.khal_ports.proofs.Written.{on_err}
use Rattle.khal_list.proofs.running.list_whole.Goals as goal

pub returns-in_err-flush_all-clause-err : goal.returns-in_err-flush_all-clause-err
returns-in_err-flush_all-clause-err g c =
    on_err c.from_residual-in_err-flush_all.result
    (part-kept (Shows (map said_by c.args.files.items) c.args.request.now) (g.O.Sink.taken c.args.out.now) (g.O.Sink.taken c.list.new.out)
    (g.O.Sink.taken c.flush_all.new.sink) (option_map string_bytes c.in_ok-token.token) c.in_ok-token.ensures.ok c.in_err-flush_all.ensures.kept)

pub returns-clause-ok : goal.returns-clause-ok
returns-clause-ok g c =
    shown-kept (Shows (map said_by c.args.files.items) c.args.request.now) (g.O.Sink.taken c.args.out.now) (g.O.Sink.taken c.list.new.out)
    (g.O.Sink.taken c.flush_all.new.sink) (option_map string_bytes c.in_ok-token.token) c.in_ok-token.ensures.ok c.in_ok-flush_all.ensures.kept
