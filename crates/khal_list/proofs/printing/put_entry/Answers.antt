use Rattle.std.proofs.Common.{w32}
use Rattle.std.proofs.lemmas.Int.{to_z-of_z}
use Rattle.khal_ports.proofs.Written.{appends-none, on_err}
use Rattle.ics_listing.specs.Entry.{entry_of}
use Rattle.khal_list.specs.Listed.{style_of}
use Rattle.khal_list.proofs.Printed.{entry_some}
use Rattle.khal_list.proofs.printing.put_entry.Goals as goal

pub returns-in_err-add_entry-clause-err : goal.returns-in_err-add_entry-clause-err
returns-in_err-add_entry-clause-err g c =
    let some = entry_some (style_of c.args.request.now) c.args.before c.args.day (entry_of c.args.occurrence.now) in
    on_err c.from_residual.result (record { count = 0; within = some; taken = appends-none (g.O.Sink.taken c.args.out.now) })

pub returns-in_err-put_all-clause-err : goal.returns-in_err-put_all-clause-err
returns-in_err-put_all-clause-err g c =
    on_err c.from_residual-in_err-put_all.result
    (rw (c.as_slice.ensures.value, c.in_ok-add_entry.ensures, c.clear.ensures.items, to_z-of_z w32 c.args.day c.ranges.day) at c.in_err-put_all.ensures.err)

pub returns-clause-ok : goal.returns-clause-ok
returns-clause-ok g c =
    rw (c.as_slice.ensures.value, c.in_ok-add_entry.ensures, c.clear.ensures.items, to_z-of_z w32 c.args.day c.ranges.day) at c.in_ok-put_all.ensures.ok
