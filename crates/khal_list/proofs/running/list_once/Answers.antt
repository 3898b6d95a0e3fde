use Rattle.std.proofs.Common.{Some, inr, refl, ◌∙◌, ap, sym}
use Rattle.std.specs.Option.{option_map}
use Rattle.ics_listing.specs.Entry.{key_rank}
use Rattle.ics_listing.specs.Tokens.{spelling}
use Rattle.khal_list.proofs.RunLemmas.{shows-once, whole-front}
use Rattle.khal_ports.proofs.Written.{on_err}
use Rattle.khal_list.proofs.running.list_once.Goals as goal

pub returns-in_err-print-clause-err : goal.returns-in_err-print-clause-err
returns-in_err-print-clause-err g c =
    let agenda = c.in_ok-agenda.ensures in
    on_err c.from_residual-in_err-print.result
    (inr (_, _, shows-once c.as_ref.result c.requires c.as_ref.ensures.value agenda.keys agenda.behind refl, c.in_err-print.ensures.front))

pub returns-in_err-write-in-Some-clause-err : goal.returns-in_err-write-in-Some-clause-err
returns-in_err-write-in-Some-clause-err g c =
    let agenda = c.in_ok-agenda.ensures in
    on_err c.from_residual-in_err-write-in-Some.result
    (inr (_, _, shows-once c.as_ref.result c.requires c.as_ref.ensures.value agenda.keys agenda.behind refl, whole-front c.in_ok-print.ensures.text))

pub returns-in-None-clause-ok : goal.returns-in-None-clause-ok
returns-in-None-clause-ok g c =
    let agenda = c.in_ok-agenda.ensures in
    let token = ap (option_map spelling) (sym (ap (option_map key_rank) c.in-None.is) ∙ c.in_ok-print.ensures.key) in
    (_, shows-once c.as_ref.result c.requires c.as_ref.ensures.value agenda.keys agenda.behind token, c.in_ok-print.ensures.text)

pub returns-clause-ok : goal.returns-clause-ok
returns-clause-ok g c =
    let agenda = c.in_ok-agenda.ensures in
    let token = ap Some c.in_ok-write-in-Some.ensures
    ∙ ap (option_map spelling) (sym (ap (option_map key_rank) c.in-Some.is) ∙ c.in_ok-print.ensures.key) in
    (_, shows-once c.as_ref.result c.requires c.as_ref.ensures.value agenda.keys agenda.behind token, c.in_ok-print.ensures.text)
