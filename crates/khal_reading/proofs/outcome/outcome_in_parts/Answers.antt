use Rattle.std.proofs.Common.{true, Some, ap, subst}
use Rattle.std.proofs.lemmas.Result.{IfOk-weaker, on_err_weaker}
use Rattle.ics_calendar.specs.Parts.{NamedFile}
use Rattle.khal_reading.specs.Gives.{FileGives, gives_in_parts, kept_gives}
use Rattle.khal_reading.specs.Inner.Learned.{LearnsSome}
use Rattle.khal_reading.proofs.LearnedLemmas.{learns-nothing}
use Rattle.khal_reading.proofs.OutcomeLemmas.{all-count, kept-count, settles-as}
use Rattle.khal_ports.proofs.Written.{on_err}
use Rattle.khal_reading.proofs.outcome.outcome_in_parts.Goals as goal

-- memory is refused before a name is asked for
pub returns-in_err-partial-clause-some : goal.returns-in_err-partial-clause-some
returns-in_err-partial-clause-some g c =
    on_err c.from_residual.result (λ asked k.
    learns-nothing g.Z.ZoneSource.finds asked (gives_in_parts c.args.name.now c.args.bytes.now).wants c.args.zones.now)

pub returns-clause-ok : goal.returns-clause-ok
returns-clause-ok g c =
    let name = c.args.name.now in
    let bytes = c.args.bytes.now in
    let keep = c.args.keep in
    let gives = ap (λ (file : NamedFile). kept_gives keep (gives_in_parts file.name file.bytes)) c.in_ok-partial.ensures in
    let count = kept-count keep (gives_in_parts name bytes)
    (all-count c.only_wanted_files_count.ensures c.only_names_for_parts_count.ensures true (name, Some bytes)) in
    IfOk-weaker c.outcome_with.result _ _ (λ outcome settles asked k. settles-as g.Z.ZoneSource.finds asked gives count (settles asked k))
    c.outcome_with.ensures.ok

pub returns-clause-some : goal.returns-clause-some
returns-clause-some g c =
    let gives = ap (λ (file : NamedFile). kept_gives c.args.keep (gives_in_parts file.name file.bytes)) c.in_ok-partial.ensures in
    on_err_weaker c.outcome_with.result (λ learns asked k.
    subst (λ (f : FileGives). LearnsSome g.Z.ZoneSource.finds asked f.wants c.args.zones.now c.outcome_with.new.zones) gives (learns asked k))
    c.outcome_with.ensures.some
