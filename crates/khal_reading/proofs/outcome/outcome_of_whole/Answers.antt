use Rattle.std.proofs.Common.{false, [], Some, subst}
use Rattle.std.proofs.lemmas.Result.{IfOk-weaker, on_err_weaker}
use Rattle.khal_reading.specs.Gives.{FileGives, gives_whole}
use Rattle.khal_reading.specs.Inner.Learned.{LearnsSome}
use Rattle.khal_reading.proofs.LearnedLemmas.{learns-nothing}
use Rattle.khal_reading.proofs.OutcomeLemmas.{all-count, kept-count, settles-as}
use Rattle.khal_ports.proofs.Written.{on_err}
use Rattle.khal_reading.proofs.outcome.outcome_of_whole.Goals as goal

-- memory is refused before a name is asked for
pub returns-in_err-half-clause-some : goal.returns-in_err-half-clause-some
returns-in_err-half-clause-some g c = λ keep bytes read.
    on_err c.from_residual.result (λ asked k. learns-nothing g.Z.ZoneSource.finds asked (gives_whole bytes).wants c.args.zones.now)

pub returns-clause-ok : goal.returns-clause-ok
returns-clause-ok g c = λ keep bytes read.
    let count = kept-count keep (gives_whole bytes)
    (all-count c.only_wanted_files_count.ensures c.only_names_for_parts_count.ensures false ([], Some bytes)) in
    IfOk-weaker c.outcome_with.result _ _ (λ outcome settles asked k.
    settles-as g.Z.ZoneSource.finds asked (c.in_ok-half.ensures.ok keep bytes read) count (settles asked k)) c.outcome_with.ensures.ok

pub returns-clause-some : goal.returns-clause-some
returns-clause-some g c = λ keep bytes read. on_err_weaker c.outcome_with.result (λ learns asked k.
    subst (λ (f : FileGives). LearnsSome g.Z.ZoneSource.finds asked f.wants c.args.zones.now c.outcome_with.new.zones)
    (c.in_ok-half.ensures.ok keep bytes read) (learns asked k)) c.outcome_with.ensures.some
