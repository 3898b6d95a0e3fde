use Rattle.std.proofs.Common.{◌∙◌, sym}
use Rattle.ics_series.proofs.OverLemmas.{found-near}
use Rattle.ics_series.proofs.masters.is_near.Goals as goal

pub returns : goal.returns
returns c = λ yes.
    found-near c.args.near.now c.args.place c.binary_search.result c.binary_search.ensures.bound c.binary_search.ensures.ok
    (sym c.is_ok.ensures.value ∙ yes)
