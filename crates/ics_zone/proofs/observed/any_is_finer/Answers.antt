use Rattle.std.proofs.Common.{rules}
use Rattle.std.proofs.lemmas.Iterator.{YieldsList-from_slice}
use Rattle.std.proofs.lemmas.Iterator.Search.{any_from_yields_List}
use Rattle.ics_zone.specs.Observances.{has_finer_rule}
use Rattle.ics_zone.proofs.observed.any_is_finer.Goals as goal

pub returns : goal.returns
returns c =
    any_from_yields_List has_finer_rule _ _ _ c.any.ensures.ran (YieldsList-from_slice c.args.observances.now cc) (λ x b q k. search rules)
