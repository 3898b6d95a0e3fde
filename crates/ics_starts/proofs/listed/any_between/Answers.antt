use Rattle.std.proofs.Common.{rules}
use Rattle.std.proofs.lemmas.Iterator.{YieldsList-from_slice}
use Rattle.std.proofs.lemmas.Iterator.Search.{any_from_yields_List}
use Rattle.ics_starts.specs.Found.{is_between}
use Rattle.ics_starts.proofs.listed.any_between.Goals as goal

pub returns : goal.returns
returns c =
    any_from_yields_List (is_between c.args.from c.args.to) _ _ _ c.any.ensures.ran (YieldsList-from_slice c.args.instants.now cc) (λ x b q k. search rules)
