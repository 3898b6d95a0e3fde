use Rattle.std.proofs.Common.{rules, tests, length, lit<}
use Rattle.std.specs.Prelude.{◌==◌}
use Rattle.std.proofs.lemmas.Iterator.Search.{any_from_yields_List}
use Rattle.std.proofs.lemmas.Iterator.Splits.{YieldsList-from_str_split}
use Rattle.khal_ports.proofs.folder_zones.has_empty_part.Goals as goal

pub returns : goal.returns
returns c =
    any_from_yields_List (λ part. length part == 0) _ _ _ c.any.ensures.ran
    (YieldsList-from_str_split 47 c.args.name.now (lit< tt) c.split.ensures.text c.split.ensures.has_more c.split.ensures.pattern)
    (λ x b q k. search (rules, tests))
