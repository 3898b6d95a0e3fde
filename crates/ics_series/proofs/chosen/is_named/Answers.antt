use Rattle.std.proofs.Common.{rules, ◌∙◌}
use Rattle.std.proofs.lemmas.List.Sorted.{answers_always}
use Rattle.ics_series.specs.Versions.{subject_seen}
use Rattle.ics_series.proofs.OverrideLemmas.{searched}
use Rattle.ics_series.proofs.chosen.is_named.Goals as goal

pub returns : goal.returns
returns c =
    let found = c.binary_search_by_key.ensures in
    c.is_ok.ensures.value ∙ searched (subject_seen c.args.subject) c.args.versions.now c.binary_search_by_key.result c.requires found.bound
    (found.position (λ v. v.subject) (answers_always _ _ _ (λ f a r g called. search rules)))
