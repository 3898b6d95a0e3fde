use Rattle.std.proofs.Common.{◌≡◌, w64, to_z, of_z, is_ok, ◌∙◌, ap, arith, int_eq, SFits}
use Rattle.std.specs.List.{list_any}
use Rattle.std.proofs.lemmas.Int.{ints}
use Rattle.ics_starts.proofs.ExclusionLemmas.{found-in}
use Rattle.ics_starts.proofs.exclusion.is_among.Goals as goal

pub returns : goal.returns
returns c =
    let found : is_ok c.binary_search.result ≡ list_any (λ y. int_eq y (to_z w64 (of_z w64 c.args.moment))) c.args.instants.now =
    found-in c.args.instants.now _ c.binary_search.result c.requires c.binary_search.ensures.bound c.binary_search.ensures.position in
    let fits : SFits w64 c.args.moment = c.ranges.moment in
    let same : to_z w64 (of_z w64 c.args.moment) ≡ c.args.moment = omega (arith, ints) in
    c.is_ok.ensures.value ∙ (found ∙ ap (λ x. list_any (λ y. int_eq y x) c.args.instants.now) same)
