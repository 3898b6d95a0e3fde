use Rattle.std.proofs.Common.{◌≡◌, is_ok, w32, to_z, of_z, sym, subst, int_cmp, int_eq, refl, arith}
use Rattle.std.specs.List.{list_any}
use Rattle.std.specs.List.Sorted.{IsSorted}
use Rattle.std.proofs.lemmas.Int.{ints}
use Rattle.ics_starts.proofs.ExclusionLemmas.{found-in}
use Rattle.ics_starts.proofs.exclusion.Exclusions.has_day.Goals as goal

pub returns : goal.returns
returns c =
    let rise : IsSorted int_cmp c.deref.result.now = subst (IsSorted int_cmp) (sym c.deref.ensures.value) c.args.self.now.days_rise in
    let found : is_ok c.binary_search.result ≡ list_any (λ y. int_eq y (to_z w32 (of_z w32 c.args.day))) c.deref.result.now =
    found-in c.deref.result.now _ c.binary_search.result rise c.binary_search.ensures.bound c.binary_search.ensures.position in
    let day : to_z w32 (of_z w32 c.args.day) ≡ c.args.day = omega (arith, ints, c.ranges.day) in
    rw (c.is_ok.ensures.value, found, day, c.deref.ensures.value) refl
