use Rattle.std.proofs.Common.{◌≡◌, ◌∙◌, [], ◌∷◌, Bool, true, false, not, Some, None, List, get_or, slice_get, sym, ap, arith, rules}
use Rattle.std.specs.Str.{bytes_eq}
use Rattle.std.proofs.lemmas.Bool.{false_from_ne_true}
use Rattle.std.proofs.lemmas.List.Sorted.{IsPartitionPoint-from_clause}
use Rattle.ics_series.specs.declared.version.Version.{Version}
use Rattle.ics_series.proofs.masters.count_of.Goals as goal

front : (vs : List Version) (d v : Version) → slice_get vs 0 ≡ Some v → get_or vs 0 d ≡ v
front [] d v e = let no : None ≡ Some v = e in absurd cc
front (x ∷ xs) d v e = cc

not-both : (b : Bool) → b ≡ true → not b ≡ true → ⊥
not-both true e f = let no : false ≡ true = f in absurd cc
not-both false e f = let no : false ≡ true = e in absurd cc

pub returns-then-ne-clause-parts : goal.returns-then-ne-clause-parts
returns-then-ne-clause-parts c = (
  λ k d low high. absurd (omega (arith, high)),
  λ k d low high. false_from_ne_true (bytes_eq (get_or c.args.versions.now k d).subject.uid.now c.args.uid.now) (λ same.
      let first = c.requires 0 k d (omega arith) high same in
      let is = front c.args.versions.now d c.in-Some.first.now (sym c.in-Some.ensures.value) in
      let own : bytes_eq c.in-Some.first.now.subject.uid.now c.args.uid.now ≡ true =
      ap (λ (v : Version). bytes_eq v.subject.uid.now c.args.uid.now) (sym is) ∙ first in
      not-both (bytes_eq c.in-Some.first.now.subject.uid.now c.args.uid.now) own (sym c.ne.ensures ∙ c.if-ne.true)),
)

pub returns-clause-parts : goal.returns-clause-parts
returns-clause-parts c =
    IsPartitionPoint-from_clause (λ v. bytes_eq v.subject.uid.now c.args.uid.now) _ _ c.partition_point.ensures.partitioned c.requires
    (λ a r q k. search rules)
