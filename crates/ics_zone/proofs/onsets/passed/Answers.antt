use Rattle.std.proofs.Common.{List, ℤ, rules, arith, int_le}
use Rattle.std.specs.List.Sorted.{IsPartitionedBy}
use Rattle.std.proofs.lemmas.Int.{ints}
use Rattle.std.proofs.lemmas.List.Sorted.{IsPartitionPoint-from_clause}
use Rattle.ics_zone.specs.Inner.Latest.{IsInOrder}
use Rattle.ics_zone.proofs.Cases.{int_le_true, int_le_false, true_int_le}
use Rattle.ics_zone.proofs.onsets.passed.Goals as goal

parted : (list : List ℤ) (t : ℤ) → IsInOrder list → IsPartitionedBy (λ s. int_le s t) list
parted list t up i j d l h e = let later = up i j d l h in grind (arith, ints, int_le_true, true_int_le)

pub returns : goal.returns
returns c =
    let point = IsPartitionPoint-from_clause (λ s. int_le s c.args.moment) _ _ c.partition_point.ensures.partitioned
    (parted c.args.listed.now c.args.moment c.requires) (λ a r q k. search rules) in
    record {
      bound = c.partition_point.ensures.bound;
      before = λ j d l h. int_le_true _ _ (point.0 j d l h);
      later = λ j d l h. int_le_false _ _ (point.1 j d l h);
    }
