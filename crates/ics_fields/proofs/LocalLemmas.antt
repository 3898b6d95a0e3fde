-- The order of locals.
use Rattle.std.proofs.Common.{◌≡◌, ◌<◌, refl, arith, ◌<ℤ◌}
use Rattle.std.specs.Ordering.{MatchOrdering, ordering_then, int_cmp, nat_cmp}
use Rattle.std.specs.Cmp.{int_cmp_is, int_ranks, ranks}
use Rattle.std.specs.declared.cmp.Ordering.{Ordering}
use Rattle.std.specs.declared.cmp.Ordering.TheVariants.{Less, Equal, Greater}
use Rattle.std.proofs.lemmas.Int.{ints}
use Rattle.ics_fields.specs.Locals.{local_seconds}
use Rattle.ics_fields.specs.declared.local.Local.{Local}

pub by_time : (a b : Local) → ordering_then (int_cmp a.day b.day) (nat_cmp a.second b.second) ≡ int_cmp (local_seconds a) (local_seconds b)
by_time a b = int_cmp_is (local_seconds a) (local_seconds b) _
    (in_time (int_cmp a.day b.day) (nat_cmp a.second b.second) (int_ranks a.day b.day) (ranks a.second b.second))
  where
    in_time : (o p : Ordering) → MatchOrdering o (a.day <ℤ b.day) (a.day ≡ b.day) (b.day <ℤ a.day) →
        MatchOrdering p (a.second < b.second) (a.second ≡ b.second) (b.second < a.second) →
        MatchOrdering (ordering_then o p) (local_seconds a <ℤ local_seconds b) (local_seconds a ≡ local_seconds b) (local_seconds b <ℤ local_seconds a)
    in_time Less p day second = omega (arith, ints)
    in_time Greater p day second = omega (arith, ints)
    in_time Equal Less day second = omega (arith, ints)
    in_time Equal Equal day second = rw (day, second) refl
    in_time Equal Greater day second = omega (arith, ints)
