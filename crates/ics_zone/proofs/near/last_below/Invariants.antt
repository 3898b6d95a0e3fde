use Rattle.std.proofs.Common.{◌≡◌, ℕ, ◌-◌, ◌<◌, false, MatchOption, IfSome}
use Rattle.ics_fields.specs.Sets.{contains}
use Rattle.ics_zone.specs.Inner.Latest.{IsGreatestBelow}
use Rattle.ics_zone.proofs.near.last_below.Given as goal

abbrev pub invariant-loop-n : goal.invariant-loop-n
invariant-loop-n l = record {
  last : MatchOption l.last ((m : ℕ) → m < l.from → contains l.fn.set m ≡ false) (λ n. IsGreatestBelow (contains l.fn.set) l.from n);
  early : IfSome l.last (λ n. n < l.fn.end);
  small : IfSome l.last (λ n. n < 64);
}

abbrev pub decreases-loop-n : goal.decreases-loop-n
decreases-loop-n l = 65 - l.from
