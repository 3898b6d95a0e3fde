use Rattle.std.proofs.Common.{◌≡◌, ℕ, ◌&&◌, nat_lt}
use Rattle.ics_fields.specs.Sets.{contains}
use Rattle.ics_zone.proofs.sixty.word_of.Given as goal

abbrev pub invariant-loop-n : goal.invariant-loop-n
invariant-loop-n l = (m : ℕ) → contains l.word m ≡ (nat_lt m l.n && contains l.set m)
