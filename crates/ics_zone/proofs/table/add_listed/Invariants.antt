use Rattle.std.proofs.Common.{◌⊎◌, ℕ, ◌<◌, ◌≤◌, length, get_or, Contains, ℤ, ◌≤ℤ◌}
use Rattle.ics_zone.specs.Inner.Tables.{onset_number, IsNumberedBy}
use Rattle.ics_zone.proofs.table.add_listed.Given as goal

abbrev pub invariant-loop-k : goal.invariant-loop-k
invariant-loop-k l = record {
  late : (j : ℕ) (d : ℤ) → l.k ≤ j → j < length l.one.listed.items → l.fn.from ≤ℤ get_or l.one.listed.items j d;
  known : (n : ℤ) → Contains l.list.items n → Contains l.initial.list.items n ⊎ IsNumberedBy l.one l.fn.place l.fn.from l.fn.last n;
  stay : (n : ℤ) → Contains l.initial.list.items n → Contains l.list.items n;
  complete : (j : ℕ) (d : ℤ) → j < l.k → l.fn.from ≤ℤ get_or l.one.listed.items j d
      → Contains l.list.items (onset_number (get_or l.one.listed.items j d) l.fn.place);
}
