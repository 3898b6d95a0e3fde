use Rattle.std.proofs.Common.{ℕ, ◌<◌, get_or}
use Rattle.jiff_core.specs.Calendar.{IsBetween, IsWithin}
use Rattle.jiff_tz.specs.Tzif.{tzif_view}
use Rattle.jiff_tz.specs.TzifText.{no_row}
use Rattle.ics_zone.specs.Inner.FileBounds.{HoldsOfRow}
use Rattle.ics_zone.proofs.bounds.Bounds.of_table.Given as goal

abbrev pub invariant-loop-row : goal.invariant-loop-row
invariant-loop-row l = record {
  first : IsBetween l.bounds.least l.bounds.most (tzif_view l.fn.table).first.seconds;
  rows : (k : ℕ) → k < l.row-index → HoldsOfRow (IsBetween l.bounds.least l.bounds.most) (get_or (tzif_view l.fn.table).transitions k no_row);
  least : IsWithin 93_599 l.bounds.least;
  most : IsWithin 93_599 l.bounds.most;
}
