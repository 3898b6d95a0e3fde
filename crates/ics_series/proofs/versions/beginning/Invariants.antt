use Rattle.std.proofs.Common.{◌≡◌, ◌<◌, ◌*◌, ◌-◌, ◌^◌, drop}
use Rattle.ics_series.specs.Inner.Beginnings.{beginning_of, number_by}
use Rattle.ics_series.proofs.versions.beginning.Given as goal

abbrev pub invariant-loop-place : goal.invariant-loop-place
invariant-loop-place l = record {
  rest : number_by (8 - l.place) l.number (drop l.place l.uid) ≡ beginning_of l.uid;
  below : l.number < 2 ^ (8 * l.place);
}
