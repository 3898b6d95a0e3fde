use Rattle.std.proofs.Common.{◌≡◌, take, false}
use Rattle.std.specs.List.{list_any}
use Rattle.ics_starts.specs.Exclusions.{excludes}
use Rattle.ics_starts.specs.FileZones.{clocks_in}
use Rattle.ics_starts.proofs.exclusion.is_excluded.Given as goal

-- no EXDATE before this one removes the start
abbrev pub invariant-loop-exdate : goal.invariant-loop-exdate
invariant-loop-exdate l =
    list_any (λ exdate. excludes (clocks_in l.zones) l.event.start exdate l.moment) (take l.exdate-index l.event.exdates) ≡ false
