use Rattle.std.proofs.Common.{◌≡◌, ◌++◌, map, length}
use Rattle.std.specs.BTreeMap.{get}
use Rattle.std.specs.List.{position_from}
use Rattle.std.specs.Option.{option_or}
use Rattle.ics_zone.specs.ZoneSaid.{ZoneSaid, zone_said}
use Rattle.ics_components.specs.declared.deferred_check.ZoneName.{ZoneName}
use Rattle.ics_calendar.specs.DeferredChecks.{is_same}
use Rattle.ics_calendar.specs.Settled.{known_in}
use Rattle.ics_calendar.specs.ZoneTables.{name_cmp}
use Rattle.ics_calendar.proofs.zone_table.ZoneTable.sharing.Given as goal

-- a zone is in the table, or is still to come
abbrev pub invariant-loop-zone : goal.invariant-loop-zone
invariant-loop-zone l = record {
  places : (used : ZoneName) →
      option_or (get name_cmp l.places used) (position_from (is_same used) (length l.made.items) (map (λ z. z.name) l.zone-iterator.rest.items))
      ≡ (known_in l.fn.zones.items).index used;
  zones : map zone_said l.made.items ++ map (λ z. ZoneSaid.ByObservances z.observances) l.zone-iterator.rest.items
      ≡ (known_in l.fn.zones.items).zones;
}
