-- A table of the names of time zones (RFC 5545, section 3.8.3.1).
use Rattle.std.specs.Prelude.{map}
use Rattle.std.specs.BTreeMap.{get}
use Rattle.std.specs.BTreeSet.{contains}
use Rattle.std.specs.Option.{option_or}
use Rattle.std.specs.Cmp.Lexicographic.{slice_cmp}
use Rattle.std.specs.Ordering.{nat_cmp, on, then_cmp}
use Rattle.std.specs.declared.cmp.Ordering.{Ordering}
use Rattle.ics_zone.specs.ZoneSaid.{zone_said}
use Rattle.ics_components.specs.declared.deferred_check.ZoneName.{ZoneName}
use Rattle.ics_calendar.specs.declared.zone_files.ZoneFiles.{ZoneFiles}
use Rattle.ics_calendar.specs.declared.zone_table.ZoneTable.{ZoneTable}
use Rattle.ics_calendar.specs.GivenFiles.{GivenFiles}
use Rattle.ics_calendar.specs.DeferredChecks.{KnownZones}

-- by the calendar, then by the bytes of the name
abbrev pub name_cmp : ZoneName → ZoneName → Ordering
name_cmp = then_cmp (on (λ n. n.calendar) nat_cmp) (on (λ n. n.name) (slice_cmp nat_cmp))

-- the zones that a table has, the index that it gives for a name, and the names for which a file is given that is no zone file
abbrev pub known_by : ZoneTable → KnownZones
known_by table = record {
  index = λ used. option_or (get name_cmp table.places used) (get (slice_cmp nat_cmp) table.given used.name);
  zones = map zone_said table.zones.items;
  is_bad = contains (slice_cmp nat_cmp) table.refused;
}

-- what the zone files of a caller give for a name
abbrev pub given_by : ZoneFiles → GivenFiles
given_by files = get (slice_cmp nat_cmp) files.files
