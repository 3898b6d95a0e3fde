-- The occurrences that no override replaces, as they are told by the versions that count.
use Rattle.std.specs.Prelude.{◌||◌, Bool, not, List, Some, is_some}
use Rattle.ics_listing.specs.Entry.{Entry}
use Rattle.ics_series.specs.Versions.{Label, is_named}

-- an occurrence is that of an override, or no version overrides it
abbrev pub is_kept : List Label → Entry → Bool
is_kept labels o =
    is_some o.event.recurrence || not (is_named (record { uid = o.event.uid; recurrence = Some o.recurrence }) labels)
