use Rattle.std.proofs.Common.{rules, tests, refl}
use Rattle.std.proofs.lemmas.Option.{slice_get-map, slice_get_read}
use Rattle.ics_calendar.proofs.zone_table.ZoneTable.moment_of.Goals as goal

pub returns-in_ok-get-in-Zoned : goal.returns-in_ok-get-in-Zoned
returns-in_ok-get-in-Zoned c =
    let place = c.in_ok-place-in-Zoned.field-0 in
    let zone = c.in_ok-get-in-Zoned.field-0.now in
    let here = slice_get_read c.args.self.now.zones.items _ place zone refl (search (rules, tests)) (search (rules, tests)) in
    rw (c.in-Zoned.is, ← c.index.ensures, c.in_ok-place-in-Zoned.was, slice_get-map, here) (search rules)
