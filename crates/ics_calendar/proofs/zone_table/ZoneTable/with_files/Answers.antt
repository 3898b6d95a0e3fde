use Rattle.std.proofs.Common.{rules, ◌≡◌, ◌∷◌, sym, ap, ◌∙◌}
use Rattle.std.proofs.lemmas.List.{nil_from_length}
use Rattle.ics_calendar.specs.DeferredChecks.{with_files}
use Rattle.ics_calendar.specs.ZoneTables.{known_by, given_by}
use Rattle.ics_calendar.proofs.FilesGiven.{with-further, with-none}
use Rattle.ics_calendar.proofs.zone_table.ZoneTable.with_files.Goals as goal

pub loop-name-preserved : goal.loop-name-preserved
loop-name-preserved c =
    let files = given_by c.args.files.now in
    let known = known_by c.loop-name.table in
    let rest = c.next.new.self.rest.items in
    let step : c.in-Some.name ∷ rest ≡ c.loop-name.name-iterator.rest.items = search rules in
    (λ i. with_files (c.in_ok-add.ensures i) files rest) ∙ with-further known files c.in-Some.name rest ∙ ap (with_files known files) step
    ∙ c.loop-name.invariant

pub returns : goal.returns
returns c =
    let none = nil_from_length c.loop-name.name-iterator.rest.items (search rules) in
    sym (with-none (known_by c.loop-name.table) (given_by c.args.files.now)) ∙ rw none at c.loop-name.invariant
