use Rattle.std.proofs.Common.{sym, ap, ◌∙◌, ◌∷◌, [], ◌||◌, cond, take, true, ℕ, List, Bool}
use Rattle.std.specs.BTreeSet.{contains}
use Rattle.std.specs.List.{list_any}
use Rattle.std.proofs.lemmas.List.Folds.{list_any-append}
use Rattle.ics_calendar.specs.DeferredChecks.{is_same}
use Rattle.ics_calendar.specs.ZoneTables.{name_cmp}
use Rattle.ics_calendar.proofs.FilesGiven.{names_tie}
use Rattle.ics_calendar.proofs.PartsGiven.{next-take, or-more}
use Rattle.ics_calendar.proofs.file_parts.add_zones.Goals as goal

pub loop-zone-preserved : goal.loop-zone-preserved
loop-zone-preserved c = λ name.
    let i = c.loop-zone.zone-index in
    let zone = c.zone-item.result in
    let test : List ℕ → Bool = λ zone. is_same name (record { calendar = c.args.calendar; name = zone }) in
    let had = contains name_cmp c.args.used.now name in
    let same = names_tie (record { calendar = c.args.calendar; name = c.in_ok-shared.field-0 }) name ∙ ap test c.in_ok-shared.ensures in
    c.in_ok-insert.ensures.updates.0 name
    ∙ (λ j. cond (same j) true (c.loop-zone.invariant name j)) ∙ or-more had (list_any test (take i c.args.zones.now)) (test zone)
    ∙ ap (λ t. had || t) (sym (list_any-append test (take i c.args.zones.now) (zone ∷ [])))
    ∙ ap (λ zones. had || list_any test zones) (sym (next-take c.args.zones.now i zone c.zone-item.is c.loop-zone-test.true))
