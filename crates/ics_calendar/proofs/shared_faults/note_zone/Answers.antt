use Rattle.std.proofs.Common.{sym, ap, ◌∙◌, ◌∷◌, [], cond, take, ℕ, List, Bool, Some, None}
use Rattle.std.specs.BTreeMap.{get}
use Rattle.std.specs.List.{list_any}
use Rattle.std.specs.Option.{option_or}
use Rattle.std.proofs.lemmas.List.Folds.{list_any-append}
use Rattle.ics_calendar.specs.DeferredChecks.{is_same}
use Rattle.ics_calendar.specs.ZoneTables.{name_cmp}
use Rattle.ics_calendar.proofs.FilesGiven.{names_tie}
use Rattle.ics_calendar.proofs.PartsGiven.{next-take}
use Rattle.ics_calendar.proofs.Shared.{or-cond}
use Rattle.ics_calendar.proofs.shared_faults.note_zone.Goals as goal

pub loop-name-preserved : goal.loop-name-preserved
loop-name-preserved c = λ used.
    let i = c.loop-name.name-index in
    let name = c.name-item.result in
    let test : List ℕ → Bool = λ name. is_same used (record { calendar = c.args.calendar; name = name }) in
    let had = get name_cmp c.args.first.now used in
    let fault = c.args.fault in
    let same = names_tie (record { calendar = c.args.calendar; name = c.in_ok-shared.field-0 }) used ∙ ap test c.in_ok-shared.ensures in
    c.in_ok-put_first.ensures.put used
    ∙ (λ j. option_or (c.loop-name.invariant used j) (cond (same j) (Some fault) None))
    ∙ or-cond had (list_any test (take i c.args.names.now)) (test name) fault
    ∙ ap (λ t. option_or had (cond t (Some fault) None)) (sym (list_any-append test (take i c.args.names.now) (name ∷ [])))
    ∙ ap (λ names. option_or had (cond (list_any test names) (Some fault) None)) (sym (next-take c.args.names.now i name c.name-item.is c.loop-name-test.true))
