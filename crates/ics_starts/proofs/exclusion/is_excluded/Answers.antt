use Rattle.std.proofs.Common.{◌≡◌, ◌<◌, List, length, get_or, sym, ◌∙◌, ap, subst}
use Rattle.ics_event.specs.Event.{Time}
use Rattle.ics_starts.specs.Exclusions.{excludes}
use Rattle.ics_starts.specs.FileZones.{clocks_in}
use Rattle.ics_listing.proofs.Cases.{moment-back}
use Rattle.ics_starts.proofs.ExclusionLemmas.{any-at}
use Rattle.ics_starts.proofs.exclusion.is_excluded.Goals as goal

pub returns-then-excludes : goal.returns-then-excludes
returns-then-excludes c =
    let event = c.args.event.now in
    let clocks = clocks_in c.args.zones in
    let k = c.loop-exdate.exdate-index in
    let x = c.exdate-item.result in
    let items : c.exdates-exdate-items.result.now ≡ event.exdates = c.exdates-exdate-items.ensures.value in
    let there : k < length event.exdates = subst (λ (xs : List Time). k < length xs) items c.loop-exdate-test.true in
    let item : x ≡ get_or event.exdates k x = c.exdate-item.is ∙ ap (λ (xs : List Time). get_or xs k x) items in
    let fits = moment-back c.args.moment c.ranges.moment.sfits in
    let out = (λ i. excludes clocks (sym c.event.view_is i).start x (sym fits i)) ∙ (sym c.excludes.ensures ∙ c.if-excludes.true) in
    sym (any-at (λ e. excludes clocks event.start e c.args.moment) event.exdates k x there item out)
