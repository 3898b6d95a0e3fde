use Rattle.std.proofs.Common.{◌≡◌, ◌∙◌, ◌&&◌, sym, ap, subst, rules, to_z, of_z, w32}
use Rattle.ics_fields.specs.Days.{IsDayNumber}
use Rattle.ics_listing.specs.Entry.{entry_of}
use Rattle.ics_starts.specs.Clocks.{display_clock}
use Rattle.ics_starts.proofs.MeetsLemmas.{is_met-meets}
use Rattle.ics_days.specs.ShownDays.{is_on}
use Rattle.ics_days.proofs.NearDayLemmas.{bounds-offsets}
use Rattle.ics_days.proofs.occurrence_days.is_today.Goals as goal

pub returns-then-not-is_met-clause-today : goal.returns-then-not-is_met-clause-today
returns-then-not-is_met-clause-today c =
    let w = c.args.window.now in
    let o = entry_of c.args.occurrence.now in
    ap (λ met. met && is_on (display_clock c.args.display.now) w o c.args.day) (sym c.if-not-is_met.true ∙ c.is_met.ensures)

pub returns-then-is_known_on-clause-today : goal.returns-then-is_known_on-clause-today
returns-then-is_known_on-clause-today c =
    let w = c.args.window.now in
    let o = entry_of c.args.occurrence.now in
    let clock = display_clock c.args.display.now in
    let fits : to_z w32 (of_z w32 c.args.day) ≡ c.args.day = search rules in
    let met = sym c.is_met.ensures ∙ c.if-not-is_met.false in
    let on = rw fits at (c.is_known_on.ensures.on clock c.requires (is_met-meets w o met) c.if-is_known_on.true) in
    sym (λ i. met i && on i)

pub returns-clause-today : goal.returns-clause-today
returns-clause-today c =
    let w = c.args.window.now in
    let o = entry_of c.args.occurrence.now in
    let fits : to_z w32 (of_z w32 c.args.day) ≡ c.args.day = search rules in
    let met = sym c.is_met.ensures ∙ c.if-not-is_met.false in
    rw fits at c.is_on.ensures.on ∙ ap (λ b. b && is_on (display_clock c.args.display.now) w o c.args.day) (sym met)

pub is_known_on-requires : goal.is_known_on-requires
is_known_on-requires c = bounds-offsets (display_clock c.args.display.now) c.args.window.now c.args.bounds c.requires

pub returns-clause-within : goal.returns-clause-within
returns-clause-within c = λ is.
    let fits : to_z w32 (of_z w32 c.args.day) ≡ c.args.day = search rules in
    subst IsDayNumber fits (c.is_on.ensures.within is)
