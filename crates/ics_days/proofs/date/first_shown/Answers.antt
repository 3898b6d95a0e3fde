use Rattle.std.proofs.Common.{rules, ◌≡◌, ◌≤ℤ◌, sym, subst, to_z, of_z, w32}
use Rattle.ics_starts.specs.Clocks.{display_clock}
use Rattle.ics_days.specs.ShownDays.{date_at}
use Rattle.ics_days.specs.NearDays.{first_near}
use Rattle.ics_listing.proofs.Cases.{moment-back}
use Rattle.ics_days.proofs.NearDayLemmas.{first-shown, first-within}
use Rattle.ics_days.proofs.date.first_shown.Goals as goal

pub returns-clause-shown : goal.returns-clause-shown
returns-clause-shown c = λ t low high.
    let day = rw (moment-back c.earliest_local.result c.earliest_local.type_inv) at c.of_seconds.ensures.day in
    let fits : to_z w32 (of_z w32 c.of_seconds.result.day) ≡ c.of_seconds.result.day = search rules in
    subst (λ d. d ≤ℤ date_at (display_clock c.args.display.now) t) (sym fits)
    (first-shown day (display_clock c.args.display.now) t (c.earliest_local.ensures.shown t low high))

pub returns-clause-near : goal.returns-clause-near
returns-clause-near c =
    let day = rw (moment-back c.earliest_local.result c.earliest_local.type_inv) at c.of_seconds.ensures.day in
    let fits : to_z w32 (of_z w32 c.of_seconds.result.day) ≡ c.of_seconds.result.day = search rules in
    subst (λ d. first_near c.args.window.now c.args.bounds ≤ℤ d) (sym fits)
    (first-within day c.args.window.now c.args.bounds c.earliest_local.ensures.low)
