use Rattle.std.proofs.Common.{rules, ◌≡◌, ◌≤ℤ◌, sym, subst, to_z, of_z, w32}
use Rattle.ics_starts.specs.Clocks.{display_clock}
use Rattle.ics_days.specs.ShownDays.{date_at}
use Rattle.ics_days.specs.NearDays.{last_near}
use Rattle.ics_listing.proofs.Cases.{moment-back}
use Rattle.ics_days.proofs.NearDayLemmas.{last-shown, last-within}
use Rattle.ics_days.proofs.date.last_shown.Goals as goal

pub returns-clause-shown : goal.returns-clause-shown
returns-clause-shown c = λ t low high.
    let day = rw (moment-back c.latest_local.result c.latest_local.type_inv) at c.of_seconds.ensures.day in
    let fits : to_z w32 (of_z w32 c.of_seconds.result.day) ≡ c.of_seconds.result.day = search rules in
    subst (λ d. date_at (display_clock c.args.display.now) t ≤ℤ d) (sym fits)
    (last-shown day (display_clock c.args.display.now) t (c.latest_local.ensures.shown t low high))

pub returns-clause-near : goal.returns-clause-near
returns-clause-near c =
    let day = rw (moment-back c.latest_local.result c.latest_local.type_inv) at c.of_seconds.ensures.day in
    let fits : to_z w32 (of_z w32 c.of_seconds.result.day) ≡ c.of_seconds.result.day = search rules in
    subst (λ d. d ≤ℤ last_near c.args.window.now c.args.bounds) (sym fits)
    (last-within day c.args.window.now c.args.bounds c.latest_local.ensures.high)
