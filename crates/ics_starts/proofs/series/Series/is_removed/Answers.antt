use Rattle.std.proofs.Common.{◌∙◌, ap, sym}
use Rattle.ics_listing.proofs.Cases.{moment-back}
use Rattle.ics_starts.specs.Clocks.{clock_of}
use Rattle.ics_starts.specs.Exclusions.{is_excluded, is_known, takes_out}
use Rattle.ics_starts.specs.FileZones.{clocks_in}
use Rattle.ics_starts.proofs.series.Series.is_removed.Goals as goal

pub returns-then-knows : goal.returns-then-knows
returns-then-knows c =
    let s = c.args.self.now in
    let clocks = clocks_in s.zones in
    let fits = moment-back c.args.moment c.ranges.moment.sfits in
    let known = ap (is_known s.exclusions.from s.exclusions.running.items) (sym fits) ∙ (sym c.knows.ensures ∙ c.if-knows.true) in
    c.has.ensures ∙ ((λ i. takes_out (clock_of clocks (c.event.view_is i).start) s.exclusions.instants.items s.exclusions.days.items (fits i))
    ∙ s.taken_out.same c.args.moment known c.requires.early)

pub returns-else-knows : goal.returns-else-knows
returns-else-knows c =
    let clocks = clocks_in c.args.self.now.zones in
    let fits = moment-back c.args.moment c.ranges.moment.sfits in
    c.is_excluded.ensures ∙ ap (is_excluded clocks c.args.self.now.event.now) fits
