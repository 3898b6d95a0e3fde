use Rattle.std.proofs.Common.{◌≤ℤ◌, sym, subst}
use Rattle.ics_listing.specs.Listing.{IsIn}
use Rattle.ics_starts.specs.SeriesStarts.{rule_left}
use Rattle.ics_listing.proofs.Cases.{moment-back}
use Rattle.ics_starts.proofs.series.rule_from.Goals as goal

pub returns-in-Some : goal.returns-in-Some
returns-in-Some c = λ start m.
    let stands = subst (λ rule. IsIn start (rule_left rule)) c.in-Some.is m in
    subst (λ t. t ≤ℤ start.moment) (sym (moment-back c.from.result c.from.type_inv)) (c.from.ensures start stands)
