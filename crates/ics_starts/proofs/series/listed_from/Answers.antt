use Rattle.std.proofs.Common.{rules, w64, ◌∙◌, sym, arith, SFits}
use Rattle.std.proofs.lemmas.Int.{ints}
use Rattle.ics_listing.specs.KnownStarts.{listed_left}
use Rattle.ics_listing.proofs.FirstLemmas.{first-least, none-first}
use Rattle.ics_starts.proofs.SeriesLemmas.{rises-listed}
use Rattle.ics_starts.proofs.series.listed_from.Goals as goal

pub returns-in-None : goal.returns-in-None
returns-in-None c = λ t m. absurd (none-first (listed_left c.args.listed.now) (sym c.in-None.is ∙ c.peek.ensures) t m)

pub returns-in-Some : goal.returns-in-Some
returns-in-Some c = λ t m.
    let fits : SFits w64 c.in-Some.first.moment = search rules in
    let least = first-least (listed_left c.args.listed.now) (rises-listed c.args.listed.now) c.in-Some.first (sym c.in-Some.is ∙ c.peek.ensures) t m in
    omega (arith, ints, least)
