use Rattle.std.proofs.Common.{sym, ◌∙◌}
use Rattle.std.proofs.lemmas.Bool.{eqb-true}
use Rattle.ics_period.proofs.effective.has_no_weekday.Goals as goal

pub returns-then-is_empty-clause-empty : goal.returns-then-is_empty-clause-empty
returns-then-is_empty-clause-empty c = λ none.
    let plain = eqb-true c.args.weekdays.now.plain 0 (sym c.is_empty.ensures ∙ c.if-is_empty.true) in
    let numbered = c.has_no_numbers.ensures.empty none in
    λ i. record { plain = plain i; numbered = numbered i }
