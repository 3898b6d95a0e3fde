use Rattle.std.proofs.Common.{◌∙◌, ◌+◌, sym, ap, take, subst, is_some}
use Rattle.std.proofs.lemmas.List.{take_rest}
use Rattle.ics_components.specs.DateValues.{period_of}
use Rattle.ics_components.specs.Lines.{Answers, judged}
use Rattle.ics_components.proofs.DateValueLemmas.{rdate-is}
use Rattle.ics_components.proofs.date_values.Listing.value.Goals as goal

pub returns-in-Some : goal.returns-in-Some
returns-in-Some c =
    rw c.in-Rdate.is (subst (λ v. Answers c.period.result (judged c.args.zone.now v)) (
    ap (period_of (is_some c.args.zone.now) (take c.in-Some.i c.args.text.now)) (take_rest c.args.text.now (c.in-Some.i + 1))
    ∙ rdate-is (is_some c.args.zone.now) c.args.text.now (sym c.slash.ensures ∙ c.in-Some.is)
    ) c.period.ensures)

pub returns-in-None : goal.returns-in-None
returns-in-None c = rw (c.in-Rdate.is, ← rdate-is (is_some c.args.zone.now) c.args.text.now (sym c.slash.ensures ∙ c.in-None.is)) c.at.ensures
