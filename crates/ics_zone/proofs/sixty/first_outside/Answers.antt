use Rattle.std.proofs.Common.{arith, ◌∙◌, ap}
use Rattle.ics_fields.specs.Sets.{contains}
use Rattle.ics_zone.proofs.SixtyLemmas.{all_inside, first_place}
use Rattle.ics_fields.proofs.SetLemmas.{has_none}
use Rattle.ics_zone.proofs.sixty.first_outside.Goals as goal

pub returns-then-rest-eq0 : goal.returns-then-rest-eq0
returns-then-rest-eq0 c = λ n low.
    all_inside c.args.word c.args.other c.front-rest.result (omega arith) c.front-rest.ensures.members n low
    (ap (λ x. contains x n) c.if-rest-eq0.true ∙ has_none n)

pub returns : goal.returns
returns c = first_place c.args.word c.args.other c.front-rest.result (omega arith) c.front-rest.ensures.members c.if-rest-eq0.false (omega arith)
