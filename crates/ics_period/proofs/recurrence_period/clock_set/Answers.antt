use Rattle.std.proofs.Common.{◌∙◌, ◌==◌, ◌||◌, ◌&&◌, ◌<◌, ◌^◌, ap, sym, subst}
use Rattle.std.proofs.Math.Pow.{pow-lt}
use Rattle.ics_fields.specs.Sets.{contains}
use Rattle.ics_period.specs.Candidates.{lets}
use Rattle.ics_period.proofs.ScanLemmas.{contains-only, own_only}
use Rattle.ics_period.proofs.recurrence_period.clock_set.Goals as goal

pub returns-then-lets-clause-members : goal.returns-then-lets-clause-members
returns-then-lets-clause-members c = λ m h.
    ap (λ x. contains x m) c.only.ensures ∙ contains-only c.args.own m
    ∙ own_only (lets c.args.part) c.args.own m (sym c.lets.ensures ∙ c.if-lets.true)
    ∙ ap (λ x. (x || (m == c.args.own)) && lets c.args.part m) (sym c.if-not-free.true)

pub returns-then-lets-clause-bound : goal.returns-then-lets-clause-bound
returns-then-lets-clause-bound c = subst (λ x. x < 2 ^ c.args.size) (sym c.only.ensures) (pow-lt c.requires.own)
