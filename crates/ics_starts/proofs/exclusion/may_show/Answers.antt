use Rattle.std.proofs.Common.{inr, arith}
use Rattle.std.proofs.lemmas.Int.{ints}
use Rattle.ics_starts.proofs.exclusion.may_show.Goals as goal

pub returns-then-window-begin : goal.returns-then-window-begin
returns-then-window-begin c =
    let w = c.args.window.now in
    λ _. inr (omega (arith, ints, c.if-window-begin.true, c.from-begin.ensures, c.from-begin.type_inv, w.ordered, w.not_early, w.not_late))
