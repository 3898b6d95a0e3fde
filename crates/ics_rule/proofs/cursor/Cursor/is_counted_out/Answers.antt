use Rattle.std.proofs.Common.{arith}
use Rattle.std.proofs.lemmas.Bool.{leb-false, leb-true}
use Rattle.ics_rule.proofs.QuietLemmas.{counted_here, counted_past}
use Rattle.ics_rule.proofs.cursor.Cursor.is_counted_out.Goals as goal

pub returns-in-Some-held-clause-out : goal.returns-in-Some-held-clause-out
returns-in-Some-held-clause-out c = λ out.
    let period = rw c.in-Some-held.is at c.requires.held in
    let counted = rw (c.in-Some.is, c.in-Some-held.is) at c.requires.counted in
    let most = leb-true c.args.self.now.limit c.saturating_add.result out in
    rw c.in-Some.is (counted_past c.args.n period.0 counted period.1
    (omega (arith, most, c.saturating_add.ensures, c.taken_before-before.ensures.value)))

pub returns-in-Some-held-clause-kept : goal.returns-in-Some-held-clause-kept
returns-in-Some-held-clause-kept c = λ few here.
    let period = rw c.in-Some-held.is at c.requires.held in
    let counted = rw (c.in-Some.is, c.in-Some-held.is) at c.requires.counted in
    let less = leb-false c.args.self.now.limit c.saturating_add.result few in
    rw c.in-Some.is (counted_here c.args.n period.0 counted (rw c.in-Some-held.is at here)
    (omega (arith, less, c.saturating_add.ensures, c.taken_before-before.ensures.value)))
