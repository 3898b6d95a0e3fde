use Rattle.ics_rule.proofs.QuietLemmas.{joined}
use Rattle.ics_rule.proofs.quiet.next_by_parts.Goals as goal

pub returns-then-filled-open-clause-none : goal.returns-then-filled-open-clause-none
returns-then-filled-open-clause-none c =
    joined c.args.search.now.parts.now c.args.search.now.start c.next_by_date-open.result c.next_by_date-open.ensures.none c.next_filled-filled.ensures.none

pub returns-clause-none : goal.returns-clause-none
returns-clause-none c =
    let q = c.args.search.now.parts.now in
    let start = c.args.search.now.start in
    joined q start c.next_filled-filled.result
    (joined q start c.next_by_date-open.result c.next_by_date-open.ensures.none c.next_filled-filled.ensures.none) c.next_by_date.ensures.none
