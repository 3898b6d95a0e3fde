use Rattle.ics_rule.proofs.QuietLemmas.{kept_quiet}
use Rattle.ics_rule.proofs.cursor.Cursor.quiet_from.Goals as goal

pub returns-clause-counted : goal.returns-clause-counted
returns-clause-counted c = kept_quiet c.args.search.now.parts.now c.args.search.now.start c.args.search.now.count
    c.args.self.now c.requires.counted c.requires.passed c.next_by_parts-to.ensures.none
