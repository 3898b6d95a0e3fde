use Rattle.std.proofs.Common.{sym, ◌∙◌}
use Rattle.ics_components.proofs.uid_search.UidSearch.over_all.Goals as goal

-- one line further
pub lines-preserved : goal.lines-preserved
lines-preserved c =
    let goes = c.in_ok-bare.ensures c.lines.lines c.next_read.new.self (rw c.in-Some.is at c.in_ok-line.ensures.ok) in
    sym (rw c.if-not-bare.false at goes) ∙ c.lines.invariant

-- a line that is not bare
pub returns-then-not-bare : goal.returns-then-not-bare
returns-then-not-bare c =
    let stops = c.in_ok-bare.ensures c.lines.lines c.next_read.new.self (rw c.in-Some.is at c.in_ok-line.ensures.ok) in
    sym (rw c.if-not-bare.true at stops) ∙ c.lines.invariant
