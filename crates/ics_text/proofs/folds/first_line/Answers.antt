use Rattle.std.proofs.Common.{◌≡◌, ℕ, ◌+◌, List, false, ap, ◌∙◌, sym, filter}
use Rattle.ics_text.specs.Unfolded.{attach, is_line, lines_from}
use Rattle.ics_text.specs.Inner.Reading.{line_of, all_from}
use Rattle.ics_text.proofs.Joins.{all_from-front}
use Rattle.ics_text.proofs.Passed.{begins-there}
use Rattle.ics_text.proofs.folds.first_line.Goals as goal

pub returns-clause-found : goal.returns-clause-found
returns-clause-found g c = λ n.
    let cut = rw c.in-Some.is at c.cut_line.ensures.lines in
    let front = all_from-front n c.args.bytes.now c.cut_line.result.0.now c.in-Some.after.now cut in
    ap (filter is_line) (rw (sym c.is_continued.ensures ∙ c.if-is_continued.false) at front)

pub returns-then-is_continued-clause-found : goal.returns-then-is_continued-clause-found
returns-then-is_continued-clause-found g c =
    let cut = rw c.in-Some.is at c.cut_line.ensures.lines in
    let line : List ℕ = c.cut_line.result.0.now in
    let after : List ℕ = c.in-Some.after.now in
    let front : (n : ℕ) → lines_from n c.args.bytes.now ≡ filter is_line (attach (line_of n line false) (all_from (n + 1) after)) =
    λ n.
    let all = all_from-front n c.args.bytes.now c.cut_line.result.0.now c.in-Some.after.now cut in
    ap (filter is_line) (rw (sym c.is_continued.ensures ∙ c.if-is_continued.true) at all) in
    begins-there (g.R.Reads.reads c.args.reader.now) c.folded_line.result (λ n. lines_from n c.args.bytes.now)
    (λ n. filter is_line (attach (line_of n line false) (all_from (n + 1) after))) front c.folded_line.ensures.found
