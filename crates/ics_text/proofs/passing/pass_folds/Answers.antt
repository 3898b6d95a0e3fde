use Rattle.std.proofs.Common.{ℕ, ◌+◌, ◌++◌, List, [], drop, length, arith, ap, ◌∙◌, add_assoc, append_assoc, filter}
use Rattle.std.proofs.lemmas.Grind.{common_steps}
use Rattle.ics_text.specs.Unfolded.{is_line, physical_lines}
use Rattle.ics_text.proofs.Joins.{grown, GoOn, grown-more, grown-last}
use Rattle.ics_text.proofs.passing.pass_folds.Goals as goal

pub loop-behind-preserved : goal.loop-behind-preserved
loop-behind-preserved c =
    let rest = c.loop-behind.rest.now in
    let line = c.cut_line.result.0.now in
    let behind = c.in-Some.behind.now in
    let on : GoOn rest line (physical_lines behind) = record { blank = cc; cut = rw c.in-Some.is at c.cut_line.ensures.lines } in
    let less = rw c.in-Some.is at c.cut_line.ensures.shorter in
    let more : List ℕ = c.loop-behind.invariant.grows.0 in
    record {
      grows = (
        more ++ drop 1 line,
        λ n first.
            c.loop-behind.invariant.grows.1 n first
            ∙ ap (filter is_line) (grown-more n (n + c.loop-behind.breaks) (first ++ more) behind on)
            ∙ ap (λ k. filter is_line (grown n ((first ++ more) ++ drop 1 line) k behind)) (add_assoc n c.loop-behind.breaks 1)
            ∙ ap (λ t. filter is_line (grown n t (n + (c.loop-behind.breaks + 1)) behind)) (append_assoc first more (drop 1 line)),
      );
      counted = omega (arith, ap length on.cut, c.loop-behind.invariant.counted);
      fewer = omega (arith, less);
      some = omega arith;
    }

pub loop-behind-preserved-in-None : goal.loop-behind-preserved-in-None
loop-behind-preserved-in-None c =
    let rest = c.loop-behind.rest.now in
    let line = c.cut_line.result.0.now in
    let on : GoOn rest line [] = record { blank = cc; cut = rw c.in-None.is at c.cut_line.ensures.lines } in
    let more : List ℕ = c.loop-behind.invariant.grows.0 in
    let grows = λ (n : ℕ) (first : List ℕ).
    c.loop-behind.invariant.grows.1 n first
    ∙ grown-last n (n + c.loop-behind.breaks) (first ++ more) on
    ∙ ap (λ t. filter is_line (grown n t (n + c.loop-behind.breaks) [])) (append_assoc first more (drop 1 line)) in
    record {
      grows = (more ++ drop 1 line, λ n first. let done = grows n first in grind (arith, common_steps, done));
      counted = let one = ap length on.cut in grind (arith, common_steps, one);
      fewer = grind (arith, common_steps);
      some = grind (arith, common_steps);
    }
