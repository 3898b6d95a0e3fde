use Rattle.std.proofs.Common.{◌≡◌, ℕ, ◌+◌, ◌*◌, ◌<◌, ◌++◌, true, length, drop, arith, sym, ap, ◌∙◌, add_assoc, length-drop, subst, filter, option_copied}
use Rattle.std.proofs.lemmas.Grind.{common_steps}
use Rattle.ics_text.specs.Unfolded.{is_line, attach, physical_lines, BeginsFolded}
use Rattle.ics_text.specs.Inner.Reading.{line_of, all_from, physical_behind}
use Rattle.ics_text.proofs.Joins.{grown, GoOn, grown-more, folded-some, on_err, grown-folded}
use Rattle.ics_text.proofs.folds.join_folds.Goals as goal

pub loop-line-preserved : goal.loop-line-preserved
loop-line-preserved c =
    let rest = c.loop-line.rest.now in
    let line = c.cut_line.result.0.now in
    let behind = c.in-Some.behind.now in
    let bytes = c.loop-line.bytes.items in
    let on : GoOn rest line (physical_lines behind) = record { blank = cc; cut = rw c.in-Some.is at c.cut_line.ensures.lines } in
    let less = rw c.in-Some.is at c.cut_line.ensures.shorter in
    let items : c.extend_from_slice-in-loop-line.new.self.items ≡ bytes ++ drop 1 line = c.in_ok-extend_from_slice-2.ensures.items
    ∙ ap (λ t. bytes ++ t) c.without_first.ensures in
    record {
      grows = λ n.
          c.loop-line.invariant.grows n
          ∙ ap (filter is_line) (grown-more n (n + c.loop-line.breaks) bytes behind on)
          ∙ ap (λ k. filter is_line (grown n (bytes ++ drop 1 line) k behind)) (add_assoc n c.loop-line.breaks 1)
          ∙ ap (λ t. filter is_line (grown n t (n + (c.loop-line.breaks + 1)) behind)) (sym items);
      counted = omega (arith, ap length on.cut, c.loop-line.invariant.counted);
      fewer = omega (arith, less);
      some = omega arith;
    }

pub returns-in_err-bytes-clause-err : goal.returns-in_err-bytes-clause-err
returns-in_err-bytes-clause-err c =
    let refused : 2 * length c.args.first.now ≡ 0 → ⊥ = λ none. let never = rw c.in_err-bytes.was at (c.with_capacity.ensures.succeeds none) in cc in
    let some : 0 < length c.args.first.now = omega (arith, refused) in
    let folded : (n : ℕ) → BeginsFolded (filter is_line (attach (line_of n c.args.first.now true) (all_from (n + 1) c.args.after.now))) =
    λ n. folded-some n c.args.first.now (all_from (n + 1) c.args.after.now) some in
    on_err _ folded

pub returns-in_err-extend_from_slice-clause-err : goal.returns-in_err-extend_from_slice-clause-err
returns-in_err-extend_from_slice-clause-err c =
    absurd (omega (arith, c.in_err-extend_from_slice.ensures.full, c.in_ok-bytes.ensures.exact, c.in_ok-bytes.ensures.len))

pub returns-in_err-extend_from_slice-2-clause-err : goal.returns-in_err-extend_from_slice-2-clause-err
returns-in_err-extend_from_slice-2-clause-err c =
    let full = c.in_err-extend_from_slice-2.ensures.full in
    let rest = c.loop-line.rest.now in
    let line = c.cut_line.result.0.now in
    let on : GoOn rest line (physical_behind (option_copied c.cut_line.result.1)) = record { blank = cc; cut = c.cut_line.ensures.lines } in
    let some : 1 < length line = omega (arith, full, c.loop-line.bytes.ok.1, ap length c.without_first.ensures, length-drop 1 line) in
    let folded : (n : ℕ) → BeginsFolded (filter is_line (attach (line_of n c.args.first.now true) (all_from (n + 1) c.args.after.now))) =
    λ n. subst BeginsFolded (sym (c.loop-line.invariant.grows n))
    (grown-folded n (n + c.loop-line.breaks) c.loop-line.bytes.items on some) in
    on_err _ folded

pub loop-line-preserved-in-None : goal.loop-line-preserved-in-None
loop-line-preserved-in-None c = grind (arith, common_steps)
