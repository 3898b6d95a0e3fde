use Rattle.std.proofs.Common.{◌≡◌, ◌+◌, ◌≤◌, List, ℕ, arith, ap, drop, take, length, length-drop, ◌∙◌}
use Rattle.std.specs.List.{prefix_len}
use Rattle.std.proofs.lemmas.List.{drop-drop}
use Rattle.std.proofs.lemmas.List.Sums.{prefix_len-le-length}
use Rattle.std.proofs.lemmas.Simd.{length-chunk}
use Rattle.ics_text.specs.Bytes.{in_line}
use Rattle.ics_text.proofs.LineEnds.{goes_past, stops_within}
use Rattle.ics_text.proofs.line_end.line_len.Goals as goal

pub returns-then-len-lt32-clause-value : goal.returns-then-len-lt32-clause-value
returns-then-len-lt32-clause-value c =
    let at : ℕ = c.loop-at.at in
    let bytes : List ℕ = c.args.bytes.now in
    let rest : List ℕ = drop at bytes in
    let counted = c.before_end-len.ensures in
    let short = stops_within in_line 32 rest (omega (arith, counted)) (omega (arith, length-drop at bytes)) in
    omega (arith, counted, short, c.loop-at.invariant.passed)

pub loop-at-preserved : goal.loop-at-preserved
loop-at-preserved c =
    let at : ℕ = c.loop-at.at in
    let bytes : List ℕ = c.args.bytes.now in
    let rest : List ℕ = drop at bytes in
    let room : at + 32 ≤ length bytes = omega (arith, c.loop-at.invariant.within) in
    let few = prefix_len-le-length in_line (take 32 rest) in
    let all : prefix_len in_line (take 32 rest) ≡ 32 = omega (arith, c.before_end-len.ensures, few, length-chunk at 32 bytes room) in
    let past = goes_past in_line 32 rest (omega (arith, length-drop at bytes, room)) all in
    let on : prefix_len in_line (drop 32 rest) ≡ prefix_len in_line (drop (at + 32) bytes) =
    ap (prefix_len in_line) (drop-drop 32 at bytes ∙ ap (λ n. drop n bytes) (omega arith)) in
    record { passed = omega (arith, c.loop-at.invariant.passed, past, on); within = room }
