use Rattle.std.proofs.Common.{◌≡◌, ◌==◌, arith, take, drop, sym, ◌∙◌, length, ℕ, List}
use Rattle.std.proofs.lemmas.Simd.{leading_from_mask_l, length-chunk, trailing_mask_l}
use Rattle.ics_text.proofs.line_end.before_end.Goals as goal

pub returns-then-marks-eq0 : goal.returns-then-marks-eq0
returns-then-marks-eq0 c =
    let bytes : List ℕ = take 32 (drop c.args.at c.args.bytes.now) in
    let long : length bytes ≡ 32 = length-chunk c.args.at 32 c.args.bytes.now c.requires in
    sym (leading_from_mask_l (λ b. b == 10) bytes (sym c.marks-marks.ensures ∙ omega arith) ∙ long)

pub returns : goal.returns
returns c =
    let bytes : List ℕ = take 32 (drop c.args.at c.args.bytes.now) in
    let long : length bytes ≡ 32 = length-chunk c.args.at 32 c.args.bytes.now c.requires in
    rw c.marks-marks.ensures (trailing_mask_l (λ b. b == 10) 64 bytes (omega (arith, long)) (omega (arith, c.marks-marks.ensures)))
