use Rattle.std.proofs.Common.{◌≡◌, false, get_or, length, sym, ap, arith, not}
use Rattle.std.proofs.lemmas.List.Sums.{position_or_len_is}
use Rattle.ics_values.specs.Digits.{is_digit}
use Rattle.ics_values.proofs.digits.digit_count.Goals as goal

pub returns-then-not-is_ascii_digit-clause-value : goal.returns-then-not-is_ascii_digit-clause-value
returns-then-not-is_ascii_digit-clause-value c =
    let text = c.args.text.now in
    let no : is_digit (get_or text c.loop-i.i 0) ≡ false = sym c.if-not-is_ascii_digit.ensures.value in
    sym (position_or_len_is (λ b. not (is_digit b)) text c.loop-i.i 0 (omega arith) (λ k h. ap not (c.loop-i.invariant k h)) (λ _. ap not no))

pub returns-clause-value : goal.returns-clause-value
returns-clause-value c =
    let text = c.args.text.now in
    sym (position_or_len_is (λ b. not (is_digit b)) text (length text) 0 (omega arith) (λ k h. ap not (c.loop-i.invariant k (omega arith)))
    (λ h. absurd (omega arith)))
