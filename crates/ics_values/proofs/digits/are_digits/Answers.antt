use Rattle.std.proofs.Common.{◌≡◌, ◌==◌, ◌&&◌, false, length, sym, ap, ◌∙◌, not}
use Rattle.std.specs.List.{list_all}
use Rattle.ics_values.specs.Digits.{is_digit}
use Rattle.ics_values.proofs.ShapeLemmas.{digit_count-all}
use Rattle.ics_values.proofs.digits.are_digits.Goals as goal

pub returns-then-not-is_empty : goal.returns-then-not-is_empty
returns-then-not-is_empty c =
    let text = c.args.text.now in
    let some : false ≡ (length text == 0) = c.if-not-is_empty.ensures in
    rw c.digit_count.ensures.value (sym (digit_count-all text) ∙ ap (λ t. not t && list_all is_digit text) some)
