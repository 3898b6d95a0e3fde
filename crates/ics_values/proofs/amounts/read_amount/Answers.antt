use Rattle.std.proofs.Common.{◌≡◌, false, [], ◌∷◌, take, drop}
use Rattle.ics_values.specs.Digits.{digit_count, number_of}
use Rattle.ics_values.specs.Texts.{begins_with}
use Rattle.ics_values.specs.Durations.{shape}
use Rattle.ics_values.specs.Inner.Amounts.{IsLetter, capped}
use Rattle.ics_values.proofs.ShapeLemmas.{digit_count-digits, digit_count-zero, digit_count-some, lacks-zero, shape-digits, is_amount}
use Rattle.ics_values.proofs.amounts.read_amount.Goals as goal

pub returns-then-count-eq0 : goal.returns-then-count-eq0
returns-then-count-eq0 c = lacks-zero c.args.unit c.args.text.now (digit_count-zero c.args.text.now (cc))

pub returns-in_err-rest : goal.returns-in_err-rest
returns-in_err-rest c =
    let text = c.args.text.now in
    let count = c.digit_count-count.ensures.value in
    let lacks : begins_with (c.args.unit ∷ []) (shape (drop (digit_count text) text)) ≡ false = rw (c.split_at.ensures.back, count) at c.in_err-rest.ensures in
    rw (c.from_residual.ensures, shape-digits text (digit_count-some text count c.if-count-eq0.false)) lacks

pub capped_number-requires : goal.capped_number-requires
capped_number-requires c = rw (c.split_at.ensures.front, c.digit_count-count.ensures.value) (digit_count-digits c.args.text.now)

pub returns : goal.returns
returns c =
    let text = c.args.text.now in
    let rest = c.in_ok-rest.rest.now in
    let count = c.digit_count-count.ensures.value in
    let letter : IsLetter c.args.unit (drop (digit_count text) text) rest = rw (c.split_at.ensures.back, count) at c.in_ok-rest.ensures in
    let number : c.capped_number.result ≡ capped (number_of (take (digit_count text) text)) = rw (c.split_at.ensures.front, count) at c.capped_number.ensures in
    rw number (is_amount c.args.unit text rest c.requires (digit_count-some text count c.if-count-eq0.false) letter)
