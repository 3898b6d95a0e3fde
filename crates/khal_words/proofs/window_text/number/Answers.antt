use Rattle.std.proofs.Common.{◌≡◌, rules, true}
use Rattle.std.proofs.lemmas.Str.Parse.{parse_digits}
use Rattle.std.specs.Char.{is_ascii_digit}
use Rattle.std.specs.List.{list_all}
use Rattle.khal_words.proofs.WindowTextLemmas.{own, none_said, number_is}
use Rattle.khal_words.proofs.window_text.number.Goals as goal

pub returns-in-Ok-clause-value : goal.returns-in-Ok-clause-value
returns-in-Ok-clause-value c =
    let digits : list_all is_ascii_digit c.args.digits.now ≡ true = search rules in
    let read = rw c.in-Ok.is at (parse_digits own 32 c.args.digits.now c.parse.result c.parse.ensures.value.0 digits) in
    number_is c.args.digits.now c.in-Ok.number digits read.1 c.if-number-ge1.true c.if-number-le-MOST_DAYS.true

pub returns-in_default-3-clause-value : goal.returns-in_default-3-clause-value
returns-in_default-3-clause-value c =
    let digits : list_all is_ascii_digit c.args.digits.now ≡ true = search rules in
    none_said c.args.digits.now (rw c.in_default.is at (parse_digits own 32 c.args.digits.now c.parse.result c.parse.ensures.value.0 digits))
