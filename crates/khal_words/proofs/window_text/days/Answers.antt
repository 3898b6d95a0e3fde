use Rattle.std.proofs.Common.{ap, arith, option_and_then}
use Rattle.std.proofs.lemmas.Str.Pattern.{strip_suffix_char}
use Rattle.khal_words.specs.WindowTexts.{number_said}
use Rattle.khal_words.proofs.WindowTextLemmas.{before_d-none}
use Rattle.khal_words.proofs.window_text.days.Goals as goal

pub returns-in-None-clause-value : goal.returns-in-None-clause-value
returns-in-None-clause-value c =
    let other = rw c.in-None.is at (strip_suffix_char 100 c.args.text.now c.strip_suffix.result c.strip_suffix.ensures.cases (omega arith)) in
    ap (option_and_then number_said) (before_d-none c.args.text.now other)
