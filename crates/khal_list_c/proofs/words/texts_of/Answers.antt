use Rattle.std.proofs.Common.{arith}
use Rattle.std.proofs.lemmas.Grind.{common_steps}
use Rattle.std.proofs.lemmas.Option.{slice_get-get_or}
use Rattle.khal_list_c.proofs.Texts.{no_word}
use Rattle.khal_list_c.proofs.words.texts_of.Goals as goal

pub returns-in_default-clause-no_text : goal.returns-in_default-clause-no_text
returns-in_default-clause-no_text c e =
    let low = c.loop-word-test.true in
    no_word c.args.words.now c.loop-word.word-index _
    (slice_get-get_or c.args.words.now c.loop-word.word-index _ (omega (arith, low))) c.in_default.ensures.cases.0

pub loop-word-preserved : goal.loop-word-preserved
loop-word-preserved c = grind (arith, common_steps)

pub returns-clause-texts : goal.returns-clause-texts
returns-clause-texts c = grind (arith, common_steps)
