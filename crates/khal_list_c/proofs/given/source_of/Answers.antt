use Rattle.std.proofs.Common.{arith, rules}
use Rattle.std.proofs.lemmas.Grind.{common_steps}
use Rattle.std.proofs.lemmas.Option.{slice_get-get_or}
use Rattle.khal_list_c.proofs.Texts.{no_name}
use Rattle.khal_list_c.proofs.given.source_of.Goals as goal

pub returns-in_err-file-clause-no_text : goal.returns-in_err-file-clause-no_text
returns-in_err-file-clause-no_text c e =
    let low = c.loop-file-test.true in
    no_name c.args.files.now c.loop-file.file-index _ (slice_get-get_or c.args.files.now c.loop-file.file-index _ (omega (arith, low)))
    (c.in_err-file.ensures.no_text (search (rules, e)))

pub loop-file-preserved : goal.loop-file-preserved
loop-file-preserved c = grind (arith, common_steps)

pub returns-clause-files : goal.returns-clause-files
returns-clause-files c = grind (arith, common_steps)
