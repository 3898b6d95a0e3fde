use Rattle.std.proofs.Common.{◌∙◌, ap, option_and_then}
use Rattle.clap.specs.Words.{subcommand_rows_of}
use Rattle.khal_words.specs.Entries.{limit_text}
use Rattle.khal_words.specs.Limits.{number_of}
use Rattle.khal_words.proofs.LimitLemmas.{limit_stands, parsed}
use Rattle.khal_words.proofs.words.limit_of.Goals as goal

pub returns : goal.returns
returns c =
    let read = c.ok.ensures.value ∙ parsed c.in_ok-entry.field-0.now c.parse.result c.parse.ensures.value.0 in
    limit_stands (limit_text (subcommand_rows_of c.args.found.now)) c.ok.result c.requires (read ∙ ap (option_and_then number_of) c.in_ok-entry.ensures)
