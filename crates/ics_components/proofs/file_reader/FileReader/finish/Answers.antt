use Rattle.ics_components.proofs.FileParts.{finish-says}
use Rattle.ics_components.proofs.file_reader.FileReader.finish.Goals as goal

pub returns-clause-parsed : goal.returns-clause-parsed
returns-clause-parsed c = λ keep bytes has.
    (finish-says keep bytes c.deref.result.now c.args.self c.finish-parsed.result has c.deref.ensures.value c.finish-parsed.ensures).0

pub returns-clause-sound : goal.returns-clause-sound
returns-clause-sound c =
    (finish-says c.requires.0 c.requires.1 c.deref.result.now c.args.self c.finish-parsed.result c.requires.2 c.deref.ensures.value
    c.finish-parsed.ensures).1
