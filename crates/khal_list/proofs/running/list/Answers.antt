use Rattle.std.proofs.Common.{◌∙◌, map, ap}
use Rattle.ics_file.specs.File.{said_by}
use Rattle.ics_series.specs.FolderContents.{Contents}
use Rattle.khal_list.proofs.running.list.Goals as goal

pub returns-clause-ok : goal.returns-clause-ok
returns-clause-ok g c =
    let said = ap (λ (f : Contents). map said_by f.files) c.prepare.ensures ∙ ap (map said_by) c.in_ok-folder.ensures.files in
    rw said at c.list_folder-token.ensures.ok

pub returns-clause-err : goal.returns-clause-err
returns-clause-err g c =
    let said = ap (λ (f : Contents). map said_by f.files) c.prepare.ensures ∙ ap (map said_by) c.in_ok-folder.ensures.files in
    rw said at c.list_folder-token.ensures.err
