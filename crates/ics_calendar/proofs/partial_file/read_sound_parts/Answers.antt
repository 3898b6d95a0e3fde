use Rattle.std.proofs.Common.{◌≡◌, subst, IfOk}
use Rattle.ics_calendar.specs.Parts.{file_gives}
use Rattle.ics_calendar.proofs.partial_file.read_sound_parts.Goals as goal

pub returns : goal.returns
returns c =
    subst (λ gives. IfOk c.settle.result (λ given. given ≡ gives))
    (λ i. file_gives (c.in_ok-files.ensures i) (c.in_ok-file.ensures i).name (c.in_ok-file.ensures i).bytes) c.settle.ensures
