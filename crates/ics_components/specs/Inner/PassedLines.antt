-- A line whose property is not read, as the components that are open judge it.
use Rattle.std.specs.Prelude.{◌≡◌, ℕ, List, Some, None, Result, Ok, Err}
use Rattle.ics_text.specs.ContentLines.{Parts}
use Rattle.ics_components.specs.declared.frame.Frame.{Frame}
use Rattle.ics_components.specs.declared.name.Name.{Name}
use Rattle.ics_components.specs.declared.refused.Refused.{Refused}
use Rattle.ics_components.specs.declared.refused.Refused.TheVariants as refused
use Rattle.ics_components.specs.Lines.{fault_on, behind, passing}
use Rattle.ics_components.specs.ParsedFileSeen.{ParsedFileSeen}
use Rattle.ics_components.specs.ParsedFiles.{and_line}

-- It leaves them and what is gathered as they are, or has a fault.
abbrev pub Passes : Result Unit Refused → ℕ → Name → Parts → List Frame → Type 0
Passes (Ok passed) number n c frames =
    (fault_on n c frames ≡ None) × (frames ≡ behind number n c frames) × ((had : ParsedFileSeen) → had ≡ and_line number (passing n c frames) had)
Passes (Err refused.Memory) number n c frames = Unit {0}
Passes (Err (refused.Fault kind)) number n c frames = fault_on n c frames ≡ Some kind
