-- The exit status of a run that wrote all its texts.
use Rattle.std.specs.Prelude.{ℕ}
use Rattle.khal_reading.specs.declared.status.Status.{Status}
use Rattle.khal_reading.specs.declared.status.Status.TheVariants.{Clean, Faulty}

abbrev pub code_of : Status → ℕ
code_of Clean = 0
code_of Faulty = 1
