-- What a sink has taken, and counts that stop at their greatest value.
use Rattle.std.specs.Prelude.{◌≤◌, ◌<◌, ◌⊎◌, ◌+◌, ◌-◌, ◌^◌, min, ℕ, List, Option, Result, Ok, Err, length, take}
use Rattle.std.specs.Io.KnownBytes.{Appends}
use Rattle.khal_ports.specs.declared.fault.SinkFault.{SinkFault}
use Rattle.khal_ports.specs.declared.fault.SinkFault.TheVariants.{Device}

-- the count plus one, up to the greatest value
abbrev pub risen : ℕ → ℕ
risen count = min (count + 1) (2 ^ 64 - 1)

-- the sink has taken a prefix of the text
pub record TookFront (old new : Option (List ℕ)) (text : List ℕ) : Type 0 where
  pub count : ℕ
  pub within : count ≤ length text
  pub taken : Appends old new (take count text)

-- the sink has taken a prefix of the text, and not the whole text
pub record TookPart (old new : Option (List ℕ)) (text : List ℕ) : Type 0 where
  pub count : ℕ
  pub within : count < length text
  pub taken : Appends old new (take count text)

-- the last call of the sink failed, or was given bytes and took none
pub record LeftByFault {O : Type 0} (puts : O → List ℕ → Result ℕ SinkFault → O → Type 0) (left : O) : Type 0 where
  pub before : O
  pub given : List ℕ
  pub some : 0 < length given
  pub answer : puts before given (Err Device) left ⊎ puts before given (Ok 0) left

-- the last call of the sink was a flush with this answer
pub record LeftByFlush {O : Type 0} (flushes : O → Result Unit SinkFault → O → Type 0) (answer : Result Unit SinkFault) (left : O) : Type 0 where
  pub before : O
  pub flushed : flushes before answer left
