use Rattle.std.proofs.Common.{◌≡◌, ◌<◌, ◌^◌, ◌-◌, take, drop}
use Rattle.ics_values.specs.Digits.{number_of}
use Rattle.ics_values.proofs.digits.number_at.Given as goal

abbrev pub invariant-loop-b : goal.invariant-loop-b
invariant-loop-b l = record { said : l.n ≡ number_of (take l.b-index (take (l.j - l.i) (drop l.i l.text))); small : l.n < 10 ^ l.b-index }
