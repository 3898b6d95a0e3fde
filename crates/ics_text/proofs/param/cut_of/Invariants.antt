use Rattle.std.proofs.Common.{◌≡◌, ◌+◌, drop, false, option_map}
use Rattle.ics_text.specs.Inner.Pieces.{cut_from}
use Rattle.ics_text.proofs.param.cut_of.Given as goal

abbrev pub invariant-loop-i : goal.invariant-loop-i
invariant-loop-i l = cut_from l.separator false l.text ≡ option_map (λ n. l.i + n) (cut_from l.separator l.quoted (drop l.i l.text))
