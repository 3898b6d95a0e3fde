use Rattle.ics_text.proofs.PartNumbers.{part-last, part-within}
use Rattle.ics_text.proofs.laws.part_numbers_within.Goals as goal

pub returns : goal.returns
returns c = record { lines = part-within; last = part-last }
