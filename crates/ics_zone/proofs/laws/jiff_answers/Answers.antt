use Rattle.ics_zone.proofs.JiffLemmas.{plain_offset, plain_moment}
use Rattle.ics_zone.proofs.laws.jiff_answers.Goals as goal

pub returns : goal.returns
returns c = record { offset = plain_offset; moment = plain_moment }
