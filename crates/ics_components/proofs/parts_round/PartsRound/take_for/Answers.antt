use Rattle.std.proofs.Common.{rules, Some}
use Rattle.ics_components.proofs.Rounds.{made_then}
use Rattle.ics_components.proofs.parts_round.PartsRound.take_for.Goals as goal

-- the END of an event, behind the line of its UID
pub returns : goal.returns
returns c =
    made_then c.args.file.now c.take-2.result c.args.number (Some c.args.content.now) c.args.self.now c.take_made.new.self _ (search rules) (search rules)
    c.take-2.ensures
