use Rattle.khal_reading.proofs.outcome.HalfRead.names.Goals as goal

pub returns-in-InParts : goal.returns-in-InParts
returns-in-InParts c = rw c.in-InParts.is c.wanted-in-InParts.ensures
