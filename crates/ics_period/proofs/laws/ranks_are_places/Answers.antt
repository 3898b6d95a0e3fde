use Rattle.ics_period.proofs.PlaceLemmas.{rank_there, rank_alone, rank_within}
use Rattle.ics_period.proofs.laws.ranks_are_places.Goals as goal

pub returns : goal.returns
returns c = record { there = rank_there; alone = rank_alone; within = rank_within }
