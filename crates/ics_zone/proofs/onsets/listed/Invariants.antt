use Rattle.std.proofs.Common.{◌≡◌, ◌∷◌, take}
use Rattle.ics_zone.proofs.ListingLemmas.{instants_of}
use Rattle.ics_zone.proofs.onsets.listed.Given as goal

abbrev pub invariant-loop-rdate : goal.invariant-loop-rdate
invariant-loop-rdate l = l.listed.items ≡ instants_of l.observance (l.observance.start ∷ take l.rdate-index l.observance.rdates)
