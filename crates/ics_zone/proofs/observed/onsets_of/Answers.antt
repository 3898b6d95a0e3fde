use Rattle.std.proofs.Common.{sym, subst}
use Rattle.std.proofs.lemmas.List.{take_all, take_more}
use Rattle.std.proofs.lemmas.Slice.Zip.{all_zipped_more}
use Rattle.ics_zone.specs.Observances.{IsObservance}
use Rattle.ics_zone.specs.Inner.OnsetSets.{AreOnsetsOf}
use Rattle.ics_zone.proofs.ReadLemmas.{onsets_of_all}
use Rattle.ics_zone.proofs.observed.onsets_of.Goals as goal

pub of-requires : goal.of-requires
of-requires c = subst IsObservance (sym c.observance-item.is)
    (c.requires c.loop-observance.observance-index c.observance-item.result c.loop-observance-test.true)

pub loop-observance-preserved : goal.loop-observance-preserved
loop-observance-preserved c =
    rw (
      c.in_ok-push.ensures.items,
      take_more c.args.observances.now c.loop-observance.observance-index c.observance-item.result c.loop-observance-test.true,
      ← c.observance-item.is,
    ) (all_zipped_more AreOnsetsOf _ _ _ _ c.loop-observance.invariant c.in_ok-of.ensures)

pub returns : goal.returns
returns c = onsets_of_all _ _ (rw (take_all c.loop-observance.observance-index c.args.observances.now c.loop-observance-test.false) at
    c.loop-observance.invariant)
