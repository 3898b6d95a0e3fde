use Rattle.std.proofs.Common.{◌∙◌, ◌<◌, arith, length, length-set}
use Rattle.std.proofs.lemmas.List.Elements.{All-set}
use Rattle.ics_zone.specs.Inner.OnsetSets.{IsSound}
use Rattle.ics_zone.proofs.ZoneSteps.{onsets_set}
use Rattle.ics_zone.proofs.latest.find_each.Goals as goal
use Rattle.ics_zone.proofs.latest.find_each.Goals.{then-must_find, else-must_find}

pub loop-k-preserved : goal.loop-k-preserved
loop-k-preserved c =
    elim c.if-must_find.branch [
      | then-must_find w ↦
          let inside : c.loop-k.k < length c.loop-k.onsets = omega (arith, c.loop-k-test.true, c.loop-k.invariant.long) in
          rw w.onsets-is (record {
            long = length-set c.loop-k.onsets c.loop-k.k w.find.new.self ∙ c.loop-k.invariant.long;
            sound = All-set IsSound c.loop-k.onsets c.loop-k.k w.find.new.self w.find.ensures.sound c.loop-k.invariant.sound;
            same = λ zone all. onsets_set w.index-onsets-k-then-must_find.result w.find.new.self
                (c.loop-k.invariant.same zone all) inside w.find.ensures.same;
          })
      | else-must_find w ↦ rw w.onsets-is c.loop-k.invariant
    ]
