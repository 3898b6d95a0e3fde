use Rattle.std.proofs.Common.{◌∙◌, ◌<◌, arith, length, length-set}
use Rattle.std.proofs.lemmas.List.Elements.{All-set}
use Rattle.ics_zone.specs.Inner.OnsetSets.{IsSound}
use Rattle.ics_zone.proofs.ZoneSteps.{onsets_set}
use Rattle.ics_zone.proofs.latest.look_on.Goals as goal
use Rattle.ics_zone.proofs.latest.look_on.Goals.{then-not-is_known, else-not-is_known}

pub loop-k-preserved : goal.loop-k-preserved
loop-k-preserved c =
    elim c.if-not-is_known.branch [
      | then-not-is_known w ↦
          let inside : c.loop-k.k < length c.loop-k.onsets = omega (arith, c.loop-k-test.true, c.loop-k.invariant.long) in
          rw w.onsets-is (record {
            long = length-set c.loop-k.onsets c.loop-k.k w.look.new.self ∙ c.loop-k.invariant.long;
            sound = All-set IsSound c.loop-k.onsets c.loop-k.k w.look.new.self w.look.ensures.sound c.loop-k.invariant.sound;
            same = λ zone all. onsets_set w.index-onsets-k-then-not-is_known.result w.look.new.self
                (c.loop-k.invariant.same zone all) inside w.look.ensures.same;
          })
      | else-not-is_known w ↦ rw w.onsets-is c.loop-k.invariant
    ]
