use Rattle.std.proofs.Common.{◌≡◌, ◌+◌, arith}
use Rattle.ics_rule.specs.Cursors.{place_of}
use Rattle.ics_zone.specs.Inner.OnsetSets.{Has}
use Rattle.ics_zone.proofs.OnsetGapLemmas.{follows_of, gaps_more, kept_of}
use Rattle.ics_zone.proofs.onsets.Onsets.list_gaps.Goals as goal

pub gap_to-requires-clause-gap : goal.gap_to-requires-clause-gap
gap_to-requires-clause-gap c =
    let last = c.last_of_day-last.result in
    let before = rw c.in-Some-kept.is at c.loop-kept.invariant.kept in
    record {
      end = c.shown_to-end.result;
      shown = c.shown_to-end.ensures;
      kept = c.last_of_day-last.ensures.kept;
      early = c.last_of_day-last.ensures.early;
      follows = follows_of c.in-Some.rule (place_of c.pass.new.self) last c.shown_to-end.result
          (λ n. place_of c.next_of-kept-in-Some-kept.new.cursor ≡ n + 1) c.next_of-kept-in-Some-kept.result
          (omega (arith, c.pass.ensures.place, before.1.1, c.last_of_day-last.ensures.later, c.numbered-in-Some-kept.ensures.value))
          c.next_of-kept-in-Some-kept.ensures.next;
    }

pub returns-then-not-add_gap : goal.returns-then-not-add_gap
returns-then-not-add_gap c =
    gaps_more (Has c.args.self.now) c.loop-kept.gaps.items c.add_gap.new.gaps.items c.gap_to.result c.loop-kept.invariant.all c.gap_to.ensures c.add_gap.ensures

pub loop-kept-preserved : goal.loop-kept-preserved
loop-kept-preserved c = record {
  all = gaps_more (Has c.args.self.now) c.loop-kept.gaps.items c.add_gap.new.gaps.items c.gap_to.result c.loop-kept.invariant.all c.gap_to.ensures
      c.add_gap.ensures;
  own = c.next_of-kept-in-Some-kept.ensures.own;
  kept = kept_of c.in-Some.rule (place_of c.pass.new.self) c.shown_to-end.result (place_of c.next_of-kept-in-Some-kept.new.cursor)
      c.next_of-kept-in-Some-kept.result c.next_of-kept-in-Some-kept.ensures.next;
}
