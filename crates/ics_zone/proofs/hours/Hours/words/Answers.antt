use Rattle.std.proofs.Common.{rules, arith, ◌+◌, pos, int_lt, sym, ◌∙◌, w64, to_z, of_z}
use Rattle.std.proofs.lemmas.Int.{to_z-of_z}
use Rattle.std.proofs.lemmas.Bool.{and_right}
use Rattle.ics_zone.specs.Inner.Hours.{keeps}
use Rattle.ics_zone.proofs.HourLemmas.{words_more, keeps_nothing}
use Rattle.ics_zone.proofs.MinuteLemmas.{IsFront}
use Rattle.ics_zone.proofs.MarkLemmas.{none_marked}
use Rattle.ics_zone.proofs.hours.Hours.words.Goals as goal

pub returns-then-is_empty-2 : goal.returns-then-is_empty-2
returns-then-is_empty-2 c = λ k low.
    none_marked 60 k ∙ sym (and_right (int_lt (pos k) c.args.count) (keeps c.args.self.now (c.args.local + k))
    (keeps_nothing c.args.self.now (c.is_empty.ensures c.if-is_empty.true) (c.is_empty-then-is_empty.ensures c.if-is_empty-2.true) (c.args.local + k)))

pub loop-minute-preserved : goal.loop-minute-preserved
loop-minute-preserved c =
    let front : IsFront c.loop-minute.minute (to_z w64 (of_z w64 c.args.count)) c.first_of.result c.minute_from-word.result c.front.result =
    record { is_size = c.first_of.ensures.first; is_part = c.front.ensures.members } in
    record {
      length = search rules;
      words = words_more _ _ c.loop-minute.words (omega arith) front c.minute_from-word.ensures c.loop-minute.invariant.words;
    }

pub returns : goal.returns
returns c = λ k low. let words = simp (to_z-of_z, c.ranges.count) at c.loop-minute.invariant.words in words k (omega arith)
