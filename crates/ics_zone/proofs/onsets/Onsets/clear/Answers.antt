use Rattle.std.proofs.Common.{rules, arith, w64, inl, pos, ◌+ℤ◌, ◌≤ℤ◌, ◌<◌, ◌+◌, ◌*◌}
use Rattle.std.proofs.lemmas.Int.{ints, clamps, to_z-of_z}
use Rattle.std.proofs.lemmas.List.{length-set}
use Rattle.ics_zone.specs.Inner.OnsetSets.{Has}
use Rattle.ics_zone.proofs.MarkLemmas.{IsMinute, marks_minute, clear_minute}
use Rattle.ics_zone.proofs.onsets.Onsets.clear.Goals as goal
use Rattle.ics_zone.proofs.onsets.Onsets.clear.Goals.{After-front}

-- the minute that a turn of the loop looks at
minute_of : (c : After-front)
    → IsMinute (λ k. Has c.args.self.now (c.args.from +ℤ pos k) × ((c.args.from +ℤ pos k +ℤ c.args.self.now.offset_to) ≤ℤ c.args.seconds))
    c.seconds_to-low.result c.within-onsets.result c.loop-minute.over c.loop-minute.minute c.first_of.result c.front.result
minute_of c = record {
  front = record { is_size = rw (to_z-of_z w64 c.seconds_to-low.result (search rules)) at c.first_of.ensures.first; is_part = c.front.ensures.members };
  new = λ k e early m. (
    rw (to_z-of_z w64 c.args.from c.ranges.from) at c.within-onsets.ensures.known k (omega arith) m,
    (let low = c.seconds_to-low.ensures.first k early in omega (arith, ints)),
  );
  inside = omega arith;
}

pub returns-in-Some : goal.returns-in-Some
returns-in-Some c =
    let minute = minute_of (goal.at.returns-in-Some c).After-front in
    let complete = rw (to_z-of_z w64 c.args.from c.ranges.from) at c.within-onsets.ensures.complete in
    record {
      length = simp length-set c.loop-minute.invariant.length;
      some = omega (arith, ints, clamps);
      most = omega (arith, ints);
      marks = marks_minute minute _
          (rw (to_z-of_z w64 c.args.from c.ranges.from, to_z-of_z w64 c.args.seconds c.ranges.seconds) at c.loop-minute.invariant.marks);
      clear = λ k contains early later.
          let small = c.in-Some.ensures.0 in
          let low : k < c.loop-minute.minute * 60 + c.in-Some.second = omega (arith, ints, clamps) in
          clear_minute minute c.in-Some.second (omega arith) c.loop-minute.invariant.clear c.in-Some.ensures.1 k low (complete k (omega arith) contains);
    }

pub loop-minute-preserved : goal.loop-minute-preserved
loop-minute-preserved c =
    let minute = minute_of (goal.at.loop-minute-preserved c).After-front in
    let marks = rw (to_z-of_z w64 c.args.from c.ranges.from, to_z-of_z w64 c.args.seconds c.ranges.seconds) at c.loop-minute.invariant.marks in
    rw (to_z-of_z w64 c.args.from c.ranges.from, to_z-of_z w64 c.args.seconds c.ranges.seconds) (record {
      length = search rules;
      marks = marks_minute minute _ marks;
      clear = λ k early. clear_minute minute 60 (omega arith) c.loop-minute.invariant.clear c.in_default.ensures k (omega arith);
    })

pub returns : goal.returns
returns c =
    let complete = rw (to_z-of_z w64 c.args.from c.ranges.from) at c.within-onsets.ensures.complete in
    record {
      length = c.loop-minute.invariant.length;
      some = rw (to_z-of_z w64 c.args.most c.ranges.most) c.requires.some;
      most = omega (arith, ints);
      marks = rw (to_z-of_z w64 c.args.from c.ranges.from, to_z-of_z w64 c.args.seconds c.ranges.seconds) at c.loop-minute.invariant.marks;
      clear = λ k contains early later.
          let low : k < 3_600 = omega (arith, ints) in
          c.loop-minute.invariant.clear k (omega arith) (complete k low contains);
    }

pub within-onsets-requires-clause-near : goal.within-onsets-requires-clause-near
within-onsets-requires-clause-near c = rw (to_z-of_z w64 c.args.from c.ranges.from) c.requires.near

pub seconds_to-low-requires : goal.seconds_to-low-requires
seconds_to-low-requires c = rw (to_z-of_z w64 c.args.from c.ranges.from) c.requires.near

pub overflow_sub-seconds : goal.overflow_sub-seconds
overflow_sub-seconds c = omega (arith, ints)

pub loop-minute-init : goal.loop-minute-init
loop-minute-init c =
    rw (to_z-of_z w64 c.args.from c.ranges.from, to_z-of_z w64 c.args.seconds c.ranges.seconds)
    (record { length = c.requires.length; marks = λ k marked. inl marked; clear = λ k early. absurd (omega arith) })

pub bounds-over-minute-in-loop-minute-2 : goal.bounds-over-minute-in-loop-minute-2
bounds-over-minute-in-loop-minute-2 c = simp length-set (omega arith)

pub overflow_mul-minute : goal.overflow_mul-minute
overflow_mul-minute c = omega (arith, ints)

pub overflow_add-minute : goal.overflow_add-minute
overflow_add-minute c = omega (arith, ints)
