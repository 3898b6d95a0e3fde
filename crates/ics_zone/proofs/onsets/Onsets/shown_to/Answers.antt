use Rattle.std.proofs.Common.{arith}
use Rattle.std.proofs.lemmas.Int.{ints, clamps}
use Rattle.ics_zone.proofs.onsets.Onsets.shown_to.Goals as goal

pub returns : goal.returns
returns c = record {
  bound = c.shown_by.ensures.bound;
  shown = λ n h. let early = c.shown_by.ensures.shown n h in omega (arith, ints, clamps);
  by_until = λ n h. let early = c.shown_by.ensures.shown n h in omega (arith, ints, clamps);
  later = λ n h low by. let late = c.shown_by.ensures.later n h low in omega (arith, ints, clamps);
}
