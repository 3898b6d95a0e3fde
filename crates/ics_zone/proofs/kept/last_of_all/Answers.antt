use Rattle.std.proofs.Common.{inl, inr, arith}
use Rattle.std.proofs.lemmas.Bool.{cases_lt}
use Rattle.ics_rule.proofs.NextLemmas.{kept_start}
use Rattle.ics_zone.proofs.kept.last_of_all.Goals as goal

pub returns-then-end-start-clause-kept : goal.returns-then-end-start-clause-kept
returns-then-end-start-clause-kept c = rw c.requires.start (kept_start c.args.rule.now)

pub returns-in_default-clause-kept : goal.returns-in_default-clause-kept
returns-in_default-clause-kept c = rw c.requires.start (kept_start c.args.rule.now)

-- a later kept local is known
pub loop-known-preserved-in-Some-next : goal.loop-known-preserved-in-Some-next
loop-known-preserved-in-Some-next c =
    let next = c.in-Some-next.ensures.next.0 in
    let is = c.number-in-Some-next.ensures.value in
    record {
      known = record {
        kept = rw is next.kept;
        before = omega (arith, next.in_bound, is, c.numbered-in-loop-known-2.ensures.value);
        in_bound = c.loop-known.invariant.known.in_bound;
        none = c.loop-known.invariant.known.none;
      };
      own = c.in-Some-next.ensures.own;
      behind = omega (arith, c.in-Some-next.ensures.next.1, is);
    }

-- or none is kept from the middle on
pub loop-known-preserved : goal.loop-known-preserved
loop-known-preserved c =
    let known = c.loop-known.invariant.known in
    let none = c.in-None.ensures.next.0 in
    let middle = c.numbered-in-loop-known.ensures.value in
    let end = c.numbered-in-loop-known-2.ensures.value in
    record {
      known = record {
        kept = known.kept;
        before = omega arith;
        in_bound = omega (arith, known.in_bound, c.loop-known-test.true);
        none = λ n low high. elim (cases_lt n c.loop-known.known.end) [
          | inl early ↦ none n (omega (arith, low, middle, c.pass.ensures.place, c.loop-known.invariant.behind)) (omega (arith, early, end))
          | inr past ↦ known.none n past high
        ];
      };
      own = c.loop-known.invariant.own;
      behind = c.loop-known.invariant.behind;
    }
