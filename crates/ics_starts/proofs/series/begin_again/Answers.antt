use Rattle.std.proofs.Common.{◌≡◌, Some, Bor, ap, subst}
use Rattle.ics_event.specs.declared.event.Event.{Event}
use Rattle.ics_starts.specs.Starts.{recurrence_of}
use Rattle.ics_starts.proofs.BeginLemmas.{own-begin}
use Rattle.ics_starts.proofs.series.begin_again.Goals as goal

pub returns-in-Some-clause-own : goal.returns-in-Some-clause-own
returns-in-Some-clause-own c = λ first begin.
    let event = ap (λ (b : Bor Event). b.now) c.again.ensures.event in
    own-begin c.args.zones c.args.event.now c.args.window first c.args.from c.again.new.self begin
    (c.again.ensures.zones, event, c.again.ensures.window, c.again.ensures.from)

pub returns-in-Some-clause-from : goal.returns-in-Some-clause-from
returns-in-Some-clause-from c = λ since listed begin.
    let s = c.in-Some.starts in
    record {
      rule = s.rule;
      has = subst (λ (e : Event). recurrence_of e ≡ Some s.rule) (rw c.in-Some.is at c.requires.rule) s.rule_of.of;
      from = c.args.from;
      day = begin.day;
      bounds = begin.bounds;
      bounded = begin.bounded;
      low = begin.low;
      gives = c.again.ensures.left;
    }
