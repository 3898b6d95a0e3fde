use Rattle.std.proofs.Common.{◌≤◌, subst, arith}
use Rattle.ics_fields.specs.Locals.{number}
use Rattle.ics_rule.specs.Cursors.{HasLooked}
use Rattle.ics_starts.proofs.CountLemmas.{looks-counted}
use Rattle.ics_starts.proofs.RuleStepLemmas.{midnight-number}
use Rattle.ics_starts.proofs.mark.Mark.moved_to.Goals as goal

pub loop-cursor-init : goal.loop-cursor-init
loop-cursor-init c =
    let mark = c.requires.mark in
    let last = c.numbered.ensures.value in
    record {
      own = c.pass.ensures.own;
      place = omega (arith, c.pass.ensures.place, mark.begun.place, last, c.requires.later);
      looked = λ before h.
          c.pass.ensures.looked _ before
          (mark.begun.looked before (omega (arith, midnight-number c.args.self.now.from mark.begun.day, c.requires.later, h)));
    }

pub next-requires-clause-own : goal.next-requires-clause-own
next-requires-clause-own c = c.loop-cursor.invariant.own

pub loop-cursor-preserved : goal.loop-cursor-preserved
loop-cursor-preserved c =
    let next = c.in-Some.ensures.next in
    record {
      own = c.in-Some.ensures.own;
      place = omega (arith, next.1, next.0.in_bound);
      looked = λ before h. c.in-Some.ensures.looked _ before (omega (arith, next.0.in_bound, h)) (c.loop-cursor.invariant.looked before h);
    }

pub loop-cursor-smaller : goal.loop-cursor-smaller
loop-cursor-smaller c = let next = c.in-Some.ensures.next in omega (arith, next.1, next.0.in_bound, next.0.from_place)

pub returns-in-None : goal.returns-in-None
returns-in-None c =
    let rule = c.args.rule.now in
    let from = c.args.from in
    let midnight = midnight-number from c.requires.day in
    record {
      day = c.requires.day;
      own = c.in-None.ensures.own;
      place = omega (arith, c.in-None.ensures.next.1, c.loop-cursor.invariant.place);
      looked = λ before h.
          let late : number c.args.from ≤ before = omega (arith, midnight, c.requires.midnight, h) in
          subst (λ a. HasLooked c.args.rule.now c.next.new.self a before)
          (looks-counted rule.parts.count (number rule.start) (number c.args.self.now.from) (number c.args.from) c.requires.mark.counts)
          (c.in-None.ensures.looked _ before late (c.loop-cursor.invariant.looked before late));
    }
