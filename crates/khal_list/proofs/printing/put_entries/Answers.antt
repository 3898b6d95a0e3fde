use Rattle.std.proofs.lemmas.Grind.{common_steps}
use Rattle.std.proofs.Common.{rules, ◌≡◌, Some, refl, w32, arith}
use Rattle.std.specs.Prelude.{FitsSigned, ◌≢◌}
use Rattle.std.proofs.lemmas.Int.{to_z-of_z, ints}
use Rattle.khal_list.proofs.Printed.{cut-key, cut-text, drew-none, drew-one, drew-took, printed-front, printed-more, printed-part}
use Rattle.khal_ports.proofs.Written.{part_front}
use Rattle.khal_list.proofs.PutLemmas.{puts-cut, puts-fault}
use Rattle.khal_list.proofs.printing.put_entries.Goals as goal

pub returns-in_err-day-clause-puts : goal.returns-in_err-day-clause-puts
returns-in_err-day-clause-puts g c = λ list a.
    let p = c.loop-count.invariant.printed list a in
    puts-fault {coming = g.D.Draws.comes c.args.draws.now c.draw.new.source} c.from_residual.result
    (printed-front p.2) (c.in_err-day.ensures.err p.0 p.1) (drew-none p.2) c.from_residual.ensures.0

pub returns-in-Some-eq0-clause-puts : goal.returns-in-Some-eq0-clause-puts
returns-in-Some-eq0-clause-puts g c = λ list a.
    let p = c.loop-count.invariant.printed list a in
    let d = rw c.in-Some.is at c.in_ok-day.ensures.ok p.0 p.1 in
    let none : c.loop-count.left ≡ Some 0 = search rules in
    puts-cut {coming = g.D.Draws.comes c.args.draws.now c.draw.new.source} c.key_of.result (printed-front p.2) d.2 (drew-one p.2 d.1)
    c.key_of.ensures.ok (cut-text p.2 d.1 none) (cut-key p.2 d.1 none)

pub returns-in_err-put_entry-clause-puts : goal.returns-in_err-put_entry-clause-puts
returns-in_err-put_entry-clause-puts g c = λ list a.
    let p = c.loop-count.invariant.printed list a in
    let d = rw c.in-Some.is at c.in_ok-day.ensures.ok p.0 p.1 in
    let some : c.loop-count.left ≢ Some 0 = search rules in
    let fits : FitsSigned w32 c.in-Some.day = search rules in
    let took = rw (to_z-of_z w32 c.in-Some.day fits) at c.in_err-put_entry.ensures.err in
    puts-fault {coming = g.D.Draws.comes c.args.draws.now c.draw.new.source} c.from_residual-in_err-put_entry.result
    (printed-part p.2 d.1 some (g.O.Sink.taken c.put_entry.new.out) (part_front took))
    d.2 (drew-took p.2 d.1 (g.O.Sink.taken c.put_entry.new.out) took) c.from_residual-in_err-put_entry.ensures.0

pub loop-count-preserved : goal.loop-count-preserved
loop-count-preserved g c = record {
  printed = λ list a.
      let p = c.loop-count.invariant.printed list a in
      let d = rw c.in-Some.is at c.in_ok-day.ensures.ok p.0 p.1 in
      let fits : FitsSigned w32 c.in-Some.day = search rules in
      let kept = to_z-of_z w32 c.in-Some.day fits in (
        d.0,
        d.2,
        rw kept (
            printed-more p.2 d.1 c.one_fewer-left.result c.one_fewer-left.ensures
            (g.O.Sink.taken c.put_entry.new.out) (rw kept at c.in_ok-put_entry.ensures.ok)),
      );
}

pub returns-clause-puts : goal.returns-clause-puts
returns-clause-puts g c = λ list a.
    let p = c.loop-count.invariant.printed list a in
    puts-fault {coming = g.D.Draws.comes c.args.draws.now c.loop-count.source} _ (printed-front p.2) p.1 (drew-none p.2) refl

pub returns-in_default-clause-puts : goal.returns-in_default-clause-puts
returns-in_default-clause-puts g c = grind (ints, arith, common_steps)
