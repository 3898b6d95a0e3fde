use Rattle.std.proofs.Common.{List, ◌∷◌, ◌++◌, arith, rules, refl, Err, sym, ap, subst, ◌∙◌}
use Rattle.ics_text.specs.Parts.{lines_left}
use Rattle.ics_text.specs.Unfolded.{Line, Within}
use Rattle.ics_components.specs.KeptPass.{pass_on}
use Rattle.ics_components.proofs.ReadTo.{HasRead, begun, one-further, read-of}
use Rattle.ics_components.proofs.first_round.FirstRound.lines.Goals as goal

-- no line is read
pub lines-init : goal.lines-init
lines-init c = record {
  same = λ rest. refl;
  fit = search rules;
  read = λ all path. begun path (lines_left c.args.part) c.args.self.now;
  last = search rules;
  counted = refl;
}

-- one line further
pub lines-preserved : goal.lines-preserved
lines-preserved c =
    let rest : List Line = lines_left c.next_read.new.self in
    let on = c.take-number.ensures (lines_left c.lines.part) rest (rw c.in-Some.is at c.in_ok-line.ensures.ok) in
    let line : Line = on.line in
    let fit = c.lines.invariant.fit in
    let within : Within fit.0 (line ∷ rest) = subst (λ (ls : List Line). Within fit.0 ls) on.first fit.2 in
    record {
      same = λ more.
          sym ((rw c.in-Ok.is at on.goes) (rest ++ more))
          ∙ ap (λ ls. pass_on c.args.keep c.lines.self (ls ++ more)) (sym on.first)
          ∙ c.lines.invariant.same more;
      fit = (fit.0, fit.1, within.1);
      read = λ all path.
          one-further path (lines_left c.args.part) rest line c.args.self.now c.lines.self c.take-number.new.self
          (subst (λ (ls : List Line). HasRead path (lines_left c.args.part) ls c.args.self.now c.lines.self) on.first (c.lines.invariant.read all path))
          ((rw c.in-Ok.is at on.reads) all);
      last = let last = rw c.in-Ok.is at on.last in rw last (rw (sym on.is) (omega (arith, fit.1, within.0)));
      counted = c.in_ok-line.ensures.counted ∙ c.lines.invariant.counted;
    }

-- a line that has a fault
pub returns-in-Err-Fault-clause-over : goal.returns-in-Err-Fault-clause-over
returns-in-Err-Fault-clause-over c = λ more.
    let rest : List Line = lines_left c.next_read.new.self in
    let on = c.take-number.ensures (lines_left c.lines.part) rest (rw c.in-Some.is at c.in_ok-line.ensures.ok) in
    let fault = rw c.in-Err-Fault.is at c.in-Err-Fault.field-0-is in
    sym (c.lines.invariant.same more)
    ∙ ap (λ ls. pass_on c.args.keep c.lines.self (ls ++ more)) on.first
    ∙ (rw fault at (rw c.in-Err-Fault.is at on.goes)) (rest ++ more)
    ∙ (λ i. Err (record { line = on.is i; kind = c.in-Err-Fault.kind }))

pub returns-in-Err-Fault-clause-front : goal.returns-in-Err-Fault-clause-front
returns-in-Err-Fault-clause-front c = λ path all.
    let on = c.take-number.ensures (lines_left c.lines.part) (lines_left c.next_read.new.self) (rw c.in-Some.is at c.in_ok-line.ensures.ok) in
    let fault = rw c.in-Err-Fault.is at c.in-Err-Fault.field-0-is in
    read-of path (lines_left c.args.part) (lines_left c.lines.part) c.args.self.now c.lines.self c.take-number.new.self.parsed
    (c.lines.invariant.read all path) (rw fault at (rw c.in-Err-Fault.is at on.reads))

-- where the lines end
pub returns-clause-front : goal.returns-clause-front
returns-clause-front c = λ path all.
    read-of path (lines_left c.args.part) (lines_left c.lines.part) c.args.self.now c.lines.self c.lines.self.parsed (c.lines.invariant.read all path) refl
