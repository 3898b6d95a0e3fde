use Rattle.std.proofs.Common.{◌∙◌, rules, ap, arith, w64, SFits}
use Rattle.std.proofs.lemmas.Int.{ints}
use Rattle.ics_rule.specs.Cursors.{place_of}
use Rattle.ics_starts.proofs.RuleStepLemmas.{next-years}
use Rattle.ics_starts.proofs.TakenLemmas.{come-stayed, source-on}
use Rattle.ics_starts.proofs.rule_starts.RuleStarts.skip.Goals as goal

pub returns : goal.returns
returns c =
    let s = c.args.self.now in
    let same = c.removed_to-to.ensures.same in
    let passed = c.pass_to.ensures.passed in
    let fits : SFits w64 c.removed_to-to.result = search rules in
    let place = ap place_of same.cursor in
    record {
      source = source-on same.source c.pass_to.ensures.source;
      day = c.pass_to.ensures.day ∙ same.day;
      on = omega (arith, c.pass_to.ensures.on, place);
      left = c.pass_to.ensures.left ∙ come-stayed (place_of c.pass_to.new.self.cursor) same;
      each = λ n l u.
          c.removed_to-to.ensures.removed n (omega (arith, ints, s.reached.next_read, l, next-years s))
          (let before = passed n (omega (arith, l, place)) u in omega (arith, ints, before));
    }
