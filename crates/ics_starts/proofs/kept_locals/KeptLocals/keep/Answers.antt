use Rattle.std.proofs.Common.{◌≡◌, ◌∙◌, is_some, true, sym, ap, subst, arith}
use Rattle.std.proofs.lemmas.Int.{ints}
use Rattle.ics_fields.specs.declared.local.Local.{Local}
use Rattle.ics_fields.specs.Locals.{number}
use Rattle.ics_rule.specs.Cursors.{HasLooked}
use Rattle.ics_starts.proofs.CountLemmas.{looks-counted}
use Rattle.ics_starts.proofs.kept_locals.KeptLocals.keep.Goals as goal

pub invariant_of-self : goal.invariant_of-self
invariant_of-self c =
    let s = c.args.self.now in
    let rule = c.args.rule.now in
    let counts : is_some rule.parts.count ≡ true = rw c.requires.rule at (sym (c.is_counted.ensures s.rule s.of) ∙ c.if-not-is_counted.false) in
    let at = ap (λ (l : Local). number l) c.at.ensures in
    record {
      of = s.of;
      known_are = s.known_are;
      found_are = s.found_are;
      counts = rw c.requires.rule (record {
        own = c.pass.ensures.own;
        looked = λ from b l.
            subst (λ a. HasLooked rule c.pass.new.self.cursor a b)
            (looks-counted rule.parts.count (number rule.start) (number c.args.from) from counts)
            (c.pass.ensures.looked _ b (c.requires.looked b
            (omega (arith, ints, l, c.pass.ensures.place, c.pass.new.self.placed, c.number-to.ensures.value, at, c.requires.day.0, c.requires.day.1))));
      });
      own = s.own;
    }
