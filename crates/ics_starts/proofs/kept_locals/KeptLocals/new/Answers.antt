use Rattle.std.proofs.Common.{◌≡◌, Some, is_some, true, subst, sym, rules}
use Rattle.ics_fields.specs.Locals.{number}
use Rattle.ics_rule.specs.Cursors.{HasLooked}
use Rattle.ics_starts.specs.Inner.KeptFinds.{AreFinds, HasCounting}
use Rattle.ics_starts.specs.Starts.{recurrence_of}
use Rattle.ics_starts.proofs.CountLemmas.{looks-counted}
use Rattle.ics_starts.proofs.kept_locals.KeptLocals.new.Goals as goal
use Rattle.ics_starts.proofs.kept_locals.KeptLocals.new.Goals.{in-None, in-Some}

pub invariant_of-new : goal.invariant_of-new
invariant_of-new c =
    let rule = c.new-rule.result in
    let shared : c.in_ok-ok.field-0 ≡ c.new-rule.result = search rules in
    let has : recurrence_of c.args.event.now ≡ Some c.new-rule.result = search rules in
    record {
      of = rw shared has;
      known_are = subst (AreFinds c.in_ok-ok.field-0) (sym c.new-2.ensures.items) tt;
      found_are = subst (AreFinds c.in_ok-ok.field-0) (sym c.new-3.ensures.items) tt;
      counts = rw shared (elim c.match-parts.branch [
        | in-None w ↦ subst (HasCounting rule) (sym w.counting-is) tt
        | in-Some w ↦ subst (HasCounting rule) (sym w.counting-is) (record {
          own = w.at.ensures.own;
          looked = λ from b l.
              let counts : is_some rule.parts.count ≡ true = search rules in
              subst (λ a. HasLooked rule w.at.result a b)
              (looks-counted rule.parts.count (number rule.start) (number c.local_of-first.result) from counts) (w.at.ensures.looked b);
        })
      ]);
      own = rw shared c.at-last.ensures.own;
    }
