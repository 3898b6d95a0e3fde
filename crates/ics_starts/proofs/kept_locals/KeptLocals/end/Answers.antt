use Rattle.std.proofs.Common.{Vec, Global, subst, sym}
use Rattle.ics_starts.specs.Inner.KeptFinds.{AreFinds}
use Rattle.ics_starts.specs.declared.kept_locals.Find.{Find}
use Rattle.ics_starts.proofs.kept_locals.KeptLocals.end.Goals as goal

pub invariant_of-self : goal.invariant_of-self
invariant_of-self c =
    let s = c.args.self.now in
    let all = c.append.ensures s.rule s.found_are (subst (AreFinds s.rule) (sym c.deref.ensures.value) s.known_are) in
    record {
      of = s.of;
      known_are = subst (λ (v : Vec Find Global). AreFinds s.rule v.items) (sym c.swap.ensures.x_after) all;
      found_are = subst (AreFinds s.rule) (sym c.clear.ensures.items) tt;
      counts = s.counts;
      own = s.own;
    }
