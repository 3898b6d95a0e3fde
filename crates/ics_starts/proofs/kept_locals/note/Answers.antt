use Rattle.std.proofs.Common.{subst, sym}
use Rattle.ics_starts.specs.Inner.KeptFinds.{AreFinds}
use Rattle.ics_starts.proofs.FindLemmas.{finds-taken}
use Rattle.ics_starts.proofs.kept_locals.note.Goals as goal

pub returns-in-Some : goal.returns-in-Some
returns-in-Some c = λ rule are find.
    let one = c.in-Some.ensures rule (subst (AreFinds rule) (sym c.deref.ensures.value) are) find in
    c.push-in-Some.ensures rule (subst (AreFinds rule) (sym c.truncate.ensures.items) (finds-taken rule _ c.args.finds.now.items are)) one
