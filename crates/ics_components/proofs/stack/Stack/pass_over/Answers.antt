use Rattle.std.proofs.Common.{◌≡◌, true, false, List, Some, arith, refl, subst, reverse}
use Rattle.std.proofs.lemmas.Grind.{common_steps}
use Rattle.ics_components.specs.declared.fault.FaultKind.TheVariants.{NotCalendar}
use Rattle.ics_components.specs.declared.frame.Frame.{Frame}
use Rattle.ics_components.specs.declared.name.Name.TheVariants.{Other}
use Rattle.ics_components.specs.Lines.{fault_on}
use Rattle.ics_components.specs.Pass.{is_lowest}
use Rattle.ics_components.proofs.Judgements.{other_line, outside-there}
use Rattle.ics_components.proofs.stack.Stack.pass_over.Goals as goal

pub returns : goal.returns
returns c = λ number content.
    let lowest : is_lowest c.args.self.now ≡ false = grind (arith, common_steps) in other_line number content c.args.self.now lowest

pub returns-then-is_empty : goal.returns-then-is_empty
returns-then-is_empty c = λ number content.
    let lowest : is_lowest c.args.self.now ≡ true = grind (arith, common_steps) in
    subst (λ (frames : List Frame). is_lowest frames ≡ true → fault_on Other content frames ≡ Some NotCalendar) c.self.view_is
    (outside-there Other content c.self.inside.top (reverse c.self.inside.outer.items) refl) lowest
