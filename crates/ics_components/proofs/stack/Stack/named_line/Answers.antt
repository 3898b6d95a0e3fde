use Rattle.std.proofs.Common.{◌≡◌, true, false, List, ◌∷◌, Some, IfOk, refl, reverse, subst, sym}
use Rattle.ics_components.specs.declared.fault.FaultKind.TheVariants.{NotCalendar}
use Rattle.ics_components.specs.declared.frame.Frame.{Frame}
use Rattle.ics_components.specs.declared.name.Name.TheVariants.{Other}
use Rattle.ics_components.specs.Lines.{Keeps, behind, fault_on, is_mark, passing}
use Rattle.ics_components.specs.ParsedFiles.{and_line}
use Rattle.ics_components.specs.Pass.{is_lowest}
use Rattle.ics_components.proofs.Judgements.{inside-gathers, inside-keeps, other_line, outside-there, unmarked}
use Rattle.ics_components.proofs.stack.Stack.named_line.Goals as goal

-- a line that is not read
pub returns-in-Other : goal.returns-in-Other
returns-in-Other c =
    let is : c.args.name ≡ Other = cc in
    let kept = other_line c.args.number c.args.content.now c.args.self.now (sym c.if-is_lowest.ensures) in
    rw is (record { «open» = (kept.0, kept.1); parsed = kept.2 c.args.parsed.now; kept = tt })

-- a line outside all components
pub returns-in_default : goal.returns-in_default
returns-in_default c =
    let plain : is_mark c.args.name ≡ false = unmarked c.args.name c.in_default.not-Begin c.in_default.not-End in
    let lowest : is_lowest c.args.self.now ≡ true = sym c.if-is_lowest.ensures in
    record {
      «open» =
          subst (λ (frames : List Frame). is_lowest frames ≡ true → fault_on c.args.name c.args.content.now frames ≡ Some NotCalendar) c.self.view_is
          (outside-there c.args.name c.args.content.now c.self.inside.top (reverse c.self.inside.outer.items) plain) lowest;
      parsed = tt;
      kept = refl;
    }

-- a line that the innermost component reads
pub returns-in_default-2 : goal.returns-in_default-2
returns-in_default-2 c =
    let top : Frame = c.self.inside.top in
    let outer : List Frame = reverse c.self.inside.outer.items in
    let plain : is_mark c.args.name ≡ false = unmarked c.args.name c.in_default.not-Begin c.in_default.not-End in
    let lowest : is_lowest c.args.self.now ≡ false = sym c.if-is_lowest.ensures in
    record {
      «open» =
          subst (λ (frames : List Frame).
          is_lowest frames ≡ false →
          Keeps c.line.result (c.line.new.self ∷ outer) (fault_on c.args.name c.args.content.now frames)
          (behind c.args.number c.args.name c.args.content.now frames)) c.self.view_is
          (inside-keeps c.line.result c.args.number c.args.name c.args.content.now top c.line.new.self outer plain c.line.ensures.noted) lowest;
      parsed =
          subst (λ (frames : List Frame).
          is_lowest frames ≡ false →
          IfOk c.line.result (λ _. c.line.new.parsed ≡ and_line c.args.number (passing c.args.name c.args.content.now frames) c.args.parsed.now))
          c.self.view_is
          (inside-gathers c.line.result c.args.number c.args.name c.args.content.now top outer c.args.parsed.now c.line.new.parsed plain c.line.ensures.parsed)
          lowest;
      kept = c.line.ensures.kept;
    }
