use Rattle.std.proofs.Common.{◌≡◌, ap, sym, ◌∙◌, length, subst, cond, Some, None, Option, List, ℕ}
use Rattle.std.specs.Option.{option_or}
use Rattle.std.specs.Str.{bytes_eq}
use Rattle.ics_components.specs.declared.fault.Fault.{Fault}
use Rattle.ics_calendar.specs.Inner.Labels.{AreNumbered}
use Rattle.ics_calendar.specs.Inner.PartsRead.{least_at, with_key}
use Rattle.ics_calendar.specs.Inner.SummedUids.{number_by, place_of}
use Rattle.ics_calendar.proofs.Shared.{uid-more}
use Rattle.ics_calendar.proofs.labels.note_uid.Goals as goal

pub returns-clause-kept : goal.returns-clause-kept
returns-clause-kept c = λ had are.
    let faults : List (Option Fault) = c.args.faults.now.items in
    let place : length c.as_slice-had.result.now ≡ length faults = ap (λ fs. length fs) c.as_slice-had.ensures.value in
    let put : (other : List ℕ) → place_of c.number.new.by_uid other
    ≡ option_or (place_of c.args.by_uid.now other) (cond (bytes_eq other c.args.uid) (Some (length faults)) None) =
    λ other. c.in_ok-part.ensures.put other
    ∙ ap (λ n. option_or (place_of c.args.by_uid.now other) (cond (bytes_eq other c.args.uid) (Some n) None)) place in
    let first = c.note_least.ensures
    ∙ (λ j. least_at c.args.fault (c.in_ok-push.ensures.items j)
    ((c.in_ok-part.ensures.number ∙ ap (λ n. number_by c.args.by_uid.now n c.args.uid) place) j)) in
    subst (λ fs. AreNumbered (with_key c.args.fault had (Some c.args.uid)) c.number.new.by_uid fs) (sym first)
    (uid-more c.args.fault had c.args.by_uid.now c.number.new.by_uid faults c.args.uid are put).0

pub returns-clause-part : goal.returns-clause-part
returns-clause-part c = λ had are.
    let faults : List (Option Fault) = c.args.faults.now.items in
    let place : length c.as_slice-had.result.now ≡ length faults = ap (λ fs. length fs) c.as_slice-had.ensures.value in
    let put : (other : List ℕ) → place_of c.number.new.by_uid other
    ≡ option_or (place_of c.args.by_uid.now other) (cond (bytes_eq other c.args.uid) (Some (length faults)) None) =
    λ other. c.in_ok-part.ensures.put other
    ∙ ap (λ n. option_or (place_of c.args.by_uid.now other) (cond (bytes_eq other c.args.uid) (Some n) None)) place in
    c.in_ok-part.ensures.number ∙ ap (λ n. number_by c.args.by_uid.now n c.args.uid) place
    ∙ (uid-more c.args.fault had c.args.by_uid.now c.number.new.by_uid faults c.args.uid are put).1
