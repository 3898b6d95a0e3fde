use Rattle.std.proofs.Common.{is_some, ◌==◌, ◌∙◌, rules, tests}
use Rattle.std.proofs.lemmas.Iterator.Splits.{YieldsList-from_slice_split}
use Rattle.std.proofs.lemmas.Iterator.Consumers.{YieldsList-end}
use Rattle.ics_components.specs.DateValues.{value_of}
use Rattle.ics_components.proofs.DateValueLemmas.{answers-fault, read-more, read-all}
use Rattle.ics_components.proofs.date_values.read_values.Goals as goal

pub values-preserved-in-Continue-branch-2 : goal.values-preserved-in-Continue-branch-2
values-preserved-in-Continue-branch-2 c =
    rw c.in_ok-push-in-Ok-default.ensures.items
    (read-more c.args.zone.now _ c.values.yielded c.in-Some.value c.values.invariant (rw c.in-Ok-default.is-0 at c.value.ensures))

pub values-preserved-in-Err-Fault-Some : goal.values-preserved-in-Err-Fault-Some
values-preserved-in-Err-Fault-Some c =
    rw (c.min.ensures, c.in-Err-Fault-Some.kind-is) (
    rw c.in-Err-Fault-Some.is-1 at
    (read-more c.args.zone.now _ c.values.yielded c.in-Some.value c.values.invariant
    (answers-fault c.in-Err-Fault-Some.field-0-1 c.in-Err-Fault-Some.kind (search rules) c.in-Err-Fault-Some.ensures))
    )

pub values-preserved : goal.values-preserved
values-preserved c =
    rw c.in-Err-Fault-None.kind-is (
    rw c.in-Err-Fault-None.is-1 at
    (read-more c.args.zone.now _ c.values.yielded c.in-Some.value c.values.invariant
    (answers-fault c.in-Err-Fault-None.field-0-1 c.in-Err-Fault-None.kind (search rules) c.in-Err-Fault-None.ensures))
    )

pub returns-in-Some-least : goal.returns-in-Some-least
returns-in-Some-least c =
    let road = YieldsList-from_slice_split _ (λ b. b == 44) c.args.text.now (cc) (cc) (cc) (λ x r q k. search (rules, tests)) in
    let last = YieldsList-end road c.values.yielded _ c.values.yielded_by _ _ c.in-None.is c.next.ensures.steps in
    let all = read-all c.args.zone.now (value_of c.args.listing (is_some c.args.zone.now)) c.values.yielded last.0 c.values.invariant in
    all.fault ∙ c.in-Some-least.is

pub returns-in-None-least : goal.returns-in-None-least
returns-in-None-least c =
    let road = YieldsList-from_slice_split _ (λ b. b == 44) c.args.text.now (cc) (cc) (cc) (λ x r q k. search (rules, tests)) in
    let last = YieldsList-end road c.values.yielded _ c.values.yielded_by _ _ c.in-None.is c.next.ensures.steps in
    let all = read-all c.args.zone.now (value_of c.args.listing (is_some c.args.zone.now)) c.values.yielded last.0 c.values.invariant in
    (all.fault ∙ c.in-None-least.is, all.said c.in-None-least.is)
