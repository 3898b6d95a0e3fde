use Rattle.std.proofs.Common.{◌≡◌, ◌∷◌, [], ◌++◌, ap, sym, ◌∙◌, length, subst, Some, None, Option, List, refl, map, ◌==◌}
use Rattle.std.specs.List.{fold}
use Rattle.std.proofs.lemmas.Result.{IfOk-weaker, on_ok_weaker}
use Rattle.ics_components.specs.declared.fault.Fault.{Fault}
use Rattle.ics_calendar.specs.Inner.Labels.{AreNumbered}
use Rattle.ics_calendar.specs.Inner.PartsRead.{Numbered, least_at, numbered_with, with_key}
use Rattle.ics_calendar.proofs.Shared.{begun, no-keys, none-more, some-keys}
use Rattle.ics_calendar.proofs.labels.note_event.Goals as goal

pub returns-then-is_empty-clause-kept : goal.returns-then-is_empty-clause-kept
returns-then-is_empty-clause-kept c = λ had are.
    let faults : List (Option Fault) = c.args.faults.now.items in
    let start : Numbered = record had { part = 0 } in
    let first = c.note_least.ensures
    ∙ (λ j. least_at c.args.fault (c.in_ok-push.ensures.items j) (length (c.as_slice-had.ensures.value j))) in
    subst (λ fs. AreNumbered (numbered_with c.args.fault had c.args.uids.items) c.args.by_uid.now fs) (sym first)
    (subst (λ keys. AreNumbered (fold (with_key c.args.fault) start keys) c.args.by_uid.now (least_at c.args.fault (faults ++ None ∷ []) (length faults)))
    (sym (no-keys c.args.uids.items (ap (λ n. n == 0) (sym c.args.uids.ok.0) ∙ sym c.is_empty.ensures ∙ c.if-is_empty.true)))
    (none-more c.args.fault start c.args.by_uid.now faults (begun had c.args.by_uid.now faults are)).0)

pub returns-then-is_empty-clause-part : goal.returns-then-is_empty-clause-part
returns-then-is_empty-clause-part c = λ had are.
    let faults : List (Option Fault) = c.args.faults.now.items in
    let start : Numbered = record had { part = 0 } in
    ap (λ fs. length fs) c.as_slice-had.ensures.value
    ∙ (none-more c.args.fault start c.args.by_uid.now faults (begun had c.args.by_uid.now faults are)).1
    ∙ ap (λ keys. (fold (with_key c.args.fault) start keys).part)
    (sym (no-keys c.args.uids.items (ap (λ n. n == 0) (sym c.args.uids.ok.0) ∙ sym c.is_empty.ensures ∙ c.if-is_empty.true)))

pub returns-clause-kept : goal.returns-clause-kept
returns-clause-kept c =
    on_ok_weaker c.note_uids.result
    (λ kept had are. subst
    (λ keys. AreNumbered (fold (with_key c.args.fault) (record had { part = 0 }) keys) c.note_uids.new.by_uid c.note_uids.new.faults.items)
    (sym (some-keys c.args.uids.items (ap (λ n. n == 0) (sym c.args.uids.ok.0) ∙ sym c.is_empty.ensures ∙ c.if-is_empty.false)))
    (kept (record had { part = 0 }) (begun had c.args.by_uid.now c.args.faults.now.items are)))
    c.note_uids.ensures.kept

pub returns-clause-part : goal.returns-clause-part
returns-clause-part c =
    IfOk-weaker c.note_uids.result
    (λ last. (had : Numbered) → AreNumbered had c.args.by_uid.now c.args.faults.now.items → had.part ≡ 0 →
    last ≡ (fold (with_key c.args.fault) had (map (λ uid. Some uid) c.args.uids.items)).part)
    (λ last. (had : Numbered) → AreNumbered had c.args.by_uid.now c.args.faults.now.items →
    last ≡ (numbered_with c.args.fault had c.args.uids.items).part)
    (λ last part had are. part (record had { part = 0 }) (begun had c.args.by_uid.now c.args.faults.now.items are) refl
    ∙ ap (λ keys. (fold (with_key c.args.fault) (record had { part = 0 }) keys).part)
    (sym (some-keys c.args.uids.items (ap (λ n. n == 0) (sym c.args.uids.ok.0) ∙ sym c.is_empty.ensures ∙ c.if-is_empty.false))))
    c.note_uids.ensures.part
