use Rattle.std.proofs.Common.{◌≡◌, sym, ap, ◌∙◌, ◌∷◌, [], ◌++◌, ℕ, List, Some, map, subst}
use Rattle.std.specs.List.{fold}
use Rattle.std.proofs.lemmas.Grind.{fold-append}
use Rattle.std.proofs.lemmas.List.{map-append}
use Rattle.ics_calendar.specs.Inner.Labels.{AreNumbered}
use Rattle.ics_calendar.specs.Inner.PartsRead.{Numbered, with_key}
use Rattle.ics_calendar.proofs.labels.note_uids.Goals as goal

pub loop-uid-preserved : goal.loop-uid-preserved
loop-uid-preserved c =
    let uid = c.in-Some.uid in
    let yielded = c.loop-uid.yielded in
    let behind : Numbered → Numbered = λ had. fold (with_key c.args.fault) had (map (λ uid. Some uid) yielded) in
    let one : (had : Numbered) → fold (with_key c.args.fault) had (map (λ uid. Some uid) (yielded ++ uid ∷ [])) ≡ with_key c.args.fault (behind had)
    (Some uid) =
    λ had. ap (fold (with_key c.args.fault) had) (map-append (λ (uid : List ℕ). Some uid) yielded (uid ∷ []))
    ∙ fold-append (with_key c.args.fault) had (map (λ uid. Some uid) yielded) (Some uid ∷ []) in
    record {
      kept = λ had are. subst (λ n. AreNumbered n c.note_uid.new.by_uid c.note_uid.new.faults.items) (sym (one had))
          (c.in_ok-last.ensures.kept (behind had) (c.loop-uid.invariant.kept had are));
      part = λ had are e. c.in_ok-last.ensures.part (behind had) (c.loop-uid.invariant.kept had are) ∙ ap (λ (n : Numbered). n.part) (sym (one had));
    }
