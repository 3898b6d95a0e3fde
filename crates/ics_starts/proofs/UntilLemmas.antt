-- The starts by a rule with an UNTIL in UTC are those of the rule without it up to that instant.
use Rattle.std.proofs.Common.{◌≡◌, ◌≤ℤ◌, ℤ, true, inr, ⊎_elim, Option, Some, sym, ◌∙◌, ap, subst, option_map, IfSome}
use Rattle.ics_fields.specs.Locals.{local_seconds, number}
use Rattle.ics_rule.specs.Kept.{is_kept, until_moment}
use Rattle.ics_period.specs.Recurrence.{Recurrence}
use Rattle.ics_rule.specs.UntilBounds.{without_until}
use Rattle.ics_zone.specs.Observances.{rule_from}
use Rattle.ics_zone.proofs.UntilLemmas.{bounded, free, same-kept}
use Rattle.ics_starts.specs.Clocks.{instant}
use Rattle.ics_starts.specs.StartLaws.{unbounded_by, StartsByUntil}
use Rattle.ics_listing.specs.StartTimes.{local_of, time_at, time_of}
use Rattle.ics_starts.specs.Starts.{recurrence_by, recurrence_of, IsRuleStart}
use Rattle.ics_listing.proofs.Cases.{some-same}

pub starts-by_until : StartsByUntil
starts-by_until clocks event parts last local given has is timed other =
    let first = local_of event.start.stamp in
    let t = instant clocks (time_at event.start local) in
    let own : recurrence_of event ≡ Some (rule_from first parts) =
    ap (option_map (recurrence_by event.start.stamp)) has ∙ (λ i. Some (record { parts = parts; start = first; kind = timed i })) in
    let plain : recurrence_of (unbounded_by event parts) ≡ Some (without_until (rule_from first parts)) =
    λ i. Some (without_until (record { parts = parts; start = first; kind = timed i })) in
    let within = λ (until : Option ℤ). IfSome until (λ until. instant clocks (time_at event.start local) ≤ℤ until) in
    let kept-by = λ (r : Recurrence). is_kept r (number local) ≡ true in
    let same = same-kept parts first last is (number local) in (
      λ h. ⊎_elim (λ e. absurd (other e))
          (λ (s : IsRuleStart clocks event local).
          let rule : s.rule ≡ rule_from first parts = some-same s.rule (rule_from first parts) (sym s.has ∙ own) in
          let by : t ≤ℤ local_seconds last = subst within (ap until_moment rule ∙ bounded parts first last is) s.until in
          let start : IsRuleStart clocks (unbounded_by event parts) local =
          record {
            rule = without_until (rule_from first parts);
            has = plain;
            calendar = s.calendar;
            kept = sym same ∙ subst kept-by rule s.kept;
            until = subst within (sym (free parts first)) tt;
          } in
          ((inr start, h.1), subst (λ v. instant clocks (time_of v) ≤ℤ local_seconds last) (sym h.1) by))
          h.0,
      λ h. ⊎_elim (λ e. absurd (other e))
          (λ (s : IsRuleStart clocks (unbounded_by event parts) local).
          let rule : s.rule ≡ without_until (rule_from first parts) = some-same s.rule (without_until (rule_from first parts)) (sym s.has ∙ plain) in
          let by : t ≤ℤ local_seconds last = subst (λ v. instant clocks (time_of v) ≤ℤ local_seconds last) h.0.1 h.1 in
          let start : IsRuleStart clocks event local =
          record {
            rule = rule_from first parts;
            has = own;
            calendar = s.calendar;
            kept = same ∙ subst kept-by rule s.kept;
            until = subst within (sym (bounded parts first last is)) by;
          } in
          (inr start, h.0.1))
          h.0.0,
    )
