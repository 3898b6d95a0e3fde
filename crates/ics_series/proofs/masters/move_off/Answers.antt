use Rattle.std.proofs.Common.{◌≡◌, ◌∙◌, ◌≤ℤ◌, ◌<ℤ◌, Option, Vec, Global, ap, arith, map, refl, rules, sym, subst, to_z, of_z, w64, pos}
use Rattle.std.specs.Int.{int_max}
use Rattle.std.specs.Option.{unwrap_or}
use Rattle.std.proofs.lemmas.Int.{ints}
use Rattle.ics_event.specs.declared.event.Event.{Event}
use Rattle.ics_listing.specs.FeedSources.{Recurring}
use Rattle.ics_series.specs.Inner.Ended.{IsMasterAt}
use Rattle.ics_series.specs.Inner.Kept.{IsPartOf}
use Rattle.ics_series.specs.Inner.Marks.{StayMarks}
use Rattle.ics_days.specs.Spans.{always, first_at}
use Rattle.ics_series.specs.Inner.Spans.{IsPutOff}
use Rattle.ics_series.specs.Versions.{seen}
use Rattle.ics_series.specs.declared.part.Part.TheVariants as part
use Rattle.ics_starts.specs.FileZones.{clocks_in}
use Rattle.ics_starts.specs.Quiet.{IsQuietTo}
use Rattle.ics_starts.specs.RuleMarks.{IsMarkOf}
use Rattle.ics_starts.specs.declared.mark.Mark.{Mark}
use Rattle.ics_continued.specs.declared.continued.Continued.{Continued}
use Rattle.ics_series.proofs.GapLemmas.{put-others}
use Rattle.ics_series.proofs.OverLemmas.{marks-over, over-still, stay_none, AreFromLeast}
use Rattle.ics_series.proofs.RecurringLemmas.{of-late}
use Rattle.ics_series.proofs.masters.move_off.Goals as goal
use Rattle.ics_series.proofs.masters.move_off.Goals.{then-is_some, else-is_some}

pub returns-clause-spans : goal.returns-clause-spans
returns-clause-spans c =
    let ended = c.args.ended.now in
    let continued = ended.series.value in
    let series = continued.series in
    let event = series.event.now in
    let m : Recurring = record {
      clocks = clocks_in series.zones;
      event = event;
      window = series.window;
      since = series.since;
      replaced = series.replaced;
    } in
    let first = first_at c.args.spans.now.items ended.place in
    let fits : to_z w64 (of_z w64 c.quiet_up_to.result) ≡ c.quiet_up_to.result = search rules in
    let least-fits : to_z w64 (of_z w64 c.args.least) ≡ c.args.least = search rules in
    let since-fits : to_z w64 (of_z w64 c.since.result) ≡ c.since.result = search rules in
    let first-fits : to_z w64 (of_z w64 c.first_at-begin.result) ≡ c.first_at-begin.result = search rules in
    let from-fits : to_z w64 (of_z w64 c.unwrap_or.result) ≡ c.unwrap_or.result = search rules in
    let begun-fits : to_z w64 (of_z w64 c.max-begun.result) ≡ c.max-begun.result = search rules in
    let from = unwrap_or c.args.floor always.first in
    let begin : to_z w64 (of_z w64 c.first_at-begin.result) ≡ first =
    first-fits ∙ (c.first_at-begin.ensures ∙ ap (λ xs. first_at xs ended.place) c.deref.ensures.value) in
    let floor : to_z w64 (of_z w64 c.unwrap_or.result) ≡ from = from-fits ∙ c.unwrap_or.ensures in
    let begun : c.max-begun.result ≡ int_max from first = c.max-begun.ensures.value ∙ (λ i. int_max (floor i) (begin i)) in
    let uid : c.as_slice.result.now ≡ c.args.ended.now.series.value.series.event.now.uid =
    c.as_slice.ensures ∙ (ap (λ (e : Event). e.uid) c.event.view_is ∙ ap (λ (e : Event). e.uid) (sym ended.own)) in
    let most : to_z w64 (of_z w64 c.quiet_up_to.result) ≤ℤ c.args.least = omega (arith, ints, c.quiet_up_to.ensures.most, fits, least-fits) in
    let put : IsPutOff (clocks_in c.args.ended.now.series.value.series.zones) c.args.ended.now.series.value.series.event.now
    c.args.ended.now.series.value.series.window c.args.ended.now.series.value.since c.args.floor c.args.spans.now.items c.args.ended.now.place
    c.put_span.new.spans.items =
    record {
      low =
          let since : c.since.result ≡ c.args.ended.now.series.value.since =
          c.since.ensures ∙ ap (λ (s : Continued). s.since) c.deref-2.ensures in
          let low : c.since.result ≤ℤ c.max-begun.result = omega (arith, ints, c.if-begun-since.false, since-fits, begun-fits) in
          subst (λ t. t ≤ℤ int_max from first) since (subst (λ r. c.since.result ≤ℤ r) begun low);
      span = record { first = to_z w64 (of_z w64 c.quiet_up_to.result); last = pos 9_223_372_036_854_775_807 };
      rest = record {
        last = refl;
        first = subst (IsQuietTo (clocks_in series.zones) event series.window continued.since) (sym fits)
            (subst (λ (s : Continued). IsQuietTo (clocks_in s.series.zones) s.series.event.now s.series.window s.since c.quiet_up_to.result)
            c.deref-3.ensures c.quiet_up_to.ensures.to);
      };
      put = c.put_span.ensures;
    } in
    let late : always.first <ℤ c.args.least = omega (arith, ints, c.if-least-begin.false, first-fits, least-fits, c.first_at-begin.type_inv) in
    record {
      size = c.put_span.ensures.0;
      others = put-others c.args.spans.now.items c.put_span.new.spans.items c.args.near.now ended.place
          (c.is_near.ensures c.if-not-is_near.false) c.put_span.ensures;
      still = λ s day chosen over are.
          let known : AreFromLeast m c.args.ended.now.series.value.since c.args.by c.args.least =
          record { enough = λ o. of-late series.zones event o series.own.is_event; lasting = c.requires.least late } in
          over-still s day chosen over.0 known
          (subst (IsMasterAt (map seen c.args.versions.now) ended.place) uid (c.is_master_at.ensures c.if-not-is_master_at.false)) put most are;
    }

pub returns-clause-marks : goal.returns-clause-marks
returns-clause-marks c =
    let ended = c.args.ended.now in
    let Stay = StayMarks c.args.versions.now (λ files display. IsPartOf files display (part.Series ended)) c.args.marks.now.items in
    elim c.if-is_some.branch [
      | then-is_some w ↦ subst Stay (sym (ap (λ (p : Vec (Option Mark) Global). p.items) w.marks-is)) (record {
        still = λ files display chosen of are.
            let uid : c.as_slice.result.now ≡ c.args.ended.now.series.value.series.event.now.uid =
            c.as_slice.ensures ∙ (ap (λ (e : Event). e.uid) c.event.view_is ∙ ap (λ (e : Event). e.uid) (sym ended.own)) in
            let at = subst (IsMasterAt (map seen c.args.versions.now) ended.place) uid (c.is_master_at.ensures c.if-not-is_master_at.false) in
            let mark = subst (λ (s : Continued). IsMarkOf s.series.event.now c.quiet_up_to.new.mark) c.deref-3.ensures (c.quiet_up_to.ensures.mark tt) in
            marks-over chosen of at mark c.args.marks.now.items w.put_mark.new.marks.items w.put_mark.ensures are;
      })
      | else-is_some w ↦ subst Stay (sym (ap (λ (p : Vec (Option Mark) Global). p.items) w.marks-is)) (stay_none c.args.marks.now.items)
    ]
