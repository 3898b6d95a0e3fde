use Rattle.std.proofs.Common.{◌≡◌, ◌∙◌, ◌++◌, ℤ, ap, rules, sym, subst, to_z, of_z, w64}
use Rattle.std.specs.List.{AllByRecursion}
use Rattle.std.specs.Option.{option_to_list}
use Rattle.ics_series.specs.Inner.Ended.{IsOverPart}
use Rattle.ics_series.specs.Inner.Kept.{IsPartOf}
use Rattle.ics_series.proofs.KnownLemmas.{all-last}
use Rattle.ics_series.proofs.OverLemmas.{moved-as, moved-then, moved_none, stay-then, stay_none}
use Rattle.ics_series.proofs.kept.give_back.Goals as goal

pub loop-lead-init : goal.loop-lead-init
loop-lead-init c = record {
  kept = λ files display parts are. are;
  spans = moved_none c.args.spans.now.items;
  marks = stay_none c.args.marks.now.items;
  parts = λ files display parts. parts;
  over = λ s day over. over;
}

pub loop-lead-preserved-in-Some-end : goal.loop-lead-preserved-in-Some-end
loop-lead-preserved-in-Some-end c =
    let lead = c.in-Some.lead in
    let left = c.pop.new.self.items in
    let by = to_z w64 (of_z w64 c.args.by) in
    let taken = c.pop.ensures.items ∙ ap (λ o. left ++ option_to_list o) c.in-Some.is in
    record {
      kept = λ files display parts are.
          let both = all-last left lead (λ l. IsPartOf files display l.feed)
          (subst (AllByRecursion (λ l. IsPartOf files display l.feed)) taken (c.loop-lead.invariant.parts files display parts)) in
          c.put_at.ensures files display (c.loop-lead.invariant.kept files display parts are)
          (rw c.in-Some-end.is at (c.end.ensures.kept files display (subst (IsPartOf files display) (sym c.into_feed.ensures) both.1)));
      spans = moved-then c.loop-lead.invariant.spans c.end.ensures.spans
          (λ s day over. subst (IsOverPart s day c.args.floor by) (sym c.into_feed.ensures)
          (all-last left lead (λ l. IsOverPart s day c.args.floor by l.feed)
          (subst (AllByRecursion (λ l. IsOverPart s day c.args.floor by l.feed)) taken (c.loop-lead.invariant.over s day over))).1);
      marks = stay-then c.loop-lead.invariant.marks c.end.ensures.marks
          (λ files display parts. subst (IsPartOf files display) (sym c.into_feed.ensures)
          (all-last left lead (λ l. IsPartOf files display l.feed)
          (subst (AllByRecursion (λ l. IsPartOf files display l.feed)) taken (c.loop-lead.invariant.parts files display parts))).1);
      parts = λ files display parts.
          (all-last left lead (λ l. IsPartOf files display l.feed)
          (subst (AllByRecursion (λ l. IsPartOf files display l.feed)) taken (c.loop-lead.invariant.parts files display parts))).0;
      over = λ s day over.
          (all-last left lead (λ l. IsOverPart s day c.args.floor by l.feed)
          (subst (AllByRecursion (λ l. IsOverPart s day c.args.floor by l.feed)) taken (c.loop-lead.invariant.over s day over))).0;
    }

pub loop-lead-preserved : goal.loop-lead-preserved
loop-lead-preserved c =
    let lead = c.in-Some.lead in
    let left = c.pop.new.self.items in
    let by = to_z w64 (of_z w64 c.args.by) in
    let taken = c.pop.ensures.items ∙ ap (λ o. left ++ option_to_list o) c.in-Some.is in
    record {
      kept = c.loop-lead.invariant.kept;
      spans = moved-then c.loop-lead.invariant.spans c.end.ensures.spans
          (λ s day over. subst (IsOverPart s day c.args.floor by) (sym c.into_feed.ensures)
          (all-last left lead (λ l. IsOverPart s day c.args.floor by l.feed)
          (subst (AllByRecursion (λ l. IsOverPart s day c.args.floor by l.feed)) taken (c.loop-lead.invariant.over s day over))).1);
      marks = stay-then c.loop-lead.invariant.marks c.end.ensures.marks
          (λ files display parts. subst (IsPartOf files display) (sym c.into_feed.ensures)
          (all-last left lead (λ l. IsPartOf files display l.feed)
          (subst (AllByRecursion (λ l. IsPartOf files display l.feed)) taken (c.loop-lead.invariant.parts files display parts))).1);
      parts = λ files display parts.
          (all-last left lead (λ l. IsPartOf files display l.feed)
          (subst (AllByRecursion (λ l. IsPartOf files display l.feed)) taken (c.loop-lead.invariant.parts files display parts))).0;
      over = λ s day over.
          (all-last left lead (λ l. IsOverPart s day c.args.floor by l.feed)
          (subst (AllByRecursion (λ l. IsOverPart s day c.args.floor by l.feed)) taken (c.loop-lead.invariant.over s day over))).0;
    }

pub returns-clause-spans : goal.returns-clause-spans
returns-clause-spans c =
    let fits : to_z w64 (of_z w64 c.args.by) ≡ c.args.by = search rules in
    moved-as c.loop-lead.invariant.spans
    (λ s day over. subst (λ (t : ℤ). AllByRecursion (λ l. IsOverPart s day c.args.floor t l.feed) c.args.leads.now.items) (sym fits) over)
