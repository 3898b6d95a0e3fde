use Rattle.std.proofs.Common.{◌≡◌, ◌∙◌, map, refl, arith, rules, subst, sym, to_z, of_z, w32, w64}
use Rattle.std.specs.List.{AllByRecursion}
use Rattle.std.proofs.Math.Bridge.{le_prop}
use Rattle.std.proofs.Math.Logic.{∥∥₁_elim}
use Rattle.std.proofs.lemmas.Int.{ints}
use Rattle.ics_file.specs.File.{said_by}
use Rattle.ics_series.specs.Ahead.{agenda_coming}
use Rattle.ics_starts.specs.Clocks.{display_clock}
use Rattle.ics_series.specs.DaySteps.{agenda_sources, scope_in}
use Rattle.ics_days.proofs.NearDayLemmas.{bounds-offsets}
use Rattle.ics_series.proofs.AheadLemmas.{ahead-dropped, day-masters, looked-dropped, no-masters}
use Rattle.ics_series.proofs.KnownLemmas.{each-of, parts-of}
use Rattle.ics_series.proofs.OverLemmas.{over-all}
use Rattle.ics_series.proofs.ReachLemmas.{places-moved}
use Rattle.ics_series.proofs.SpanLemmas.{chosen-back}
use Rattle.ics_series.specs.Inner.Ended.{begins_after, IsOver, IsOverPart}
use Rattle.ics_series.specs.Inner.SpanLaws.{spans-after-prop}
use Rattle.ics_series.specs.Versions.{seen}
use Rattle.ics_series.specs.Inner.Kept.{kept-prop, IsPartOf}
use Rattle.ics_series.specs.Inner.Marks.{marks-prop}
use Rattle.ics_series.specs.Sources.{recurring}
use Rattle.ics_series.proofs.days.Days.end_day.Goals as goal

pub invariant_of-self : goal.invariant_of-self
invariant_of-self c =
    let self = c.args.self.now in
    let scope = scope_in (map said_by self.files.now) (display_clock self.display.now) self.bounds self.window self.after in
    let more = c.requires.more in
    let files = map said_by self.files.now in
    let display = display_clock self.display.now in
    let by = to_z w64 (of_z w64 c.begin_after-by.result) in
    let by-fits : to_z w64 (of_z w64 c.begin_after-by.result) ≡ c.begin_after-by.result = search rules in
    let day-fits : to_z w32 (of_z w32 c.args.self.now.today.day) ≡ c.args.self.now.today.day = search rules in
    let ends : to_z w64 (of_z w64 c.begin_after-by.result) ≡ begins_after c.args.self.now.bounds c.args.self.now.today.day =
    by-fits ∙ rw day-fits at c.begin_after-by.ensures in
    record {
      chosen = self.chosen;
      overriding = self.overriding;
      counted = self.counted;
      reached = places-moved self.places self.spans.items c.give_back.new.spans.items (rw c.deref-2.ensures.value at c.give_back.ensures.spans.others)
          self.reached;
      sized = c.give_back.ensures.spans.size ∙ self.sized;
      bounded = self.bounded;
      spanned = ∥∥₁_elim c.args.self.now.masters
          (spans-after-prop files display self.bounds self.window self.today.day (map seen self.versions.items) c.give_back.new.spans.items) (λ are.
          (rw c.deref.ensures.value at c.give_back.ensures.spans).still scope self.today.day
          (chosen-back files display self.versions.items self.chosen)
          (subst (AllByRecursion (λ l. IsOverPart scope self.today.day c.floor_of.result by l.feed)) (sym c.end-leads.ensures.leads)
          (each-of (IsOver scope self.today.day c.floor_of.result by) (λ l. l.feed) self.today.agenda.merge.leads.items
          (over-all scope self.today.day (recurring (agenda_sources self.today.agenda)) c.floor_of.ensures ends self.today.agenda.apart.1.0 are)))
          self.spanned);
      marked = ∥∥₁_elim c.args.self.now.masters (marks-prop files (map seen self.versions.items) c.give_back.new.marks.items) (λ are.
          (rw c.deref.ensures.value at c.give_back.ensures.marks).still files display (chosen-back files display self.versions.items self.chosen)
          (subst (AllByRecursion (λ l. IsPartOf files display l.feed)) (sym c.end-leads.ensures.leads)
          (parts-of files display (λ l. l.feed) self.today.agenda.merge.leads.items
          (day-masters scope self.today.day (recurring (agenda_sources self.today.agenda)) are))) self.marked);
      known = ∥∥₁_elim c.args.self.now.masters (kept-prop files display c.give_back.new.kept.items) (λ are.
          c.give_back.ensures.kept files display
          (subst (AllByRecursion (λ l. IsPartOf files display l.feed)) (sym c.end-leads.ensures.leads)
          (parts-of files display (λ l. l.feed) self.today.agenda.merge.leads.items
          (day-masters scope self.today.day (recurring (agenda_sources self.today.agenda)) are))) self.known);
      not_before = self.not_before;
      begun = self.begun;
      masters = ∣ no-masters scope self.today.day c.end-leads.ensures.sources ∣₁;
      before = λ masters most n all bounds is. ∥∥₁_elim c.args.self.now.masters le_prop (λ are.
          looked-dropped scope self.today.day (agenda_sources self.today.agenda) are self.today.agenda.apart.1.1 (agenda_coming self.today.agenda)
          c.steps.result c.steps.ensures.most self.today.looked self.before self.begun refl c.end-leads.ensures.sources
          (omega (arith, c.saturating_add-looked.ensures)) masters most n all bounds is);
      past = λ l. absurd (omega (arith, ints, l, more, self.within));
      shown = self.shown;
      within = self.within;
      below = self.below;
    }

pub returns-clause-counted : goal.returns-clause-counted
returns-clause-counted c = omega (arith, c.saturating_add-looked.ensures, c.steps.ensures.count)

pub returns-clause-ahead : goal.returns-clause-ahead
returns-clause-ahead c = λ list a.
    let self = c.args.self.now in
    ahead-dropped (map said_by self.files.now) (display_clock self.display.now) self.window self.today.day c.requires.none c.end-leads.ensures.none list a

pub begin_after-by-requires : goal.begin_after-by-requires
begin_after-by-requires c =
    let self = c.args.self.now in
    bounds-offsets (display_clock self.display.now) self.window self.bounds self.bounded
