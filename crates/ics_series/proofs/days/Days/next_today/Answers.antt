use Rattle.std.proofs.Common.{◌≡◌, List, map, rules, sym, ◌∙◌, subst, to_z, of_z, w32}
use Rattle.ics_fields.specs.Days.{IsDayNumber}
use Rattle.ics_file.specs.File.{said_by}
use Rattle.ics_series.specs.Ahead.{agenda_coming, scope_of}
use Rattle.ics_starts.specs.Clocks.{display_clock}
use Rattle.ics_listing.specs.Entry.{entry_of}
use Rattle.ics_listing.specs.FeedSources.{Source}
use Rattle.ics_series.specs.DaySteps.{AreDayMasters, IsLookedBefore}
use Rattle.ics_series.proofs.AheadLemmas.{ahead-given, ahead-skipped}
use Rattle.ics_series.proofs.days.Days.next_today.Goals as goal

pub returns-then-today-clause-ok : goal.returns-then-today-clause-ok
returns-then-today-clause-ok c = λ list a.
    let self = c.loop-occurrence.self in
    let gives = rw c.in-Some.is at c.in_ok-occurrence.ensures.ok in
    let fits : to_z w32 (of_z w32 c.loop-occurrence.self.today.day) ≡ c.loop-occurrence.self.today.day = search rules in
    ahead-given (map said_by self.files.now) (display_clock self.display.now) self.window self.today.day (entry_of c.in-Some.occurrence)
    (agenda_coming self.today.agenda) (agenda_coming c.next.new.self) gives
    (sym (rw fits at c.is_today-today.ensures.today) ∙ c.if-today.true) list (c.loop-occurrence.invariant.ahead list a)

pub loop-occurrence-preserved : goal.loop-occurrence-preserved
loop-occurrence-preserved c = record {
  day = c.loop-occurrence.invariant.day;
  scope = c.loop-occurrence.invariant.scope;
  last = c.loop-occurrence.invariant.last;
  looked = c.loop-occurrence.invariant.looked;
  ahead = λ list a.
      let self = c.loop-occurrence.self in
      let gives = rw c.in-Some.is at c.in_ok-occurrence.ensures.ok in
      let fits : to_z w32 (of_z w32 c.loop-occurrence.self.today.day) ≡ c.loop-occurrence.self.today.day = search rules in
      ahead-skipped (map said_by self.files.now) (display_clock self.display.now) self.window self.today.day (entry_of c.in-Some.occurrence)
      (agenda_coming self.today.agenda) (agenda_coming c.next.new.self) gives
      (sym (rw fits at c.is_today-today.ensures.today) ∙ c.if-today.false) list (c.loop-occurrence.invariant.ahead list a);
}

pub returns-then-today-clause-within : goal.returns-then-today-clause-within
returns-then-today-clause-within c =
    let fits : to_z w32 (of_z w32 c.loop-occurrence.self.today.day) ≡ c.loop-occurrence.self.today.day = search rules in
    subst IsDayNumber fits (c.is_today-today.ensures.within c.if-today.true)

pub invariant_of-self : goal.invariant_of-self
invariant_of-self c =
    let self = c.loop-occurrence.self in
    record {
      chosen = self.chosen;
      sized = self.sized;
      overriding = self.overriding;
      counted = self.counted;
      bounded = self.bounded;
      spanned = self.spanned;
      reached = self.reached;
      marked = self.marked;
      known = self.known;
      not_before = self.not_before;
      begun = self.begun;
      masters = subst (λ (xs : List Source). ∥ AreDayMasters (scope_of self) self.today.day xs ∥₁) (sym c.next.ensures.sources) self.masters;
      before = subst (λ (xs : List Source). IsLookedBefore (scope_of self) self.today.day xs self.today.looked) (sym c.next.ensures.sources) self.before;
      past = self.past;
      shown = self.shown;
      within = self.within;
      below = self.below;
    }
