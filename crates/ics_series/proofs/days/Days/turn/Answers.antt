use Rattle.std.proofs.Common.{◌≡◌, ◌∙◌, ◌<ℤ◌, map, option_map, true, subst, sym, arith, rules, to_z, of_z, w32}
use Rattle.ics_days.specs.ShownDays.{is_on}
use Rattle.ics_listing.specs.Entry.{key_rank}
use Rattle.std.proofs.Math.Bridge.{le_prop}
use Rattle.std.proofs.Math.Logic.{∥∥₁_elim}
use Rattle.std.proofs.lemmas.Int.{ints}
use Rattle.ics_file.specs.File.{said_by}
use Rattle.ics_series.specs.Ahead.{agenda_coming}
use Rattle.ics_starts.specs.Clocks.{display_clock}
use Rattle.ics_listing.specs.Merges.{merge_all}
use Rattle.ics_series.specs.AgendaParts.{part_sources}
use Rattle.ics_series.specs.DaySteps.{agenda_sources, scope_in, AreDayMasters, IsLookedBefore}
use Rattle.ics_days.specs.NearDays.{first_near}
use Rattle.ics_days.proofs.NearDayLemmas.{bounds-offsets, day-fits}
use Rattle.ics_series.specs.Sources.{recurring}
use Rattle.ics_series.specs.Versions.{seen}
use Rattle.ics_series.proofs.AheadLemmas.{ahead-turned, from-later, looked-before, looked-next, searched-masters}
use Rattle.ics_series.proofs.ReachLemmas.{near-of, places-next, places-same}
use Rattle.ics_series.proofs.SpanLemmas.{after-later, chosen-back, near-spans, none-between}
use Rattle.ics_series.proofs.days.Days.turn.Goals as goal

pub near_day-near-requires : goal.near_day-near-requires
near_day-near-requires c =
    let self = c.args.self.now in
    let next = c.next_day-day in
    record {
      bounded = self.bounded;
      first = omega (arith, ints, next.type_inv, next.ensures.later, self.not_before);
      last = omega (arith, ints, next.type_inv, next.ensures.last, self.within);
    }

pub may_begin_after-closely-requires : goal.may_begin_after-closely-requires
may_begin_after-closely-requires c =
    let self = c.args.self.now in
    let next = c.next_day-day in
    let are = bounds-offsets (display_clock self.display.now) self.window self.bounds self.bounded in
    record {
      offsets = are;
      day = day-fits self.window self.bounds are (to_z w32 (of_z w32 c.next_day-day.result))
          (omega (arith, ints, next.type_inv, next.ensures.later, self.not_before)) (omega (arith, ints, next.type_inv, next.ensures.last, self.within));
    }

pub next_day-day-requires-clause-offsets : goal.next_day-day-requires-clause-offsets
next_day-day-requires-clause-offsets c =
    let self = c.args.self.now in
    bounds-offsets (display_clock self.display.now) self.window self.bounds self.bounded

pub next_day-day-requires-clause-places : goal.next_day-day-requires-clause-places
next_day-day-requires-clause-places c =
    let fits : to_z w32 (of_z w32 c.args.self.now.today.day) ≡ c.args.self.now.today.day = search rules in
    rw (fits, c.deref.ensures.value) c.args.self.now.reached

pub search-requires-clause-overrides : goal.search-requires-clause-overrides
search-requires-clause-overrides c = rw (c.deref-5.ensures.value, c.deref-4.ensures.value) c.args.self.now.overriding

pub search-requires-clause-near : goal.search-requires-clause-near
search-requires-clause-near c =
    let self = c.args.self.now in
    let near = c.near_day-near.result in
    let reached = rw c.deref-3.ensures.value at c.in_ok-reach.ensures.reached in
    rw (c.deref-6.ensures.value, c.deref-4.ensures.value, c.deref-7.ensures.value)
    (near-of c.reach.new.self self.spans.items near (c.reach.ensures.count ∙ self.counted) self.sized
    (reached (self.reached (display_clock self.display.now) (to_z w32 (of_z w32 c.next_day-day.result)) near
    (omega (arith, ints, c.next_day-day.type_inv, c.next_day-day.ensures.later)) c.near_day-near.ensures)))

pub search-requires-clause-chosen : goal.search-requires-clause-chosen
search-requires-clause-chosen c =
    let self = c.args.self.now in
    rw c.deref-4.ensures.value (chosen-back (map said_by self.files.now) (display_clock self.display.now) self.versions.items self.chosen)

pub begin_after-requires : goal.begin_after-requires
begin_after-requires c =
    let self = c.args.self.now in
    bounds-offsets (display_clock self.display.now) self.window self.bounds self.bounded

pub search-requires-clause-spans : goal.search-requires-clause-spans
search-requires-clause-spans c =
    let self = c.args.self.now in
    rw (c.deref-4.ensures.value, c.deref-7.ensures.value)
    (near-spans (map said_by self.files.now) (display_clock self.display.now) self.bounds self.window (map seen self.versions.items) self.spans.items
    self.spanned (omega (arith, ints, c.next_day-day.type_inv, c.next_day-day.ensures.later)) c.near_day-near.ensures c.key_near-key.ensures.floor)

-- no day was turned to, but places may have been reached
pub invariant_of-self : goal.invariant_of-self
invariant_of-self c =
    let self = c.args.self.now in
    let has = rw c.deref-3.ensures.value at c.reach.ensures.has in
    let same : to_z w32 (of_z w32 c.next_day-day.result) ≡ c.next_day-day.result = omega (arith, ints, c.next_day-day.type_inv) in
    let fits : to_z w32 (of_z w32 c.args.self.now.today.day) ≡ c.args.self.now.today.day = search rules in
    let none = rw (fits, ← same, c.deref.ensures.value) at c.next_day-day.ensures.none in
    record {
      chosen = self.chosen;
      overriding = self.overriding;
      counted = c.reach.ensures.count ∙ self.counted;
      bounded = self.bounded;
      sized = self.sized;
      spanned = self.spanned;
      reached = places-same self.places c.reach.new.self self.spans.items c.near_day-near.ensures has none self.reached;
      marked = self.marked;
      known = self.known;
      not_before = self.not_before;
      begun = self.begun;
      masters = self.masters;
      before = self.before;
      past = self.past;
      shown = self.shown;
      within = self.within;
      below = self.below;
    }

-- no day was turned to, but places may have been reached, and marks put
-- the places that are reached are in order
pub invariant_of-self-2 : goal.invariant_of-self-2
invariant_of-self-2 c =
    let places = c.reach.new.self in
    (places.rising, (places.below, (places.ordered, (places.waiting_below, (places.returned_below, tt)))))

pub invariant_of-self-in-Break-branch-2 : goal.invariant_of-self-in-Break-branch-2
invariant_of-self-in-Break-branch-2 c =
    let self = c.args.self.now in
    let files = map said_by self.files.now in
    let display = display_clock self.display.now in
    let scope = scope_in files display self.bounds self.window self.after in
    let same-merge = sym c.in_err-search.ensures.err in
    let same : to_z w32 (of_z w32 c.next_day-day.result) ≡ c.next_day-day.result = omega (arith, ints, c.next_day-day.type_inv) in
    let fits : to_z w32 (of_z w32 c.args.self.now.today.day) ≡ c.args.self.now.today.day = search rules in
    let none = rw (fits, ← same, c.deref.ensures.value) at c.next_day-day.ensures.none in
    record {
      chosen = self.chosen;
      overriding = self.overriding;
      counted = c.reach.ensures.count ∙ self.counted;
      reached = places-same self.places c.reach.new.self self.spans.items c.near_day-near.ensures (rw c.deref-3.ensures.value at c.reach.ensures.has) none
          self.reached;
      bounded = self.bounded;
      sized = self.sized;
      spanned = self.spanned;
      marked = rw c.deref-4.ensures.value at c.search.ensures.marks;
      known = c.search.ensures.kept;
      not_before = self.not_before;
      begun = self.begun;
      masters = subst (λ m. ∥ AreDayMasters scope self.today.day (merge_all part_sources m) ∥₁) same-merge self.masters;
      before = subst (λ m. IsLookedBefore scope self.today.day (merge_all part_sources m) self.today.looked) same-merge self.before;
      past = self.past;
      shown = self.shown;
      within = self.within;
      below = self.below;
    }

pub invariant_of-self-3 : goal.invariant_of-self-3
invariant_of-self-3 c =
    let self = c.args.self.now in
    let next = c.next_day-day in
    let day : to_z w32 (of_z w32 c.next_day-day.result) ≡ c.next_day-day.result = omega (arith, ints, next.type_inv) in
    let more = c.requires.more in
    let scope = scope_in (map said_by self.files.now) (display_clock self.display.now) self.bounds self.window self.after in
    let begun = self.begun in
    let files = map said_by self.files.now in
    let display = display_clock self.display.now in
    let masters = searched-masters scope (option_map (λ key. key_rank key.now) c.key_near-key.result) c.near_day-near.ensures
    (λ since f. from-later (first_near self.window self.bounds) self.after self.begun (omega (arith, ints, day, next.ensures.later)) since)
    (recurring (agenda_sources c.search.new.self)) c.in_ok-search.ensures.sources.each in
    record {
      chosen = self.chosen;
      overriding = self.overriding;
      counted = c.reach.ensures.count ∙ self.counted;
      reached = places-next self.places c.reach.new.self self.spans.items c.near_day-near.ensures (rw c.deref-3.ensures.value at c.reach.ensures.has)
          (omega (arith, ints, day, next.ensures.later)) self.reached;
      bounded = self.bounded;
      sized = self.sized;
      spanned = after-later files display self.bounds self.window (map seen self.versions.items) self.spans.items self.spanned
          (omega (arith, ints, day, next.ensures.later));
      marked = rw c.deref-4.ensures.value at c.search.ensures.marks;
      known = c.search.ensures.kept;
      not_before = omega (arith, ints, day, next.ensures.later, self.not_before);
      begun = omega (arith, ints, day, next.ensures.later, begun);
      masters = ∣ masters ∣₁;
      before = looked-before scope (to_z w32 (of_z w32 c.next_day-day.result)) (agenda_sources c.search.new.self) masters
          c.search.new.self.apart.1.1
          (λ all-masters most n all bounds is. ∥∥₁_elim c.args.self.now.masters le_prop (λ are.
          looked-next scope self.today.day (agenda_sources self.today.agenda) are self.today.agenda.apart.1.1 (agenda_coming self.today.agenda) 0
          (λ m h. omega arith) self.today.looked self.before self.begun (omega (arith, ints, day, next.ensures.later)) (omega arith)
          all-masters most n all bounds is));
      past = λ l. absurd (omega (arith, ints, l, next.ensures.last, day, self.within));
      shown = self.shown;
      within = self.within;
      below = self.below;
    }

pub returns-clause-day : goal.returns-clause-day
returns-clause-day c =
    let next = c.next_day-day in
    (omega (arith, ints, next.type_inv, next.ensures.later), omega (arith, ints, next.type_inv, next.ensures.last))

pub returns-clause-ahead : goal.returns-clause-ahead
returns-clause-ahead c = λ list a.
    let self = c.args.self.now in
    let files = map said_by self.files.now in
    let display = display_clock self.display.now in
    let next = c.next_day-day in
    let later : c.args.self.now.today.day <ℤ to_z w32 (of_z w32 c.next_day-day.result) = omega (arith, ints, next.type_inv, next.ensures.later) in
    let same : to_z w32 (of_z w32 c.next_day-day.result) ≡ c.next_day-day.result = omega (arith, ints, next.type_inv) in
    let fits : to_z w32 (of_z w32 c.args.self.now.today.day) ≡ c.args.self.now.today.day = search rules in
    let none = rw (fits, ← same, c.deref.ensures.value) at c.next_day-day.ensures.none in
    let chosen = chosen-back files display self.versions.items self.chosen in
    let key = option_map (λ key. key_rank key.now) c.key_near-key.result in
    ahead-turned files display self.window self.bounds self.bounded key
    (λ p u. c.key_near-key.ensures.shown p.entry u.0.listed.1 (subst (λ d. is_on display self.window p.entry d ≡ true) u.1 u.0.on)) later
    (none-between files display self.window self.bounds self.bounded self.versions.items chosen self.spans.items self.sized self.spanned none)
    c.near_day-near.ensures c.requires.none c.in_ok-search.ensures.listing a
