use Rattle.std.proofs.Common.{rules, ◌≡◌, ◌∙◌, filter, length, map, refl, ap, subst, sym, arith, to_z, of_z, w32, ◌≤ℤ◌, option_map}
use Rattle.std.proofs.lemmas.Int.{ints}
use Rattle.std.proofs.lemmas.List.{length-map}
use Rattle.ics_file.specs.File.{said_by}
use Rattle.ics_series.specs.Ahead.{agenda_coming}
use Rattle.ics_starts.specs.Clocks.{display_clock}
use Rattle.ics_days.specs.ShownDays.{date_at}
use Rattle.ics_series.specs.DaySteps.{agenda_sources, scope_in}
use Rattle.ics_listing.specs.Entry.{key_rank}
use Rattle.ics_listing.specs.DayKeys.{day_key_rank}
use Rattle.ics_days.specs.NearDays.{first_near}
use Rattle.ics_series.specs.Versions.{is_override, seen}
use Rattle.ics_series.proofs.AheadLemmas.{begun-ahead, begun-by, day-keys, first-masters, from-start, looked-before}
use Rattle.ics_series.proofs.MarkLemmas.{marks-none}
use Rattle.ics_series.proofs.SpanLemmas.{those-chosen}
use Rattle.ics_series.proofs.WholeLemmas.{keys, masters-listed, whole}
use Rattle.ics_series.specs.Inner.Kept.{AreKept}
use Rattle.ics_series.proofs.days.Days.new.Goals as goal

pub agenda_of-requires-clause-marks : goal.agenda_of-requires-clause-marks
agenda_of-requires-clause-marks c =
    marks-none (map said_by c.args.files.now) (map seen c.deref-4.result.now) c.add_places.new.marks.items c.in_ok-add_places.ensures

pub agenda_of-requires-clause-overrides : goal.agenda_of-requires-clause-overrides
agenda_of-requires-clause-overrides c =
    ap (map seen) c.deref-5.ensures.value
    ∙ (c.in_ok-overrides.ensures ∙ ap (λ vs. filter is_override (map seen vs)) (c.deref.ensures.value ∙ sym c.deref-4.ensures.value))

pub agenda_of-requires-clause-count : goal.agenda_of-requires-clause-count
agenda_of-requires-clause-count c =
    c.in_ok-near.ensures.count ∙ (ap length c.deref-3.ensures.value
    ∙ (ap length c.in_ok-spans.ensures
    ∙ (length-map _ _ ∙ (length-map c.deref-2.result.now seen ∙ ap length (c.deref-2.ensures.value ∙ sym c.deref-4.ensures.value)))))

pub agenda_of-requires-clause-places : goal.agenda_of-requires-clause-places
agenda_of-requires-clause-places c = rw c.deref-6.ensures.value (rw c.deref-3.ensures.value at c.in_ok-near.ensures.has)

pub agenda_of-requires-clause-kept : goal.agenda_of-requires-clause-kept
agenda_of-requires-clause-kept c =
    let files = map said_by c.args.files.now in
    let display = display_clock c.args.display.now in
    c.add_kept.ensures files display (subst (AreKept files display) (sym c.new-kept.ensures.items) tt)

pub returns : goal.returns
returns c =
    let files = map said_by c.args.files.now in
    let display = display_clock c.args.display.now in
    let after = option_map (λ key. day_key_rank key.now) c.args.after in
    let key = option_map (λ key. key_rank key.now) c.begin-day.result.1 in
    let xs = whole c.args.files.now c.args.display.now c.in_ok-versions.ensures.chosen c.in_ok-versions.ensures.read c.args.window in
    let fits : to_z w32 (of_z w32 c.begin-day.result.0) ≡ c.begin-day.result.0 = search rules in
    let begins = rw (← fits) at c.begin-day.ensures.begins in
    let begun = begun-ahead files display c.args.window c.bounds_in-bounds.result c.bounds_in-bounds.ensures after
    (to_z w32 (of_z w32 c.begin-day.result.0)) key begins xs.0
    (agenda_coming c.in_ok-agenda.agenda) (agenda_sources c.in_ok-agenda.agenda) xs.1 c.in_ok-agenda.ensures.agenda in
    record {
      listing = (
        begun.0,
        begun.1,
        begun.2,
        ap (scope_in (map said_by c.args.files.now) (display_clock c.args.display.now) c.bounds_in-bounds.result c.args.window) c.day_and_start.ensures,
      );
      bounds = c.bounds_in-bounds.ensures;
      masters = masters-listed c.in_ok-versions.ensures.chosen;
      keys =
          day-keys files display c.args.window c.bounds_in-bounds.result c.bounds_in-bounds.ensures
          (keys c.args.files.now c.args.display.now c.in_ok-versions.ensures.read);
    }

pub invariant_of-result : goal.invariant_of-result
invariant_of-result c =
    let after = option_map (λ key. day_key_rank key.now) c.args.after in
    let key = option_map (λ key. key_rank key.now) c.begin-day.result.1 in
    let scope = scope_in (map said_by c.args.files.now) (display_clock c.args.display.now) c.bounds_in-bounds.result c.args.window c.day_and_start.result in
    let fits : to_z w32 (of_z w32 c.begin-day.result.0) ≡ c.begin-day.result.0 = search rules in
    let last : to_z w32 (of_z w32 c.last_shown-last.result) ≡ c.last_shown-last.result = search rules in
    let low = c.begin-day.ensures.near in
    let behind = rw (← fits) at c.begin-day.ensures.behind in
    let spanned = rw c.deref-2.ensures.value at c.in_ok-spans.ensures in
    let first : first_near c.args.window c.bounds_in-bounds.result ≤ℤ to_z w32 (of_z w32 c.begin-day.result.0) = omega (arith, ints, low, fits) in
    let from = rw (← c.day_and_start.ensures) at (from-start after (to_z w32 (of_z w32 c.begin-day.result.0)) key behind) in
    let masters = first-masters scope from c.in_ok-agenda.ensures.agenda in
    record {
      chosen = those-chosen (map said_by c.args.files.now) (display_clock c.args.display.now) c.in_ok-versions.versions.items c.in_ok-versions.ensures.chosen;
      overriding = rw c.deref.ensures.value at c.in_ok-overrides.ensures;
      counted = c.agenda_of.ensures.count ∙ (c.in_ok-near.ensures.count ∙ (ap length c.deref-3.ensures.value
          ∙ (ap length spanned ∙ (length-map _ _ ∙ length-map _ _))));
      reached = rw c.deref-6.ensures.value at c.agenda_of.ensures.places;
      bounded = c.bounds_in-bounds.ensures;
      sized = ap length spanned ∙ (length-map _ _ ∙ length-map _ _);
      spanned = rw (c.deref-4.ensures.value, c.deref-6.ensures.value) at c.agenda_of.ensures.spans;
      marked = rw c.deref-4.ensures.value at c.agenda_of.ensures.marks;
      known = c.agenda_of.ensures.kept;
      not_before = first;
      begun = rw c.day_and_start.ensures
          (begun-by (first_near c.args.window c.bounds_in-bounds.result) after (to_z w32 (of_z w32 c.begin-day.result.0)) key behind first);
      masters = ∣ masters ∣₁;
      before = looked-before scope (to_z w32 (of_z w32 c.begin-day.result.0)) (agenda_sources c.in_ok-agenda.agenda) masters
          c.in_ok-agenda.agenda.apart.1.1 (λ all-masters most n all bounds is. omega arith);
      past = λ l. refl;
      shown = λ t from to. subst (λ d. date_at (display_clock c.args.display.now) t ≤ℤ d) (sym last) (c.last_shown-last.ensures.shown t from to);
      within = omega (arith, ints, last, c.last_shown-last.ensures.near);
      below = c.key_below-floor.ensures;
    }
