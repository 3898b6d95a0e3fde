use Rattle.std.proofs.Common.{Option, None, Some, Bor, MatchOption, ◌≡◌, ◌∙◌, refl, sym, ap, subst, arith, map, to_z, of_z, w32}
use Rattle.std.specs.Int.{int_min}
use Rattle.std.proofs.lemmas.Int.{int_min_is, ints}
use Rattle.ics_fields.specs.declared.local.Local.{Local}
use Rattle.ics_rule.specs.Cursors.{place_of}
use Rattle.ics_event.specs.declared.event.Event.{Event}
use Rattle.ics_fields.specs.Locals.{local_seconds, midnight, number}
use Rattle.ics_starts.specs.Clocks.{clock_of, IsBounded}
use Rattle.ics_listing.specs.StartOrder.{moment_cmp}
use Rattle.ics_starts.specs.Leeway.{seconds_off}
use Rattle.ics_listing.specs.Listing.{IsIn}
use Rattle.ics_listing.specs.Rising.{Rises}
use Rattle.ics_starts.proofs.BeginLemmas.{end-of-window, ends-same, first-same}
use Rattle.ics_starts.proofs.RuleDayLemmas.{come-empty}
use Rattle.ics_starts.specs.RuleStarts.{HasLookedTo}
use Rattle.ics_listing.specs.Waiting.{start_of, starts_in}
use Rattle.ics_listing.specs.StartTimes.{local_of}
use Rattle.ics_listing.proofs.StartOrderLemmas.{calendar-day, own-day}
use Rattle.ics_starts.proofs.StartSourceLemmas.{rule-first}
use Rattle.ics_starts.specs.FileZones.{clocks_in, IsTimeOf}
use Rattle.ics_starts.specs.Quiet.{AreBeyond}
use Rattle.ics_starts.proofs.QuietLemmas.{beyond-begun}
use Rattle.ics_starts.proofs.RuleStepLemmas.{day-back, most-back, signed-back}
use Rattle.ics_starts.specs.RuleMarks.{IsCountMark}
use Rattle.ics_starts.specs.declared.mark.Mark.{Mark}
use Rattle.std.specs.Option.{option_copied}
use Rattle.ics_starts.proofs.rule_starts.RuleStarts.new.Goals as goal

pub bounds-bounds-requires : goal.bounds-bounds-requires
bounds-bounds-requires c = subst (λ (v : Event). IsTimeOf c.args.zones.zones.now v.start) (sym c.event.view_is) c.requires.event.start

pub end_nearby-end-requires-clause-day : goal.end_nearby-end-requires-clause-day
end_nearby-end-requires-clause-day c =
    rw (ap (λ (v : Event). local_of v.start.stamp) c.event.view_is)
    (calendar-day (local_of c.args.event.now.start.stamp).day (own-day c.args.event.now.start c.requires.event.start.is_time))

pub end_nearby-end-requires-clause-short : goal.end_nearby-end-requires-clause-short
end_nearby-end-requires-clause-short c =
    let short = c.bounds-bounds.ensures.bounded.most_short in
    (omega (arith, ints, short), omega (arith, ints, short))

pub end_nearby-end-requires-clause-most : goal.end_nearby-end-requires-clause-most
end_nearby-end-requires-clause-most c =
    let b = c.bounds-bounds in
    let back = most-back b.result.most b.ensures.bounded.most_short in
    let off = ap (λ (v : Event). seconds_off v.start.stamp) c.event.view_is in
    omega (arith, ints, back, b.ensures.most, off)

-- what holds of a mark holds of what lends it
lent : (P : Mark → Type 0) (lends : Option (Bor Mark)) → MatchOption (option_copied lends) (Unit {0}) P → MatchOption lends (Unit {0}) (λ m. P m.now)
lent P None h = tt
lent P (Some m) h = h

pub begin-requires-clause-mark : goal.begin-requires-clause-mark
begin-requires-clause-mark c =
    lent (IsCountMark c.get-3.result.now) c.as_ref.result
    (subst (λ m. MatchOption m (Unit {0}) (IsCountMark c.get-3.result.now)) (sym c.as_ref.ensures.value)
    (subst (λ r. MatchOption c.args.mark (Unit {0}) (IsCountMark r)) (sym c.get-3.ensures) c.requires.mark))

pub begin-requires-clause-early : goal.begin-requires-clause-early
begin-requires-clause-early c =
    let w = c.args.window in
    let e = c.end_nearby-end.ensures in
    let soon = end-of-window w c.until_moment.result c.end_nearby-end.result c.event.view_is e.soon in
    omega (arith, ints, w.not_late, soon, e.day.0)

pub invariant_of-result : goal.invariant_of-result
invariant_of-result c =
    let w = c.args.window in
    let e = c.end_nearby-end.ensures in
    let until = rw c.get.ensures at c.until_moment.ensures in
    let begun = rw c.get-3.ensures at c.begin.ensures.begun in
    let ends = ends-same w until c.event.view_is in
    let off = ap (λ (v : Event). seconds_off v.start.stamp) c.event.view_is in
    let most = end-of-window w c.until_moment.result c.end_nearby-end.result c.event.view_is e.soon in
    let firsts = first-same w until c.event.view_is in
    let min = c.min-day.ensures.value in
    let place = begun.place in
    let day-from = c.requires.from in
    let end = day-back c.end_nearby-end.result e.day in
    let from = day-back c.args.from.day c.requires.from in
    let day = signed-back c.min-day.result c.min-day.result c.min-day.type_inv refl in
    let back = most-back c.bounds-bounds.result.most c.bounds-bounds.ensures.bounded.most_short in
    let asked = day ∙ (min ∙ ap (λ f. int_min f (to_z w32 (of_z w32 c.end_nearby-end.result))) from) in
    let at = ap (λ (l : Local). local_seconds l) c.at.ensures in
    let next : c.seconds-next.result ≡ midnight (to_z w32 (of_z w32 c.min-day.result)) = omega (arith, ints, c.seconds-next.ensures, at) in
    record {
      rule_of = record {
        of = c.requires.rule;
        time = c.requires.event.start;
        first = ap (λ (l : Local). number l) (rule-first c.args.event.now c.args.rule c.requires.rule);
        bounded = subst (λ (v : Event). IsBounded (clock_of (clocks_in c.args.zones) v.start) c.bounds-bounds.result) c.event.view_is
            c.bounds-bounds.ensures.bounded;
        after = omega (arith, ints, end, e.after, ends, back);
        first_before = omega (arith, ints, end, firsts, e.first);
        soon = omega (arith, ints, end, e.soon, ends, off);
      };
      rises = subst (Rises moment_cmp) (sym (ap (map (start_of c.args.event.now.start)) c.new.ensures)) tt;
      are = λ s m. absurd (subst (IsIn s) (ap (map (start_of c.args.event.now.start)) c.new.ensures) m);
      past_end = subst (λ place. AreBeyond (clocks_in c.args.zones) c.args.event.now c.args.rule w (number c.args.from) place _)
          (sym place) (beyond-begun (clocks_in c.args.zones) c.args.event.now c.args.rule w (number c.args.from) _);
      stretched = c.no_stretch.ensures _;
      spanned = ∣ tt ∣₁;
      own = begun.own;
      looked = subst (λ d. HasLookedTo c.args.rule c.args.from d c.begin.new.cursor) (sym asked) (rw c.get-3.ensures at c.begin.ensures.looked);
      placed = c.number-place.ensures.value ∙ sym place;
      known = c.requires.kept;
      reached = record {
        read = omega (arith, ints, place, day, end, from, min, int_min_is, day-from.0, day-from.1, e.day.0, e.day.1);
        next_read = omega (arith, ints, place, day, end, from, min, int_min_is, day-from.0, day-from.1, e.day.0, e.day.1, next);
        next_on = omega (arith, ints, next);
        low = omega (arith, ints, day, end, from, min, int_min_is, c.requires.from.0, e.day.0);
        on = omega (arith, ints, day);
        soon = omega (arith, ints, day);
        by_end = omega (arith, ints, day, end, from, min, int_min_is);
      };
      early = omega (arith, ints, end, w.not_late, most, e.day.0);
      none = λ n l u. absurd (omega (arith, l, u, c.number-place.ensures.value));
      none_day = c.requires.from;
    }

pub returns-clause-begun : goal.returns-clause-begun
returns-clause-begun c = rw c.get-3.ensures at c.begin.ensures.begun

pub returns-clause-left : goal.returns-clause-left
returns-clause-left c =
    come-empty c.args.zones c.args.event.now c.args.rule c.args.window (starts_in c.args.event.now.start c.new.result) (place_of c.begin.new.cursor)
    (number c.args.from) (ap (map (start_of c.args.event.now.start)) c.new.ensures) c.begin.ensures.begun.place
