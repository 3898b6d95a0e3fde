use Rattle.std.proofs.Common.{◌≡◌, ◌∙◌, Some, refl, sym, ap, subst, arith, map, to_z, of_z, w32}
use Rattle.std.specs.Int.{int_min}
use Rattle.std.proofs.lemmas.Int.{int_min_is, ints}
use Rattle.ics_fields.specs.declared.local.Local.{Local}
use Rattle.ics_rule.specs.Cursors.{place_of}
use Rattle.ics_event.specs.declared.event.Event.{Event}
use Rattle.ics_fields.specs.Days.{IsDayNumber}
use Rattle.ics_fields.specs.Locals.{local_seconds, midnight, number}
use Rattle.ics_starts.specs.Clocks.{clock_of, IsBounded}
use Rattle.ics_listing.specs.StartOrder.{moment_cmp}
use Rattle.ics_starts.specs.Leeway.{seconds_off}
use Rattle.ics_listing.specs.Listing.{IsIn}
use Rattle.ics_listing.specs.Rising.{Rises}
use Rattle.ics_starts.proofs.BeginLemmas.{begun-next, begun-on, end-of-window, ends-same, first-same}
use Rattle.ics_starts.proofs.RuleDayLemmas.{come-empty}
use Rattle.ics_starts.specs.RuleStarts.{HasLookedTo}
use Rattle.ics_listing.specs.Waiting.{start_of, starts_in}
use Rattle.ics_listing.specs.StartTimes.{local_of}
use Rattle.ics_listing.proofs.StartOrderLemmas.{calendar-day, own-day}
use Rattle.ics_starts.proofs.StartSourceLemmas.{rule-first}
use Rattle.ics_starts.specs.FileZones.{clocks_in, IsTimeOf}
use Rattle.ics_starts.specs.Inner.KeptLocals.{IsKeptOf}
use Rattle.ics_starts.specs.Quiet.{AreBeyond}
use Rattle.ics_starts.specs.Starts.{recurrence_of}
use Rattle.ics_starts.proofs.QuietLemmas.{beyond-begun}
use Rattle.ics_starts.proofs.KeptLemmas.{kept-rule, kept-same}
use Rattle.ics_starts.proofs.RuleStepLemmas.{asked-days, day-back, most-back, signed-back}
use Rattle.ics_starts.proofs.rule_starts.RuleStarts.again.Goals as goal

pub bounds-bounds-requires : goal.bounds-bounds-requires
bounds-bounds-requires c = subst (λ (v : Event). IsTimeOf c.args.zones.zones.now v.start) (sym c.event.view_is) c.requires.event.start

pub end_nearby-end-requires-clause-day : goal.end_nearby-end-requires-clause-day
end_nearby-end-requires-clause-day c =
    rw (ap (λ (v : Event). local_of v.start.stamp) c.event.view_is)
    (calendar-day (local_of c.args.event.now.start.stamp).day (own-day c.args.event.now.start c.requires.event.start.is_time))

pub end_nearby-end-requires-clause-short : goal.end_nearby-end-requires-clause-short
end_nearby-end-requires-clause-short c =
    let short = c.bounds-bounds.ensures.bounded.most_short in
    (omega (arith, ints, short), omega (arith, ints, short))

pub end_nearby-end-requires-clause-most : goal.end_nearby-end-requires-clause-most
end_nearby-end-requires-clause-most c =
    let b = c.bounds-bounds in
    let back = most-back b.result.most b.ensures.bounded.most_short in
    let off = ap (λ (v : Event). seconds_off v.start.stamp) c.event.view_is in
    omega (arith, ints, back, b.ensures.most, off)

pub go_on-requires-clause-kept : goal.go_on-requires-clause-kept
go_on-requires-clause-kept c =
    let s = c.args.self.now in
    rw c.get-rule.ensures (kept-rule s.event.now s.rule s.kept s.rule_of.of s.known)

pub go_on-requires-clause-own : goal.go_on-requires-clause-own
go_on-requires-clause-own c = rw c.get-rule.ensures c.args.self.now.own

pub go_on-requires-clause-looked : goal.go_on-requires-clause-looked
go_on-requires-clause-looked c =
    let s = c.args.self.now in
    rw c.get-rule.ensures (subst (λ d. HasLookedTo s.rule s.from d s.cursor) (sym (day-back s.asked (asked-days s))) s.looked)

pub go_on-requires-clause-day : goal.go_on-requires-clause-day
go_on-requires-clause-day c =
    let s = c.args.self.now in
    subst IsDayNumber (sym (day-back s.asked (asked-days s))) (asked-days s)

pub go_on-requires-clause-early : goal.go_on-requires-clause-early
go_on-requires-clause-early c =
    let w = c.args.window in
    let e = c.end_nearby-end.ensures in
    let soon = end-of-window w c.until_moment-until.result c.end_nearby-end.result c.event.view_is e.soon in
    omega (arith, ints, w.not_late, soon, e.day.0)

pub invariant_of-self : goal.invariant_of-self
invariant_of-self c =
    let s = c.args.self.now in
    let has = subst (λ (e : Event). recurrence_of e ≡ Some s.rule) c.requires.same s.rule_of.of in
    let w = c.args.window in
    let e = c.end_nearby-end.ensures in
    let until = rw c.get.ensures at c.until_moment-until.ensures in
    let begun = rw c.get-rule.ensures at c.go_on.ensures.begun in
    let ends = ends-same w until c.event.view_is in
    let off = ap (λ (v : Event). seconds_off v.start.stamp) c.event.view_is in
    let most = end-of-window w c.until_moment-until.result c.end_nearby-end.result c.event.view_is e.soon in
    let firsts = first-same w until c.event.view_is in
    let min = c.min-day.ensures.value in
    let place = begun.place in
    let day-from = c.requires.from in
    let end = day-back c.end_nearby-end.result e.day in
    let from = day-back c.args.from.day c.requires.from in
    let day = signed-back c.min-day.result c.min-day.result c.min-day.type_inv refl in
    let back = most-back c.bounds-bounds.result.most c.bounds-bounds.ensures.bounded.most_short in
    let asked = day ∙ (min ∙ ap (λ f. int_min f (to_z w32 (of_z w32 c.end_nearby-end.result))) from) in
    let at = ap (λ (l : Local). local_seconds l) c.at.ensures in
    let next : c.seconds-next.result ≡ midnight (to_z w32 (of_z w32 c.min-day.result)) = omega (arith, ints, c.seconds-next.ensures, at) in
    record {
      rule_of = record {
        of = has;
        time = c.requires.event.start;
        first = ap (λ (l : Local). number l) (rule-first c.args.event.now c.args.self.now.rule has);
        bounded = subst (λ (v : Event). IsBounded (clock_of (clocks_in c.args.zones) v.start) c.bounds-bounds.result) c.event.view_is
            c.bounds-bounds.ensures.bounded;
        after = omega (arith, ints, end, e.after, ends, back);
        first_before = omega (arith, ints, end, firsts, e.first);
        soon = omega (arith, ints, end, e.soon, ends, off);
      };
      rises = subst (Rises moment_cmp) (sym (ap (map (start_of c.args.event.now.start)) c.clear.ensures)) tt;
      are = λ s m. absurd (subst (IsIn s) (ap (map (start_of c.args.event.now.start)) c.clear.ensures) m);
      past_end = subst (λ place. AreBeyond (clocks_in c.args.zones) c.args.event.now c.args.self.now.rule w (number c.args.from) place _)
          (sym place) (beyond-begun (clocks_in c.args.zones) c.args.event.now c.args.self.now.rule w (number c.args.from) _);
      stretched = c.no_stretch-self.ensures _;
      spanned = ∣ tt ∣₁;
      own = begun.own;
      looked = subst (λ d. HasLookedTo c.args.self.now.rule c.args.from d c.go_on.new.cursor) (sym asked) (rw c.get-rule.ensures at c.go_on.ensures.looked);
      placed = c.number-place.ensures.value ∙ sym place;
      known = subst (λ (e : Event). IsKeptOf e c.go_on.new.kept) c.requires.same (kept-same s.event.now s.kept _ c.go_on.ensures.same s.known);
      reached = record {
        read = omega (arith, ints, place, day, end, from, min, int_min_is, day-from.0, day-from.1, e.day.0, e.day.1);
        next_read = begun-next c.args.from day-from e.day (asked ∙ ap (int_min c.args.from.day) end) next place;
        next_on = begun-on c.args.from day-from e.day (asked ∙ ap (int_min c.args.from.day) end) next;
        low = omega (arith, ints, day, end, from, min, int_min_is, c.requires.from.0, e.day.0);
        on = omega (arith, ints, day);
        soon = omega (arith, ints, day);
        by_end = omega (arith, ints, day, end, from, min, int_min_is);
      };
      early = omega (arith, ints, end, w.not_late, most, e.day.0);
      none = λ n l u. absurd (omega (arith, l, u, c.number-place.ensures.value));
      none_day = c.requires.from;
    }

pub returns-clause-begun : goal.returns-clause-begun
returns-clause-begun c = rw c.get-rule.ensures at c.go_on.ensures.begun

pub returns-clause-left : goal.returns-clause-left
returns-clause-left c =
    come-empty c.args.zones c.args.event.now c.args.self.now.rule c.args.window (starts_in c.args.event.now.start c.clear.new.held)
    (place_of c.go_on.new.cursor) (number c.args.from) (ap (map (start_of c.args.event.now.start)) c.clear.ensures) c.go_on.ensures.begun.place
