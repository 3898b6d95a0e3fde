use Rattle.std.proofs.Common.{◌≡◌, ◌∙◌, Option, refl, sym, ap, subst, arith, rules, w64, SFits}
use Rattle.std.proofs.lemmas.Int.{ints}
use Rattle.ics_event.specs.Event.{Time}
use Rattle.ics_event.specs.declared.event.Event.{Event}
use Rattle.ics_listing.specs.StartOrder.{moment_cmp}
use Rattle.ics_listing.specs.StartTimes.{time_at}
use Rattle.ics_listing.specs.Rising.{Rises}
use Rattle.ics_starts.specs.Clocks.{clock_of, instant, AreSpansOf, IsStretched}
use Rattle.ics_starts.specs.RuleStarts.{AreHeld, HasLookedTo}
use Rattle.ics_starts.specs.declared.rule_starts.RuleStarts.{RuleStarts}
use Rattle.ics_zone.specs.declared.spans.Spans.{Spans}
use Rattle.ics_starts.specs.FileZones.{clocks_in, IsTimeOf}
use Rattle.ics_starts.specs.RuleFeed.{held_in}
use Rattle.ics_listing.specs.Waiting.{starts_in}
use Rattle.ics_starts.proofs.QuietLemmas.{beyond-none, beyond-one}
use Rattle.ics_starts.proofs.RuleStepLemmas.{asked-days, bound-days, bound-early, day-back, none-read, one-moment, one-read, one-time, told-known}
use Rattle.ics_starts.proofs.StretchLemmas.{stretched-at}
use Rattle.ics_starts.proofs.KeptLemmas.{kept-rule, kept-same}
use Rattle.ics_fields.specs.Days.{IsDayNumber}
use Rattle.ics_fields.specs.Locals.{number}
use Rattle.ics_starts.proofs.rule_starts.RuleStarts.read_on.Goals as goal

-- what is kept of the clock of an event as it is seen is that of the event
spans-known : (s : RuleStarts) {v : Event} (spans : Option Spans) → v ≡ s.event.now → AreSpansOf (clock_of (clocks_in s.zones) v.start) spans
    → AreSpansOf (clock_of (clocks_in s.zones) s.event.now.start) spans
spans-known s spans is h = subst (λ (v : Event). AreSpansOf (clock_of (clocks_in s.zones) v.start) spans) is h

pub invariant_of-self-in-Break-1 : goal.invariant_of-self-in-Break-1
invariant_of-self-in-Break-1 c =
    let s = c.args.self.now in
    let same : starts_in c.args.self.now.event.now.start c.hold.new.held ≡ held_in c.args.self.now = search rules in
    record {
      rule_of = s.rule_of;
      rises = subst (Rises moment_cmp) (sym same) s.rises;
      are = subst (AreHeld (clocks_in s.zones) s.event.now s.rule s.window s.asked) (sym same) s.are;
      past_end = s.past_end;
      stretched = told-known s c.event.view_is c.keep_stretch.ensures.stretch;
      spanned = spans-known s _ c.event.view_is c.keep_stretch.ensures.spans;
      own = s.own;
      looked = s.looked;
      placed = s.placed;
      known = kept-same s.event.now s.kept _ c.next.ensures.same s.known;
      reached = s.reached;
      early = s.early;
      none = s.none;
      none_day = s.none_day;
    }

pub next-requires-clause-kept : goal.next-requires-clause-kept
next-requires-clause-kept c =
    let s = c.args.self.now in
    rw c.get.ensures (kept-rule s.event.now s.rule s.kept s.rule_of.of s.known)

pub next-requires-clause-place : goal.next-requires-clause-place
next-requires-clause-place c = c.args.self.now.placed

pub next-requires-clause-bound : goal.next-requires-clause-bound
next-requires-clause-bound c =
    let b = c.bound-bound in
    bound-days c.args.self.now b.type_inv b.ensures.later b.ensures.within c.at-to.ensures

pub next-requires-clause-early : goal.next-requires-clause-early
next-requires-clause-early c =
    let b = c.bound-bound in
    bound-early c.args.self.now b.type_inv b.ensures.later b.ensures.within c.at-to.ensures

pub invariant_of-self : goal.invariant_of-self
invariant_of-self c =
    let answer = rw c.get.ensures at c.in-None.ensures.next in
    let s = c.args.self.now in
    let b = c.bound-bound in
    let r = none-read s b.type_inv b.ensures.later b.ensures.within c.at-to.ensures b.ensures.held answer c.seconds-midnight.ensures in
    record {
      rule_of = s.rule_of;
      rises = r.rises;
      are = r.are;
      past_end = beyond-none s answer;
      stretched = s.stretched;
      spanned = s.spanned;
      own = rw c.get.ensures at c.in-None.ensures.own;
      looked = λ before m.
          (rw c.get.ensures at c.in-None.ensures.looked) (number s.from) before (omega (arith, r.before, m)) (s.looked before (omega (arith, r.before, m)));
      placed = omega (arith, s.placed, c.in-None.ensures.next.1, c.number.ensures.value, c.max-self.ensures);
      known = kept-same s.event.now s.kept _ c.next.ensures.same s.known;
      reached = r.reached;
      early = s.early;
      none = s.none;
      none_day = s.none_day;
    }

pub number-requires : goal.number-requires
number-requires c =
    let b = c.bound-bound in
    bound-days c.args.self.now b.type_inv b.ensures.later b.ensures.within c.at-to.ensures

-- what is kept of the rule may know more
pub invariant_of-self-in-Some-1 : goal.invariant_of-self-in-Some-1
invariant_of-self-in-Some-1 c =
    let s = c.args.self.now in
    record {
      rule_of = s.rule_of;
      rises = s.rises;
      are = s.are;
      past_end = s.past_end;
      stretched = s.stretched;
      spanned = s.spanned;
      own = s.own;
      looked = s.looked;
      placed = s.placed;
      known = kept-same s.event.now s.kept _ c.next.ensures.same s.known;
      reached = s.reached;
      early = s.early;
      none = s.none;
      none_day = s.none_day;
    }

pub keep_stretch-requires-clause-time : goal.keep_stretch-requires-clause-time
keep_stretch-requires-clause-time c =
    let s = c.args.self.now in
    subst (λ (v : Event). IsTimeOf s.zones.zones.now v.start) (sym c.event.view_is) s.rule_of.time

pub keep_stretch-requires-clause-local : goal.keep_stretch-requires-clause-local
keep_stretch-requires-clause-local c =
    let answer = rw c.get.ensures at c.in-Some.ensures.next in
    let b = c.bound-bound in
    let fits : SFits w64 c.seconds-seconds.result = search rules in
    let years =
    one-moment c.args.self.now b.type_inv b.ensures.later b.ensures.within c.at-to.ensures c.in-Some.local c.in-Some.ensures.day answer in
    (omega (arith, ints, c.seconds-seconds.ensures, years), omega (arith, ints, c.seconds-seconds.ensures, years))

pub keep_stretch-requires-clause-known : goal.keep_stretch-requires-clause-known
keep_stretch-requires-clause-known c =
    let s = c.args.self.now in
    subst (λ (v : Event). IsStretched (clock_of (clocks_in s.zones) v.start) s.stretch) (sym c.event.view_is) s.stretched

pub keep_stretch-requires-clause-spans : goal.keep_stretch-requires-clause-spans
keep_stretch-requires-clause-spans c =
    let s = c.args.self.now in
    subst (λ (v : Event). AreSpansOf (clock_of (clocks_in s.zones) v.start) s.spans) (sym c.event.view_is) s.spanned

pub instant_in-moment-requires-clause-stretch : goal.instant_in-moment-requires-clause-stretch
instant_in-moment-requires-clause-stretch c =
    let s = c.args.self.now in
    let is = c.time_at-time.ensures ∙ ap (λ (v : Event). time_at v.start c.in-Some.local) c.event.view_is in
    let told = told-known s c.event.view_is c.keep_stretch.ensures.stretch in
    subst (λ (t : Time). IsStretched (clock_of (clocks_in s.zones) t) c.keep_stretch.new.stretch) (sym is)
    (stretched-at (clocks_in s.zones) s.event.now.start c.in-Some.local c.keep_stretch.new.stretch told)

pub instant_in-moment-requires-clause-time : goal.instant_in-moment-requires-clause-time
instant_in-moment-requires-clause-time c =
    let answer = rw c.get.ensures at c.in-Some.ensures.next in
    let s = c.args.self.now in
    let b = c.bound-bound in
    let is = c.time_at-time.ensures ∙ ap (λ (v : Event). time_at v.start c.in-Some.local) c.event.view_is in
    subst (λ (t : Time). IsTimeOf s.zones.zones.now t) (sym is)
    (one-time c.args.self.now b.type_inv b.ensures.later b.ensures.within c.at-to.ensures c.in-Some.local c.in-Some.ensures.day answer)

pub invariant_of-self-in-Some : goal.invariant_of-self-in-Some
invariant_of-self-in-Some c =
    let answer = rw c.get.ensures at c.in-Some.ensures.next in
    let held = rw c.get-in-Some.ensures at c.in_ok-hold-in-Some.ensures.held in
    let s = c.args.self.now in
    let b = c.bound-bound in
    let told : SFits w64 c.instant_in-moment.result = search rules in
    let is = c.time_at-time.ensures ∙ ap (λ (v : Event). time_at v.start c.in-Some.local) c.event.view_is in
    let moment = c.instant_in-moment.ensures ∙ ap (instant (clocks_in s.zones)) is in
    let r = one-read s b.type_inv b.ensures.later b.ensures.within c.at-to.ensures c.in-Some.local c.in-Some.ensures.day
    answer b.ensures.held (held (clocks_in s.zones) (omega (arith, ints, moment))) c.seconds-seconds.ensures in
    let fits : SFits w64 c.lesser_past-self.result = search rules in
    record {
      rule_of = s.rule_of;
      rises = r.rises;
      are = r.are;
      past_end = beyond-one s c.in-Some.local answer c.in-Some.ensures.day (omega (arith, ints, c.lesser_past-self.ensures.first))
          (λ past. let late = c.lesser_past-self.ensures.second (omega (arith, ints, past, moment)) in omega (arith, ints, late, moment));
      stretched = told-known s c.event.view_is c.keep_stretch.ensures.stretch;
      spanned = spans-known s _ c.event.view_is c.keep_stretch.ensures.spans;
      own = rw c.get.ensures at c.in-Some.ensures.own;
      looked = λ before m.
          (rw c.get.ensures at c.in-Some.ensures.looked) (number s.from) before (omega (arith, r.before, m)) (s.looked before (omega (arith, r.before, m)));
      placed = omega (arith, c.in-Some.ensures.next.1, c.number-in-Some.ensures.value);
      known = kept-same s.event.now _ _ c.keep_cursor.ensures.same (kept-same s.event.now s.kept _ c.next.ensures.same s.known);
      reached = r.reached;
      early = s.early;
      none = s.none;
      none_day = s.none_day;
    }

pub keep_cursor-requires-clause-kept : goal.keep_cursor-requires-clause-kept
keep_cursor-requires-clause-kept c =
    let s = c.args.self.now in
    rw c.get-in-Some-2.ensures (kept-rule s.event.now s.rule _ s.rule_of.of (kept-same s.event.now s.kept _ c.next.ensures.same s.known))

pub keep_cursor-requires-clause-own : goal.keep_cursor-requires-clause-own
keep_cursor-requires-clause-own c = rw c.get-in-Some-2.ensures c.args.self.now.own

pub keep_cursor-requires-clause-looked : goal.keep_cursor-requires-clause-looked
keep_cursor-requires-clause-looked c =
    let s = c.args.self.now in
    rw c.get-in-Some-2.ensures (subst (λ d. HasLookedTo s.rule s.from d s.cursor) (sym (day-back s.asked (asked-days s))) s.looked)

pub keep_cursor-requires-clause-day : goal.keep_cursor-requires-clause-day
keep_cursor-requires-clause-day c =
    let s = c.args.self.now in
    subst IsDayNumber (sym (day-back s.asked (asked-days s))) (asked-days s)

pub overflow_add-self-in-Some-2 : goal.overflow_add-self-in-Some-2
overflow_add-self-in-Some-2 c = omega (arith, ints, c.in-Some.ensures.day.0, c.in-Some.ensures.day.1)

pub returns-in-None : goal.returns-in-None
returns-in-None c =
    let answer = rw c.get.ensures at c.in-None.ensures.next in
    let b = c.bound-bound in
    let r = none-read c.args.self.now b.type_inv b.ensures.later b.ensures.within c.at-to.ensures b.ensures.held answer
    c.seconds-midnight.ensures in
    record { same = r.same; source = record { zones = refl; event = refl; window = refl; rule = refl; from = refl; end = refl }; less = r.less }

pub returns-in_ok-hold-in-Some : goal.returns-in_ok-hold-in-Some
returns-in_ok-hold-in-Some c =
    let answer = rw c.get.ensures at c.in-Some.ensures.next in
    let held = rw c.get-in-Some.ensures at c.in_ok-hold-in-Some.ensures.held in
    let s = c.args.self.now in
    let b = c.bound-bound in
    let told : SFits w64 c.instant_in-moment.result = search rules in
    let is = c.time_at-time.ensures ∙ ap (λ (v : Event). time_at v.start c.in-Some.local) c.event.view_is in
    let moment = c.instant_in-moment.ensures ∙ ap (instant (clocks_in s.zones)) is in
    let r = one-read s b.type_inv b.ensures.later b.ensures.within c.at-to.ensures c.in-Some.local c.in-Some.ensures.day
    answer b.ensures.held (held (clocks_in s.zones) (omega (arith, ints, moment))) c.seconds-seconds.ensures in
    record { same = r.same; source = record { zones = refl; event = refl; window = refl; rule = refl; from = refl; end = refl }; less = r.less }
