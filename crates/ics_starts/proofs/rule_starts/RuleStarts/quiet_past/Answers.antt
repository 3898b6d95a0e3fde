use Rattle.std.proofs.Common.{◌≡◌, ◌∙◌, sym, ap, subst, arith, rules, w64, SFits}
use Rattle.std.proofs.lemmas.Int.{int_min_is, ints}
use Rattle.ics_event.specs.Event.{Time}
use Rattle.ics_event.specs.declared.event.Event.{Event}
use Rattle.ics_listing.specs.StartTimes.{time_at}
use Rattle.ics_listing.proofs.StartOrderLemmas.{time-at}
use Rattle.ics_starts.specs.Clocks.{instant}
use Rattle.ics_starts.specs.FileZones.{clocks_in, IsTimeOf}
use Rattle.ics_starts.proofs.QuietLemmas.{quiet-past}
use Rattle.ics_starts.proofs.rule_starts.RuleStarts.quiet_past.Goals as goal
use Rattle.ics_starts.proofs.rule_starts.RuleStarts.quiet_past.Goals.{After-time_at}

-- the time is that of the event as it is seen
own-time : (c : After-time_at) → c.time_at.result ≡ time_at c.args.self.now.event.now.start c.args.next
own-time c = c.time_at.ensures ∙ ap (λ (v : Event). time_at v.start c.args.next) c.event.view_is

pub instant_in-moment-requires-clause-time : goal.instant_in-moment-requires-clause-time
instant_in-moment-requires-clause-time c =
    let s = c.args.self.now in
    let own : IsTimeOf s.zones.zones.now (time_at s.event.now.start c.args.next) = record {
      is_time = time-at s.event.now.start c.args.next s.rule_of.time.is_time (
        omega (arith, ints, c.requires.late, c.args.next.second_in),
        omega (arith, ints, c.requires.early, c.args.next.second_in),
      );
      within = s.rule_of.time.within;
    } in
    subst (λ (t : Time). IsTimeOf s.zones.zones.now t) (sym (own-time (goal.at.instant_in-moment-requires-clause-time c).After-time_at)) own

pub returns : goal.returns
returns c =
    let s = c.args.self.now in
    let moment = c.instant_in-moment.ensures ∙ ap (instant (clocks_in s.zones)) (own-time (goal.at.returns c).After-time_at) in
    let beyond : SFits w64 c.args.self.now.beyond = search rules in
    let told : SFits w64 c.instant_in-moment.result = search rules in
    let settles : SFits w64 c.settled_at-settled.result = search rules in
    let near = c.settled_at-settled.ensures.near in
    quiet-past s c.args.next c.later_than-later.result c.requires.day c.requires.none c.later_than-later.ensures.none (
      omega (arith, ints, int_min_is, c.min.ensures.value, c.min-2.ensures.value),
      (
        omega (arith, ints, int_min_is, c.min.ensures.value, c.min-2.ensures.value, moment),
        omega (arith, ints, int_min_is, c.min.ensures.value, c.min-2.ensures.value, near),
      ),
    ) c.settled_at-settled.ensures.after
