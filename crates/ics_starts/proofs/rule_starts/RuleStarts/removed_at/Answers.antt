use Rattle.std.proofs.Common.{◌≡◌, ◌∙◌, rules, sym, ap, subst, arith, w64, to_z, of_z, SFits}
use Rattle.std.proofs.lemmas.Int.{ints}
use Rattle.ics_event.specs.Event.{Time}
use Rattle.ics_event.specs.declared.event.Event.{Event}
use Rattle.ics_listing.specs.StartTimes.{time_at}
use Rattle.ics_starts.specs.Clocks.{clock_of, instant, IsStretched}
use Rattle.ics_starts.specs.Exclusions.{is_among}
use Rattle.ics_starts.specs.FileZones.{clocks_in, IsTimeOf}
use Rattle.ics_starts.specs.declared.zones.FileZones.{FileZones}
use Rattle.ics_starts.proofs.StartSourceLemmas.{kept-time}
use Rattle.ics_starts.proofs.StretchLemmas.{stretched-at}
use Rattle.ics_starts.proofs.TakenLemmas.{instant-taken, one-taken}
use Rattle.ics_starts.proofs.rule_starts.RuleStarts.removed_at.Goals as goal

pub returns-then-seconds-to-clause-removed : goal.returns-then-seconds-to-clause-removed
returns-then-seconds-to-clause-removed c = λ n l u.
    let seconds : SFits w64 c.seconds-seconds.result = search rules in
    let to : SFits w64 c.removed_day-to.result = search rules in
    c.removed_day-to.ensures.removed n (omega (arith, ints, l, c.seconds-seconds.ensures)) (omega (arith, ints, u))

pub instant_in-moment-requires-clause-stretch : goal.instant_in-moment-requires-clause-stretch
instant_in-moment-requires-clause-stretch c =
    let s = c.args.self.now in
    let m = c.removed_day-to.new.self in
    let same = c.removed_day-to.ensures.same.source in
    let is = c.time_at.ensures
    ∙ (ap (λ (v : Event). time_at v.start c.args.local) c.event.view_is ∙ sym (λ i. time_at (same.event i).now.start c.args.local)) in
    subst (λ (t : Time). IsStretched (clock_of (clocks_in m.zones) t) m.stretch) (sym is)
    (stretched-at (clocks_in m.zones) m.event.now.start c.args.local m.stretch m.stretched)

pub instant_in-moment-requires-clause-time : goal.instant_in-moment-requires-clause-time
instant_in-moment-requires-clause-time c =
    let s = c.args.self.now in
    let same = c.removed_day-to.ensures.same.source in
    let is = c.time_at.ensures ∙ ap (λ (v : Event). time_at v.start c.args.local) c.event.view_is in
    let own : IsTimeOf s.zones.zones.now (time_at s.event.now.start c.args.local) = record {
      is_time = kept-time s.event.now c.args.local s.rule_of.time.is_time s.rule_of.of c.requires.day c.requires.kept;
      within = s.rule_of.time.within;
    } in
    subst (λ (z : FileZones). IsTimeOf z.zones.now c.time_at.result) (sym same.zones)
    (subst (λ (t : Time). IsTimeOf s.zones.zones.now t) (sym is) own)

pub returns-then-has_instant-clause-removed : goal.returns-then-has_instant-clause-removed
returns-then-has_instant-clause-removed c = λ n l u.
    let s = c.args.self.now in
    let seconds : SFits w64 c.seconds-seconds.result = search rules in
    let told : SFits w64 c.instant_in-moment.result = search rules in
    let instants = c.args.exclusions.now.instants.items in
    let same = c.removed_day-to.ensures.same.source in
    let is = c.time_at.ensures ∙ ap (λ (v : Event). time_at v.start c.args.local) c.event.view_is in
    let back : to_z w64 (of_z w64 c.instant_in-moment.result) ≡ c.instant_in-moment.result = omega (arith, ints) in
    let moment = back ∙ (c.instant_in-moment.ensures ∙ (λ i. instant (clocks_in (same.zones i)) (is i))) in
    one-taken s instants c.args.exclusions.now.days.items c.args.local n c.requires.day l
    (omega (arith, ints, u, c.seconds-seconds.ensures, c.requires.day, c.args.local.second_in))
    (instant-taken s instants c.args.exclusions.now.days.items c.args.local c.requires.day
    (ap (is_among instants) (sym moment) ∙ (sym c.has_instant.ensures ∙ c.if-has_instant.true)))

pub returns-else-has_instant-clause-removed : goal.returns-else-has_instant-clause-removed
returns-else-has_instant-clause-removed c = λ n l u.
    let seconds : SFits w64 c.seconds-seconds.result = search rules in
    absurd (omega (arith, ints, l, u, c.seconds-seconds.ensures))

pub overflow_add-result : goal.overflow_add-result
overflow_add-result c =
    let seconds : SFits w64 c.seconds-seconds.result = search rules in
    omega (arith, ints, c.seconds-seconds.ensures, c.requires.day, c.args.local.second_in)
