use Rattle.std.proofs.Common.{rules, ◌≡◌, ◌∷◌, ◌++◌, append_assoc, map, sym, ap, ◌∙◌, subst, List}
use Rattle.std.specs.List.{All, flat_map}
use Rattle.std.proofs.lemmas.List.{map-append}
use Rattle.ics_components.specs.declared.parsed_file.CalendarEvent.{CalendarEvent}
use Rattle.ics_calendar.specs.Settled.{IsReady, event_in}
use Rattle.ics_calendar.specs.ZoneTables.{known_by}
use Rattle.ics_calendar.proofs.Settling.{all-parts}
use Rattle.ics_calendar.proofs.unresolved_file.events_of.Goals as goal

pub add_events-requires : goal.add_events-requires
add_events-requires c =
    let ready = IsReady (known_by c.args.table.now) in
    let rest = c.next.new.self.rest.items in
    let step : c.in-Some.own ∷ rest ≡ c.loop-own.own-iterator.rest.items = search rules in
    (all-parts ready c.in-Some.own.items (flat_map (λ own. own.items) rest)
    (subst (λ lists. All ready (flat_map (λ own. own.items) lists)) (sym step) c.loop-own.invariant.ready)).0

pub loop-own-preserved : goal.loop-own-preserved
loop-own-preserved c =
    let ready = IsReady (known_by c.args.table.now) in
    let made = event_in (known_by c.args.table.now).index in
    let had = c.loop-own.events.items in
    let rest = c.next.new.self.rest.items in
    let behind : List CalendarEvent = flat_map (λ own. own.items) rest in
    let step : c.in-Some.own ∷ rest ≡ c.loop-own.own-iterator.rest.items = search rules in
    record {
      ready = (all-parts ready c.in-Some.own.items behind
          (subst (λ lists. All ready (flat_map (λ own. own.items) lists)) (sym step) c.loop-own.invariant.ready)).1;
      events = ap (λ events. events ++ map made behind) c.in_ok-add_events.ensures ∙ append_assoc had (map made c.in-Some.own.items) (map made behind)
          ∙ ap (λ events. had ++ events) (sym (map-append made c.in-Some.own.items behind))
          ∙ ap (λ lists. had ++ map made (flat_map (λ own. own.items) lists)) step ∙ c.loop-own.invariant.events;
    }
