-- What is kept of a file says what is kept of what the file says.
use Rattle.std.proofs.Common.{◌≡◌, ℕ, Bool, true, false, List, [], ◌∷◌, refl, ap, ◌∙◌, Option, Some, None, map}
use Rattle.std.specs.Prelude.{unwrap_or, Result, Ok, Err}
use Rattle.std.proofs.lemmas.List.{map-id}
use Rattle.ics_values.specs.KeptTexts.{KeptTexts, all_texts, kept_text}
use Rattle.ics_values.specs.TextNames.{text_at, texts_of}
use Rattle.ics_components.specs.Kept.{if_kept, kept_ended, kept_parsed}
use Rattle.ics_components.specs.ParsedFileSeen.{ParsedFileSeen}
use Rattle.ics_components.specs.declared.deferred_check.ZoneName.{ZoneName}
use Rattle.ics_components.specs.declared.fault.Fault.{Fault}
use Rattle.ics_components.specs.declared.parsed_file.CalendarEvent.{CalendarEvent}
use Rattle.ics_components.specs.declared.parsed_file.LineCheck.{LineCheck}
use Rattle.ics_file.specs.File.{FileSaid}
use Rattle.ics_event.specs.Event.{with_texts}
use Rattle.ics_event.specs.Kept.{kept_event}
use Rattle.ics_file.specs.Kept.{kept_said}
use Rattle.ics_calendar.specs.DeferredChecks.{KnownZones, with_files}
use Rattle.ics_calendar.specs.Events.{event_of}
use Rattle.ics_calendar.specs.Files.{UnresolvedSaid, decide}
use Rattle.ics_calendar.specs.Kept.{kept_answer, kept_unresolved}
use Rattle.ics_calendar.specs.Settled.{all_unknown, event_in, first_judged, known_in, settled_by, unresolved_by}
use Rattle.ics_calendar.specs.Wanted.{each_once}

text-kept : (k : Bool) (text : Option (List ℕ)) → unwrap_or (if_kept k text) [] ≡ kept_text k (unwrap_or text [])
text-kept true text = refl
text-kept false text = refl

module _ (keep : KeptTexts) where
  event-kept : (index : ZoneName → Option ℕ) (e : CalendarEvent) → event_in index (kept_ended keep e) ≡ kept_event keep (event_in index e)
  event-kept index e = λ i.
      with_texts (texts_of (λ text. text-kept (text_at text keep) (text_at text e.fields.texts) i)) (event_of index e.calendar e.fields)

  events-kept : (index : ZoneName → Option ℕ) (events : List CalendarEvent) →
      map (event_in index) (map (kept_ended keep) events) ≡ map (kept_event keep) (map (event_in index) events)
  events-kept index [] = refl
  events-kept index (e ∷ es) = λ i. event-kept index e i ∷ events-kept index es i

  decided-kept : (o : Option Fault) (said : FileSaid) → decide None o (kept_said keep said) ≡ kept_answer keep (decide None o said)
  decided-kept None said = refl
  decided-kept (Some fault) said = refl

  settled-kept : (known : KnownZones) (events : List CalendarEvent) (checks : List LineCheck) →
      settled_by known (map (kept_ended keep) events) checks ≡ kept_answer keep (settled_by known events checks)
  settled-kept known events checks =
      (λ i. decide None (first_judged known checks) (record { zones = known.zones; events = events-kept known.index events i }))
      ∙ decided-kept (first_judged known checks) (record { zones = known.zones; events = map (event_in known.index) events })

  -- WHAT IT WANTS AND SAYS.
  pub unresolved-kept : (g : ParsedFileSeen) → unresolved_by (known_in g.zones) (map (kept_ended keep) g.events) g.checks
      ≡ kept_unresolved keep (unresolved_by (known_in g.zones) g.events g.checks)
  unresolved-kept g =
      let known : KnownZones = known_in g.zones in
      let names : List (List ℕ) = each_once (all_unknown known.index g.checks) in
      λ i. record { wants = names; says = λ files. settled-kept (with_files known files names) g.events g.checks i }

-- WHERE ALL TEXTS ARE KEPT, nothing is changed.
answer-whole : (answer : Result FileSaid Fault) → kept_answer all_texts answer ≡ answer
answer-whole (Ok said) = λ i. Ok (record said { events = map-id said.events i })
answer-whole (Err fault) = refl

pub unresolved-whole : (file : UnresolvedSaid) → kept_unresolved all_texts file ≡ file
unresolved-whole file = λ i. record file { says = λ files. answer-whole (file.says files) i }

pub unresolved-all : (keep : KeptTexts) (parsed whole : ParsedFileSeen) → keep ≡ all_texts → parsed ≡ kept_parsed keep whole →
    unresolved_by (known_in parsed.zones) parsed.events parsed.checks ≡ unresolved_by (known_in whole.zones) whole.events whole.checks
unresolved-all keep parsed whole all e =
    let said : UnresolvedSaid = unresolved_by (known_in whole.zones) whole.events whole.checks in
    ap (λ (g : ParsedFileSeen). unresolved_by (known_in g.zones) g.events g.checks) e
    ∙ (unresolved-kept keep whole ∙ (ap (λ (k : KeptTexts). kept_unresolved k said) all ∙ unresolved-whole said))
