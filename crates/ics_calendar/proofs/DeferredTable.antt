-- The table of the second round and the pass find one fault on a line, and ask for one time zone.
use Rattle.std.proofs.Common.{◌≡◌, ◌⊎◌, inl, inr, ℕ, Bool, true, false, ◌&&◌, ◌||◌, List, map, refl, sym, cond, Option, Some, None, is_some, arith}
use Rattle.std.specs.Prelude.{find, not}
use Rattle.std.specs.Option.{option_and_then}
use Rattle.std.proofs.lemmas.Bool.{not-false}
use Rattle.ics_text.specs.Bytes.{upper}
use Rattle.ics_text.specs.Unfolded.{Line}
use Rattle.ics_text.specs.ContentLines.{Parts}
use Rattle.ics_components.specs.declared.component.Context.{Context}
use Rattle.ics_components.specs.declared.component.Context.TheVariants as context
use Rattle.ics_values.specs.declared.time.Time.{Time}
use Rattle.ics_components.specs.declared.fault.FaultKind.TheVariants.{BadEnd, UnknownZone, BadZoneFile}
use Rattle.ics_components.specs.declared.deferred_check.DeferredCheck.{DeferredCheck}
use Rattle.ics_components.specs.declared.deferred_check.ZoneName.{ZoneName}
use Rattle.ics_components.specs.declared.name.Name.{Name}
use Rattle.ics_components.specs.declared.name.Name.TheVariants as name
use Rattle.ics_components.specs.PlacedLines.{Placed, Open, named, name_on, context_of, calendar_of, closes, ends_event}
use Rattle.ics_components.specs.Values.{zone_name}
use Rattle.ics_components.specs.Faults.{kinds}
use Rattle.ics_calendar.specs.LaterFaults.{is_in_zone, is_in_unknown_zone, stands_later, tzid_on}
use Rattle.ics_calendar.specs.DeferredChecks.{KnownZones, ends_badly_later, judged, unknown_in}
use Rattle.ics_components.specs.SecondRound.{zone_named, zone_check, ends_in}
use Rattle.ics_components.specs.Lines.{check_in}
use Rattle.ics_components.specs.declared.event_fields.EventFields.{EventFields}
use Rattle.ics_components.proofs.EndOrder.{IsMatched}
use Rattle.ics_components.proofs.Table.{frame_of, collected_of}
use Rattle.ics_components.proofs.Frames.{with}

-- AN END against its start, as the table finds it, as it is judged, and as it asks for no time zone.
ends-as : (known : KnownZones) (calendar : ℕ) (start end : Option (Time (List ℕ))) →
    (cond (ends_badly_later known calendar start end) (Some BadEnd) None ≡ option_and_then (judged known) (ends_in calendar start end))
    × (option_and_then (unknown_in known.index) (ends_in calendar start end) ≡ None)
ends-as known k (Some a) (Some b) = (grind arith, grind arith)
ends-as known k _ _ = (refl, refl)

-- THE SECOND ROUND. A time zone that is not known, as the table finds it, as it is judged, and as it is asked for.
zone-as : (known : KnownZones) (zoned : Bool) (used : ZoneName) →
    (cond ((zoned && not (is_some (known.index used))) && not (known.is_bad used.name)) (Some UnknownZone)
    (cond ((zoned && not (is_some (known.index used))) && known.is_bad used.name) (Some BadZoneFile) None)
    ≡ option_and_then (judged known) (zone_check (cond zoned (Some used) None)))
    × (cond (zoned && not (is_some (known.index used))) (Some used.name) None
    ≡ option_and_then (unknown_in known.index) (zone_check (cond zoned (Some used) None)))
zone-as known zoned used = (grind arith, grind arith)

module _ (whole : List Placed) (line : Line) (parts : Parts) (ls : List Placed) (path : List Open) where
  abbrev l : Placed
  l = with line path (Some parts)

  abbrev k : ℕ
  k = calendar_of path

  abbrev had : EventFields
  had = collected_of ls

  -- the zone that the line names, if it has a stamp in one
  abbrev used : ZoneName
  used = zone_named k (zone_name parts.params)

  abbrev left : Name → Option DeferredCheck
  left n = check_in n parts (frame_of whole path ls)

  -- What the line leaves to the second round: at the END of an event its end, and on another line the time zone of its stamps, if they are in one.
  abbrev Leaves : Name → Type 0
  Leaves n =
      ((ends_event l ≡ true) × (is_in_zone l ≡ false) × (left n ≡ ends_in k had.start had.end))
      ⊎ ((ends_event l ≡ false) × (left n ≡ zone_check (cond (is_in_zone l) (Some used) None)))

  -- a stamp and its zone
  zone-there : (z : Bool) →
      zone_check (cond z (Some (zone_named k (cond z (zone_name parts.params) None))) None) ≡ zone_check (cond (z || false) (Some used) None)
  zone-there true = refl
  zone-there false = refl

  leaves : (n : Name) (q : Context) → name_on (Some parts) ≡ n → context_of path ≡ q → IsMatched l → Leaves n
  leaves name.End context.Event e c m =
      let closed : closes path (map upper parts.value) ≡ true = not-false _ (rw e at m) in inl (rw (e, c, closed), rw (e, c), rw c)
  leaves name.End _ e c m = let closed : closes path (map upper parts.value) ≡ true = not-false _ (rw e at m) in inr (rw (e, c, closed), rw c)
  leaves name.Dtstart context.Event e c m = inr (rw e, rw (e, c) (zone-there _))
  leaves name.Dtend context.Event e c m = inr (rw e, rw (e, c) (zone-there _))
  leaves name.RecurrenceId context.Event e c m = inr (rw e, rw (e, c) (zone-there _))
  leaves _ context.Event e c m = inr (rw e, rw (e, c))
  leaves _ _ e c m = inr (rw e, rw c)

  -- WHAT THE SECOND ROUND FINDS on a line, of the table and of the pass, and what it asks for.
  abbrev Found : KnownZones → Name → Type 0
  Found known n =
      (find (λ kind. stands_later known kind ls l) kinds ≡ option_and_then (judged known) (left n))
      × (cond (is_in_unknown_zone known l) (Some (tzid_on l)) None ≡ option_and_then (unknown_in known.index) (left n))

  found : (known : KnownZones) (n : Name) → Leaves n → Found known n
  found known n (inl h) = let ends = ends-as known k had.start had.end in (rw (h.0, h.1, h.2) ends.0, rw (h.1, h.2) (sym ends.1))
  found known n (inr h) = let zone = zone-as known (is_in_zone l) used in (rw (h.0, h.1) zone.0, rw h.1 zone.1)

  pub same-on : (known : KnownZones) → IsMatched l → Found known (named parts)
  unfolding name_on
  same-on known m = found known (named parts) (leaves (named parts) (context_of path) refl refl m)
