-- Each time zone of the instants that an event's end is checked by is one that a line of the event is checked for.
use Rattle.std.proofs.Common.{◌≡◌, ℕ, Bool, true, false, List, [], ◌∷◌, ◌++◌, map, refl, cond, subst, Option, Some, None, Ok}
use Rattle.std.specs.Prelude.{IfOk, IfSome}
use Rattle.std.specs.List.{All, Contains}
use Rattle.std.proofs.lemmas.List.Elements.{All-append, All-cons, All-contains, All-nil, All-weaker, Contains-append_left, Contains-append_right}
use Rattle.ics_fields.specs.Locals.{local_seconds}
use Rattle.ics_text.specs.ContentLines.{Parts}
use Rattle.ics_values.specs.declared.stamp.Stamp.{Stamp}
use Rattle.ics_values.specs.declared.stamp.Stamp.TheVariants as stamp
use Rattle.ics_values.specs.declared.time.Time.{Time}
use Rattle.ics_values.specs.Zoned.{is_zoned}
use Rattle.ics_components.specs.declared.builder.Builder.{Builder}
use Rattle.ics_components.specs.declared.builder.Builder.TheVariants as builder
use Rattle.ics_components.specs.declared.deferred_check.DeferredCheck.{DeferredCheck}
use Rattle.ics_components.specs.declared.deferred_check.DeferredCheck.TheVariants as check
use Rattle.ics_components.specs.declared.deferred_check.Instant.{Instant}
use Rattle.ics_components.specs.declared.deferred_check.Instant.TheVariants as instant
use Rattle.ics_components.specs.declared.deferred_check.ZoneName.{ZoneName}
use Rattle.ics_components.specs.declared.frame.Frame.{Frame}
use Rattle.ics_components.specs.declared.name.Name.{Name}
use Rattle.ics_components.specs.declared.name.Name.TheVariants as name
use Rattle.ics_components.specs.declared.parsed_file.CalendarEvent.{CalendarEvent}
use Rattle.ics_components.specs.declared.parsed_file.LineCheck.{LineCheck}
use Rattle.ics_components.specs.EventLines.{is_event}
use Rattle.ics_components.specs.Lines.{check_in, end_check, end_in, ended_as, passing}
use Rattle.ics_components.specs.ParsedFileSeen.{ParsedFileSeen}
use Rattle.ics_components.specs.ParsedFiles.{IsSoundParsed, and_line, checks_of, events_of_end}
use Rattle.ics_components.specs.Observances.{begins_zone}
use Rattle.ics_components.specs.Parted.{AreInPlace, block_of, component_seen}
use Rattle.ics_components.specs.PlacedLines.{Placed, named}
use Rattle.ics_components.specs.SecondRound.{are_of_one_zone, both_compared, compared, ends_in, instant_in, instant_on, zone_check, zone_named}
use Rattle.ics_components.specs.Sound.{IsSoundEvent, IsSoundTime}
use Rattle.ics_components.specs.Values.{is_out}
use Rattle.ics_components.proofs.BlockHolds.{IsHeld, held_block}
use Rattle.ics_components.proofs.ItemFaults.{IsIn}
use Rattle.ics_components.proofs.RestFaults.{left-or}
use Rattle.ics_components.proofs.SoundPass.{sound-read}
use Rattle.ics_calendar.proofs.PartLaws.{here}

-- the time zone of an instant is one of those that are checked, by a check of its own
abbrev pub IsInstantAsked : List LineCheck → Instant → Type 0
IsInstantAsked checks (instant.Utc local) = Unit {0}
IsInstantAsked checks (instant.Zoned local used) = Contains (map (λ w. w.check) checks) (check.Zone used)

abbrev pub IsAsked : List LineCheck → DeferredCheck → Type 0
IsAsked checks check.End = Unit {0}
IsAsked checks (check.Zone used) = Unit {0}
IsAsked checks (check.Ends start end) = IsInstantAsked checks start × IsInstantAsked checks end

-- A CHECK OF AN END is that of an event that is gathered.
abbrev IsOfEvent : List CalendarEvent → DeferredCheck → Type 0
IsOfEvent events (check.Ends start end) =
    (event : CalendarEvent) × Contains events event × (ends_in event.calendar event.fields.start event.fields.end ≡ Some (check.Ends start end))
IsOfEvent events _ = Unit {0}

abbrev AreOfEvents : List CalendarEvent → List LineCheck → Type 0
AreOfEvents events checks = All (λ w. IsOfEvent events w.check) checks

more-before : (es fs : List CalendarEvent) (c : DeferredCheck) → IsOfEvent es c → IsOfEvent (es ++ fs) c
more-before es fs (check.Ends start end) is = (is.0, Contains-append_left es fs is.0 is.1, is.2)
more-before es fs _ is = tt

more-behind : (es fs : List CalendarEvent) (c : DeferredCheck) → IsOfEvent fs c → IsOfEvent (es ++ fs) c
more-behind es fs (check.Ends start end) is = (is.0, Contains-append_right es fs is.0 is.1, is.2)
more-behind es fs _ is = tt

no-end : (events : List CalendarEvent) (number : ℕ) (o : Option ZoneName) → AreOfEvents events (checks_of number (zone_check o))
no-end events number None = All-nil (λ w. IsOfEvent events w.check)
no-end events number (Some zone) =
    All-cons (λ w. IsOfEvent events w.check) (record { line = number; check = check.Zone zone }) [] tt (All-nil (λ w. IsOfEvent events w.check))

at-end : (number k : ℕ) (b : Builder) → AreOfEvents (events_of_end (ended_as k b)) (checks_of number (end_check k b))
at-end number k (builder.Event had) = by_check (ends_in k had.start had.end) refl
  where
    own : List CalendarEvent
    own = record { calendar = k; fields = had } ∷ []

    is : (c : DeferredCheck) → ends_in k had.start had.end ≡ Some c → IsOfEvent own c
    is (check.Ends start end) e = (record { calendar = k; fields = had }, here (record { calendar = k; fields = had }) [], e)
    is _ e = tt

    by_check : (o : Option DeferredCheck) → ends_in k had.start had.end ≡ o → AreOfEvents own (checks_of number o)
    by_check None e = All-nil (λ w. IsOfEvent own w.check)
    by_check (Some c) e =
        All-cons (λ w. IsOfEvent own w.check) (record { line = number; check = c }) [] (is c e) (All-nil (λ w. IsOfEvent own w.check))
at-end number k b = All-nil (λ w. IsOfEvent (events_of_end (ended_as k b)) w.check)

on-line : (number : ℕ) (n : Name) (c : Parts) (f : Frame) → AreOfEvents (events_of_end (end_in n f)) (checks_of number (check_in n c f))
on-line number name.Begin c f = All-nil (λ w. IsOfEvent [] w.check)
on-line number name.End c f = at-end number f.calendar f.builder
on-line number n c f = no-end [] number _

one-more : (number : ℕ) (n : Name) (c : Parts) (frames : List Frame) (had : ParsedFileSeen) → AreOfEvents had.events had.checks →
    AreOfEvents (and_line number (passing n c frames) had).events (and_line number (passing n c frames) had).checks
one-more number n c frames had are = by_frames frames
  where
    both : (es : List CalendarEvent) (checks : List LineCheck) → AreOfEvents es checks → AreOfEvents (had.events ++ es) (had.checks ++ checks)
    both es checks more =
        All-append (λ w. IsOfEvent (had.events ++ es) w.check) had.checks checks
        (All-weaker (λ w. IsOfEvent had.events w.check) (λ w. IsOfEvent (had.events ++ es) w.check) (λ w. more-before had.events es w.check) had.checks are)
        (All-weaker (λ w. IsOfEvent es w.check) (λ w. IsOfEvent (had.events ++ es) w.check) (λ w. more-behind had.events es w.check) checks more)

    by_frames : (fs : List Frame) → AreOfEvents (and_line number (passing n c fs) had).events (and_line number (passing n c fs) had).checks
    by_frames [] = both [] [] (All-nil (λ w. IsOfEvent [] w.check))
    by_frames (f ∷ fs) = both (events_of_end (end_in n f)) (checks_of number (check_in n c f)) (on-line number n c f)

-- ITS INSTANTS are those of the event's times, of which each is checked for its time zone.
compared-is : (x y start end : Instant) → compared x y ≡ Some (check.Ends start end) → (x ≡ start) × (y ≡ end)
compared-is (instant.Utc a) (instant.Utc b) start end e = by_test (is_out (local_seconds a) (local_seconds b)) e
  where
    by_test : (t : Bool) → cond t (Some check.End) None ≡ Some (check.Ends start end) → (instant.Utc a ≡ start) × (instant.Utc b ≡ end)
    by_test true e = cc
    by_test false e = cc
compared-is (instant.Utc a) (instant.Zoned b used) start end e = (cc, cc)
compared-is (instant.Zoned a used) y start end e = (cc, cc)

module _ (checks : List LineCheck) (k : ℕ) where
  abbrev Made : DeferredCheck → Type 0
  Made = Contains (map (λ w. w.check) checks)

  time-asked : (time : Time (List ℕ)) (x : Instant) → instant_in k time ≡ Some x → IsSoundTime Made k time → IsInstantAsked checks x
  time-asked time x e sound = by_stamp time.stamp e sound.known
    where
      own : ZoneName
      own = zone_named k time.zone

      by_stamp : (s : Stamp) → instant_on own s ≡ Some x → IfSome (zone_check (cond (is_zoned s) (Some own) None)) Made → IsInstantAsked checks x
      by_stamp (stamp.Utc local) e known = let same : instant.Utc local ≡ x = cc in subst (IsInstantAsked checks) same tt
      by_stamp (stamp.Zoned local) e known = let same : instant.Zoned local own ≡ x = cc in subst (IsInstantAsked checks) same known
      by_stamp _ e known = cc

  both-asked : (s t : Option (Time (List ℕ))) (start end : Instant) → IfSome s (IsSoundTime Made k) → IfSome t (IsSoundTime Made k) →
      ends_in k s t ≡ Some (check.Ends start end) → IsInstantAsked checks start × IsInstantAsked checks end
  both-asked None t start end a b e = cc
  both-asked (Some s) None start end a b e = cc
  both-asked (Some s) (Some t) start end a b e = by_test (are_of_one_zone s t) e
    where
      by_instants : (o p : Option Instant) → instant_in k s ≡ o → instant_in k t ≡ p → both_compared o p ≡ Some (check.Ends start end) →
          IsInstantAsked checks start × IsInstantAsked checks end
      by_instants None p f g e = cc
      by_instants (Some x) None f g e = cc
      by_instants (Some x) (Some y) f g e =
          let same = compared-is x y start end e in
          (subst (IsInstantAsked checks) same.0 (time-asked s x f a), subst (IsInstantAsked checks) same.1 (time-asked t y g b))

      by_test : (one : Bool) → cond one None (both_compared (instant_in k s) (instant_in k t)) ≡ Some (check.Ends start end) →
          IsInstantAsked checks start × IsInstantAsked checks end
      by_test true e = cc
      by_test false e = by_instants (instant_in k s) (instant_in k t) refl refl e

asked : (g : ParsedFileSeen) → IsSoundParsed g → (c : DeferredCheck) → IsOfEvent g.events c → IsAsked g.checks c
asked g sound check.End is = tt
asked g sound (check.Zone used) is = tt
asked g sound (check.Ends start end) is =
    let event : CalendarEvent = is.0 in
    let whole = All-contains (λ (event : CalendarEvent). IsSoundEvent (Contains (map (λ w. w.check) g.checks)) event.calendar event.fields) g.events event
    sound.events is.1 in
    both-asked g.checks event.calendar event.fields.start event.fields.end start end whole.start whole.end is.2

of_events : (ls : List Placed) (b : ℕ) → IsHeld ls b (λ left f. Unit {0}) (λ g. Unit {0}) (λ g. AreOfEvents g.events g.checks)
of_events ls b = record {
  begins = λ left f x c. tt;
  joins = λ left f i x. tt;
  joins_inner = λ g i x. tt;
  notes = λ l left c f g gs read t x. tt;
  notes_inner = λ n c g x. tt;
  passes = λ l left c f at t x. tt;
  gathers = λ l left c f g gs had read t x are. one-more l.number (named c) c (f ∷ g ∷ gs) had are;
  gathers_inner = λ number n c f g gs had x are. one-more number n c (f ∷ g ∷ gs) had are;
}

pub event-asks : (ls : List Placed) → AreInPlace 0 [] ls → (event : Placed) → IsIn event ls → is_event event ≡ true → (read : ParsedFileSeen) →
    (component_seen ls event).read ≡ Ok read → All (λ w. IsAsked read.checks w.check) read.checks
event-asks ls h event i is read e =
    let are = held_block ls event (of_events ls event.number) h i (left-or (is_event event) (begins_zone event) is) (λ from c at. tt)
    (All-nil (λ w. IsOfEvent [] w.check)) read e in
    let sound : IsSoundParsed read = subst (λ r. IfOk r IsSoundParsed) e (sound-read (block_of ls event) event.path) in
    All-weaker (λ w. IsOfEvent read.events w.check) (λ w. IsAsked read.checks w.check) (λ w. asked read sound w.check) read.checks are
