-- What is gathered of a file, settled: its first fault of the second round, or what it says.
use Rattle.std.proofs.Common.{◌≡◌, ℕ, List, [], ◌∷◌, ◌++◌, map, None}
use Rattle.std.specs.List.{All, Contains}
use Rattle.std.proofs.lemmas.List.Elements.{All-nil, All-cons, All-contains, All-head, All-tail}
use Rattle.ics_components.specs.declared.parsed_file.CalendarEvent.{CalendarEvent}
use Rattle.ics_components.specs.declared.parsed_file.LineCheck.{LineCheck}
use Rattle.ics_calendar.specs.Settled.{event_in, known_in, first_judged, IsReady}
use Rattle.ics_file.specs.File.{AreEventsOf}
use Rattle.ics_components.specs.ParsedFiles.{IsSoundParsed}
use Rattle.ics_components.specs.ParsedFileSeen.{ParsedFileSeen}
use Rattle.ics_calendar.specs.DeferredChecks.{KnownZones, judged, with_files}
use Rattle.ics_calendar.specs.UnresolvedFiles.{IsSoundUnresolved}
use Rattle.ics_calendar.specs.GivenFiles.{GivenFiles}
use Rattle.ics_calendar.proofs.EventSound.{events-of}
use Rattle.ics_calendar.proofs.FilesGiven.{table-known, table-with}
use Rattle.ics_components.proofs.Sound.{event-weaker}
use Rattle.ics_components.proofs.Order.{found-none}

-- THE DEFERRED CHECKS, where none finds a fault.
none-judged : (known : KnownZones) (ws : List LineCheck) → first_judged known ws ≡ None → All (λ l. judged known l ≡ None) (map (λ w. w.check) ws)
none-judged known [] e = All-nil (λ l. judged known l ≡ None)
none-judged known (w ∷ ws) e =
    let n = found-none w.line (judged known w.check) (first_judged known ws) e in
    All-cons (λ l. judged known l ≡ None) w.check (map (λ w. w.check) ws) n.0 (none-judged known ws n.1)

-- AN UNRESOLVED FILE in which none does: each event is ready.
module _ (known : KnownZones) (ended : List CalendarEvent) (ws : List LineCheck) (s : IsSoundUnresolved known ended ws) (n : first_judged known ws ≡ None) where
  pub ready : All (IsReady known) ended
  ready i d l =
      event-weaker (Contains (map (λ w. w.check) ws)) (λ l. judged known l ≡ None)
      (λ l c. All-contains (λ l. judged known l ≡ None) (map (λ w. w.check) ws) l (none-judged known ws n) c) _ _ (s.whole i d l)

  pub events-here : AreEventsOf known.zones (map (event_in known.index) ended)
  events-here = events-of known s.table ended ready

-- AN UNRESOLVED FILE is sound where what is gathered is, and stays so with zone files.
pub unresolved-sound : (g : ParsedFileSeen) → IsSoundParsed g → IsSoundUnresolved (known_in g.zones) g.events g.checks
unresolved-sound g s = record { table = table-known g.zones; whole = s.events; sound = s.sound }

pub unresolved-with : {known : KnownZones} {ended : List CalendarEvent} {ws : List LineCheck} (files : GivenFiles) (names : List (List ℕ)) →
    IsSoundUnresolved known ended ws → IsSoundUnresolved (with_files known files names) ended ws
unresolved-with {known} files names s = record { table = table-with known files names s.table; whole = s.whole; sound = s.sound }

-- What holds of two lists together holds of each.
pub all-parts : {X : Type 0} (P : X → Type 0) (xs ys : List X) → All P (xs ++ ys) → All P xs × All P ys
all-parts P [] ys h = (All-nil P, h)
all-parts P (x ∷ xs) ys h =
    let rest = all-parts P xs ys (All-tail P x (xs ++ ys) h) in (All-cons P x xs (All-head P x (xs ++ ys) h) rest.0, rest.1)
