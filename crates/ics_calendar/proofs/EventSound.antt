-- An event that no fault of either round stands on is one, of the zones of its file.
use Rattle.std.proofs.Common.{◌≡◌, ◌≢◌, ℕ, Bool, true, false, ◌&&◌, ◌==◌, List, [], refl, sym, subst, arith, cond, Option, Some}
use Rattle.std.proofs.Common.{None, is_some, IfSome, ℤ, pos, ◌*ℤ◌, length, get_or, ap}
use Rattle.std.specs.Prelude.{map, option_map, unwrap_or}
use Rattle.std.specs.Option.{option_and_then}
use Rattle.std.specs.List.{All}
use Rattle.std.proofs.lemmas.Bool.Decides.{nat_tests}
use Rattle.std.proofs.lemmas.Int.{ints}
use Rattle.std.proofs.lemmas.List.Elements.{All-map}
use Rattle.std.specs.Str.{bytes_eq}
use Rattle.std.specs.Cmp.Lexicographic.{bytes_decides}
use Rattle.std.proofs.lemmas.Option.{slice_get-get_or}
use Rattle.ics_values.specs.Stamps.{stamp_day}
use Rattle.ics_fields.specs.Days.{IsStampDay}
use Rattle.ics_values.specs.Times.{time_in, map_time, map_length, map_rdate, start_of}
use Rattle.ics_values.specs.declared.duration.Duration.{Duration}
use Rattle.ics_values.specs.declared.stamp.Stamp.{Stamp}
use Rattle.ics_values.specs.declared.stamp.Stamp.TheVariants.{Date, Floating, Utc, Zoned}
use Rattle.ics_values.specs.declared.time.Length.{Length}
use Rattle.ics_values.specs.declared.time.Length.TheVariants.{Open, Until, Lasting}
use Rattle.ics_values.specs.declared.time.Rdate.{Rdate}
use Rattle.ics_values.specs.declared.time.Rdate.TheVariants.{At, Span}
use Rattle.ics_values.specs.declared.time.Time.{Time}
use Rattle.ics_fields.specs.Locals.{local_seconds}
use Rattle.ics_fields.specs.declared.local.Local.{Local}
use Rattle.ics_zone.specs.ZoneSaid.{ZoneSaid}
use Rattle.ics_components.specs.declared.parsed_file.CalendarEvent.{CalendarEvent}
use Rattle.ics_components.specs.declared.event_fields.EventFields.{EventFields}
use Rattle.ics_components.specs.declared.deferred_check.DeferredCheck.{DeferredCheck}
use Rattle.ics_components.specs.declared.deferred_check.DeferredCheck.TheVariants as check
use Rattle.ics_components.specs.declared.deferred_check.Instant.{Instant}
use Rattle.ics_components.specs.declared.deferred_check.Instant.TheVariants as instant
use Rattle.ics_components.specs.declared.deferred_check.ZoneName.{ZoneName}
use Rattle.ics_components.specs.SecondRound.{zone_named, zone_check, instant_on, both_compared, ends_in}
use Rattle.ics_components.specs.Sound.{IsSoundTime, IsSoundRdate}
use Rattle.ics_components.specs.Values.{is_lasting, is_filled, is_out, is_bad_end, ends_badly}
use Rattle.ics_event.specs.Event.{is_zoned, IsTime, IsWithin, IsEnd, IsLasting, IsLength, IsRdate, IsEvent, EndsBelow, RdateBelow}
use Rattle.ics_event.specs.Event.{TimeBelow}
use Rattle.ics_file.specs.File.{EndsWithin, IsEventOf, AreEventsOf, compared, moment_in}
use Rattle.ics_calendar.specs.DeferredChecks.{KnownZones, judged, moment_of}
use Rattle.ics_calendar.specs.UnresolvedFiles.{IsTable}
use Rattle.ics_calendar.specs.Events.{zone_at, start_in, given_length}
use Rattle.ics_calendar.specs.Settled.{event_in, IsReady}
use Rattle.ics_calendar.proofs.FilesGiven.{below-here}

-- A STAMP, in the zone that it names.
-- a check of the second round finds no fault
abbrev IsFine : KnownZones → Option DeferredCheck → Type 0
IsFine known o = IfSome o (λ l. judged known l ≡ None)

out-within : (start end : ℤ) → is_out start end ≡ false → IsWithin start end
out-within start end h = record { forward = grind (arith, ints, nat_tests, h); short = grind (arith, ints, nat_tests, h) }

filled-not-empty : (o : Option (List ℕ)) → is_filled o ≡ true → unwrap_or o [] ≢ []
filled-not-empty o h e = grind arith

-- the DTSTART of an event that has one
some-in : (o : Option (Time (List ℕ))) → is_some o ≡ true → o ≡ Some (start_in o)
some-in (Some start) e = refl
some-in None e = cc

lasting-is : (d : Duration) → is_lasting d ≡ true → IsLasting d
lasting-is d h = record { forward = grind (arith, nat_tests, h); short = grind (arith, nat_tests, h) }

-- the check of stamps that a line lists, in the zone that it names
abbrev fault_by : Bool → ZoneName → Option DeferredCheck
fault_by zoned name = zone_check (cond zoned (Some name) None)

module _ (known : KnownZones) where
  abbrev place : ZoneName → ℕ
  place used = unwrap_or (known.index used) 0

  -- the name of a zoned stamp is known
  index-is : (used : ZoneName) → IsFine known (Some (check.Zone used)) → known.index used ≡ Some (place used)
  index-is used h = grind (arith, h)

  -- a time, and its zone in a table
  abbrev IsTimeOf : Time ℕ → Type 0
  IsTimeOf time = IsTime time × (IsTable known → TimeBelow (length known.zones) time)

  stamp-time : (name : ZoneName) (r : Stamp) → IsStampDay (stamp_day r) → IsFine known (fault_by (is_zoned r) name) → IsTimeOf (time_in (known.index name) r)
  stamp-time name (Zoned l) h k = (record { years = h; zone = ap is_some (index-is name k) }, λ table. table.below name)
  stamp-time name _ h k = (record { years = h; zone = refl }, λ table. tt)

  -- the instant of a zoned local
  local-there : IsTable known → (used : ZoneName) (local : Local) → IsFine known (Some (check.Zone used)) →
      moment_of known (instant.Zoned local used) ≡ Some (moment_in known.zones (Some (place used)) (Zoned local))
  local-there table used local h =
      let i = index-is used h in
      grind (arith, i, slice_get-get_or known.zones (place used) (ZoneSaid.ByObservances []) (below-here known table used (place used) i))

  -- instants that are checked as an end and its start
  instants-within : (s t : Instant) {x y : ℤ} → moment_of known s ≡ Some x → moment_of known t ≡ Some y → IsFine known (Some (check.Ends s t)) → IsWithin x y
  instants-within s t {x} {y} e f h = out-within x y (grind (arith, e, f, h))

  -- AN END of an event in a calendar
  module _ (k : ℕ) where
    -- two TZIDs
    module _ (x y : Option (List ℕ)) where
      abbrev m : ZoneName
      m = zone_named k x

      abbrev n : ZoneName
      n = zone_named k y

      one-zone : IsFine known (Some (check.Zone m)) → IsFine known (Some (check.Zone n)) → IsTable known → (place m == place n) ≡ bytes_eq m.name n.name
      one-zone u v table =
          let both = bytes_decides m.name n.name in grind (arith, nat_tests, both.0, both.1, index-is m u, index-is n v, table.single m n (place m))

      ends-are : (a b : Stamp) → is_bad_end (bytes_eq m.name n.name) a b ≡ false →
          IsFine known (fault_by (is_zoned a) m) → IsFine known (fault_by (is_zoned b) n) →
          IsFine known (cond (is_zoned a && (is_zoned b && bytes_eq m.name n.name)) None (both_compared (instant_on m a) (instant_on n b))) →
          IsEnd a b × (IsTable known → EndsWithin known.zones (time_in (known.index m) a) (Until (time_in (known.index n) b)))
      ends-are (Date a) (Date b) e u v l = (out-within (a *ℤ pos 86_400) (b *ℤ pos 86_400) e, λ table g. cc)
      ends-are (Floating a) (Floating b) e u v l = (out-within (local_seconds a) (local_seconds b) e, λ table g. cc)
      ends-are (Utc a) (Utc b) e u v l = (out-within (local_seconds a) (local_seconds b) (grind (arith, l)), λ table g. cc)
      ends-are (Utc a) (Zoned b) e u v l =
          (tt, λ table g. rw (index-is n v) (instants-within (instant.Utc a) (instant.Zoned b n) refl (local-there table n b v) l))
      ends-are (Zoned a) (Utc b) e u v l =
          (tt, λ table g. rw (index-is m u) (instants-within (instant.Zoned a m) (instant.Utc b) (local-there table m a u) refl l))
      ends-are (Zoned a) (Zoned b) e u v l =
          (tt, λ table g. rw (index-is m u, index-is n v, one-zone u v table) (by_test table (bytes_eq m.name n.name) e l))
        where
          by_test : IsTable known → (t : Bool) → is_bad_end t (Zoned a) (Zoned b) ≡ false →
              IsFine known (cond t None (Some (check.Ends (instant.Zoned a m) (instant.Zoned b n)))) →
              IsWithin (compared t known.zones (record { stamp = Zoned a; zone = Some (place m) }))
              (compared t known.zones (record { stamp = Zoned b; zone = Some (place n) }))
          by_test table true e l = out-within (local_seconds a) (local_seconds b) e
          by_test table false e l = instants-within (instant.Zoned a m) (instant.Zoned b n) (local-there table m a u) (local-there table n b v) l
      ends-are _ _ e u v l = cc

    -- THE TIMES of such an event, with the indices of their zones.
    abbrev at : List ℕ → Option ℕ
    at name = zone_at known.index k name

    zone-is : (o : Option (List ℕ)) (z : Bool) → is_some o ≡ z → option_and_then at o ≡ cond z (known.index (zone_named k o)) None
    zone-is (Some name) true e = refl
    zone-is None false e = refl
    zone-is (Some name) false e = cc
    zone-is None true e = cc

    -- sound, where no check finds a fault
    abbrev IsFineTime : Time (List ℕ) → Type 0
    IsFineTime = IsSoundTime (λ l. judged known l ≡ None) k

    abbrev IsFineRdate : Rdate (List ℕ) → Type 0
    IsFineRdate = IsSoundRdate (λ l. judged known l ≡ None) k

    placed : (time : Time (List ℕ)) → IsFineTime time → map_time at time ≡ time_in (known.index (zone_named k time.zone)) time.stamp
    placed time h = λ i. record { stamp = time.stamp; zone = zone-is time.zone (is_zoned time.stamp) h.zone i }

    time-is : (time : Time (List ℕ)) → IsFineTime time → IsTimeOf (map_time at time)
    time-is time h = subst IsTimeOf (sym (placed time h)) (stamp-time (zone_named k time.zone) time.stamp h.years h.known)

    recurrence-is : (o : Option (Time (List ℕ))) → IfSome o IsFineTime →
        IfSome (option_map (map_time at) o) IsTime × (IsTable known → IfSome (option_map (map_time at) o) (TimeBelow (length known.zones)))
    recurrence-is None h = (tt, λ table. tt)
    recurrence-is (Some time) h = time-is time h

    abbrev IsRdateOf : Rdate ℕ → Type 0
    IsRdateOf rdate = IsRdate rdate × (IsTable known → RdateBelow (length known.zones) rdate)

    rdate-is : (v : Rdate (List ℕ)) → IsFineRdate v → IsRdateOf (map_rdate at v)
    rdate-is (At time) h = time-is time h
    rdate-is (Span start Open) h = absurd h.1
    rdate-is (Span start (Until end)) h =
        let first = time-is start h.0 in let last = time-is end h.1 in ((first.0, last.0), λ table. (first.1 table, last.1 table))
    rdate-is (Span start (Lasting d)) h = let first = time-is start h.0 in ((first.0, lasting-is d h.1), λ table. (first.1 table, tt))

    exdate-is : (v : Rdate (List ℕ)) → IsFineRdate v → IsTimeOf (map_time at (start_of v))
    exdate-is (At time) h = time-is time h
    exdate-is (Span start length) h = time-is start h.0

    -- and its length
    abbrev IsLengthOf : Time (List ℕ) → Length (List ℕ) → Type 0
    IsLengthOf start lasts =
        IsLength start.stamp (map_length at lasts)
        × (IsTable known → EndsBelow (length known.zones) (map_length at lasts) × EndsWithin known.zones (map_time at start) (map_length at lasts))

    length-is : (s : Time (List ℕ)) (end : Option (Time (List ℕ))) (duration : Option Duration) → IsFineTime s → IfSome end IsFineTime →
        ends_badly (Some s) end ≡ false → IfSome duration (λ d. is_lasting d ≡ true) → IsFine known (ends_in k (Some s) end) →
        IsLengthOf s (given_length end duration)
    length-is s (Some e) duration h i bad lasts w =
        let last = time-is e i in
        let ends = ends-are s.zone e.zone s.stamp e.stamp bad h.known i.known w in
        let start : Time ℕ = time_in (known.index (zone_named k s.zone)) s.stamp in (
          (last.0, ends.0),
          λ table. (
            last.1 table,
            subst (λ (time : Time ℕ). EndsWithin known.zones time (Until (map_time at e))) (sym (placed s h))
                (subst (λ (time : Time ℕ). EndsWithin known.zones start (Until time)) (sym (placed e i)) (ends.1 table)),
          ),
        )
    length-is s None (Some d) h i bad lasts w = (lasting-is d lasts, λ table. (tt, tt))
    length-is s None None h i bad lasts w = (tt, λ table. (tt, tt))

  pub event-sound : (event : CalendarEvent) → IsReady known event →
      IsEvent (event_in known.index event) × (IsTable known → IsEventOf known.zones (event_in known.index event))
  event-sound e r =
      let k : ℕ = e.calendar in
      let had : EventFields = e.fields in
      let started = some-in had.start r.started in
      let s : Time (List ℕ) = start_in had.start in
      let there : IsFineTime k s = subst (λ o. IfSome o (IsFineTime k)) started r.start in
      let start = time-is k s there in
      let ends =
      length-is k s had.end had.duration there r.end (subst (λ o. ends_badly o had.end ≡ false) started r.ends) r.lasting
      (subst (λ o. IsFine known (ends_in k o had.end)) started r.length) in
      let rdates = All-map (IsRdateOf k) (map_rdate (at k)) had.rdates (λ i d l. rdate-is k _ (r.rdates i d l)) in
      let exdates = All-map IsTimeOf (λ exdate. map_time (at k) (start_of exdate)) had.exdates (λ i d l. exdate-is k _ (r.exdates i d l)) in
      let recurrence = recurrence-is k had.recurrence r.recurrence in (
        record {
          named = filled-not-empty had.uid r.named;
          start = start.0;
          length = ends.0;
          rdates = λ i d l. (rdates i d l).0;
          exdates = λ i d l. (exdates i d l).0;
          recurrence = recurrence.0;
        },
        λ table. record {
          below = record {
            start = start.1 table;
            length = (ends.1 table).0;
            rdates = λ i d l. (rdates i d l).1 table;
            exdates = λ i d l. (exdates i d l).1 table;
            recurrence = recurrence.1 table;
          };
          short = (ends.1 table).1;
        },
      )

-- THE EVENTS of a file, of its zones.
pub events-of : (known : KnownZones) → IsTable known → (events : List CalendarEvent) → All (IsReady known) events →
    AreEventsOf known.zones (map (event_in known.index) events)
events-of known table events h =
    All-map (IsEventOf known.zones) (event_in known.index) events (λ i d l. (event-sound known (get_or events i d) (h i d l)).1 table)
