-- Where instants lie.
use Rattle.std.proofs.Common.{◌≡◌, ℕ, Bool, zero, suc, ◌+◌, ◌*◌, ℤ, pos, neg_ℤ, ◌+ℤ◌, ◌-ℤ◌, ◌<ℤ◌, ◌≤ℤ◌, true, false, List, [], ◌∷◌, map, Option, Some, None}
use Rattle.std.proofs.Common.{is_some, refl, sym, ◌∙◌, ap, subst, arith, rules, slice_get, ◌==◌, ◌||◌, ⊎_elim}
use Rattle.std.specs.Int.{int_max}
use Rattle.std.proofs.lemmas.Int.{int_max_is, ints}
use Rattle.ics_values.specs.declared.duration.Duration.{Duration}
use Rattle.ics_fields.specs.declared.local.Local.{Local}
use Rattle.ics_values.specs.declared.stamp.Stamp.{Stamp}
use Rattle.ics_values.specs.declared.stamp.Stamp.TheVariants.{Date, Floating, Utc, Zoned}
use Rattle.ics_values.specs.Stamps.{stamp_day}
use Rattle.ics_fields.specs.Days.{IsStampDay}
use Rattle.ics_event.specs.Event.{Time}
use Rattle.ics_event.specs.Event.{Length}
use Rattle.ics_values.specs.declared.time.Length.TheVariants.{Open, Lasting, Until}
use Rattle.ics_file.specs.File.{compared, is_one_zone, EndsWithin, moment_by}
use Rattle.ics_event.specs.Event.{stamp_seconds, IsEnd, IsLength, IsTime, IsWithin, is_zoned}
use Rattle.ics_zone.specs.Inner.Near.{moment_near, offset_near}
use Rattle.ics_zone.specs.ZoneSaid.{ZoneSaid, display_said, said_moment, zone_said}
use Rattle.ics_zone.specs.Seconds.{IsNear}
use Rattle.ics_zone.specs.declared.zone.ZoneKind.{ZoneKind}
use Rattle.ics_zone.specs.Inner.ZoneBounds.{said_moment_near, said_offset_near}
use Rattle.ics_zone.specs.declared.display.Display.{Display}
use Rattle.ics_starts.specs.declared.zones.FileZones.{FileZones}
use Rattle.ics_listing.specs.FileClocks.{Clock, Clocks, day_of}
use Rattle.ics_starts.specs.Clocks.{clock_at, clock_by, clock_of, display_clock, instant, utc_clock, zone_clock, local_at, IsBounded}
use Rattle.ics_zone.specs.declared.bounds.Bounds.{Bounds}
use Rattle.ics_fields.specs.Locals.{local_seconds, whole_days, midnight}
use Rattle.ics_starts.specs.Finish.{end_by, seconds_by, days_lasting, later_by, seconds_lasting}
use Rattle.ics_starts.specs.FileZones.{clocks_in, EndsNear}
use Rattle.ics_listing.specs.WindowBounds.{occurrence_first}
use Rattle.ics_values.specs.declared.time.Rdate.TheVariants.{At}
use Rattle.ics_event.specs.declared.event.Event.{Event}
use Rattle.ics_listing.specs.declared.window.Window.{Window}
use Rattle.ics_starts.specs.Meeting.{entry_from}
use Rattle.ics_starts.specs.MeetsWindow.{Meets}

-- a clock moves a local, or an instant, by less than two days
pub record IsNearClock (clock : Clock) : Type 0 where
  pub moment : (x : ℤ) → IsNear (clock.moment x -ℤ x)
  pub offset : (t : ℤ) → IsNear (clock.offset t)

pub near-utc : IsNearClock utc_clock
near-utc = record { moment = λ x. (omega (arith, ints), omega (arith, ints)); offset = λ t. (omega (arith, ints), omega (arith, ints)) }

pub near-display : (display : Display) → IsNearClock (display_clock display)
near-display display = record { moment = moment_near display; offset = offset_near display }

pub near-at : (zones : List ZoneKind) (zone : Option ℕ) → IsNearClock (clock_at (map zone_clock (map zone_said zones)) zone)
near-at zones None = near-utc
near-at [] (Some zone) = near-utc
near-at (z ∷ zones) (Some zero) = record { moment = said_moment_near z; offset = said_offset_near z }
near-at (z ∷ zones) (Some (suc zone)) = near-at zones (Some zone)

pub near-clock : (zones : FileZones) (index : Option ℕ) (s : Stamp) → IsNearClock (clock_by (clocks_in zones) index s)
near-clock zones index (Utc local) = near-utc
near-clock zones index (Zoned local) = near-at zones.zones.now index
near-clock zones index _ = near-display zones.display.now

-- an instant lies less than two days from what its stamp writes
pub instant-near : (zones : FileZones) (time : Time) → IsNear (instant (clocks_in zones) time -ℤ stamp_seconds time.stamp)
instant-near zones time = (near-clock zones time.zone time.stamp).moment (stamp_seconds time.stamp)

pub near-moved : (f : ℤ → ℤ) (near : (x : ℤ) → IsNear (f x -ℤ x)) (r l : ℤ) → r ≡ f l → IsNear (r -ℤ l)
near-moved f near r l e = subst (λ m. IsNear (m -ℤ l)) (sym e) (near l)

pub result_near : (display : Display) (r l : ℤ) → r ≡ said_moment (display_said display) l → IsNear (r -ℤ l)
result_near display = near-moved (said_moment (display_said display)) (moment_near display)

pub moved : (f : ℤ → ℤ) {s r l m : ℤ} → s ≡ r → r ≡ f l → l ≡ m → s ≡ f m
moved f a e h = a ∙ (e ∙ ap f h)

pub written : (s : Stamp) → IsStampDay (stamp_day s) → (neg_ℤ (pos 62_135_596_800) ≤ℤ stamp_seconds s) × (stamp_seconds s <ℤ pos 250_246_627_200)
written (Date day) h = (omega (arith, ints, h.0), omega (arith, ints, h.1))
written (Floating local) h = (omega (arith, ints, h.0), omega (arith, ints, h.1, local.second_in))
written (Utc local) h = (omega (arith, ints, h.0), omega (arith, ints, h.1, local.second_in))
written (Zoned local) h = (omega (arith, ints, h.0), omega (arith, ints, h.1, local.second_in))

pub early : (zones : FileZones) (time : Time) → IsTime time → instant (clocks_in zones) time <ℤ pos 250_246_800_000
early zones time h = omega (arith, ints, instant-near zones time, (written time.stamp h.years).1)

-- an event begins after the last two days of the year 0000 have begun
pub late : (zones : FileZones) (time : Time) → IsTime time → occurrence_first ≤ℤ instant (clocks_in zones) time
late zones time h = omega (arith, ints, instant-near zones time, (written time.stamp h.years).0)

-- so DTSTART and DTEND lie in the years of occurrences
pub until-years : (zones : FileZones) (first : Time) {length : Length} {end : Time} → length ≡ Until end → IsLength first.stamp length → IsTime first →
    (occurrence_first ≤ℤ instant (clocks_in zones) end) × (instant (clocks_in zones) end <ℤ pos 250_246_800_000)
    × (occurrence_first ≤ℤ instant (clocks_in zones) first) × (instant (clocks_in zones) first <ℤ pos 250_246_800_000)
until-years zones first {end = end} e l t =
    let own : IsLength first.stamp (Until end) = subst (IsLength first.stamp) e l in
    (late zones end own.0, early zones end own.0, late zones first t, early zones first t)

-- a DTEND is as far off from a start as from DTSTART
pub until : (clocks : Clocks) (first given end : Time) (s : Stamp) → ((day : ℤ) → s ≡ Date day → ⊥)
    → instant clocks given +ℤ (instant clocks end -ℤ instant clocks first) ≡ end_by clocks first given s (Until end)
until clocks first given end (Date day) h = absurd (h day refl)
until clocks first given end _ h = refl

-- a DURATION is later by the clock of the start
pub lasting : (clocks : Clocks) (first given : Time) (duration : Duration) (s : Stamp) → ((day : ℤ) → s ≡ Date day → ⊥)
    → end_by clocks first given s (Lasting duration) ≡ later_by (clock_of clocks given) duration (instant clocks given)
lasting clocks first given duration (Date day) h = absurd (h day refl)
lasting clocks first given duration _ h = refl

pub until-seconds : (clocks : Clocks) (first end : Time) (s : Stamp) → ((day : ℤ) → s ≡ Date day → ⊥)
    → int_max (instant clocks end -ℤ instant clocks first) (pos 0) ≡ seconds_by clocks first s (Until end)
until-seconds clocks first end (Date day) h = absurd (h day refl)
until-seconds clocks first end _ h = omega (arith, ints, int_max_is)

pub lasting-seconds : (clocks : Clocks) (first : Time) (duration : Duration) (s : Stamp) → ((day : ℤ) → s ≡ Date day → ⊥)
    → pos (duration.days * 86_400 + duration.seconds) ≡ seconds_by clocks first s (Lasting duration)
lasting-seconds clocks first duration (Date day) h = absurd (h day refl)
lasting-seconds clocks first duration _ h = refl

-- the instant that a local means by its index
zone-moment : (zones : List ZoneSaid) (index : ℕ) (local : Local) →
    (clock_at (map zone_clock zones) (Some index)).moment (local_seconds local) ≡ moment_by (slice_get zones index) local
zone-moment [] index local = refl
zone-moment (z ∷ zones) zero local = refl
zone-moment (z ∷ zones) (suc index) local = zone-moment zones index local

-- DTEND is not far from DTSTART
module _ (zones : FileZones) where
  abbrev moment_of-stamp : Option ℕ → Stamp → ℤ
  moment_of-stamp index s = (clock_by (clocks_in zones) index s).moment (stamp_seconds s)

  written-near : (i j : Option ℕ) (s e : Stamp) → IsWithin (stamp_seconds s) (stamp_seconds e) →
      moment_of-stamp j e ≤ℤ (moment_of-stamp i s +ℤ whole_days 36_529)
  written-near i j s e within =
      omega (arith, ints, within.short, (near-clock zones i s).moment (stamp_seconds s), (near-clock zones j e).moment (stamp_seconds e))

  abbrev own : List ZoneSaid
  own = map zone_said zones.zones.now

  abbrev time_by : Option ℕ → Stamp → Time
  time_by index s = record { stamp = s; zone = index }

  zoned-near : (one : Bool) (x y : ℕ) (a b : Local) → IsWithin (compared one own (time_by (Some x) (Zoned a))) (compared one own (time_by (Some y) (Zoned b)))
      → moment_of-stamp (Some y) (Zoned b) ≤ℤ (moment_of-stamp (Some x) (Zoned a) +ℤ whole_days 36_529)
  zoned-near true x y a b within = written-near (Some x) (Some y) (Zoned a) (Zoned b) within
  zoned-near false x y a b within = omega (arith, ints, within.short, zone-moment own x a, zone-moment own y b)

  -- what is known of the zones and the reach of a start and its end
  record AreEnds (i j : Option ℕ) (s e : Stamp) : Type 0 where
    zoned : (is_some i ≡ is_zoned s) × (is_some j ≡ is_zoned e)
    end : IsEnd s e
    within : (is_some i || is_some j) ≡ true → IsWithin (compared (is_one_zone i j) own (time_by i s)) (compared (is_one_zone i j) own (time_by j e))

  -- by the kinds, zones and reach of a start and its end
  stamps-near : (i j : Option ℕ) (s e : Stamp) → AreEnds i j s e → moment_of-stamp j e ≤ℤ (moment_of-stamp i s +ℤ whole_days 36_529)
  stamps-near None (Some y) (Utc a) (Zoned b) are = let short = (are.within refl).short in omega (arith, ints, short, zone-moment own y b)
  stamps-near (Some x) None (Zoned a) (Utc b) are = let short = (are.within refl).short in omega (arith, ints, short, zone-moment own x a)
  stamps-near (Some x) (Some y) (Zoned a) (Zoned b) are = zoned-near (x == y) x y a b (are.within refl)
  stamps-near i j (Date a) (Date b) are = written-near i j (Date a) (Date b) are.end
  stamps-near i j (Floating a) (Floating b) are = written-near i j (Floating a) (Floating b) are.end
  stamps-near i j (Utc a) (Utc b) are = written-near i j (Utc a) (Utc b) are.end
  stamps-near i j _ _ are = let p = are.zoned.0 in let q = are.zoned.1 in let e = are.end in absurd (search rules)

  pub ends-near : (first : Time) (length : Length) → IsTime first → IsLength first.stamp length → EndsWithin own first length →
      EndsNear (clocks_in zones) first length
  ends-near first Open t l h = tt
  ends-near first (Lasting duration) t l h = tt
  ends-near first (Until end) t l h = stamps-near first.zone end.zone first.stamp end.stamp (record { zoned = (t.zone, l.0.zone); end = l.1; within = h })

-- From where on an event can meet a window.
-- a day's midnight is not after what a stamp of the day writes
pub day-written : (s : Stamp) → midnight (day_of s) ≤ℤ stamp_seconds s
day-written (Date day) = omega (arith, ints)
day-written _ = omega (arith, ints)

-- two offsets between which a clock stays differ by less than four days
pub bounds-apart : {clock : Clock} (b : Bounds) → IsBounded clock b → (pos 0 ≤ℤ (b.most -ℤ b.least)) × ((b.most -ℤ b.least) ≤ℤ whole_days 4)
bounds-apart b h =
    let off = h.offsets (pos 0) in
    (omega (arith, ints, off.0, off.1), omega (arith, ints, h.least_short.0, h.most_short.1))

-- a duration leads no more past its seconds than they differ by
pub later-bounded : (clock : Clock) (b : Bounds) (duration : Duration) (t : ℤ) → IsBounded clock b
    → later_by clock duration t ≤ℤ ((t +ℤ pos (duration.days * 86_400 + duration.seconds)) +ℤ (b.most -ℤ b.least))
later-bounded clock b duration t h =
    let off = h.offsets t in
    let far = h.moments (local_at clock t +ℤ pos (duration.days * 86_400)) in
    omega (arith, ints, off.1, far.1)

module _ (zones : FileZones) where
  -- a duration leads less than four days past its seconds
  pub later-bound : (zone : Option ℕ) (s : Stamp) (duration : Duration) (t : ℤ)
      → later_by (clock_by (clocks_in zones) zone s) duration t <ℤ ((t +ℤ pos (duration.days * 86_400 + duration.seconds)) +ℤ whole_days 4)
  later-bound zone s duration t =
      let c : Clock = clock_by (clocks_in zones) zone s in
      let near = near-clock zones zone s in
      let off = near.offset t in
      let far = near.moment (local_at c t +ℤ pos (duration.days * 86_400)) in
      omega (arith, ints, off.0, off.1, far.0, far.1)

  -- the end lies less than four days past the start and the event's seconds
  end-bound : (first given : Time) (s : Stamp) (length : Length)
      → end_by (clocks_in zones) first given s length <ℤ ((instant (clocks_in zones) given +ℤ seconds_by (clocks_in zones) first s length) +ℤ whole_days 4)
  end-bound first given (Date day) length =
      let a = moment_near zones.display.now (midnight (day_of given.stamp +ℤ days_lasting day length)) in
      omega (arith, ints, a.0, a.1, instant-near zones given, day-written given.stamp)
  end-bound first given _ Open = omega (arith, ints)
  end-bound first given _ (Until end) = omega (arith, ints, int_max_is (pos 0) (instant (clocks_in zones) end -ℤ instant (clocks_in zones) first))
  end-bound first given _ (Lasting duration) = later-bound given.zone given.stamp duration (instant (clocks_in zones) given)

  pub seconds-least : (first : Time) (s : Stamp) (length : Length) → pos 0 ≤ℤ seconds_by (clocks_in zones) first s length
  seconds-least first (Date day) (Until end) = omega (arith, ints, int_max_is)
  seconds-least first _ (Until end) = omega (arith, ints, int_max_is)
  seconds-least first _ _ = omega (arith, ints, int_max_is)

  -- what meets the window begins at most four days before an event of this length can
  pub meets-late : (event : Event) (w : Window) (given : Time) → Meets w (entry_from (clocks_in zones) event (At given))
      → ((w.from -ℤ seconds_lasting (clocks_in zones) event) -ℤ whole_days 4) ≤ℤ instant (clocks_in zones) given
  meets-late event w given m =
      let end = end-bound event.start given event.start.stamp event.length in
      let least = seconds-least event.start event.start.stamp event.length in
      ⊎_elim (λ l. omega (arith, ints, end, least, l, int_max_is)) (λ r. omega (arith, ints, r.1, least)) m.lasting
