-- The RDATEs at some places, those that are looked at.
use Rattle.std.proofs.Common.{◌≡◌, ℕ, zero, suc, ◌+◌, ◌-◌, ◌<◌, ◌≤◌, ℤ, pos, ◌+ℤ◌, ◌-ℤ◌, ◌<ℤ◌, ◌≤ℤ◌, List, [], ◌∷◌, ◌++◌, length, get_or, drop, None, Some}
use Rattle.std.proofs.Common.{Bool, true, false, not, ◌&&◌, ◌⊎◌, inl, inr, ⊎_elim, int_eq, int_le, slice_get, if◌then◌else◌, refl, sym, ◌∙◌, ap}
use Rattle.std.proofs.Common.{subst, arith}
use Rattle.std.specs.List.{list_any}
use Rattle.std.specs.Option.{option_map}
use Rattle.std.proofs.lemmas.Bool.{and_parts, cases_lt, false_from_ne_true, or_left, or_right}
use Rattle.std.proofs.lemmas.Int.{ints}
use Rattle.std.proofs.lemmas.List.{drop_all, length-map}
use Rattle.std.proofs.lemmas.List.Folds.{Any-from_list_any}
use Rattle.std.proofs.lemmas.Option.{slice_get-map, slice_get_cases, slice_get_read}
use Rattle.ics_event.specs.declared.event.Event.{Event}
use Rattle.ics_event.specs.Event.{stamp_seconds, Rdate, Time}
use Rattle.ics_fields.specs.Locals.{whole_days}
use Rattle.ics_listing.proofs.Cases.{equal-true, some-same}
use Rattle.ics_listing.specs.FileClocks.{Clocks}
use Rattle.ics_listing.specs.StartTimes.{time_of}
use Rattle.ics_listing.specs.declared.window.Window.{Window}
use Rattle.ics_values.specs.declared.time.Rdate.TheVariants.{At, Span}
use Rattle.ics_zone.proofs.Cases.{int_le_false, int_le_true, true_int_le}
use Rattle.ics_starts.specs.Clocks.{instant}
use Rattle.ics_starts.specs.Exclusions.{is_among, is_known}
use Rattle.ics_starts.specs.FileZones.{clocks_in, is_early, is_past}
use Rattle.ics_starts.specs.Found.{begins_at, counts, counts_since, is_over, is_running, listed_from, span_local, AreRunning}
use Rattle.ics_starts.specs.Inner.ByLocal.{count_in, place_in, rdate_locals, AreCounting, AreKnown, AreSpansNear, AreUp, IsSpanNear}
use Rattle.ics_starts.specs.Inner.ByLocal.{AreEndedBy, AreNext, HasSooner, IsEndedBy}
use Rattle.ics_starts.specs.Quiet.{IsAgain}
use Rattle.ics_starts.specs.Starts.{given_by}
use Rattle.ics_starts.specs.declared.by_local.Places.{Places}
use Rattle.ics_starts.specs.declared.zones.FileZones.{FileZones}
use Rattle.ics_starts.proofs.InstantLemmas.{instant-near}
use Rattle.ics_starts.proofs.SoughtLemmas.{listed-step}

-- what holds of two instants holds of the same ones
pub both-back : (P : ℤ → ℤ → Type 0) {a b x y : ℤ} → a ≡ x → b ≡ y → P a b → P x y
both-back P {b = b} {x = x} p q h = subst (P x) q (subst (λ t. P t b) p h)

-- a value among those of a list that passes a test stands at a place
record IsPassing {A : Type 0} (test : A → Bool) (xs : List A) : Type 0 where
  place : ℕ
  value : A
  stands : slice_get xs place ≡ Some value
  passes : test value ≡ true

passing : {A : Type 0} (test : A → Bool) (xs : List A) → list_any test xs ≡ true → IsPassing test xs
passing test xs e =
    let k = Any-from_list_any test xs e in
    record { place = k.0; value = k.1; stands = slice_get_read xs (length xs) k.0 k.1 refl k.2 (sym k.3); passes = k.4 }

-- one of some places is that of a PERIOD that begins at an instant and is not over
pub record BeginsThere (clocks : Clocks) (w : Window) (event : Event) (t : ℤ) (near : Places) : Type 0 where
  pub k : ℕ
  pub rdate : Rdate
  pub within : k < count_in near
  pub stands : slice_get event.rdates (place_in near k) ≡ Some rdate
  pub begins : begins_at clocks w t (given_by event.start rdate) ≡ true

-- a PERIOD that neither begins nor ends after a local does not after a later one
pub ended-later : {local later : ℤ} (given : Rdate) → local ≤ℤ later → IsEndedBy local given → IsEndedBy later given
ended-later (At time) l e = tt
ended-later (Span start length) l e = (omega (arith, ints, l, e.0), omega (arith, ints, l, e.1))

-- and is over, if that is six days before the window
pub ended-over : (clocks : Clocks) (w : Window) (t : ℤ) (given : Rdate) → IsEndedBy (w.from -ℤ whole_days 6) given → begins_at clocks w t given ≡ false
ended-over clocks w t (At time) e = refl
ended-over clocks w t (Span start length) e =
    rw (true_int_le (stamp_seconds start.stamp) (w.from -ℤ whole_days 6) e.0, true_int_le (span_local start length) (w.from -ℤ whole_days 6) e.1) refl

-- what stands at a place behind one more stood there, or is that one
pushed-at : (xs : List ℤ) (last other : ℤ) (k : ℕ) → slice_get (xs ++ (last ∷ [])) k ≡ Some other
    → (slice_get xs k ≡ Some other) ⊎ ((k ≡ length xs) × (other ≡ last))
pushed-at [] last other zero e = inr (refl, some-same other last (sym e))
pushed-at [] last other (suc k) e = let f : None ≡ Some other = e in absurd cc
pushed-at (x ∷ xs) last other zero e = inl e
pushed-at (x ∷ xs) last other (suc k) e = ⊎_elim inl (λ p. inr (ap suc p.0, p.1)) (pushed-at xs last other k e)

-- one RDATE more
pub ended-more : (event : Event) {n : ℕ} (last : ℤ) (xs : List ℤ) {ys : List ℤ} (x : Rdate) → slice_get event.rdates n ≡ Some x
    → IsEndedBy last (given_by event.start x) → length xs ≡ n → ys ≡ xs ++ (last ∷ []) → AreEndedBy event xs → AreEndedBy event ys
ended-more event {n = n} last xs x there ended size is each = λ k rdate other stands at.
    ⊎_elim (λ old. each k rdate other stands old)
    (λ new.
    let here : k ≡ n = new.0 ∙ size in
    let same : x ≡ rdate = some-same x rdate (sym there ∙ (ap (slice_get event.rdates) (sym here) ∙ stands)) in
    subst (λ t. IsEndedBy t (given_by event.start rdate)) (sym new.1) (subst (λ r. IsEndedBy last (given_by event.start r)) same ended))
    (pushed-at xs last other k (ap (λ zs. slice_get zs k) (sym is) ∙ at))

-- so it is, if one begins there at all, and all that do are near
pub running-near : (clocks : Clocks) (w : Window) (t : ℤ) {event : Event} {near : Places} {by to : ℤ} → AreSpansNear event by to near
    → ((given : Rdate) → begins_at clocks w t given ≡ true → IsSpanNear by to given) → is_running clocks w event t ≡ true
    → BeginsThere clocks w event t near
running-near clocks w t {event = event} all near e =
    let p = passing (λ r. begins_at clocks w t (given_by event.start r)) event.rdates e in
    let there = all.all p.place p.value p.stands (near (given_by event.start p.value) p.passes) in
    record { k = there.k; rdate = p.value; within = there.within; stands = ap (slice_get event.rdates) there.is ∙ p.stands; begins = p.passes }

-- what is read at a place stands there
pub value-at : {inside rdates : List Rdate} {at place : ℕ} {r : Rdate} → inside ≡ rdates → at ≡ place → place < length rdates → r ≡ get_or inside at r
    → slice_get rdates place ≡ Some r
value-at {rdates = rdates} {at = at} {place = place} {r = r} items is within item =
    slice_get_read rdates (length rdates) place r refl within (item ∙ (ap (λ xs. get_or xs at r) items ∙ ap (λ n. get_or rdates n r) is))

-- The locals of the values.
module _ (event : Event) where
  abbrev time : Rdate → Time
  time rdate = time_of (given_by event.start rdate)

  -- the local of a value stands at its place
  local-there : (place : ℕ) (rdate : Rdate) → slice_get event.rdates place ≡ Some rdate
      → slice_get (rdate_locals event) place ≡ Some (stamp_seconds (time rdate).stamp)
  local-there place rdate stands =
      slice_get-map (λ r. stamp_seconds (time r).stamp) event.rdates place ∙ ap (option_map (λ r. stamp_seconds (time r).stamp)) stands

  -- a place of the locals is one of the values
  pub within-rdates : (place : ℕ) → place < length (rdate_locals event) → place < length event.rdates
  within-rdates place l = subst (λ n. place < n) (length-map event.rdates (λ r. stamp_seconds (time r).stamp)) l

module _ (clocks : Clocks) (w : Window) (since from : ℤ) (event : Event) where
  -- whether the start by a value counts
  abbrev value_counts : Rdate → Bool
  value_counts r = counts_since clocks w event since from (time_of (given_by event.start r))

  -- so many values from a place on give nothing, if none of them counts
  none-of : (n next : ℕ) → next + n ≤ length event.rdates
      → ((k : ℕ) (r : Rdate) → next ≤ k → k < next + n → slice_get event.rdates k ≡ Some r → value_counts r ≡ false)
      → listed_from clocks w since from event next (drop next event.rdates) ≡ listed_from clocks w since from event (next + n) (drop (next + n) event.rdates)
  none-of zero next l h = ap (λ p. listed_from clocks w since from event p (drop p event.rdates)) (omega arith)
  none-of (suc n) next l h =
      ⊎_elim
      (λ s. listed-step clocks w since from event next event.rdates {r = s.0} false s.1 (sym s.3) (h next s.0 (omega arith) (omega arith) s.2)
      ∙ (none-of n (next + 1) (omega (arith, l)) (λ k r on below. h k r (omega (arith, on)) (omega (arith, below)))
      ∙ ap (λ p. listed_from clocks w since from event p (drop p event.rdates)) (omega arith)))
      (λ o. absurd (omega (arith, l, o.0)))
      (slice_get_cases event.rdates next).1

  -- the same of the values from a place on and before another
  none-between : (next place : ℕ) → next ≤ place → place ≤ length event.rdates
      → ((k : ℕ) (r : Rdate) → next ≤ k → k < place → slice_get event.rdates k ≡ Some r → value_counts r ≡ true → ⊥)
      → listed_from clocks w since from event next (drop next event.rdates) ≡ listed_from clocks w since from event place (drop place event.rdates)
  none-between next place l u h =
      none-of (place - next) next (omega (arith, l, u))
      (λ k r on below stands. false_from_ne_true (value_counts r) (h k r on (omega (arith, l, below)) stands))
      ∙ ap (λ p. listed_from clocks w since from event p (drop p event.rdates)) (omega (arith, l))

-- All of the values that count are at some places in order, and so many of these are before the next.
pub record ArePassed (clocks : Clocks) (w : Window) (since from : ℤ) (event : Event) (near : Places) (k next : ℕ) : Type 0 where
  pub counting : AreCounting clocks w event since from near
  pub up : AreUp (count_in near) (place_in near)
  pub passed : (j : ℕ) → j < k → place_in near j < next

module _ {clocks : Clocks} {w : Window} {since from : ℤ} {event : Event} {near : Places} {k next : ℕ}
    (passed : ArePassed clocks w since from event near k next) where
  -- so the values from the next on and before the next place give nothing
  pub to-place : (place : ℕ) → next ≤ place → place ≡ place_in near k → k < count_in near
      → listed_from clocks w since from event next (drop next event.rdates) ≡ listed_from clocks w since from event place (drop place event.rdates)
  to-place place on is l =
      none-between clocks w since from event next place on (let inside = passed.counting.within k l in omega (arith, inside, is))
      (λ i r low high stands e.
      let there = passed.counting.all i r stands e in
      elim (cases_lt there.k k) [
        | inl before ↦ let behind = passed.passed there.k before in omega (arith, behind, there.is, low)
        | inr late ↦ let above = passed.up k there.k (omega (arith, late)) there.within in omega (arith, above, there.is, is, high)
      ])

  -- and those from the next on give nothing after all places
  pub to-end : next ≤ length event.rdates → count_in near ≤ k → listed_from clocks w since from event next (drop next event.rdates) ≡ []
  to-end on all =
      none-between clocks w since from event next (length event.rdates) on (omega arith)
      (λ i r low high stands e.
      let there = passed.counting.all i r stands e in
      let behind = passed.passed there.k (omega (arith, there.within, all)) in
      omega (arith, behind, there.is, low))
      ∙ ap (listed_from clocks w since from event (length event.rdates)) (drop_all (length event.rdates) event.rdates (omega arith))

-- an instant that is known, before the window's end and less than four days from a local
record IsKnownNear (w : Window) (from : ℤ) (running : List ℤ) (local : ℤ) : Type 0 where
  t : ℤ
  known : is_known from running t ≡ true
  early : t <ℤ w.to
  low : (t -ℤ whole_days 4) ≤ℤ local
  high : local <ℤ (t +ℤ whole_days 4)

module _ (w : Window) (from : ℤ) (running : List ℤ) (soon : from <ℤ w.to) where
  known-from : (t : ℤ) → from ≤ℤ t → is_known from running t ≡ true
  known-from t l = or_left (int_le from t) (is_among running t) (true_int_le from t l)

  -- there is one for a local that is neither early nor past: the local, put between that instant and the window's end
  between-near : (local : ℤ) → from <ℤ (local +ℤ whole_days 2) → local <ℤ (w.to +ℤ whole_days 2) → IsKnownNear w from running local
  between-near local late most = by (int_le from local) (int_le w.to local) refl refl
    where
      by : (a b : Bool) → int_le from local ≡ a → int_le w.to local ≡ b → IsKnownNear w from running local
      by false b p q =
          let before = int_le_false from local p in record {
            t = from;
            known = known-from from (omega (arith, ints));
            early = soon;
            low = omega (arith, ints, late);
            high = omega (arith, ints, before);
          }
      by true true p q =
          let past = int_le_true w.to local q in record {
            t = w.to -ℤ pos 1;
            known = known-from (w.to -ℤ pos 1) (omega (arith, ints, soon));
            early = omega (arith, ints);
            low = omega (arith, ints, past);
            high = omega (arith, ints, most);
          }
      by true false p q = record {
        t = local;
        known = known-from local (int_le_true from local p);
        early = int_le_false w.to local q;
        low = omega (arith, ints);
        high = omega (arith, ints);
      }

module _ (zones : FileZones) (w : Window) where
  abbrev clocks-here : Clocks
  clocks-here = clocks_in zones

  -- a PERIOD that begins before an instant and is not over is near
  pub span-near : {by to from t : ℤ} → (by ≤ℤ (w.from -ℤ whole_days 6)) × ((from +ℤ whole_days 2) ≤ℤ to) → t <ℤ from → (given : Rdate)
      → begins_at clocks-here w t given ≡ true → IsSpanNear by to given
  span-near far early (At start) e = let f : false ≡ true = e in absurd cc
  span-near {by} {to} {from} {t} far early (Span start length) e =
      let parts = and_parts (not (is_over w start length)) (int_eq (instant clocks-here start) t) e in
      let here = equal-true (instant clocks-here start) t parts.1 in (
        lasts (int_le (stamp_seconds start.stamp) (w.from -ℤ whole_days 6)) (int_le (span_local start length) (w.from -ℤ whole_days 6)) refl refl parts.0,
        omega (arith, ints, here, early, far.1, instant-near zones start),
      )
    where
      lasts : (a b : Bool) → int_le (stamp_seconds start.stamp) (w.from -ℤ whole_days 6) ≡ a
          → int_le (span_local start length) (w.from -ℤ whole_days 6) ≡ b → not (a && b) ≡ true
          → (by <ℤ stamp_seconds start.stamp) ⊎ (by <ℤ span_local start length)
      lasts true true p q h = let f : false ≡ true = h in absurd cc
      lasts true false p q h = inr (let past = int_le_false (span_local start length) (w.from -ℤ whole_days 6) q in omega (arith, ints, past, far.0))
      lasts false b p q h = inl (let past = int_le_false (stamp_seconds start.stamp) (w.from -ℤ whole_days 6) p in omega (arith, ints, past, far.0))

  module _ (event : Event) {since from : ℤ} {running : List ℤ} (are : AreRunning clocks-here w event since from running) (soon : from <ℤ w.to) where
    -- there is one for the local of a value that counts: if it is early, the value's instant is one of those at which PERIODs begin
    counting-local : (t : Time) → counts_since clocks-here w event since from t ≡ true → IsKnownNear w from running (stamp_seconds t.stamp)
    counting-local t e = by (is_early from t) (is_past w t) refl refl parts.1
      where
        moment : ℤ
        moment = instant clocks-here t

        parts : (int_le since moment ≡ true) × (counts w from t (is_running clocks-here w event moment) ≡ true)
        parts = and_parts (int_le since moment) (counts w from t (is_running clocks-here w event moment)) e

        by : (b past : Bool) → is_early from t ≡ b → is_past w t ≡ past → (if b then is_running clocks-here w event moment else not past) ≡ true
            → IsKnownNear w from running (stamp_seconds t.stamp)
        by true past p q h =
            let before = int_le_true (stamp_seconds t.stamp +ℤ whole_days 2) from p in
            let near = instant-near zones t in
            record {
              t = moment;
              known = or_right (int_le from moment) (is_among running moment)
                  (are moment (int_le_true since moment parts.0) (omega (arith, ints, before, near)) ∙ h);
              early = omega (arith, ints, before, near, soon);
              low = omega (arith, ints, near);
              high = omega (arith, ints, near);
            }
        by false true p q h = let f : false ≡ true = h in absurd cc
        by false false p q h =
            between-near w from running soon (stamp_seconds t.stamp) (int_le_false (stamp_seconds t.stamp +ℤ whole_days 2) from p)
            (int_le_false (w.to +ℤ whole_days 2) (stamp_seconds t.stamp) q)

    -- so all that count are among the places of those near instants that are known
    pub counting-near : {near : Places} → AreKnown (rdate_locals event) from running w.to near → AreCounting clocks-here w event since from near
    counting-near {near = near} all = record {
      within = λ k l. within-rdates event (place_in near k) (all.within k l);
      all = λ place rdate stands e.
          let local = stamp_seconds (time_of (given_by event.start rdate)).stamp in
          let there = counting-local (time_of (given_by event.start rdate)) e in
          all.all there.t there.known there.early place local (local-there event place rdate stands) there.low there.high;
    }

-- no start at a value of so many places is before an instant, if it is not before another
abbrev pub AreAgainAt : Clocks → Event → ℤ → ℤ → Places → Type 0
AreAgainAt clocks event from least near = (j : ℕ) (rdate : Rdate) → j < count_in near → slice_get event.rdates (place_in near j) ≡ Some rdate
    → IsAgain clocks from least (time_of (given_by event.start rdate))

module _ (zones : FileZones) (event : Event) {from : ℤ} (near : Places) where
  -- so none at any value is, if one of these places may be that of the next
  pub next-near : {least : ℤ} → AreNext (rdate_locals event) from near → AreAgainAt (clocks_in zones) event from least near → (place : ℕ) (rdate : Rdate)
      → slice_get event.rdates place ≡ Some rdate → IsAgain (clocks_in zones) from least (time_of (given_by event.start rdate))
  next-near {least = least} all h place rdate stands late =
      ⊎_elim (λ a. h a.k rdate a.within (ap (slice_get event.rdates) a.is ∙ stands) late) after
      (all.all place (stamp_seconds here.stamp) (local-there event place rdate stands) (omega (arith, ints, late, instant-near zones here)))
    where
      here : Time
      here = time_of (given_by event.start rdate)

      after : HasSooner (rdate_locals event) from (stamp_seconds here.stamp) (count_in near) (place_in near) → least ≤ℤ instant (clocks_in zones) here
      after s =
          ⊎_elim
          (λ x.
          let other = time_of (given_by event.start x.0) in
          let is = some-same (stamp_seconds other.stamp) s.sooner (sym (local-there event (place_in near s.k) x.0 x.2) ∙ s.is) in
          let apart = instant-near zones other in
          let again = h s.k x.0 s.within x.2 (omega (arith, ints, is, s.past, apart)) in
          omega (arith, ints, again, is, apart, s.before, instant-near zones here))
          (λ o. absurd (omega (arith, o.0, within-rdates event (place_in near s.k) (all.within s.k s.within))))
          (slice_get_cases event.rdates (place_in near s.k)).1
