-- The places near a day when days are gone on to.
use Rattle.std.proofs.Common.{◌≡◌, ℕ, ◌<◌, ℤ, ◌≤ℤ◌, ◌<ℤ◌, ◌-ℤ◌, List, length, inl, inr, Option, Some, None, true, false, not, refl, sym, ◌∙◌, ap, subst, arith}
use Rattle.std.proofs.Common.{slice_get, get_or}
use Rattle.std.proofs.lemmas.Int.{int_max_is, ints}
use Rattle.std.proofs.lemmas.Option.{slice_get-get_or}
use Rattle.ics_fields.specs.Locals.{midnight}
use Rattle.ics_listing.specs.FileClocks.{Clock}
use Rattle.ics_listing.specs.Listing.{IsIn}
use Rattle.ics_listing.specs.declared.window.Window.{Window}
use Rattle.ics_listing.proofs.ListingLemmas.{get-in}
use Rattle.ics_days.specs.HasPlaces.{count_of, HasPlaces, HasPlacesAfter}
use Rattle.ics_days.specs.NearPlaces.{AreBelow, AreNear, AreReached, AreSameBut}
use Rattle.ics_days.specs.Spans.{always, can_meet, is_out, is_out_of}
use Rattle.ics_days.specs.NearDays.{IsNearDay}
use Rattle.ics_days.specs.declared.near_places.NearPlaces.{NearPlaces}
use Rattle.ics_days.specs.declared.span.Span.{Span}
use Rattle.ics_zone.proofs.Cases.{less_or_not_z}
use Rattle.ics_zone.specs.declared.bounds.Bounds.{Bounds}

-- a window near a later day begins no earlier, whatever clock ends it
pub near-from : {clock other : Clock} {w m n : Window} {b : Bounds} {x y : ℤ} → IsNearDay clock w b x m → IsNearDay other w b y n → x ≤ℤ y
    → m.from ≤ℤ n.from
near-from {w = w} {b = b} {x = x} {y = y} h k l =
    omega (arith, ints, h.from, k.from, l, int_max_is w.from (midnight x -ℤ b.most), int_max_is w.from (midnight y -ℤ b.most))

-- what a window is reached with
pub near-of : (places : NearPlaces) (spans : List Span) (w : Window) {count : ℕ} → count_of places ≡ count → length spans ≡ count
    → AreReached places.near.items spans w → AreNear spans w count places.near.items
near-of places spans w {count = count} same size reached = record {
  rises = places.rising;
  below = subst (λ n. AreBelow n places.near.items) same places.below;
  out = λ k within away. by k (slice_get spans k) refl within away;
}
  where
    by : (k : ℕ) (o : Option Span) → slice_get spans k ≡ o → k < count → (IsIn k places.near.items → ⊥) → is_out spans k w ≡ true
    by k None e within away =
        let there : Some (get_or spans k always) ≡ None = sym (slice_get-get_or spans k always (omega (arith, within, size))) ∙ e in absurd cc
    by k (Some s) e within away = ap (λ o. is_out_of o w) e ∙ ap not (reached k s e away)

-- Places are reached for a day, and those of spans that are moved on are near.
module _ {w : Window} {b : Bounds} {day : ℤ} (places : NearPlaces) (old new : List Span) (same : AreSameBut places.near.items old new) where
  pub places-moved : HasPlacesAfter w b day places old → HasPlacesAfter w b day places new
  places-moved has clock x n later near k s at away none = has clock x n later near k s (sym (same k away) ∙ at) away none

module _ {w : Window} {b : Bounds} {day next : ℤ} (old new : NearPlaces) (spans : List Span) {clock : Clock} {m : Window}
    (near : IsNearDay clock w b next m) (reached : (n : Window) → m.from ≤ℤ n.from → HasPlaces old spans n → HasPlaces new spans n) where
  pub places-next : day <ℤ next → HasPlacesAfter w b day old spans → HasPlacesAfter w b next new spans
  places-next on has other x n later h =
      reached n (near-from near h (omega (arith, ints, later))) (has other x n (omega (arith, ints, later, on)) h)

  -- also where the day stays, since nothing is near the days between
  pub places-same :
      ((x : ℤ) → day <ℤ x → x <ℤ next → (s : Span) → IsIn s spans → (c : Clock) (n : Window) → IsNearDay c w b x n → can_meet s n ≡ false)
      → HasPlacesAfter w b day old spans → HasPlacesAfter w b day new spans
  places-same none has other x n later h = elim (less_or_not_z x next) [
    | inl before ↦ λ k s at away wait. none x later before s (get-in s spans k at) other n h
    | inr on ↦ reached n (near-from near h on) (has other x n later h)
  ]
