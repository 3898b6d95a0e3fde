-- A local means exactly one instant.
use Rattle.std.proofs.Common.{◌≡◌, inl, inr, sym, ap, ◌∙◌, arith, ℤ, pos, ◌-ℤ◌}
use Rattle.std.proofs.lemmas.Int.{ints}
use Rattle.ics_zone.specs.Moments.{IsMomentBy, IsMomentOf, zone_moment}
use Rattle.ics_zone.specs.ZoneOffsets.{zone_offset}
use Rattle.ics_zone.specs.declared.zone_observances.ZoneObservances.{ZoneObservances}
use Rattle.ics_zone.specs.Inner.ZoneBounds.{zone_short}
pub use Rattle.ics_zone.specs.Inner.MomentSearch.{moment_found}

pub moment_unique : (offset : ℤ → ℤ) (local s t : ℤ) → IsMomentBy offset local s → IsMomentBy offset local t → s ≡ t
moment_unique offset local s t (inl x) (inl y) = omega (arith, ints, x.first t y.shows, y.first s x.shows)
moment_unique offset local s t (inl x) (inr y) = absurd (y.skipped s x.shows)
moment_unique offset local s t (inr x) (inl y) = absurd (x.skipped t y.shows)
moment_unique offset local s t (inr x) (inr y) =
    let past : x.past ≡ y.past = omega (arith, ints, x.first y.past y.is_later, y.first x.past x.is_later) in
    x.before ∙ ap (λ u. local -ℤ offset (u -ℤ pos 1)) past ∙ sym y.before

-- what a moment is, it is as found
pub is_found : (zone : ZoneObservances) (local t : ℤ) → IsMomentOf zone.said.items local t → t ≡ zone_moment zone.said.items local
is_found zone local t h = moment_unique (zone_offset zone.said.items) local t (zone_moment zone.said.items local) h
    (moment_found (zone_offset zone.said.items) (zone_short zone) local)
