-- The offset in force, and the instant at which a clock jumps over a local.
use Rattle.std.proofs.Common.{◌≡◌, ◌≢◌, ℕ, zero, suc, ◌<◌, inl, inr, Bool, cond, refl, sym, ◌∙◌, arith, List, [], ◌∷◌, ◌++◌, length, Some, None}
use Rattle.std.proofs.Common.{Contains, All, true, false, ℤ, pos, ◌+ℤ◌, ◌-ℤ◌, ◌<ℤ◌, ◌≤ℤ◌, ap}
use Rattle.std.proofs.lemmas.Int.{ints}
use Rattle.std.specs.List.Sorted.{IsPermutation}
use Rattle.std.proofs.lemmas.List.Elements.{All-push}
use Rattle.std.proofs.lemmas.List.Sorted.{All-permutation}
use Rattle.std.proofs.lemmas.Option.{slice_get_within}
use Rattle.ics_zone.specs.declared.latest.Latest.{Latest}
use Rattle.ics_zone.specs.declared.latest.Steady.{Steady}
use Rattle.ics_zone.specs.declared.zone_observances.ZoneObservances.{ZoneObservances}
use Rattle.ics_zone.specs.declared.onsets.Onsets.{Onsets}
use Rattle.ics_zone.specs.declared.seconds.OffsetEachSecond.{OffsetEachSecond}
use Rattle.ics_zone.specs.Observances.{ObservanceSaid}
use Rattle.ics_zone.specs.ZoneOffsets.{natural, IsOnset, IsInForce, IsBeforeAll, IsOffset, zone_offset, IsNotLater}
use Rattle.ics_zone.specs.Moments.{shown, IsFirstTime}
use Rattle.ics_zone.specs.Inner.ZoneOnsets.{HaveOffsets, IsKnown, IsLatest, IsLatestOf, IsFirstOffset, IsNextPast, IsClear, IsJump, IsSteady, IsOverridden}
use Rattle.ics_zone.specs.Inner.ZoneOnsets.{AreSteady, StayOffset}
use Rattle.ics_zone.specs.Inner.EachSecond.{TellsOffsets}
use Rattle.ics_zone.specs.Inner.ZoneBounds.{zone_short}
use Rattle.ics_zone.specs.Inner.Searches.{natural-is}
use Rattle.ics_zone.proofs.OnsetLemmas.{offset_found}
use Rattle.ics_zone.proofs.Cases.{less_or_not_z}
use Rattle.ics_zone.proofs.WalkLemmas.{steady_pushed}

-- two onsets neither of which is later are one
one_onset : {i j : ℕ} {s t : ℤ} {p q : ObservanceSaid} (zone : List ObservanceSaid) → IsOnset zone i s p → IsOnset zone j t q
    → IsNotLater s i t j → IsNotLater t j s i → p ≡ q
one_onset zone x y h l = grind (arith, ints)

-- an onset that is not after t lies after no onset that comes before all
not_both : (zone : List ObservanceSaid) (t : ℤ) (p q : ObservanceSaid) → IsInForce zone t p → IsBeforeAll zone t q → ⊥
not_both zone t p q x y = let least = y.least x.place x.since p x.onset in grind (arith, ints)

-- a zone has at most one offset at an instant
pub offset_unique : (zone : List ObservanceSaid) (t a b : ℤ) → IsOffset zone t a → IsOffset zone t b → a ≡ b
offset_unique zone t a b (inl (p, x, e)) (inl (q, y, f)) = e ∙ ap (λ p. p.offset_to) (one_onset zone x.onset y.onset
    (y.greatest x.place x.since p x.onset x.not_after) (x.greatest y.place y.since q y.onset y.not_after)) ∙ sym f
offset_unique zone t a b (inl x) (inr y) = absurd (not_both zone t x.0 y.0 x.1 y.1)
offset_unique zone t a b (inr x) (inl y) = absurd (not_both zone t y.0 x.0 y.1 x.1)
offset_unique zone t a b (inr (p, x, e)) (inr (q, y, f)) = e ∙ ap (λ p. p.offset_from) (one_onset zone x.onset y.onset
    (x.least y.place y.first q y.onset) (y.least x.place x.first p x.onset)) ∙ sym f

-- what a clock shows of a local that it skips
module _ (offset : ℤ → ℤ) (local : ℤ) (skipped : (t : ℤ) → shown offset t ≢ local) where
  unless_later : (t : ℤ) → shown offset t ≤ℤ local → shown offset t <ℤ local
  unless_later t h = grind (arith, ints, less_or_not_z)

  module _ (next : ℤ) (before : (s : ℤ) → s <ℤ next → shown offset s <ℤ local) where
    pub jump_at_next : local <ℤ shown offset next → IsJump offset local next
    jump_at_next later = record { is_later = later; first = λ s l. let low = before s in grind (arith, ints, less_or_not_z) }

    pub earlier_at_next : shown offset next ≤ℤ local → (s : ℤ) → s ≤ℤ next → shown offset s <ℤ local
    earlier_at_next not_later s l = let low = before s in grind (arith, ints, less_or_not_z, unless_later)

module _ (observances : ZoneObservances) (some : 0 < length observances.said.items) where
  abbrev zone : List ObservanceSaid
  zone = observances.said.items

  pub is_offset : (t : ℤ) → IsOffset zone t (zone_offset zone t)
  is_offset t = offset_found zone observances.in_bounds t (λ e. let none = ap length e in omega (arith, some, none))

  -- what is in force, and what is before all onsets, gives the offset
  pub in_force_is : (t : ℤ) (p : ObservanceSaid) → IsInForce zone t p → p.offset_to ≡ zone_offset zone t
  in_force_is t p f = offset_unique zone t p.offset_to (zone_offset zone t) (inl (p, f, refl)) (is_offset t)

  before_all_is : (t : ℤ) (p : ObservanceSaid) → IsBeforeAll zone t p → p.offset_from ≡ zone_offset zone t
  before_all_is t p f = offset_unique zone t p.offset_from (zone_offset zone t) (inr (p, f, refl)) (is_offset t)

  -- an onset in force that is within such a time begins the offset: it is not overridden at its own instant
  stays : (t next offset u : ℤ) (p : ObservanceSaid) → StayOffset zone offset t next → (f : IsInForce zone u p) → t <ℤ f.since → u <ℤ next
      → offset ≡ p.offset_to
  stays t next offset u p stay f late high =
      let now = f.not_after in
      elim (stay f.place f.since p f.onset late (omega (arith, ints, now, high))) [
        | inl same ↦ same
        | inr over ↦ absurd (
            let not_greater = f.greatest over.0 f.since over.1.0 over.1.1.0 now in let after = over.1.1.1.0 in grind (arith, ints))
      ]

  -- the greatest onset of all observances begins a span in which its offset holds, up to where the next other offset may begin
  pub steady_since : (t next : ℤ) (e : Latest) → StayOffset zone e.offset t next → IsLatest zone t (length zone) e
      → IsSteady (zone_offset zone) e.at next e.offset
  steady_since t next e stay h u low high = elim (is_offset u) [
    | inl x ↦ elim (less_or_not_z t x.1.since) [
      | inl late ↦ stays t next e.offset u x.0 stay x.1 late high ∙ sym x.2
      | inr early ↦ h.offset ∙ ap (λ p. p.offset_to) (one_onset zone h.onset x.1.onset (x.1.greatest e.place e.at h.observance h.onset low)
          (h.greatest x.1.place x.1.since x.0 (slice_get_within zone x.1.place x.0 x.1.onset.0) x.1.onset early)) ∙ sym x.2
    ]
    | inr x ↦ absurd (let least = x.1.least e.place e.at h.observance h.onset in let before = x.1.before in grind (arith, ints))
  ]

  pub latest_is : (t : ℤ) (e : Latest) → IsLatestOf zone t (length zone) (Some e) → e.offset ≡ zone_offset zone t
  latest_is t e h = steady_since t (t +ℤ pos 1) e (λ i s p g l early. absurd (omega (arith, ints))) h t h.not_after (omega (arith, ints))

  pub none_is : (t offset : ℤ) → IsLatestOf zone t (length zone) None → IsFirstOffset zone offset → offset ≡ zone_offset zone t
  none_is t offset h (at, f) = f.is ∙ before_all_is t f.observance (record {
    place = f.place;
    first = at;
    onset = f.onset;
    before = h f.place at f.observance (slice_get_within zone f.place f.observance f.onset.0) f.onset;
    least = λ i s p g. f.least i s p (slice_get_within zone i p g.0) g;
  })

  -- before all onsets it is one offset, up to where the first other may begin
  pub steady_before : (t next from offset : ℤ) → IsLatestOf zone t (length zone) None → StayOffset zone offset t next → IsFirstOffset zone offset
      → IsSteady (zone_offset zone) from next offset
  steady_before t next from offset none stay first u low high = elim (is_offset u) [
    | inl x ↦ (
        let late = none x.1.place x.1.since x.0 (slice_get_within zone x.1.place x.0 x.1.onset.0) x.1.onset in
        stays t next offset u x.0 stay x.1 late high ∙ sym x.2)
    | inr x ↦ (
        let f = first.1 in
        f.is ∙ ap (λ p. p.offset_from) (one_onset zone f.onset x.1.onset
        (f.least x.1.place x.1.first x.0 (slice_get_within zone x.1.place x.0 x.1.onset.0) x.1.onset) (x.1.least f.place first.0 f.observance f.onset))
        ∙ sym x.2)
  ]

  -- each offset of the zone is one of its observances
  pub offsets_found : (offsets : List ℤ) → HaveOffsets offsets zone → (t : ℤ) → Contains offsets (zone_offset zone t)
  offsets_found offsets have t = elim (is_offset t) [
    | inl h ↦ rw (h.2) (have h.1.place h.0 h.1.onset.0).to
    | inr h ↦ rw (h.2) (have h.1.place h.0 h.1.onset.0).from
  ]

  -- where a greater onset overrides all those of the observances with an offset, the zone has another
  pub overridden_other : (t offset : ℤ) → IsOverridden zone t offset → zone_offset zone t ≢ offset
  overridden_other t offset over e = elim (is_offset t) [
    | inl h ↦ (
        let not_later = h.1.greatest over.place over.at over.observance over.onset over.not_after in
        let less = over.greater h.1.place h.1.since h.0 h.1.onset (sym h.2 ∙ e) h.1.not_after in grind (arith, ints))
    | inr h ↦ (let least = h.1.least over.place over.at over.observance over.onset in grind (arith, ints))
  ]

  module _ (local : ℤ) (skipped : (t : ℤ) → shown (zone_offset zone) t ≢ local) (after next : ℤ)
      (earlier : (t : ℤ) → t ≤ℤ after → shown (zone_offset zone) t <ℤ local) (none : IsClear zone local after next) where
    -- a second after an earlier local the clock shows none later: under the same offset it would show this one, and no onset moves it on
    one_more : (s : ℤ) → after <ℤ s → s <ℤ next → shown (zone_offset zone) (s -ℤ pos 1) <ℤ local → IsOffset zone s (zone_offset zone s)
        → shown (zone_offset zone) s ≤ℤ local
    one_more s late early before (inl (p, f, is)) = elim (less_or_not_z f.since s) [
      | inl old ↦ (
          let same = in_force_is (s -ℤ pos 1) p (record {
            place = f.place;
            since = f.since;
            onset = f.onset;
            not_after = omega (arith, ints);
            greatest = λ i u q g l. f.greatest i u q g (omega (arith, ints));
          }) in
          omega (arith, ints))
      | inr now ↦ elim (less_or_not_z local (f.since +ℤ p.offset_to)) [
        | inr low ↦ omega (arith, ints)
        | inl past ↦ absurd (
            let over = none f.place f.since p f.onset (omega (arith, ints)) (omega (arith, ints)) past in
            let not_greater = f.greatest over.0 f.since over.1.0 over.1.1.0 f.not_after in grind (arith, ints))
      ]
    ]
    one_more s late early before (inr (p, f, is)) =
        let same = before_all_is (s -ℤ pos 1) p
        (record { place = f.place; first = f.first; onset = f.onset; before = omega (arith, ints); least = f.least }) in
        omega (arith, ints)

    -- so it shows earlier ones second by second, up to the next onset that may show a later one
    counted : (n : ℕ) (s : ℤ) → s ≡ after +ℤ pos n → s <ℤ next → shown (zone_offset zone) s <ℤ local
    counted zero s is early = earlier s (omega (arith, ints))
    counted (suc n) s is early = unless_later (zone_offset zone) local skipped s
        (one_more s (omega (arith, ints)) early (counted n (s -ℤ pos 1) (omega (arith, ints)) (omega (arith, ints))) (is_offset s))

    pub earlier_before_next : (s : ℤ) → s <ℤ next → shown (zone_offset zone) s <ℤ local
    earlier_before_next s early = elim (less_or_not_z after s) [
      | inr old ↦ earlier s old
      | inl late ↦ (let is = natural-is (s -ℤ after) (omega (arith, ints)) in counted (natural (s -ℤ after)) s (omega (arith, ints)) early)
    ]

-- where no onset shows a later local, none is to be overridden
pub past_clear : (zone : List ObservanceSaid) (local after next : ℤ) → IsNextPast zone local after next → IsClear zone local after next
past_clear zone local after next none i s p h late early past = absurd (let low = none i s p h late early in omega (arith, ints))

-- a local is shown once where the offset holds within a day of it
pub shown_once : {from next value : ℤ} (observances : ZoneObservances) (local : ℤ) → IsSteady (zone_offset observances.said.items) from next value
    → from ≤ℤ (local -ℤ pos 86_400) → (local +ℤ pos 86_400) <ℤ next
    → IsFirstTime (zone_offset observances.said.items) local (local -ℤ value)
shown_once {value = value} observances local steady low high =
    let here = steady local (omega (arith, ints)) (omega (arith, ints)) in
    let bound = zone_short observances local in
    let is = steady (local -ℤ value) (omega (arith, ints)) (omega (arith, ints)) in
    record {
      shows = omega (arith, ints);
      first = λ s shows.
          let near = zone_short observances s in
          let same = steady s (omega (arith, ints)) (omega (arith, ints)) in
          omega (arith, ints);
    }

-- the measure of that search
pub natural_less : (end at next : ℤ) → next ≤ℤ end → at <ℤ next → natural (end -ℤ next) < natural (end -ℤ at)
natural_less end at next low less = grind (arith, ints, natural-is)

-- the spans that are held may be others
known_of : {zone : List ObservanceSaid} {onsets : List Onsets} {offsets : List ℤ} {was now : List Steady} {each : List OffsetEachSecond}
    → IsKnown zone onsets offsets was each → AreSteady (zone_offset zone) now → IsKnown zone onsets offsets now each
known_of known spans =
    record { some = known.some; asked = known.asked; all_offsets = known.all_offsets; spans = spans; each_second = known.each_second }

-- the same spans are held in another order
pub held_moved : {zone : List ObservanceSaid} {onsets : List Onsets} {offsets : List ℤ} {was now : List Steady} {each : List OffsetEachSecond}
    → IsPermutation was now → IsKnown zone onsets offsets was each → IsKnown zone onsets offsets now each
held_moved {zone = zone} {was = was} {now = now} moved known =
    known_of known (All-permutation (λ (s : Steady). IsSteady (zone_offset zone) s.from s.next s.offset) was now moved known.spans)

-- offsets at each second more are held, or none where memory is refused
pub each_more : {zone : List ObservanceSaid} {onsets : List Onsets} {offsets : List ℤ} {held : List Steady} {was now : List OffsetEachSecond}
    (each : OffsetEachSecond) (b : Bool) → now ≡ cond b (was ++ each ∷ []) was → IsKnown zone onsets offsets held was
    → TellsOffsets (zone_offset zone) each → IsKnown zone onsets offsets held now
each_more {zone = zone} {was = was} {now = now} each b is known told = record {
  some = known.some;
  asked = known.asked;
  all_offsets = known.all_offsets;
  spans = known.spans;
  each_second = rw is (all_more b);
}
  where
    all_more : (b : Bool) → All (TellsOffsets (zone_offset zone)) (cond b (was ++ each ∷ []) was)
    all_more true = All-push (TellsOffsets (zone_offset zone)) was each known.each_second told
    all_more false = known.each_second

-- a span more is held, or none where memory is refused
pub held_more : {zone : List ObservanceSaid} {onsets : List Onsets} {offsets : List ℤ} {was now : List Steady} {each : List OffsetEachSecond} (s : Steady)
    (b : Bool) → now ≡ cond b (was ++ s ∷ []) was → IsKnown zone onsets offsets was each → IsSteady (zone_offset zone) s.from s.next s.offset
    → IsKnown zone onsets offsets now each
held_more {zone = zone} {was = was} s b is known steady = known_of known (steady_pushed {offset = zone_offset zone} was s b is known.spans steady)
