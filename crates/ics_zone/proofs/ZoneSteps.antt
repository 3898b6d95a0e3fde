-- The steps of the loops over the observances of a zone.
use Rattle.std.proofs.Common.{◌≡◌, ℕ, ◌+◌, ◌<◌, ◌≤◌, ◌⊎◌, inl, inr, Bool, sym, ap, ◌∙◌, arith, List, length, get_or, Option, Some}
use Rattle.std.proofs.Common.{set, length-set, get_or-set_same, get_or-set_other, None, slice_get, ℤ, pos, ◌+ℤ◌, ◌-ℤ◌, ◌<ℤ◌, ◌≤ℤ◌, MatchOption, false, All}
use Rattle.std.specs.Int.{int_max}
use Rattle.std.proofs.lemmas.Bool.{cases_eq}
use Rattle.std.proofs.lemmas.Int.{ints, clamps}
use Rattle.std.proofs.lemmas.Option.{slice_get_cases, slice_get_within}
use Rattle.ics_zone.specs.declared.latest.Latest.{Latest}
use Rattle.ics_zone.specs.declared.onsets.Onsets.{Onsets}
use Rattle.ics_zone.specs.Observances.{ObservanceSaid}
use Rattle.ics_zone.specs.ZoneOffsets.{IsOnset, IsNotLater}
use Rattle.ics_zone.specs.Inner.Latest.{IsLast}
use Rattle.ics_zone.specs.Inner.OnsetSets.{Has, IsSound, AreOnsetsOf}
use Rattle.ics_zone.specs.Inner.ZoneOnsets.{AreOnsetsOfAll, IsLatest, IsLatestOf, IsLatestWithin, IsFirst, IsOverridden, KeepOffset, StayOffset}
use Rattle.ics_zone.proofs.Cases.{below_or_at, less_or_not_z}

-- each place of a zone has an observance
pub observance_there : (zone : List ObservanceSaid) (k : ℕ) → k < length zone → (p : ObservanceSaid) × (slice_get zone k ≡ Some p)
observance_there zone k h = elim (slice_get_cases zone k).1 [ inl is ↦ (is.0, is.2) | inr past ↦ absurd (omega (arith, h, past.0)) ]

-- what is kept of each observance is sound
pub all_sound : (zone : List ObservanceSaid) (list : List Onsets) → AreOnsetsOfAll zone list → All IsSound list
all_sound zone list all k d h = let here = observance_there zone k (omega arith) in (all.each k here.0 d here.1).sound

-- what is kept of one observance may be otherwise
pub onsets_set : {zone : List ObservanceSaid} {list : List Onsets} {k : ℕ} (was now : Onsets) → AreOnsetsOfAll zone list → k < length list
    → ((p : ObservanceSaid) → AreOnsetsOf p (get_or list k was) → AreOnsetsOf p now) → AreOnsetsOfAll zone (set list k now)
onsets_set {zone = zone} {list = list} {k = k} was now all inside same = record {
  same_length = length-set list k now ∙ all.same_length;
  each = λ i p d there. elim (cases_eq i k) [
    | inl here ↦ rw (here, get_or-set_same list k now d inside) (same p (all.each k p was (rw here at there)))
    | inr other ↦ rw (get_or-set_other list k i now d other) (all.each i p d there)
  ];
}

-- of the observances before a place: no onset between two instants begins an offset that shows a later local
abbrev pub IsNextPastTo : List ObservanceSaid → ℕ → ℤ → ℤ → ℤ → Type 0
IsNextPastTo zone count local after next =
    (i : ℕ) (s : ℤ) (p : ObservanceSaid) → i < count → IsOnset zone i s p → after <ℤ s → s <ℤ next → (s +ℤ p.offset_to) ≤ℤ local

-- of the observances before a place: each onset that is after one instant and before another begins the same offset
abbrev pub KeepOffsetTo : List ObservanceSaid → ℕ → ℤ → ℤ → ℤ → Type 0
KeepOffsetTo zone count offset after next =
    (i : ℕ) (s : ℤ) (p : ObservanceSaid) → i < count → IsOnset zone i s p → after <ℤ s → (offset ≡ p.offset_to) ⊎ (next ≤ℤ s)

-- of the observances before a place: the onsets of those with an offset, not after t, are less than another
abbrev pub AreLessTo : List ObservanceSaid → ℕ → ℤ → ℤ → ℤ → ℕ → Type 0
AreLessTo zone count offset t at place =
    (i : ℕ) (s : ℤ) (p : ObservanceSaid) → i < count → IsOnset zone i s p → p.offset_to ≡ offset → s ≤ℤ t → (s <ℤ at) ⊎ ((s ≡ at) × (i < place))

-- the last onset of the observance at a place that is not after an instant, with that place and the offset after it
pub record IsLastOnset (k : ℕ) (o : Onsets) (t : ℤ) (e : Latest) : Type 0 where
  pub place : e.place ≡ k
  pub offset : e.offset ≡ o.offset_to
  pub last : IsLast (Has o) t e.at

-- where each onset up to an instant begins an offset, none is to be overridden
pub keep_stays : (zone : List ObservanceSaid) {offset after next : ℤ} → KeepOffset zone offset after next → StayOffset zone offset after next
keep_stays zone keep i s p h late early = elim (keep i s p h late) [ inl same ↦ inl same | inr past ↦ absurd (omega (arith, ints, past, early)) ]

-- two such times, of which the first reaches to the second
pub stay_on : (zone : List ObservanceSaid) {offset after next begin end : ℤ} (to : ℤ) → StayOffset zone offset after next → StayOffset zone offset begin end
    → begin <ℤ next → to ≤ℤ end → StayOffset zone offset after to
stay_on zone {next = next} to first second meets within i s p h late early = elim (less_or_not_z s next) [
  | inl less ↦ first i s p h late less
  | inr more ↦ second i s p h (omega (arith, ints, more, meets)) (omega (arith, ints, early, within))
]

module _ {zone : List ObservanceSaid} {list : List Onsets} {k : ℕ} {o : Onsets} (all : AreOnsetsOfAll zone list) (inside : k < length list)
    (at_place : o ≡ get_or list k o) where
  -- what is there is kept of the observance there
  pub onsets_at : (p : ObservanceSaid) → slice_get zone k ≡ Some p → AreOnsetsOf p o
  onsets_at p there = rw at_place (all.each k p o there)

  pub observance_here : (p : ObservanceSaid) × (slice_get zone k ≡ Some p)
  observance_here = observance_there zone k (omega arith)

  pub onsets_here : AreOnsetsOf observance_here.0 o
  onsets_here = onsets_at observance_here.0 observance_here.1

  -- an onset of the observances up to here is of one before, or of this one
  pub split : (i : ℕ) (s : ℤ) (p : ObservanceSaid) → IsOnset zone i s p → i < k + 1 → (i < k) ⊎ ((i ≡ k) × (Has o s × (o.offset_to ≡ p.offset_to)))
  split i s p h early = elim (below_or_at i k (omega arith)) [
    | inl less ↦ inl less
    | inr same ↦ inr (let of = onsets_at p (rw same at h.0) in (same, (of.complete s h.1, of.to)))
  ]

  module _ (t : ℤ) where
    -- the greatest onset stays so where none of this observance is later
    wider : {f : Latest} → IsLatest zone t k f → ((s : ℤ) → Has o s → s ≤ℤ t → IsNotLater s k f.at f.place) → IsLatest zone t (k + 1) f
    wider before not_later = record {
      observance = before.observance;
      onset = before.onset;
      offset = before.offset;
      before = omega arith;
      not_after = before.not_after;
      greatest = λ i s p l h early. let at = split i s p h l in let low = before.greatest i s p in grind (arith, ints);
    }

    this_one : {e : Latest} → IsLastOnset k o t e
        → ((i : ℕ) (s : ℤ) (p : ObservanceSaid) → i < k → IsOnset zone i s p → s ≤ℤ t → s ≤ℤ e.at) → IsLatest zone t (k + 1) e
    this_one {e = e} its none = let last = its.last in record {
      observance = observance_here.0;
      onset = (ap (slice_get zone) its.place ∙ observance_here.1, onsets_here.known e.at last.is);
      offset = its.offset ∙ onsets_here.to;
      before = omega arith;
      not_after = last.not_after;
      greatest = λ i s p l h early. let at = split i s p h l in let low = none i s p in let here = last.last s in grind (arith, ints, less_or_not_z);
    }

    pub latest_none : (old : Option Latest) → IsLatestOf zone t k old → ((u : ℤ) → Has o u → t <ℤ u) → IsLatestOf zone t (k + 1) old
    latest_none None before none = λ i s p l h. let at = split i s p h l in let low = before i s p in grind (arith, ints)
    latest_none (Some f) before none = wider before (λ s contains early. absurd (let late = none s contains in omega (arith, ints)))

    pub latest_some : {e new : Latest} (old : Option Latest) → IsLatestOf zone t k old
        → MatchOption old (new ≡ e) (λ f. ((new ≡ e) × (f.at ≤ℤ e.at)) ⊎ ((new ≡ f) × (e.at <ℤ f.at))) → IsLastOnset k o t e → IsLatest zone t (k + 1) new
    latest_some None before is its = rw is (this_one its (λ i s p l h early. absurd (let late = before i s p l h in omega (arith, ints))))
    latest_some (Some f) before (inl is) its =
        rw (is.0) (this_one its (λ i s p l h early. let low = before.greatest i s p l h early in grind (arith, ints)))
    latest_some (Some f) before (inr is) its =
        rw (is.0) (wider before (λ s contains early. inl (let low = its.last.last s contains early in omega (arith, ints))))

    -- the same after an instant, where the next are looked at from the greatest on
    module _ (after from : ℤ) where
      abbrev pub IsBegun : Option Latest → Type 0
      IsBegun old = MatchOption old (from ≡ after) (λ f. after <ℤ f.at → from ≡ f.at -ℤ pos 1)

      pub within_none : (old : Option Latest) → IsBegun old → IsLatestWithin zone after t k old
          → ((u : ℤ) → Has o u → u ≤ℤ t → u ≤ℤ from) → IsLatestWithin zone after t (k + 1) old
      within_none None begun before none = λ i s p l h early. let at = split i s p h l in let low = before i s p in grind (arith, ints)
      within_none (Some f) begun before none =
          (wider before.0 (λ s contains early. inl (let out = none s contains early in let is = begun before.1 in omega (arith, ints))), before.1)

      pub within_some : {e new : Latest} (old : Option Latest) → IsBegun old → IsLatestWithin zone after t k old
          → MatchOption old (new ≡ e) (λ f. ((new ≡ e) × (f.at ≤ℤ e.at)) ⊎ ((new ≡ f) × (e.at <ℤ f.at))) → IsLastOnset k o t e → from <ℤ e.at
          → IsLatest zone t (k + 1) new × (after <ℤ new.at)
      within_some None begun before is its in_window =
          rw is (this_one its (λ i s p l h early. let out = before i s p l h early in omega (arith, ints)), omega (arith, ints))
      within_some (Some f) begun before is its in_window = (latest_some (Some f) before.0 is its, grind (arith, ints))

  -- one more observance, which begins the same offset or has no onset there
  pub same_kept : {offset after next : ℤ} → o.offset_to ≡ offset → KeepOffsetTo zone k offset after next → KeepOffsetTo zone (k + 1) offset after next
  same_kept same before i s p l h late = elim (split i s p h l) [
    | inl less ↦ before i s p less h late
    | inr at ↦ inl (sym same ∙ at.1.1)
  ]

  pub none_kept : {offset after next new : ℤ} → new ≤ℤ next → ((t : ℤ) → Has o t → after <ℤ t → new ≤ℤ t) → KeepOffsetTo zone k offset after next
      → KeepOffsetTo zone (k + 1) offset after new
  none_kept less first before i s p l h late = elim (split i s p h l) [
    | inl early ↦ elim (before i s p early h late) [ inl same ↦ inl same | inr past ↦ inr (omega (arith, ints)) ]
    | inr at ↦ inr (first s at.1.0 late)
  ]

  -- the onsets of one more are less than another
  module _ {offset t at : ℤ} {place : ℕ} (before : AreLessTo zone k offset t at place) where
    pub less_other : (o.offset_to ≡ offset → ⊥) → AreLessTo zone (k + 1) offset t at place
    less_other other i s p l h is early = let here = split i s p h l in let low = before i s p in grind (arith, ints)

    pub less_more : (at_once : Bool) → (at_once ≡ false → k < place)
        → ((s : ℤ) → Has o s → s ≤ℤ t → (s <ℤ at) ⊎ ((s ≡ at) × (at_once ≡ false))) → AreLessTo zone (k + 1) offset t at place
    less_more at_once lower less i s p l h is early =
        let here = split i s p h l in let low = before i s p in let small = less s in grind (arith, ints)

  -- its first onset is the least of all, where it is not later than those of the observances before
  pub first_here : {at new : ℤ} {count : ℕ} → k ≤ count → Has o at → new ≡ o.offset_from
      → ((i : ℕ) (s : ℤ) (p : ObservanceSaid) → i < count → IsOnset zone i s p → IsNotLater at k s i) → IsFirst zone count at new
  first_here {at = at} in_bound is from least = record {
    place = k;
    in_bound = in_bound;
    observance = observance_here.0;
    onset = (observance_here.1, onsets_here.known at is);
    least = least;
    is = from ∙ onsets_here.from;
  }

  module _ {first at offset : ℤ} (is : Has o at) (least : (t : ℤ) → Has o t → at ≤ℤ t) (before : IsFirst zone k first offset) where
    pub first_now : {new : ℤ} → at <ℤ first → new ≡ o.offset_from → IsFirst zone (k + 1) at new
    first_now less from = first_here (omega arith) is from (λ i s p l h.
        let here = split i s p h l in let low = before.least i s p in let high = least s in grind (arith, ints, less_or_not_z))

    pub first_before : first ≤ℤ at → IsFirst zone (k + 1) first offset
    first_before more = record {
      place = before.place;
      in_bound = omega arith;
      observance = before.observance;
      onset = before.onset;
      is = before.is;
      least = λ i s p l h. let here = split i s p h l in let low = before.least i s p in let high = least s in grind (arith, ints, less_or_not_z);
    }

  -- the next onset of this observance that shows a later local
  module _ {local after from next : ℤ} (past : from ≡ int_max after (local -ℤ o.offset_to)) (before : IsNextPastTo zone k local after next) where
    pub past_now : {new : ℤ} → new ≤ℤ next → ((t : ℤ) → Has o t → from <ℤ t → new ≤ℤ t) → IsNextPastTo zone (k + 1) local after new
    past_now less first i s p l h late early =
        let here = split i s p h l in let low = before i s p in grind (arith, ints, clamps, less_or_not_z)

    pub past_before : after <ℤ next → next ≤ℤ from → IsNextPastTo zone (k + 1) local after next
    past_before more none i s p l h late early = let here = split i s p h l in let low = before i s p in grind (arith, ints, clamps)

-- an onset that is greater than all those of the observances with an offset overrides them
pub overridden_by : {zone : List ObservanceSaid} {list : List Onsets} {count place : ℕ} {t at offset : ℤ} → AreOnsetsOfAll zone list → length list ≤ count
    → (p : ObservanceSaid) × IsOnset zone place at p → at ≤ℤ t → AreLessTo zone count offset t at place → IsOverridden zone t offset
overridden_by {zone = zone} {place = place} {at = at} all past onset not_after less = record {
  place = place;
  at = at;
  observance = onset.0;
  onset = onset.1;
  not_after = not_after;
  greater = λ i s p h is early. less i s p (let count = all.same_length in omega (arith, slice_get_within zone i p h.0)) h is early;
}
