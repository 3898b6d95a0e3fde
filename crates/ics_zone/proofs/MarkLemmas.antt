-- The marks at the onsets of an hour.
use Rattle.std.proofs.Common.{◌≡◌, ℕ, ◌+◌, ◌<◌, ◌≤◌, ◌⊎◌, ◌*◌, ◌/◌, ◌==◌, ◌&&◌, ◌||◌, inl, inr, Bool, true, false, sym, ◌∙◌, arith}
use Rattle.std.proofs.Common.{List, length, get_or, set, replicate, bit_or, ℤ, pos, ◌+ℤ◌, ◌-ℤ◌, ◌<ℤ◌, ◌≤ℤ◌, int_lt}
use Rattle.std.proofs.lemmas.Bool.{cases_lt, cases_eq, eqb-true, eq-eqb, or_cases, or_left, or_right, and_parts, both_ways}
use Rattle.std.proofs.lemmas.Int.{ints}
use Rattle.std.proofs.lemmas.List.{get_or-replicate, get_or_past, length-replicate}
use Rattle.ics_fields.specs.Sets.{contains}
use Rattle.ics_zone.specs.declared.onsets.Onsets.{Onsets}
use Rattle.ics_zone.specs.Observances.{ObservanceSaid}
use Rattle.ics_zone.specs.ZoneOffsets.{natural, IsOnset}
use Rattle.ics_zone.specs.Inner.OnsetSets.{Has}
use Rattle.ics_zone.specs.Inner.ZoneOnsets.{AreOnsetsOfAll}
use Rattle.ics_zone.specs.Inner.Marks.{is_marked, IsMarked, IsAsked, AreMarks, AreClear}
use Rattle.ics_zone.proofs.Cases.{less_or_not_z, int_lt_true}
use Rattle.ics_zone.proofs.SixtyLemmas.{contains-or}
use Rattle.ics_fields.proofs.SetLemmas.{has_none}
use Rattle.ics_zone.proofs.MinuteLemmas.{IsFront, front_is, marked-set_same, marked-set_other}
use Rattle.ics_zone.specs.Inner.Searches.{natural-is}
use Rattle.ics_zone.proofs.ZoneSteps.{observance_here, onsets_here, onsets_at}

-- an onset more that is marked
module _ (s : Onsets) (with_rule : Bool) (from : ℤ) (was now : List ℕ) (at : ℤ) (second : ℕ) (is : at ≡ from +ℤ pos second)
    (marks : (k : ℕ) → is_marked now k ≡ ((k == second) || is_marked was k)) where
  pub known_more : (before : List ℕ) → Has s at → ((k : ℕ) → IsMarked was k → IsMarked before k ⊎ Has s (from +ℤ pos k))
      → (k : ℕ) → IsMarked now k → IsMarked before k ⊎ Has s (from +ℤ pos k)
  known_more before contains old k m = grind (arith, ints, eqb-true, or_cases)

  pub complete_more : (next : ℤ) → ((t : ℤ) → IsAsked s with_rule t → at <ℤ t → next ≤ℤ t)
      → ((k : ℕ) → (from +ℤ pos k) <ℤ at → IsAsked s with_rule (from +ℤ pos k) → IsMarked was k)
      → (k : ℕ) → (from +ℤ pos k) <ℤ next → IsAsked s with_rule (from +ℤ pos k) → IsMarked now k
  complete_more next none old k early asked = grind (arith, ints, less_or_not_z, eq-eqb, or_left, or_right)

-- one minute of an hour: `part` has the seconds of its onsets that come before a count, and those are new
pub record IsMinute (New : ℕ → Type 0) (low : ℤ) (onsets was : List ℕ) (minute size part : ℕ) : Type 0 where
  pub front : IsFront minute low size (get_or onsets minute 0) part
  pub new : (k : ℕ) → k / 60 ≡ minute → pos k <ℤ low → IsMarked onsets k → New k
  pub inside : minute < length was

module _ {New : ℕ → Type 0} {low : ℤ} {onsets was : List ℕ} {minute size part : ℕ} (h : IsMinute New low onsets was minute size part) where
  abbrev with_minute : List ℕ
  with_minute = set was minute (bit_or (get_or was minute 0) part)

  in_minute : (k : ℕ) → k / 60 ≡ minute → is_marked with_minute k ≡ (is_marked was k || (int_lt (pos k) low && is_marked onsets k))
  in_minute k e = let part = front_is h.front k e in grind (arith, ints, contains-or, marked-set_same)

  stay_minute : (k : ℕ) → IsMarked was k → IsMarked with_minute k
  stay_minute k m = grind (arith, ints, cases_eq, in_minute, marked-set_other, or_left)

  pub marks_minute : (before : List ℕ) → ((k : ℕ) → IsMarked was k → IsMarked before k ⊎ New k) → (k : ℕ) → IsMarked with_minute k → IsMarked before k ⊎ New k
  marks_minute before old k m = grind (arith, ints, cases_eq, in_minute, marked-set_other, or_cases, and_parts, int_lt_true)

  -- the first seconds of the minute are marked too where there are onsets
  module _ (bound : ℕ) (most : bound ≤ 60) where
    pub clear_minute : ((k : ℕ) → k < minute * 60 → IsMarked onsets k → IsMarked was k)
        → ((n : ℕ) → n < bound → contains (get_or onsets minute 0) n ≡ true → contains (get_or with_minute minute 0) n ≡ true)
        → (k : ℕ) → k < minute * 60 + bound → IsMarked onsets k → IsMarked with_minute k
    clear_minute old first k early m = grind (arith, cases_lt, stay_minute)

-- an observance past a place has an onset at an instant, which shows no later local
abbrev IsOver : List ObservanceSaid → ℕ → ℤ → ℤ → Type 0
IsOver zone i local s = (j : ℕ) × ((q : ObservanceSaid) × (IsOnset zone j s q × ((i < j) × ((s +ℤ q.offset_to) ≤ℤ local))))

-- each marked second has such an onset, past each place before one
abbrev pub AreOverrides : List ObservanceSaid → ℕ → ℤ → ℤ → List ℕ → Type 0
AreOverrides zone place local from marks = (k i : ℕ) → IsMarked marks k → i < place → IsOver zone i local (from +ℤ pos k)

-- of the observances from a place on: each onset that shows a later local is overridden at its own instant by one that does not
abbrev pub IsClearFrom : List ObservanceSaid → ℕ → ℤ → ℤ → ℤ → Type 0
IsClearFrom zone place local after next =
    (i : ℕ) (s : ℤ) (p : ObservanceSaid) → place ≤ i → IsOnset zone i s p → after <ℤ s → s <ℤ next → local <ℤ (s +ℤ p.offset_to) → IsOver zone i local s

module _ {zone : List ObservanceSaid} {list : List Onsets} {k : ℕ} {o : Onsets} (all : AreOnsetsOfAll zone list) (inside : k < length list)
    (at_place : o ≡ get_or list k o) {local : ℤ} (after : ℤ) (before now : List ℕ) (over : AreOverrides zone (k + 1) local (after +ℤ pos 1) before)
    (marks : AreMarks o local (after +ℤ pos 1) before now) where
  overrides_more : AreOverrides zone k local (after +ℤ pos 1) now
  overrides_more m i h early = elim (marks m h) [
    | inl old ↦ over m i old (omega arith)
    | inr here ↦ (
        let there = observance_here all inside at_place in
        let of = onsets_here all inside at_place in
        (k, (there.0, ((there.1, of.known (after +ℤ pos 1 +ℤ pos m) here.0), (early, omega (arith, ints))))))
  ]

  pub clears_more : {next new : ℤ} → new ≤ℤ next → AreClear o local (after +ℤ pos 1) now new → IsClearFrom zone (k + 1) local after next
      → AreOverrides zone k local (after +ℤ pos 1) now × IsClearFrom zone k local after new
  clears_more less clear old = (
    overrides_more,
    λ i s p from h late early later. elim (cases_lt k i) [
      | inl more ↦ old i s p (omega arith) h late (omega (arith, ints)) later
      | inr not_more ↦ (
          let same : i ≡ k = omega arith in
          let of = onsets_at all inside at_place p (rw same at h.0) in
          let m = natural (s -ℤ (after +ℤ pos 1)) in
          let at : after +ℤ pos 1 +ℤ pos m ≡ s = omega (arith, ints, natural-is (s -ℤ (after +ℤ pos 1)) (omega (arith, ints))) in
          elim (marks m (clear m (rw at (of.complete s h.1)) (omega (arith, ints)) (omega (arith, ints)))) [
            | inl mark ↦ rw at at (over m i mark (omega arith))
            | inr now_low ↦ absurd (omega (arith, ints))
          ])
    ],
  )

-- an observance past a place has an onset at an instant, which begins an offset
abbrev IsBegun : List ObservanceSaid → ℕ → ℤ → ℤ → Type 0
IsBegun zone i offset s = (j : ℕ) × ((q : ObservanceSaid) × (IsOnset zone j s q × ((i < j) × (offset ≡ q.offset_to))))

-- each marked second has such an onset, past each place before one
abbrev pub AreBegun : List ObservanceSaid → ℕ → ℤ → ℤ → List ℕ → Type 0
AreBegun zone place offset from marks = (k i : ℕ) → IsMarked marks k → i < place → IsBegun zone i offset (from +ℤ pos k)

-- of the observances from a place on: each onset begins an offset, or is overridden at its own instant by one that does
abbrev pub StayFrom : List ObservanceSaid → ℕ → ℤ → ℤ → ℤ → Type 0
StayFrom zone place offset after next =
    (i : ℕ) (s : ℤ) (p : ObservanceSaid) → place ≤ i → IsOnset zone i s p → after <ℤ s → s <ℤ next → (offset ≡ p.offset_to) ⊎ IsBegun zone i offset s

module _ {zone : List ObservanceSaid} {list : List Onsets} {k : ℕ} {o : Onsets} (all : AreOnsetsOfAll zone list) (inside : k < length list)
    (at_place : o ≡ get_or list k o) {local offset : ℤ} (after : ℤ) (before now : List ℕ)
    (side : (o.offset_to ≡ offset) ⊎ ((m : ℕ) → local <ℤ (after +ℤ pos 1 +ℤ pos m +ℤ o.offset_to)))
    (over : AreBegun zone (k + 1) offset (after +ℤ pos 1) before) (marks : AreMarks o local (after +ℤ pos 1) before now) where
  begun_more : AreBegun zone k offset (after +ℤ pos 1) now
  begun_more m i h early = elim (marks m h) [
    | inl old ↦ over m i old (omega arith)
    | inr here ↦ elim side [
      | inl own ↦ (
          let there = observance_here all inside at_place in
          let of = onsets_here all inside at_place in
          (k, (there.0, ((there.1, of.known (after +ℤ pos 1 +ℤ pos m) here.0), (early, sym own ∙ of.to)))))
      | inr other ↦ absurd (let late = other m in let low = here.1 in omega (arith, ints, late, low))
    ]
  ]

  pub stay_more : {next new : ℤ} → new ≤ℤ next → AreClear o local (after +ℤ pos 1) now new → StayFrom zone (k + 1) offset after next
      → AreBegun zone k offset (after +ℤ pos 1) now × StayFrom zone k offset after new
  stay_more less clear old = (
    begun_more,
    λ i s p from h late early. elim (cases_lt k i) [
      | inl more ↦ old i s p (omega arith) h late (omega (arith, ints))
      | inr not_more ↦ (
          let same : i ≡ k = omega arith in
          let of = onsets_at all inside at_place p (rw same at h.0) in
          elim side [
            | inl own ↦ inl (sym own ∙ of.to)
            | inr other ↦ (
                let m = natural (s -ℤ (after +ℤ pos 1)) in
                let at : after +ℤ pos 1 +ℤ pos m ≡ s = omega (arith, ints, natural-is (s -ℤ (after +ℤ pos 1)) (omega (arith, ints))) in
                elim (marks m (clear m (rw at (of.complete s h.1)) (omega (arith, ints)) (other m))) [
                  | inl mark ↦ inr (rw at at (over m i mark (omega arith)))
                  | inr low ↦ absurd (let late = other m in let l = low.1 in omega (arith, ints, late, l))
                ])
          ])
    ],
  )

-- nothing is marked at first
pub none_marked : (size k : ℕ) → is_marked (replicate size 0) k ≡ false
none_marked size k = grind (arith, cases_lt, has_none, get_or-replicate, get_or_past, length-replicate)

-- of the observances past the last nothing is said
pub begun_none : (zone : List ObservanceSaid) (place size : ℕ) (offset from : ℤ) → AreBegun zone place offset from (replicate size 0)
begun_none zone place size offset from k i h early = absurd (both_ways (is_marked (replicate size 0) k) (none_marked size k) h)

pub overrides_none : (zone : List ObservanceSaid) (place size : ℕ) (local from : ℤ) → AreOverrides zone place local from (replicate size 0)
overrides_none zone place size local from k i h early = absurd (both_ways (is_marked (replicate size 0) k) (none_marked size k) h)
