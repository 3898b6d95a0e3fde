-- The onsets of a zone as numbers in order, and the spans between them.
use Rattle.std.proofs.Common.{◌≡◌, ℕ, ◌+◌, ◌<◌, ◌≤◌, ◌⊎◌, inl, inr, Bool, true, false, cond, sym, ◌∙◌, arith, List, [], ◌∷◌, ◌++◌}
use Rattle.std.proofs.Common.{length, get_or, Contains, Some, ℤ, pos, ◌+ℤ◌, ◌-ℤ◌, ◌<ℤ◌, ◌≤ℤ◌}
use Rattle.std.proofs.Common.{int_cmp, refl}
use Rattle.std.specs.List.Sorted.{IsPermutation, IsSorted}
use Rattle.std.proofs.lemmas.Bool.{cases_lt, false≢true}
use Rattle.std.proofs.lemmas.Int.{ints}
use Rattle.std.proofs.lemmas.List.{get_or_default}
use Rattle.std.proofs.lemmas.List.Elements.{Contains-append_left, Contains-get_or, Contains-push, Contains-push_cases}
use Rattle.std.proofs.lemmas.List.Sorted.{IsPermutation-sym, Contains-permutation}
use Rattle.std.proofs.lemmas.Option.{slice_get_within}
use Rattle.ics_zone.specs.declared.zone_observances.ZoneObservances.{ZoneObservances}
use Rattle.ics_zone.specs.declared.onsets.Onsets.{Onsets}
use Rattle.ics_rule.specs.Kept.{is_kept}
use Rattle.ics_rule.specs.Next.{IsNextKept}
use Rattle.ics_period.specs.PeriodNumbers.{rules_end}
use Rattle.ics_period.specs.Recurrence.{Recurrence}
use Rattle.ics_zone.specs.Observances.{ObservanceSaid, instant_by}
use Rattle.ics_zone.specs.Inner.Latest.{IsInOrder}
use Rattle.ics_zone.specs.Inner.OnsetSets.{Has, IsKeptAt, IsShownBy, IsShownTo}
use Rattle.ics_zone.specs.ZoneOffsets.{IsNotLater, IsOnset, zone_offset}
use Rattle.ics_zone.specs.Inner.ZoneOnsets.{AreOnsetsOfAll, IsSteady}
use Rattle.ics_zone.specs.Inner.Tables.{onset_number, IsKeptNumber, IsNumberedBy, AreNumbered, IsTable, IsNextOf}
use Rattle.ics_zone.proofs.Cases.{less_or_not_z}
use Rattle.ics_zone.proofs.KeptLemmas.{from_kept, to_kept}
use Rattle.ics_zone.proofs.ListingLemmas.{in_order}
use Rattle.ics_zone.proofs.ZoneSteps.{observance_here, onsets_here, onsets_at, split}
use Rattle.ics_zone.proofs.JumpLemmas.{in_force_is}

-- numbers are in the order of instants, and then of places
number_order : (s t : ℤ) (i j : ℕ) → i < 16_777_216 → j < 16_777_216 → onset_number s i ≤ℤ onset_number t j → IsNotLater s i t j
number_order s t i j a b h = elim (less_or_not_z s t) [ inl less ↦ inl less | inr more ↦ inr (omega (arith, ints), omega (arith, ints)) ]

one_number : (s t : ℤ) (i j : ℕ) → i < 16_777_216 → j < 16_777_216 → onset_number s i ≡ onset_number t j → (s ≡ t) × (i ≡ j)
one_number s t i j a b h = (omega (arith, ints), omega (arith, ints))

-- a number is added, where memory is not refused
pub pushed : (was now : List ℤ) (n : ℤ) (b : Bool) → now ≡ cond b (was ++ n ∷ []) was → b ≡ true → now ≡ was ++ n ∷ []
pushed was now n true is e = is
pushed was now n false is e = absurd (false≢true e)

-- an onset of an observance more is listed
module _ (o : Onsets) (place : ℕ) (from at : ℤ) {n : ℤ} (was now : List ℤ) (is : now ≡ was ++ n ∷ []) (number : n ≡ onset_number at place) where
  pub stay_one : (m : ℤ) → Contains was m → Contains now m
  stay_one m h = rw is (Contains-append_left was (n ∷ []) m h)

  pub known_more : (before : List ℤ) (last : ℤ) → Has o at → from ≤ℤ at → at ≤ℤ last
      → ((m : ℤ) → Contains was m → Contains before m ⊎ IsNumberedBy o place from last m)
      → (m : ℤ) → Contains now m → Contains before m ⊎ IsNumberedBy o place from last m
  known_more before last onset late early old m h =
      let there : Contains (was ++ n ∷ []) m = rw is at h in
      elim (Contains-push_cases was n m there) [
        | inl there ↦ old m there
        | inr here ↦ inr (record { at = at; onset = onset; late = late; early = early; is = sym here ∙ number })
      ]

  -- the same of the listed onsets up to a place
  pub complete_at : (listed : List ℤ) (k : ℕ) → at ≡ get_or listed k (pos 0) → k < length listed
      → ((j : ℕ) (d : ℤ) → j < k → from ≤ℤ get_or listed j d → Contains was (onset_number (get_or listed j d) place))
      → (j : ℕ) (d : ℤ) → j < k + 1 → from ≤ℤ get_or listed j d → Contains now (onset_number (get_or listed j d) place)
  complete_at listed k here inside old j d less late = elim (cases_lt j k) [
    | inl before ↦ stay_one (onset_number (get_or listed j d) place) (old j d before late)
    | inr after ↦ (
        let same : j ≡ k = omega (arith, less, after) in
        let there : get_or listed j d ≡ at = rw same (get_or_default listed k d (pos 0) inside ∙ sym here) in
        rw (is, there, ← number) (Contains-push was n))
  ]

-- where the numbers of the listed onsets up to a place are there, and none after it is early enough, those of all are there
pub listed_to : (place : ℕ) (from last : ℤ) (listed list : List ℤ) → IsInOrder listed → (k : ℕ)
    → (k < length listed → last <ℤ get_or listed k (pos 0))
    → ((j : ℕ) (d : ℤ) → j < k → from ≤ℤ get_or listed j d → Contains list (onset_number (get_or listed j d) place))
    → (t : ℤ) → Contains listed t → from ≤ℤ t → t ≤ℤ last → Contains list (onset_number t place)
listed_to place from last listed list order k past before t there late early =
    let is : get_or listed there.0 (pos 0) ≡ t = get_or_default listed there.0 (pos 0) t there.1 ∙ there.2 in
    elim (cases_lt there.0 k) [
      | inl low ↦ rw is at (before there.0 (pos 0) low (rw is late))
      | inr high ↦ absurd (
          let inside : k < length listed = omega (arith, high, there.1) in
          let up = order k there.0 (pos 0) high there.1 in
          let out = past inside in omega (arith, ints, is))
    ]

-- a kept local more is listed
module _ (r : Recurrence) (offset : ℤ) (place from end at local : ℕ) (was now : List ℤ) (is : now ≡ was ++ onset_number (instant_by offset local) place ∷ [])
    (next : IsNextKept r at end local) where
  pub kept_known : (before : List ℤ) → from ≤ at → ((n : ℤ) → Contains was n → Contains before n ⊎ IsKeptNumber r offset place from end n)
      → (n : ℤ) → Contains now n → Contains before n ⊎ IsKeptNumber r offset place from end n
  kept_known before ahead old n h =
      let there : Contains (was ++ onset_number (instant_by offset local) place ∷ []) n = rw is at h in
      elim (Contains-push_cases was (onset_number (instant_by offset local) place) n there) [
        | inl there ↦ old n there
        | inr here ↦ inr (record {
          local = local;
          kept = next.kept;
          late = omega (arith, ahead, next.from_place);
          early = next.in_bound;
          is = sym here;
        })
      ]

  pub kept_complete : ((k : ℕ) → is_kept r k ≡ true → from ≤ k → k < at → Contains was (onset_number (instant_by offset k) place))
      → (k : ℕ) → is_kept r k ≡ true → from ≤ k → k < local + 1 → Contains now (onset_number (instant_by offset k) place)
  kept_complete old k kept late early = elim (cases_lt k at) [
    | inl before ↦ rw is (Contains-append_left was (onset_number (instant_by offset local) place ∷ []) (onset_number (instant_by offset k) place)
        (old k kept late before))
    | inr after ↦ elim (cases_lt k local) [
      | inl less ↦ absurd (false≢true (sym (next.least k after less) ∙ kept))
      | inr more ↦ (
          let same : k ≡ local = omega (arith, early, more) in
          rw (is, same) (Contains-push was (onset_number (instant_by offset local) place)))
    ]
  ]

-- the locals that the rule of an observance keeps are those of its onsets by the rule
module _ (o : Onsets) {r : Recurrence} (rule : o.rule ≡ Some r) (place : ℕ) (from last : ℤ) {begin end : ℕ}
    (past : IsShownBy o.offset_from (from -ℤ pos 1) begin) (shown : IsShownTo o.offset_from o.until last end) where
  pub number_known : (n : ℤ) → IsKeptNumber r o.offset_from place begin end n → IsNumberedBy o place from last n
  number_known n k =
      let inside : k.local < rules_end = omega (arith, k.early, shown.bound) in
      let late = past.later k.local k.late inside in
      record {
        at = instant_by o.offset_from k.local;
        onset = inr (to_kept o rule (instant_by o.offset_from k.local) (record {
          local = k.local;
          early = inside;
          kept = k.kept;
          is = refl;
          by_end = shown.by_until k.local k.early;
        }));
        late = omega (arith, ints, late);
        early = shown.shown k.local k.early;
        is = k.is;
      }

  pub number_there : (list : List ℤ) → ((k : ℕ) → is_kept r k ≡ true → begin ≤ k → k < end → Contains list (onset_number (instant_by o.offset_from k) place))
      → (t : ℤ) → IsKeptAt o t → from ≤ℤ t → t ≤ℤ last → Contains list (onset_number t place)
  number_there list all t kept late early =
      let k = from_kept o rule t kept in
      let is = k.is in
      rw is (all k.local k.kept (elim (cases_lt k.local begin) [
        | inl before ↦ absurd (let out = past.shown k.local before in omega (arith, ints))
        | inr after ↦ after
      ]) (elim (cases_lt k.local end) [
        | inl before ↦ before
        | inr after ↦ absurd (let by_end = k.by_end in let out = shown.later k.local after k.early (rw is at by_end) in omega (arith, ints))
      ]))

-- the onsets of one more observance are listed
pub numbered_more : {zone : List ObservanceSaid} {list : List Onsets} {k : ℕ} {o : Onsets} {from last : ℤ} {was now : List ℤ}
    → AreOnsetsOfAll zone list → k < length list → o ≡ get_or list k o
    → ((n : ℤ) → Contains now n → Contains was n ⊎ IsNumberedBy o k from last n)
    → ((n : ℤ) → Contains was n → Contains now n)
    → ((t : ℤ) → Has o t → from ≤ℤ t → t ≤ℤ last → Contains now (onset_number t k))
    → AreNumbered zone k from last was → AreNumbered zone (k + 1) from last now
numbered_more {k = k} all inside at_place known stay complete before = record {
  known = λ n h. elim (known n h) [
    | inl old ↦ before.known n old
    | inr new ↦ (
        let there = observance_here all inside at_place in
        record {
          at = new.at;
          place = k;
          observance = there.0;
          onset = (there.1, (onsets_here all inside at_place).known new.at new.onset);
          late = new.late;
          early = new.early;
          is = new.is;
        })
  ];
  complete = λ i s p l h late early. elim (split all inside at_place i s p h l) [
    | inl old ↦ stay (onset_number s i) (before.complete i s p old h late early)
    | inr here ↦ rw (here.0) (complete s here.1.0 late early)
  ];
}

-- all onsets in order
pub table_of : {zone : List ObservanceSaid} {count : ℕ} {from last : ℤ} {was now : List ℤ} → length zone ≤ 16_777_216 → length zone ≤ count
    → IsPermutation was now → IsSorted int_cmp now → AreNumbered zone count from last was → IsTable zone from last now
table_of {zone = zone} {was = was} {now = now} room past moved up numbered = record {
  in_room = room;
  numbered = record {
    known = λ n h. numbered.known n (Contains-permutation now was n (IsPermutation-sym was now moved) h);
    complete = λ i s p l h late early. Contains-permutation was now (onset_number s i) moved (numbered.complete i s p (omega arith) h late early);
  };
  in_order = in_order now up;
}

-- what a table says of an onset by its number, and of the onset after it
pub record IsListed (zone : List ObservanceSaid) (list : List ℤ) (k : ℕ) (last at next : ℤ) (place : ℕ) : Type 0 where
  pub from : ℤ
  pub table : IsTable zone from last list
  pub inside : k < length list
  pub in_room : place < 16_777_216
  pub is : get_or list k (pos 0) ≡ onset_number at place
  pub follows : IsNextOf list k last next

module _ {zone : List ObservanceSaid} {from last : ℤ} {list : List ℤ} (table : IsTable zone from last list) where
  in_zone : (i : ℕ) (s : ℤ) (p : ObservanceSaid) → IsOnset zone i s p → i < 16_777_216
  in_zone i s p h = let within = slice_get_within zone i p h.0 in let all = table.in_room in omega arith

  -- the onset of a number
  there : (k : ℕ) (at : ℤ) (place : ℕ) → k < length list → place < 16_777_216 → get_or list k (pos 0) ≡ onset_number at place
      → (p : ObservanceSaid) × (IsOnset zone place at p × ((from ≤ℤ at) × (at ≤ℤ last)))
  there k at place inside room is =
      let e = table.numbered.known (get_or list k (pos 0)) (Contains-get_or list k (pos 0) inside) in
      let same = one_number at e.at place e.place room (in_zone e.place e.at e.observance e.onset) (sym is ∙ e.is) in
      (e.observance, rw (same.0, same.1) (e.onset, (e.late, e.early)))

  -- the place of an onset in the table
  found : (i : ℕ) (s : ℤ) (p : ObservanceSaid) → IsOnset zone i s p → from ≤ℤ s → s ≤ℤ last
      → (j : ℕ) × ((j < length list) × (get_or list j (pos 0) ≡ onset_number s i))
  found i s p h late early =
      let here = table.numbered.complete i s p (slice_get_within zone i p h.0) h late early in
      (here.0, (here.1, get_or_default list here.0 (pos 0) (onset_number s i) here.1 ∙ here.2))

module _ {zone : List ObservanceSaid} {list : List ℤ} {k : ℕ} {last at next : ℤ} {place : ℕ} (h : IsListed zone list k last at next place) where
  pub onset_there : (p : ObservanceSaid) × (IsOnset zone place at p × ((h.from ≤ℤ at) × (at ≤ℤ last)))
  onset_there = there h.table k at place h.inside h.in_room h.is

  -- the next instant is not past the end
  next_bound : next ≤ℤ (last +ℤ pos 1)
  next_bound = elim (cases_lt (k + 1) (length list)) [
    | inl more ↦ (let e = (there h.table (k + 1) next h.follows.place more h.follows.in_room (h.follows.is more)).1.1.1 in omega (arith, ints, e))
    | inr end ↦ (let e = h.follows.end (omega arith) in omega (arith, ints, e))
  ]

  -- an onset before the next instant is not greater than that of the number
  greatest : (i : ℕ) (s : ℤ) (p : ObservanceSaid) → IsOnset zone i s p → s <ℤ next → IsNotLater s i at place
  greatest i s p onset early = elim (less_or_not_z s h.from) [
    | inl before ↦ inl (let late = onset_there.1.1.0 in omega (arith, ints, late))
    | inr late ↦ (
        let here = found h.table i s p onset late (let b = next_bound in omega (arith, ints, b)) in
        let room = in_zone h.table i s p onset in
        elim (cases_lt k here.0) [
          | inl after ↦ absurd (
              let more : k + 1 < length list = let l = here.1.0 in omega (arith, l) in
              let up = h.table.in_order (k + 1) here.0 (pos 0) (omega arith) here.1.0 in
              let order = number_order next s h.follows.place i h.follows.in_room room (rw (h.follows.is more, here.1.1) at up) in
              grind (arith, ints))
          | inr not_after ↦ (
              let up = h.table.in_order here.0 k (pos 0) (omega arith) h.inside in
              number_order s at i place room h.in_room (rw (here.1.1, h.is) at up))
        ])
  ]

  module _ {onsets : List Onsets} (all : AreOnsetsOfAll zone onsets) where
    pub place_inside : place < length onsets
    place_inside = let w = slice_get_within zone place onset_there.0 onset_there.1.0.0 in let same = all.same_length in omega (arith, w, same)

-- up to the onset after it its offset holds
pub steady_from : (observances : ZoneObservances) {list : List ℤ} {k : ℕ} {last at next : ℤ} {place : ℕ} {onsets : List Onsets} {o : Onsets}
    → 0 < length observances.said.items → IsListed observances.said.items list k last at next place
    → AreOnsetsOfAll observances.said.items onsets → o ≡ get_or onsets place o
    → IsSteady (zone_offset observances.said.items) at next o.offset_to
steady_from observances {at = at} {place = place} some h all at_place u low high =
    let here = onset_there h in
    (onsets_at all (place_inside h all) at_place here.0 here.1.0.0).to ∙ in_force_is observances some u here.0 (record {
      place = place;
      since = at;
      onset = here.1.0;
      not_after = low;
      greatest = λ i s q onset l. greatest h i s q onset (omega (arith, ints));
    })
