-- What is known of a time whose onsets are found.
use Rattle.std.proofs.Common.{◌≡◌, ℕ, ◌<◌, ◌≤◌, inl, inr, sym, refl, subst, arith, List, [], ◌∷◌, ◌++◌, length, get_or}
use Rattle.std.proofs.Common.{All, Contains, Global, Option, Some, None, IfSome, MatchOption, true, ℤ, ◌<ℤ◌, ◌≤ℤ◌}
use Rattle.std.specs.Prelude.{Vec}
use Rattle.std.proofs.lemmas.Bool.{cases_lt}
use Rattle.std.proofs.lemmas.Int.{ints}
use Rattle.std.proofs.lemmas.List.{length_push, get_or_append_left, get_or_push}
use Rattle.std.proofs.lemmas.List.Elements.{Contains-get_or, Contains-append_left, Contains-push, Contains-push_cases}
use Rattle.ics_zone.specs.declared.gaps.Gap.{Gap}
use Rattle.ics_zone.specs.declared.onsets.Onsets.{Onsets}
use Rattle.ics_zone.specs.Observances.{ObservanceSaid}
use Rattle.ics_zone.specs.Inner.Latest.{IsInOrder, IsPassed, IsLast, IsLastOf}
use Rattle.ics_zone.specs.Inner.Marks.{IsAsked}
use Rattle.ics_zone.specs.Inner.OnsetSets.{Has, AreFound, HasGaps, HasRound, IsFound, IsGap, IsSound, AreOnsetsOf}
use Rattle.ics_zone.specs.Inner.Repeats.{IsRepeated}
use Rattle.ics_zone.proofs.Cases.{less_or_not_z}
use Rattle.ics_zone.proofs.LatestLemmas.{next_listed}

pub found_of : (s : Onsets) → IsFound s → AreFound (Has s) s.known_from s.known_to s.found.items
unfolding IsFound
found_of s found = found

pub found_is : (s : Onsets) → AreFound (Has s) s.known_from s.known_to s.found.items → IsFound s
unfolding IsFound
found_is s found = found

-- in a time that has none
pub none_found : (set : ℤ → Type 0) (from to : ℤ) (list : List ℤ) → list ≡ [] → ((t : ℤ) → set t → from <ℤ t → to ≤ℤ t) → AreFound set from to list
none_found set from to list empty none = rw empty (record {
  in_order = λ j k d l h. absurd (omega (arith, h));
  known = λ t h. absurd (let inside = h.1 in omega (arith, inside));
  late = λ t h. absurd (let inside = h.1 in omega (arith, inside));
  early = λ t h. absurd (let inside = h.1 in omega (arith, inside));
  complete = λ t h late early. absurd (let next = none t h late in omega (arith, ints));
})

-- what is listed so far: all that are after one instant and not after another, before a third
pub record AreListed (set : ℤ → Type 0) (from at to : ℤ) (list : List ℤ) : Type 0 where
  pub order : from ≤ℤ at
  pub in_order : IsInOrder list
  pub known : (t : ℤ) → Contains list t → set t
  pub late : (t : ℤ) → Contains list t → from <ℤ t
  pub early : (t : ℤ) → Contains list t → t ≤ℤ at
  pub before : (t : ℤ) → Contains list t → t <ℤ to
  pub complete : (t : ℤ) → set t → from <ℤ t → t ≤ℤ at → t <ℤ to → Contains list t

pub none_listed : (set : ℤ → Type 0) (from to : ℤ) (list : List ℤ) → list ≡ [] → AreListed set from from to list
none_listed set from to list empty = rw empty (record {
  order = omega (arith, ints);
  in_order = λ j k d l h. absurd (omega (arith, h));
  known = λ t h. absurd (let inside = h.1 in omega (arith, inside));
  late = λ t h. absurd (let inside = h.1 in omega (arith, inside));
  early = λ t h. absurd (let inside = h.1 in omega (arith, inside));
  before = λ t h. absurd (let inside = h.1 in omega (arith, inside));
  complete = λ t h late early less. absurd (omega (arith, ints));
})

module _ (set : ℤ → Type 0) (from at to : ℤ) (was : List ℤ) (listed : AreListed set from at to was) (next : ℤ) (after : at <ℤ next)
    (least : (t : ℤ) → set t → at <ℤ t → next ≤ℤ t) where
  -- all before the next one
  pub listed_to : next ≤ℤ to → (t : ℤ) → set t → from <ℤ t → t <ℤ next → Contains was t
  listed_to bound t h late early = elim (less_or_not_z at t) [
    | inl past ↦ absurd (let low = least t h past in omega (arith, ints))
    | inr not_past ↦ listed.complete t h late not_past (omega (arith, ints))
  ]

  pub found_to_next : next ≤ℤ to → AreFound set from next was
  found_to_next bound = record {
    in_order = listed.in_order;
    known = listed.known;
    late = listed.late;
    early = λ t h. let early = listed.early t h in omega (arith, ints);
    complete = listed_to bound;
  }

  -- there is no next before the end
  pub listed_on : to ≤ℤ next → AreListed set from next to was
  listed_on out = record {
    order = let low = listed.order in omega (arith, ints);
    in_order = listed.in_order;
    known = listed.known;
    late = listed.late;
    early = λ t h. let early = listed.early t h in omega (arith, ints);
    before = listed.before;
    complete = λ t h late early less. elim (less_or_not_z at t) [
      | inl past ↦ absurd (let low = least t h past in omega (arith, ints))
      | inr not_past ↦ listed.complete t h late not_past less
    ];
  }

  in_order_more : IsInOrder (was ++ next ∷ [])
  in_order_more j k d l h = elim (cases_lt k (length was)) [
    | inl inside ↦ (
        let before : j < length was = omega (arith, l, inside) in
        let low = listed.in_order j k d l inside in
        omega (arith, ints, get_or_append_left was (next ∷ []) d j before, get_or_append_left was (next ∷ []) d k inside, low))
    | inr past ↦ (
        let long = length_push was next in
        let is = get_or_push was next d k (omega (arith, h, past, long)) in
        elim (cases_lt j (length was)) [
          | inl before ↦ (
              let early = listed.early (get_or was j d) (Contains-get_or was j d before) in
              omega (arith, ints, get_or_append_left was (next ∷ []) d j before, is, early, after))
          | inr too ↦ (let first = get_or_push was next d j (omega (arith, l, h, too, long)) in omega (arith, ints, is, first))
        ])
  ]

  pub listed_more : set next → next <ℤ to → AreListed set from next to (was ++ next ∷ [])
  listed_more is inside = record {
    order = let low = listed.order in omega (arith, ints);
    in_order = in_order_more;
    known = λ t h. elim (Contains-push_cases was next t h) [ inl old ↦ listed.known t old | inr new ↦ subst set new is ];
    late = λ t h. elim (Contains-push_cases was next t h) [ inl old ↦ listed.late t old | inr new ↦ (let low = listed.order in omega (arith, ints)) ];
    early = λ t h. elim (Contains-push_cases was next t h) [
      | inl old ↦ (let early = listed.early t old in omega (arith, ints))
      | inr new ↦ omega (arith, ints)
    ];
    before = λ t h. elim (Contains-push_cases was next t h) [ inl old ↦ listed.before t old | inr new ↦ omega (arith, ints) ];
    complete = λ t h late early before. elim (less_or_not_z t next) [
      | inl less ↦ Contains-append_left was (next ∷ []) t (listed_to (omega (arith, ints)) t h late less)
      | inr more ↦ subst (Contains (was ++ next ∷ [])) (let same : next ≡ t = omega (arith, ints) in same) (Contains-push was next)
    ];
  }

-- the list up to its end
pub found_to_end : (set : ℤ → Type 0) (from at to : ℤ) (list : List ℤ) → AreListed set from at to list → to ≤ℤ at → AreFound set from to list
found_to_end set from at to list listed out = record {
  in_order = listed.in_order;
  known = listed.known;
  late = listed.late;
  early = listed.before;
  complete = λ t h late early. listed.complete t h late (omega (arith, ints)) early;
}

module _ (s : Onsets) (sound : IsSound s) (m : ℤ) (below : m <ℤ s.known_to) where
  found : AreFound (Has s) s.known_from s.known_to s.found.items
  found = found_of s sound.found

  -- the last found one is the last of all
  pub known_last : s.known_from ≤ℤ m → (o : Option ℤ) → IsLastOf (Contains s.found.items) m o → IfSome o (IsLast (Has s) m)
  known_last above None none = tt
  known_last above (Some l) is = record {
    is = found.known l is.is;
    not_after = is.not_after;
    last = λ u h early. elim (less_or_not_z l u) [
      | inl later ↦ (
          let late = found.late l is.is in
          is.last u (found.complete u h (omega (arith, ints)) (omega (arith, ints))) early)
      | inr not_later ↦ not_later
    ];
  }

  -- none is after an instant, if none is found after it
  pub known_quiet : (after : ℤ) → s.known_from ≤ℤ after → (o : Option ℤ) → IsLastOf (Contains s.found.items) m o → IfSome o (λ l. l ≤ℤ after)
      → (t : ℤ) → Has s t → after <ℤ t → m <ℤ t
  known_quiet after above None none low t h late = elim (less_or_not_z m t) [
    | inl later ↦ later
    | inr early ↦ none t (found.complete t h (omega (arith, ints)) (omega (arith, ints)))
  ]
  known_quiet after above (Some l) is low t h late = elim (less_or_not_z m t) [
    | inl later ↦ later
    | inr early ↦ absurd (
        let last = is.last t (found.complete t h (omega (arith, ints)) (omega (arith, ints))) early in
        omega (arith, ints))
  ]

  -- the first found one after an instant is the first of all, and else they are known up to an end
  module _ (above : s.known_from ≤ℤ m) (k : ℕ) (passed : IsPassed s.found.items m k) where
    pub known_next : (f : ℤ) → k < length s.found.items → f ≡ get_or s.found.items k f → (t : ℤ) → Has s t → m <ℤ t → f ≤ℤ t
    known_next f inside is t h late = elim (less_or_not_z t s.known_to) [
      | inl early ↦
          next_listed s.found.items found.in_order m k passed f inside is t (found.complete t h (omega (arith, ints)) early) late
      | inr out ↦ (let early = found.early f (k, inside, sym is) in omega (arith, ints))
    ]

    pub known_end : length s.found.items ≤ k → (t : ℤ) → Has s t → m <ℤ t → s.known_to ≤ℤ t
    known_end all t h late = elim (less_or_not_z t s.known_to) [
      | inl early ↦ absurd (
          let there = found.complete t h (omega (arith, ints)) early in
          let inside = there.1 in
          let not_after = passed.before there.0 t (omega arith) (omega (arith, inside, all)) in
          omega (arith, ints, not_after, there.2))
      | inr out ↦ out
    ]

-- an onset is asked for, if the rule is asked too
pub asked_of : (s : Onsets) (t : ℤ) → Has s t → IsAsked s true t
asked_of s t (inl listed) = inl listed
asked_of s t (inr kept) = inr (refl, kept)

pub gaps_of : (s : Onsets) → HasGaps s → All (IsGap (Has s)) s.gaps.items
unfolding HasGaps
gaps_of s gaps = gaps

pub gaps_are : (s : Onsets) → All (IsGap (Has s)) s.gaps.items → HasGaps s
unfolding HasGaps
gaps_are s gaps = gaps

pub round_of : (s : Onsets) → HasRound s → MatchOption s.rule (Unit {0}) (λ r. IsRepeated s.offset_from r s.round)
unfolding HasRound
round_of s round = round

pub round_is : (s : Onsets) → MatchOption s.rule (Unit {0}) (λ r. IsRepeated s.offset_from r s.round) → HasRound s
unfolding HasRound
round_is s round = round

-- other ones are found, and other gaps
module _ (s : Onsets) (from to first last : ℤ) (list : Vec ℤ Global) (found : AreFound (Has s) from to list.items) (gaps : Vec Gap Global)
    (are : All (IsGap (Has s)) gaps.items) where
  pub now_found : IsSound s
      → IsSound (record s { found = list; known_from = from; known_to = to; sought_from = first; sought_to = last; gaps = gaps })
  now_found sound = record {
    from_in = sound.from_in;
    some = sound.some;
    in_order = sound.in_order;
    first = sound.first;
    found = found_is (record s { found = list; known_from = from; known_to = to; sought_from = first; sought_to = last; gaps = gaps }) found;
    gaps = gaps_are (record s { found = list; known_from = from; known_to = to; sought_from = first; sought_to = last; gaps = gaps }) are;
    repeats = round_is (record s { found = list; known_from = from; known_to = to; sought_from = first; sought_to = last; gaps = gaps })
        (round_of s sound.repeats);
  }

  pub now_found_of : (p : ObservanceSaid) → AreOnsetsOf p s
      → AreOnsetsOf p (record s { found = list; known_from = from; known_to = to; sought_from = first; sought_to = last; gaps = gaps })
  now_found_of p of = record { sound = now_found of.sound; from = of.from; to = of.to; known = of.known; complete = of.complete }
