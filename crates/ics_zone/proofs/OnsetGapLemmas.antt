-- The gaps between onsets.
use Rattle.std.proofs.Common.{◌≡◌, ℕ, ◌+◌, ◌<◌, inl, inr, refl, arith, Option, Some, None, Contains, ℤ, ◌<ℤ◌, ◌≤ℤ◌, MatchOption}
use Rattle.std.proofs.Common.{◌⊎◌, true, All, List, [], ◌∷◌, ◌++◌, IfSome}
use Rattle.std.proofs.lemmas.Int.{ints}
use Rattle.std.proofs.lemmas.List.Elements.{All-push}
use Rattle.ics_period.specs.Recurrence.{Recurrence}
use Rattle.ics_rule.specs.Kept.{is_kept}
use Rattle.ics_rule.specs.Next.{NoneKept, IsNextKept}
use Rattle.ics_period.specs.PeriodNumbers.{rules_end}
use Rattle.ics_zone.specs.declared.gaps.Gap.{Gap}
use Rattle.ics_zone.specs.declared.onsets.Onsets.{Onsets}
use Rattle.ics_zone.specs.Observances.{instant_by}
use Rattle.ics_zone.specs.Inner.Latest.{IsLast}
use Rattle.ics_zone.specs.Inner.OnsetSets.{IsShownBy, IsKeptAt, Has, IsGap, IsGapKept}
use Rattle.ics_zone.proofs.Cases.{less_or_not_z}
use Rattle.ics_zone.proofs.KeptLemmas.{NoneSkipped, earlier_of, kept_at, next_of_rule, no_next_of_rule}

-- a gap about an instant begins with the last one
pub last_of_gap : (set : ℤ → Type 0) (gap : Gap) → IsGap set gap → (m : ℤ) → gap.last ≤ℤ m → m <ℤ gap.next → IsLast set m gap.last
last_of_gap set gap is m not_after early = record {
  is = is.is;
  not_after = not_after;
  last = λ u h low. elim (less_or_not_z gap.last u) [
    | inl later ↦ absurd (let past = is.next u h later in omega (arith, ints, past, low, early))
    | inr not_later ↦ not_later
  ];
}

-- how many locals are shown up to the instant of one
shown_by_own : (from : ℤ) (n : ℕ) → n < rules_end → IsShownBy from (instant_by from n) (n + 1)
shown_by_own from n inside = record {
  bound = omega (arith, inside);
  shown = λ m h. omega (arith, ints, h);
  later = λ m low h. omega (arith, ints, low);
}

-- the end of a gap of the rule: the instant of the next local, or if there is none that up to which locals are shown
abbrev pub EndOf : ℤ → ℤ → Option ℕ → ℤ → Type 0
EndOf from to next end = MatchOption next (end ≡ to) (λ n. end ≡ instant_by from n)

module _ (s : Onsets) (r : Recurrence) (contains : s.rule ≡ Some r) (to : ℤ) (last : ℕ) where
  pub starts : (next : Option ℕ) → IsGapKept s r to last next → Has s (instant_by s.offset_from last)
  starts next gap = inr (kept_at s contains gap.shown gap.kept gap.early refl)

  none_of_rule : (next : Option ℕ) → IsGapKept s r to last next → (end : ℤ) → EndOf s.offset_from to next end
      → NoneSkipped (IsKeptAt s) (instant_by s.offset_from last) end
  none_of_rule None gap end is v h late =
      let inside : last < rules_end = omega (arith, gap.early, gap.shown.bound) in
      let low = no_next_of_rule s contains gap.shown (shown_by_own s.offset_from last inside) gap.follows v h late in
      omega (arith, ints, is, low)
  none_of_rule (Some n) gap end is v h late =
      let inside : last < rules_end = omega (arith, gap.early, gap.shown.bound) in
      (next_of_rule s contains gap.shown (shown_by_own s.offset_from last inside) gap.follows is).1.1.0 v h late

  -- the next listed onset may be earlier
  pub gap_of : (next : Option ℕ) → IsGapKept s r to last next → (end at : ℤ) → EndOf s.offset_from to next end → at ≤ℤ end
      → NoneSkipped (Contains s.listed.items) (instant_by s.offset_from last) at
      → IsGap (Has s) (record { last = instant_by s.offset_from last; next = at })
  gap_of next gap end at is bound listed = record {
    is = starts next gap;
    next = earlier_of s (instant_by s.offset_from last) bound listed (none_of_rule next gap end is);
  }

  -- none is in a time that has no end
  pub gap_of_none : (next : Option ℕ) → IsGapKept s r to last next → (end : ℤ) → end ≤ℤ instant_by s.offset_from last
      → IsGap (Has s) (record { last = instant_by s.offset_from last; next = end })
  gap_of_none next gap end early = record { is = starts next gap; next = λ t h late. omega (arith, ints, early, late) }

-- what is known of the next kept local after a search from the place behind the last one
pub follows_of : (r : Recurrence) (place last end : ℕ) (Q : ℕ → Type 0) (next : Option ℕ) → place ≡ last + 1
    → MatchOption next (NoneKept r place end) (λ n. IsNextKept r place end n × Q n)
    → MatchOption next (NoneKept r (last + 1) end) (IsNextKept r (last + 1) end)
follows_of r place last end Q None at h = rw at at h
follows_of r place last end Q (Some n) at h = rw at at h.0

pub kept_of : (r : Recurrence) (place end now : ℕ) (next : Option ℕ)
    → MatchOption next (NoneKept r place end) (λ n. IsNextKept r place end n × (now ≡ n + 1))
    → IfSome next (λ n. (is_kept r n ≡ true) × ((n < end) × (now ≡ n + 1)))
kept_of r place end now None h = tt
kept_of r place end now (Some n) h = (h.0.kept, (h.0.in_bound, h.1))

-- one gap more, if there is room
pub gaps_more : (set : ℤ → Type 0) (old new : List Gap) (gap : Gap) → All (IsGap set) old → IsGap set gap
    → (new ≡ old) ⊎ (new ≡ old ++ gap ∷ []) → All (IsGap set) new
gaps_more set old new gap all is (inl same) = rw same all
gaps_more set old new gap all is (inr more) = rw more (All-push (IsGap set) old gap all is)
