-- Locals that a clock shows by one offset.
use Rattle.std.proofs.Common.{◌≡◌, ◌≢◌, ℕ, ◌+◌, ◌<◌, ◌≤◌, ◌⊎◌, inl, inr, sym, ap, ◌∙◌, arith, List, length, get_or, Contains}
use Rattle.std.proofs.Common.{ℤ, pos, neg_ℤ, ◌+ℤ◌, ◌-ℤ◌, ◌<ℤ◌, ◌≤ℤ◌}
use Rattle.std.proofs.lemmas.Int.{ints}
use Rattle.std.proofs.lemmas.List.{get_or_default}
use Rattle.ics_zone.specs.declared.stretch.Stretch.{Stretch}
use Rattle.ics_zone.specs.Stretches.{IsStretch}
use Rattle.ics_zone.specs.Moments.{shown, moment_by, IsFirstTime}
use Rattle.ics_zone.specs.Inner.Narrowed.{IsNarrowed, IsGreatestOf}
use Rattle.ics_zone.specs.Inner.Walks.{IsShort}
use Rattle.ics_zone.specs.Inner.ZoneOnsets.{IsSteady}
use Rattle.ics_zone.proofs.Cases.{below_or_at}
use Rattle.ics_zone.proofs.MomentLemmas.{moment_found, moment_unique}

-- the offset at the local less another, by the span about the first local less that
pub cut_span : {clock : ℤ → ℤ} {from next value start offset seconds near to : ℤ} → IsSteady clock from next value → seconds ≡ offset
    → from ≤ℤ (start -ℤ seconds) → to ≤ℤ (near +ℤ seconds) → near ≤ℤ next
    → (local : ℤ) → start ≤ℤ local → local <ℤ to → value ≡ clock (local -ℤ offset)
cut_span {offset = offset} steady same begun ends over local low high = steady (local -ℤ offset) (omega (arith, ints)) (omega (arith, ints))

module _ (clock : ℤ → ℤ) (offsets : List ℤ) (k : ℕ) (e : ℤ) (inside : k < length offsets) {was : Stretch} (known : IsGreatestOf clock offsets k was) where
  abbrev o : ℤ
  o = get_or offsets k e

  here : (j : ℕ) (d : ℤ) → j ≡ k → get_or offsets j d ≡ o
  here j d same = rw same (get_or_default offsets k d e inside)

  -- an offset that is not greater need not be looked at
  pub greatest_stays : o ≤ℤ was.offset → IsGreatestOf clock offsets (k + 1) was
  greatest_stays low = record {
    unseen = λ j d local less from to. elim (below_or_at j k (omega arith)) [
      | inl before ↦ known.unseen j d local before from to
      | inr at ↦ inl (let same = here j d at in omega (arith, ints))
    ];
    shown = known.shown;
  }

  module _ (now : Stretch) (from : now.from ≡ was.from) (to : now.to ≤ℤ was.to) (greater : was.offset <ℤ o) (cut : IsNarrowed clock o was now) where
    unseen_on : (j : ℕ) (d local : ℤ) → j < k + 1 → now.from ≤ℤ local → local <ℤ now.to
        → (get_or offsets j d ≤ℤ now.offset) ⊎ (clock (local -ℤ get_or offsets j d) ≢ get_or offsets j d)
    unseen_on j d local less low high = elim (below_or_at j k (omega arith)) [
      | inl before ↦ (elim (known.unseen j d local before (omega (arith, ints)) (omega (arith, ints))) [
        | inl not_greater ↦ inl (elim (cut local low high) [ inl a ↦ omega (arith, ints, a.0) | inr b ↦ omega (arith, ints, b.0) ])
        | inr other ↦ inr other
      ])
      | inr at ↦ (let same = here j d at in elim (cut local low high) [
        | inl a ↦ inl (omega (arith, ints, a.0))
        | inr b ↦ inr (rw same b.1)
      ])
    ]

    shown_on : neg_ℤ (pos 86_400) <ℤ now.offset → (local : ℤ) → now.from ≤ℤ local → local <ℤ now.to → clock (local -ℤ now.offset) ≡ now.offset
    shown_on some local low high = elim (cut local low high) [
      | inl a ↦ rw a.0 a.1
      | inr b ↦ rw b.0 (known.shown (omega (arith, ints, b.0)) local (omega (arith, ints)) (omega (arith, ints)))
    ]

    pub greatest_on : IsGreatestOf clock offsets (k + 1) now
    greatest_on = record { unseen = unseen_on; shown = shown_on }

-- where each offset is among them
module _ (clock : ℤ → ℤ) (short : IsShort clock) (offsets : List ℤ) (contains : (t : ℤ) → Contains offsets (clock t)) (k : ℕ) (all : length offsets ≤ k)
    {s : Stretch} (known : IsGreatestOf clock offsets k s) (some : neg_ℤ (pos 86_400) <ℤ s.offset) where
  candidate : (local t : ℤ) → shown clock t ≡ local → t ≡ local -ℤ get_or offsets (contains t).0 (clock t)
  candidate local t shows = omega (arith, ints, (contains t).2)

  first : (local : ℤ) → s.from ≤ℤ local → local <ℤ s.to → IsFirstTime clock local (local -ℤ s.offset)
  first local low high = record {
    shows = let here = known.shown some local low high in omega (arith, ints);
    first = λ t shows. let at = contains t in let is = candidate local t shows in elim (known.unseen at.0 (clock t) local (omega arith) low high) [
      | inl not_greater ↦ omega (arith, ints)
      | inr other ↦ absurd (other (ap clock (sym is) ∙ sym at.2))
    ];
  }

  pub stretch_found : s.from <ℤ s.to → (new : Stretch) → new.from ≡ s.from → new.to ≡ s.to → new.offset ≡ s.offset → new.shown ≡ s.offset
      → IsStretch clock (moment_by clock) new
  stretch_found one new from to is now =
      let here = known.shown some s.from (omega (arith, ints)) one in
      let bound = short (s.from -ℤ s.offset) in
      record {
        moments = λ local low high. rw is (moment_unique clock local (moment_by clock local) (local -ℤ s.offset) (moment_found clock short local)
            (inl (first local (rw from at low) (rw to at high))));
        offsets = λ local low high. rw (is, now) (known.shown some local (rw from at low) (rw to at high));
        short = (omega (arith, ints), omega (arith, ints));
        shown_short = (omega (arith, ints), omega (arith, ints));
      }
