-- The last and the next onset of a rule.
use Rattle.std.proofs.Common.{◌≡◌, ℕ, ◌+◌, ◌<◌, inl, inr, sym, subst, arith, true, Option, Some, Contains, ℤ, ◌<ℤ◌, ◌≤ℤ◌, MatchOption}
use Rattle.std.proofs.lemmas.Bool.{cases_lt}
use Rattle.std.proofs.lemmas.Int.{ints}
use Rattle.ics_period.specs.Recurrence.{Recurrence}
use Rattle.ics_rule.specs.Kept.{is_kept}
use Rattle.ics_rule.specs.Next.{NoneKept, IsNextKept}
use Rattle.ics_zone.specs.declared.onsets.Onsets.{Onsets}
use Rattle.ics_zone.specs.Observances.{instant_by}
use Rattle.ics_zone.specs.Inner.Latest.{IsLastKept, IsLast}
use Rattle.ics_zone.specs.Inner.OnsetSets.{IsShownBy, IsShownTo, IsKeptBy, IsKeptAt, Has}
use Rattle.ics_zone.proofs.Cases.{less_or_not_z}

-- where none is kept from a place on and before an end, a kept local before the end is before the place
module _ (r : Recurrence) (from end : ℕ) where
  below : (n : ℕ) → NoneKept r from end → is_kept r n ≡ true → n < end → n < from
  below n none kept early = grind (arith, cases_lt)

module _ (s : Onsets) {r : Recurrence} (contains : s.rule ≡ Some r) where
  pub to_kept : (t : ℤ) → IsKeptBy s.offset_from s.until r t → IsKeptAt s t
  to_kept t h = subst (λ (o : Option Recurrence). MatchOption o ⊥ (λ r. IsKeptBy s.offset_from s.until r t)) (sym contains) h

  pub from_kept : (t : ℤ) → IsKeptAt s t → IsKeptBy s.offset_from s.until r t
  from_kept t h = subst (λ (o : Option Recurrence). MatchOption o ⊥ (λ r. IsKeptBy s.offset_from s.until r t)) contains h

  module _ {t : ℤ} {end : ℕ} (shown : IsShownTo s.offset_from s.until t end) where
    -- a kept local before the end is one of an onset, and an onset that is not after t is of such a local
    pub kept_at : {n : ℕ} {u : ℤ} → is_kept r n ≡ true → n < end → u ≡ instant_by s.offset_from n → IsKeptAt s u
    kept_at {n = n} {u = u} kept inside is = let by_until = shown.by_until n inside in grind (arith, ints, to_kept)

    before_end : (u : ℤ) (k : IsKeptBy s.offset_from s.until r u) → u ≤ℤ t → k.local < end
    before_end u k l = grind (arith, ints, cases_lt)

    pub last_of_rule : {n : ℕ} {u : ℤ} → IsLastKept r end n → u ≡ instant_by s.offset_from n → IsLast (IsKeptAt s) t u
    last_of_rule {n = n} found is = record {
      is = kept_at found.kept found.in_bound is;
      not_after = let early = shown.shown n found.in_bound in omega (arith, ints);
      last = λ v h l. let k = from_kept v h in let low = below r (n + 1) end k.local found.last k.kept (before_end v k l) in omega (arith, ints);
    }

    pub none_of_rule : NoneKept r 0 end → (u : ℤ) → IsKeptAt s u → t <ℤ u
    none_of_rule none u h = let k = from_kept u h in grind (arith, ints, cases_lt)

    -- the first after another instant
    module _ {after : ℤ} {from : ℕ} (past : IsShownBy s.offset_from after from) where
      pub next_of_rule : {n : ℕ} {u : ℤ} → IsNextKept r from end n → u ≡ instant_by s.offset_from n
          → (after <ℤ u) × ((u ≤ℤ t) × (((v : ℤ) → IsKeptAt s v → after <ℤ v → u ≤ℤ v) × IsKeptAt s u))
      next_of_rule {n = n} {u = u} found is =
          let late = past.later n found.from_place (omega arith) in
          let early = shown.shown n found.in_bound in
          let next : (v : ℤ) → IsKeptAt s v → after <ℤ v → u ≤ℤ v = λ v h l. let k = from_kept v h in elim (cases_lt k.local n) [
            | inl less ↦ absurd (let before = past.shown k.local (below r from n k.local found.least k.kept less) in omega (arith, ints))
            | inr more ↦ omega (arith, ints)
          ] in
          (omega (arith, ints), (omega (arith, ints), (next, kept_at found.kept found.in_bound is)))

      pub no_next_of_rule : NoneKept r from end → (v : ℤ) → IsKeptAt s v → after <ℤ v → t ≤ℤ v
      no_next_of_rule none v h l = let k = from_kept v h in grind (arith, ints, cases_lt)

-- no instant of a kind is after one instant and before another
abbrev pub NoneSkipped : (ℤ → Type 0) → ℤ → ℤ → Type 0
NoneSkipped P after next = (u : ℤ) → P u → after <ℤ u → next ≤ℤ u

-- the earlier of the next listed onset and the next of the rule
pub earlier_of : {a m : ℤ} (s : Onsets) (after : ℤ) → m ≤ℤ a → NoneSkipped (Contains s.listed.items) after m → NoneSkipped (IsKeptAt s) after a
    → NoneSkipped (Has s) after m
earlier_of s after e x y u h l = grind (arith, ints)

pub is_of : {limit a m : ℤ} (s : Onsets) → m ≤ℤ a → (m <ℤ a → Contains s.listed.items m) → (a <ℤ limit → IsKeptAt s a) → m <ℤ limit → Has s m
is_of s e x y l = grind (arith, ints, less_or_not_z)
