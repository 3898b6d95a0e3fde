-- What spans in their order tell of many locals at once.
use Rattle.std.proofs.Common.{◌≡◌, ◌⊎◌, inl, inr, arith, refl, sym, subst, ◌∙◌, ℕ, ◌+◌, ◌<◌, ◌≤◌}
use Rattle.std.proofs.Common.{List, length, get_or, set, Option, Some, None, IfSome, ℤ, pos, ◌+ℤ◌, ◌-ℤ◌, ◌<ℤ◌, ◌≤ℤ◌}
use Rattle.std.proofs.lemmas.List.{get_or_default, get_or-set_same, get_or-set_other}
use Rattle.std.proofs.lemmas.Int.{ints}
use Rattle.std.proofs.lemmas.Bool.Decides.{nat_tests}
use Rattle.ics_zone.specs.declared.latest.Steady.{Steady}
use Rattle.ics_zone.specs.declared.sweep.Reach.{Reach}
use Rattle.ics_zone.specs.declared.walk.Seen.{Seen}
use Rattle.ics_zone.specs.declared.walk.Seen.TheVariants.{Shown, Unshown}
use Rattle.ics_zone.specs.Moments.{shown, IsInGap, IsMomentBy}
use Rattle.ics_zone.specs.Inner.Sweeps.{AreReady, AreUnseen, IsSwept, IsToldOn}
use Rattle.ics_zone.specs.Inner.Walks.{IsShort, IsSeen}
use Rattle.ics_zone.specs.Inner.ZoneOnsets.{IsSteady}
use Rattle.ics_zone.proofs.Cases.{below_or_at}
use Rattle.ics_zone.proofs.WalkLemmas.{walk_begins, walk_on}

-- a span whose clock shows a local neither at once nor as the first that is not earlier changes nothing
pub seen_past : {offset : ℤ → ℤ} {local low next value : ℤ} (before : ℤ) (s : Seen) → IsShort offset → IsSteady offset low next value → low <ℤ next
    → ((next +ℤ value) ≤ℤ local) ⊎ ((local <ℤ (low +ℤ value)) × ((t : ℤ) × ((t <ℤ low) × (local ≤ℤ shown offset t))))
    → IsSeen offset local low before s → IsSeen offset local next value s
seen_past before (Shown t) short steady some out seen = seen
seen_past {local = local} {low = low} {next = next} {value = value} before (Unshown (Some g)) short steady some out seen =
    let at : ((local -ℤ value) <ℤ low) ⊎ (next ≤ℤ (local -ℤ value)) = elim out [
      | inl a ↦ inr (omega (arith, ints))
      | inr b ↦ (let early = b.0 in inl (omega (arith, ints)))
    ] in
    walk_on short seen steady (omega (arith, ints)) some refl at refl
seen_past {local = local} {low = low} {next = next} {value = value} before (Unshown None) short steady some (inl late) seen =
    let at_once : low ≤ℤ (local -ℤ value) = omega (arith, ints) in
    walk_on short seen steady (omega (arith, ints)) some refl (inr (omega (arith, ints))) at_once
seen_past before (Unshown None) short steady some (inr early) seen =
    absurd (let earlier = seen.gap early.1.0 early.1.1.0 in let not_earlier = early.1.1.1 in omega (arith, ints))

-- before the first span
pub swept_begins : {offset : ℤ → ℤ} {locals : List ℤ} {seen : List Seen} {from : ℤ} → IsShort offset → AreReady from locals → AreUnseen (length locals) seen
    → IsSwept offset locals (record { low = from; before = pos 0; past = 0 }) seen
swept_begins {offset = offset} {locals = locals} {seen = seen} {from = from} short ready none = record {
  past = λ k d h. absurd (omega arith);
  each = λ k d e h. rw (none.each k e h) (let late = ready.late k d h in walk_begins short (omega (arith, ints)));
}

module _ {offset : ℤ → ℤ} {locals : List ℤ} {old : List Seen} {reach : Reach} {span : Steady} (new : List Seen) (short : IsShort offset)
    (steady : IsSteady offset span.from span.next span.offset) (joined : reach.low ≡ span.from) (some : span.from <ℤ span.next)
    (swept : IsSwept offset locals reach old) (begin end past : ℕ)
    (early : (k : ℕ) (d : ℤ) → k < begin → get_or locals k d <ℤ (span.from +ℤ span.offset)) (before : begin ≤ reach.past)
    (earlier : (k : ℕ) (d : ℤ) → k < end → get_or locals k d <ℤ (span.next +ℤ span.offset))
    (late : (k : ℕ) (d : ℤ) → end ≤ k → k < length locals → (span.next +ℤ span.offset) ≤ℤ get_or locals k d)
    (others : (k : ℕ) (e : Seen) → (k < begin) ⊎ (end ≤ k) → get_or new k e ≡ get_or old k e)
    (told : (k : ℕ) (d : ℤ) (e : Seen) → begin ≤ k → k < end
    → IsToldOn span reach.before (get_or locals k d) (get_or old k e) (get_or new k e)) where
  was : (k : ℕ) (d : ℤ) (e : Seen) → k < length locals → IsSeen offset (get_or locals k d) span.from reach.before (get_or old k e)
  was k d e h = subst (λ low. IsSeen offset (get_or locals k d) low reach.before (get_or old k e)) joined (swept.each k d e h)

  place : (k : ℕ) → (k < begin) ⊎ ((end ≤ k) ⊎ ((begin ≤ k) × (k < end)))
  place k = grind (arith, nat_tests)

  each_on : (k : ℕ) (d : ℤ) (e : Seen) → k < length locals → IsSeen offset (get_or locals k d) span.next span.offset (get_or new k e)
  each_on k d e h = elim (place k) [
    | inl low ↦ (let seen = swept.past k d (omega arith) in
        let first = subst (λ low. seen.0 <ℤ low) joined seen.1.0 in rw (others k e (inl low))
        (seen_past reach.before (get_or old k e) short steady some (inr (early k d low, (seen.0, (first, seen.1.1)))) (was k d e h)))
    | inr (inl high) ↦ rw (others k e (inr high)) (seen_past reach.before (get_or old k e) short steady some (inl (late k d high h)) (was k d e h))
    | inr (inr within) ↦ told k d e within.0 within.1 offset short steady (was k d e h)
  ]

  past_on : (k : ℕ) (d : ℤ) → (k < reach.past) ⊎ (k < end) → (t : ℤ) × ((t <ℤ span.next) × (get_or locals k d ≤ℤ shown offset t))
  past_on k d (inl h) = let seen = swept.past k d h in let first = seen.1.0 in (seen.0, (omega (arith, ints, joined), seen.1.1))
  past_on k d (inr h) = let less = earlier k d h in let here = steady (span.next -ℤ pos 1) (omega (arith, ints)) (omega (arith, ints)) in
      (span.next -ℤ pos 1, (omega (arith, ints), omega (arith, ints)))

  -- one more span
  pub swept_on : ((k : ℕ) → k < past → (k < reach.past) ⊎ (k < end))
      → IsSwept offset locals (record { low = span.next; before = span.offset; past = past }) new
  swept_on either = record { past = λ k d h. past_on k d (either k h); each = each_on }

-- what holds of the locals before one and of it
pub all_on : (locals : List ℤ) (k : ℕ) (P : ℤ → Type 0) → k < length locals → ((j : ℕ) (d : ℤ) → j < k → P (get_or locals j d))
    → P (get_or locals k (pos 0)) → (j : ℕ) (d : ℤ) → j < k + 1 → P (get_or locals j d)
all_on locals k P inside before here j d h = elim (below_or_at j k (omega arith)) [
  | inl less ↦ before j d less
  | inr at ↦ subst (λ i. P (get_or locals i d)) (sym at) (subst P (get_or_default locals k (pos 0) d inside) here)
]

module _ (was now : List Seen) (s : Seen) {begin k : ℕ} (begun : begin ≤ k)
    (others : (j : ℕ) (e : Seen) → (j < begin) ⊎ (k ≤ j) → get_or now j e ≡ get_or was j e) where
  pub others_on : (j : ℕ) (e : Seen) → (j < begin) ⊎ ((k + 1) ≤ j) → get_or (set now k s) j e ≡ get_or was j e
  others_on j e (inl less) = get_or-set_other now k j s e (λ at. omega (arith, at, less, begun)) ∙ others j e (inl less)
  others_on j e (inr more) = get_or-set_other now k j s e (λ at. omega (arith, at, more)) ∙ others j e (inr (omega arith))

  pub told_on : (span : Steady) (before : ℤ) (locals : List ℤ) → k < length now → k < length locals
      → ((d : ℤ) (e : Seen) → IsToldOn span before (get_or locals k d) (get_or now k e) s)
      → ((j : ℕ) (d : ℤ) (e : Seen) → begin ≤ j → j < k → IsToldOn span before (get_or locals j d) (get_or was j e) (get_or now j e))
      → (j : ℕ) (d : ℤ) (e : Seen) → begin ≤ j → j < k + 1 → IsToldOn span before (get_or locals j d) (get_or was j e) (get_or (set now k s) j e)
  told_on span before locals inside local here told j d e low high = elim (below_or_at j k (omega arith)) [
    | inl less ↦ subst (λ t. IsToldOn span before (get_or locals j d) (get_or was j e) t)
        (sym (get_or-set_other now k j s e (λ at. omega (arith, at, less)))) (told j d e low less)
    | inr at ↦ subst (λ i. IsToldOn span before (get_or locals i d) (get_or was i e) (get_or (set now k s) i e)) (sym at)
        (subst (λ t. IsToldOn span before (get_or locals k d) (get_or was k e) t) (sym (get_or-set_same now k s e inside))
        (subst (λ t. IsToldOn span before (get_or locals k d) t s) (others k e (inr (omega arith))) (here d e)))
  ]

-- what holds of a local and of what is known of it, whatever would be read past the ends
pub told_here : (span : Steady) (before : ℤ) (locals : List ℤ) (now : List Seen) (k : ℕ) (s : Seen) (d₀ : ℤ) (e₀ : Seen)
    → k < length now → k < length locals → IsToldOn span before (get_or locals k d₀) (get_or now k e₀) s
    → (d : ℤ) (e : Seen) → IsToldOn span before (get_or locals k d) (get_or now k e) s
told_here span before locals now k s d₀ e₀ inside local here d e = subst (λ t. IsToldOn span before (get_or locals k d) t s)
    (get_or_default now k e₀ e inside)
    (subst (λ t. IsToldOn span before t (get_or now k e₀) s) (get_or_default locals k d₀ d local) here)

pub less_or_not : (k n : ℕ) → (k < n) ⊎ (n ≤ k)
less_or_not k n = grind (arith, nat_tests)

-- a gap is what the local means
pub in_gap : (offset : ℤ → ℤ) (local : ℤ) (r : Option ℤ) → IfSome r (IsInGap offset local) → IfSome r (IsMomentBy offset local)
in_gap offset local None gap = tt
in_gap offset local (Some t) gap = inr gap
