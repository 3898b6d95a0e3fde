-- The search finds the instant that a local means.
use Rattle.std.proofs.Common.{◌≡◌, ℕ, inl, inr, Bool, true, false, refl, sym, ap, ◌∙◌, arith, Option, Some, None, MatchOption, ℤ, pos, ◌+ℤ◌, ◌-ℤ◌, ◌<ℤ◌, ◌≤ℤ◌}
use Rattle.std.proofs.Common.{Decides, int_lt}
use Rattle.std.proofs.lemmas.Int.{ints}
use Rattle.std.proofs.lemmas.Bool.Decides.{Decides-int_eq}
use Rattle.jiff_core.specs.Calendar.{IsWithin}
use Rattle.ics_zone.specs.Moments.{shown, IsMomentBy, near, if_so, within_a_day, first_time, first_later, moment_from, moment_by}
use Rattle.ics_zone.specs.Inner.Searches.{IsFirstGiven, NoneGiven, first_below-is, natural-is}
use Rattle.ics_zone.specs.ZoneOffsets.{natural}

if_so-some : (b : Bool) (t s : ℤ) → if_so b t ≡ Some s → (b ≡ true) × (t ≡ s)
if_so-some true t s e = (refl, cc)
if_so-some false t s e = absurd (cc)

if_so-none : (b : Bool) (t : ℤ) → b ≡ true → if_so b t ≡ None → ⊥
if_so-none b t is e = grind (arith, ints)

Decides-int_lt : (s t : ℤ) → Decides (int_lt s t) (s <ℤ t)
Decides-int_lt s t = grind (arith, ints)

-- the least instant of a kind, or None and none is up to a day after the local
abbrev IsLeastOf : (ℤ → Type 0) → ℤ → Option ℤ → Type 0
IsLeastOf P local found = MatchOption found ((s : ℤ) → s ≤ℤ (local +ℤ pos 86_400) → P s → ⊥) (λ t. P t × ((s : ℤ) → P s → t ≤ℤ s))

-- the first instant near the local that passes a test is the least of its kind, where none is more than a day before the local
module _ (P : ℤ → Type 0) (local : ℤ) (test : ℤ → Bool) (means : (s : ℤ) → Decides (test s) (P s))
    (late : (s : ℤ) → P s → (local -ℤ pos 86_400) ≤ℤ s) where
  abbrev tried : ℕ → Option ℤ
  tried k = if_so (test (near local k)) (near local k)

  -- an instant of the kind is tried
  tried_at : (s : ℤ) → P s → (k : ℕ) × ((s ≡ near local k) × (tried k ≡ None → ⊥))
  tried_at s h =
      let low = late s h in
      let is = natural-is (s -ℤ local +ℤ pos 86_400) (omega (arith, ints)) in
      let at : s ≡ near local (natural (s -ℤ local +ℤ pos 86_400)) = omega (arith, ints) in
      (natural (s -ℤ local +ℤ pos 86_400), (at, if_so-none _ _ (sym (ap test at) ∙ (means s).1 h)))

  least-is : (found : Option ℤ) → MatchOption found (NoneGiven within_a_day tried) (IsFirstGiven within_a_day tried) → IsLeastOf P local found
  least-is None none = λ s high h. let k = tried_at s h in k.1.1 (none k.0 (omega (arith, ints)))
  least-is (Some t) first =
      let so = if_so-some _ _ t first.gives in
      ((means t).0 (sym (ap test so.1) ∙ so.0), λ s h. let k = tried_at s h in let earlier = first.earlier k.0 in grind (arith, ints))

module _ (offset : ℤ → ℤ) (short : (t : ℤ) → IsWithin 86_399 (offset t)) where
  pub moment_found : (local : ℤ) → IsMomentBy offset local (moment_by offset local)
  unfolding moment_by
  moment_found local = by (first_time offset local) (first_later offset local)
      (least-is (λ s. shown offset s ≡ local) local _ (λ s. Decides-int_eq (shown offset s) local) (λ s is. let bound = short s in omega (arith, ints)) _
      (first_below-is _ within_a_day))
      (least-is (λ s. local <ℤ shown offset s) local _ (λ s. Decides-int_lt local (shown offset s)) (λ s is. let bound = short s in omega (arith, ints)) _
      (first_below-is _ within_a_day))
    where
      by : (time later : Option ℤ) → IsLeastOf (λ s. shown offset s ≡ local) local time → IsLeastOf (λ s. local <ℤ shown offset s) local later
          → IsMomentBy offset local (moment_from offset local time later)
      by (Some t) later is past = inl (record { shows = is.0; first = is.1 })
      by None (Some u) none past = inr (record {
        skipped = λ s is. let bound = short s in none s (omega (arith, ints)) is;
        past = u;
        is_later = past.0;
        first = past.1;
        before = refl;
      })
      by None None none past = absurd (let bound = short (local +ℤ pos 86_400) in past (local +ℤ pos 86_400) (omega (arith, ints)) (omega (arith, ints)))
