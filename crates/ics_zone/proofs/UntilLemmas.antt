-- What an UNTIL in UTC bounds of a rule of date-times.
use Rattle.std.proofs.Common.{◌≡◌, ◌⊎◌, ◌↔◌, ℕ, ℤ, pos, negsuc, ◌+ℤ◌, ◌≤ℤ◌, Bool, true, false, ◌&&◌, ◌||◌, ◌==◌, int_le, inl, inr, ⊎_elim}
use Rattle.std.proofs.Common.{Some, None, refl, ◌∙◌, ap, arith}
use Rattle.std.specs.List.{list_any}
use Rattle.std.proofs.lemmas.Int.{ints}
use Rattle.ics_fields.specs.Locals.{local_seconds, number}
use Rattle.ics_fields.specs.RuleParts.{RuleParts}
use Rattle.ics_fields.specs.declared.local.Local.{Local}
use Rattle.ics_fields.specs.declared.until.Until.TheVariants as until
use Rattle.ics_rule.specs.Kept.{is_kept, until_moment, until_moment_of}
use Rattle.ics_rule.specs.UntilBounds.{without_until}
use Rattle.ics_period.specs.declared.kind.Kind.TheVariants.{DateTime}
use Rattle.ics_rule.proofs.UntilLemmas.{kept_by_instants}
use Rattle.ics_zone.specs.Observances.{epoch, instant_by, is_begin, is_by_rule, is_onset, is_until, rule_from, test_at, ObservanceSaid}
use Rattle.ics_zone.specs.OnsetLaws.{unbounded_by, unruled, OnsetsByUntil}
use Rattle.ics_zone.proofs.Cases.{int_le_true, true_int_le}

module _ (parts : RuleParts) (start : Local) where
  pub free : until_moment (without_until (rule_from start parts)) ≡ None
  unfolding until_moment
  free = refl

  module _ (last : Local) (is : parts.until ≡ Some (until.Utc last)) where
    pub bounded : until_moment (rule_from start parts) ≡ Some (local_seconds last)
    unfolding until_moment
    bounded = ap (until_moment_of DateTime) is

    -- the same locals are kept without UNTIL
    pub same-kept : (n : ℕ) → is_kept (rule_from start parts) n ≡ is_kept (without_until (rule_from start parts)) n
    same-kept = kept_by_instants (rule_from start parts) (local_seconds last) bounded

-- by DTSTART, by the RDATEs, and by the rule and its bound
parted : (a b k u : Bool) {P : Type 0} → (u ≡ true → P) → (P → u ≡ true)
    → ((a || (b || (k && u))) ≡ true) ↔ (((a || (b || false)) ≡ true) ⊎ (((a || (b || (k && true))) ≡ true) × P))
parted true b k u f g = (λ e. inl refl, λ h. refl)
parted false true k u f g = (λ e. inl refl, λ h. refl)
parted false false true u f g = (λ e. inr (refl, f e), λ h. ⊎_elim (λ n. let no : false ≡ true = n in absurd cc) (λ y. g y.1) h)
parted false false false u f g = (λ e. let no : false ≡ true = e in absurd cc, λ h. ⊎_elim (λ n. n) (λ y. y.0) h)

module _ (p : ObservanceSaid) (parts : RuleParts) (last : Local) (t : ℤ) (has : p.rule ≡ Some parts) (is : parts.until ≡ Some (until.Utc last)) where
  begins-by_until : (n : ℕ) → instant_by p.offset_from n ≡ t
      → (is_begin p n ≡ true) ↔ ((is_begin (unruled p) n ≡ true) ⊎ ((is_begin (unbounded_by p parts) n ≡ true) × (t ≤ℤ local_seconds last)))
  begins-by_until n e =
      let kept = is_kept (without_until (rule_from p.start parts)) n in
      let own : is_by_rule p p.rule n ≡ (is_kept (without_until (rule_from p.start parts)) n && int_le t (local_seconds last)) =
      ap (λ r. is_by_rule p r n) has ∙ (λ i. same-kept parts p.start last is n i && is_until (bounded parts p.start last is i) (e i)) in
      let other : is_by_rule (unbounded_by p parts) (unbounded_by p parts).rule n ≡ (is_kept (without_until (rule_from p.start parts)) n && true) =
      λ i. is_kept (without_until (rule_from p.start parts)) n && is_until (free parts p.start i) (instant_by p.offset_from n) in
      rw (own, other)
      (parted (n == number p.start) (list_any (λ l. number l == n) p.rdates) kept (int_le t (local_seconds last))
      (int_le_true t (local_seconds last)) (true_int_le t (local_seconds last)))

  onsets-at : (x : ℤ) → (t +ℤ p.offset_from +ℤ pos epoch) ≡ x
      → (test_at x (is_begin p) ≡ true)
      ↔ ((test_at x (is_begin (unruled p)) ≡ true) ⊎ ((test_at x (is_begin (unbounded_by p parts)) ≡ true) × (t ≤ℤ local_seconds last)))
  onsets-at (pos n) e = begins-by_until n (omega (arith, ints, e))
  onsets-at (negsuc n) e = (λ h. let no : false ≡ true = h in absurd cc, λ h. ⊎_elim (λ n. n) (λ y. y.0) h)

pub onsets-by_until : OnsetsByUntil
unfolding is_onset
onsets-by_until p parts last t has is = onsets-at p parts last t has is (t +ℤ p.offset_from +ℤ pos epoch) refl
