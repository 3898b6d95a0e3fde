-- Where the onsets of a rule end.
use Rattle.std.proofs.Common.{◌≡◌, ◌⊎◌, ℕ, ◌+◌, ◌<◌, inl, inr, true, false, ◌&&◌, sym, ap, ◌∙◌, arith, Option, Some, None, MatchOption, is_some}
use Rattle.std.proofs.Common.{int_le, ℤ, pos, ◌≤ℤ◌, ◌<ℤ◌}
use Rattle.std.proofs.lemmas.Bool.{and_right, cases_lt}
use Rattle.std.specs.Int.{int_min}
use Rattle.std.proofs.lemmas.Int.{ints, clamps}
use Rattle.std.proofs.lemmas.Bool.Decides.{nat_tests}
use Rattle.ics_fields.specs.Locals.{number}
use Rattle.ics_period.specs.Recurrence.{Recurrence}
use Rattle.ics_rule.specs.Kept.{is_in_rule, is_kept, until_moment}
use Rattle.ics_rule.specs.Next.{NoneKept}
use Rattle.ics_period.specs.PeriodNumbers.{rules_end}
use Rattle.ics_zone.specs.Observances.{instant_by, is_until}
use Rattle.ics_rule.specs.CountBounds.{without_count}
use Rattle.ics_rule.proofs.EndLemmas.{kept_without_count}
use Rattle.ics_zone.specs.Inner.OnsetSets.{IsEnd}

-- what is kept is the start, or earlier than the end of the rules and later than the start
pub kept_early : (r : Recurrence) (n : ℕ) → is_kept r n ≡ true → (n ≡ number r.start) ⊎ ((n < rules_end) × (number r.start < n))
unfolding is_kept is_in_rule
kept_early r n e = grind (arith, nat_tests)

pub none_there : (A : Type 0) (P : ℕ → Type 0) (o : Option ℕ) → MatchOption o A P → is_some o ≡ false → A
none_there A P None h none = h
none_there A P (Some n) h none = absurd (cc)

-- an instant and the earlier of two ends
le_min : (t until last : ℤ) → t ≤ℤ last → int_le t until ≡ int_le t (int_min until last)
le_min t until last h = grind (arith, ints, clamps)

past_min : (t until last : ℤ) → last <ℤ t → int_le t (int_min until last) ≡ false
past_min t until last h = grind (arith, ints, clamps)

module _ (r : Recurrence) (from : ℤ) {until : ℤ}
    (bound : (t : ℤ) → t ≤ℤ pos 9_223_372_036_854_775_807 → is_until (until_moment r) t ≡ int_le t until)
    (small : (n : ℕ) → n < rules_end → instant_by from n ≤ℤ pos 9_223_372_036_854_775_807) where
  -- a rule that keeps no local after one that it keeps ends there, and up to there COUNT changes nothing
  pub ends_at_last : {end : ℤ} (last : ℕ) → is_kept r last ≡ true → NoneKept r (last + 1) rules_end → end ≡ int_min until (instant_by from last)
      → IsEnd from end r
  ends_at_last {end = end} last kept none is n early = elim (cases_lt last n) [
    | inl past ↦
        ap (λ k. k && is_until (until_moment r) (instant_by from n)) (none n (omega (arith, past)) early)
        ∙ sym (and_right (is_kept (without_count r) n) (int_le (instant_by from n) end)
        (ap (int_le (instant_by from n)) is ∙ past_min (instant_by from n) until (instant_by from last) (omega (arith, ints))))
    | inr here ↦
        let same = kept_without_count r n last here kept in
        let by_end : is_until (until_moment r) (instant_by from n) ≡ int_le (instant_by from n) end =
        bound (instant_by from n) (small n early) ∙ le_min (instant_by from n) until (instant_by from last) (omega (arith, ints))
        ∙ ap (int_le (instant_by from n)) (sym is) in
        λ i. same i && by_end i
  ]

  -- and one without COUNT ends by UNTIL
  pub ends_by_until : r.parts.count ≡ None → IsEnd from until r
  ends_by_until free n early =
      let whole : r ≡ without_count r = λ i. record r { parts = record r.parts { count = free i } } in
      let by_end = bound (instant_by from n) (small n early) in
      λ i. is_kept (whole i) n && by_end i
