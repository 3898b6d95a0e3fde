-- What a zone holds of an observance has its onsets.
use Rattle.std.proofs.Common.{◌≡◌, ℕ, ◌<◌, ◌⊎◌, inl, inr, Bool, true, ◌||◌, ◌&&◌, ◌==◌, int_le, refl, sym, ap, subst, ◌∙◌, arith, get_or, Option, Some, None}
use Rattle.std.proofs.Common.{[], option_map, Contains, IfSome, ℤ, ◌≤ℤ◌, MatchOption, rules, SFits, w32, w64}
use Rattle.std.proofs.lemmas.Bool.{or_cases, or_left, or_right, and_parts, and_from}
use Rattle.std.proofs.lemmas.Int.{ints, to_z-of_z}
use Rattle.std.proofs.lemmas.Bool.Decides.{Decides-eqb, nat_tests}
use Rattle.std.proofs.lemmas.List.{get_or_default}
use Rattle.std.proofs.lemmas.List.Elements.{All-nil, All-same}
use Rattle.ics_fields.specs.RuleParts.{RuleParts}
use Rattle.ics_fields.specs.Locals.{number}
use Rattle.ics_rule.specs.Kept.{is_kept}
use Rattle.ics_zone.specs.declared.onsets.Onsets.{Onsets}
use Rattle.ics_zone.specs.Observances.{ObservanceSaid, IsObservanceSaid, instant_by, rule_from, is_by_rule, is_onset}
use Rattle.ics_zone.specs.Inner.OnsetSets.{Has, IsGap, IsKeptBy, AreOnsetsOf, IsListing, IsEnd, is_listed, held_rule}
use Rattle.ics_zone.specs.Inner.Repeats.{IsRepeated}
use Rattle.ics_zone.proofs.Cases.{int_le_true, true_int_le}
use Rattle.ics_zone.proofs.EndLemmas.{kept_early}
use Rattle.ics_zone.proofs.FoundLemmas.{gaps_are, none_found, found_is, round_is}
use Rattle.ics_zone.proofs.OnsetLemmas.{onset-local, local-onset}
use Rattle.ics_period.specs.PeriodNumbers.{rules_end}
use Rattle.ics_zone.proofs.onsets.Onsets.of.Goals as goal

same_or : (a b c : Bool) → (a || (b || c)) ≡ ((a || b) || c)
same_or a b c = grind (arith, nat_tests)

-- an onset is listed, or by the rule
onset_at : (p : ObservanceSaid) (t : ℤ) (n : ℕ) → t ≡ instant_by p.offset_from n → is_onset p t ≡ (is_listed p n || is_by_rule p p.rule n)
onset_at p t n at = local-onset p t n at ∙ same_or (n == number p.start) _ _

module _ (p : ObservanceSaid) (facts : IsObservanceSaid p) (s : Onsets) (from : s.offset_from ≡ p.offset_from) (to : s.offset_to ≡ p.offset_to)
    (listing : IsListing p s.listed.items) (none : s.found.items ≡ []) (no_gaps : s.gaps.items ≡ []) (quiet : s.known_to ≤ℤ s.known_from)
    (round : IfSome (option_map (held_rule p.start) p.rule) (λ r. IsRepeated p.offset_from r s.round)) where
  start_listed : Contains s.listed.items (instant_by p.offset_from (number p.start))
  start_listed = listing.complete (number p.start) (or_left (number p.start == number p.start) _ ((Decides-eqb (number p.start) (number p.start)).1 refl))

  -- what the rule keeps, by what it is made of
  abbrev Kept : Option RuleParts → ℤ → Type 0
  Kept o t = MatchOption (option_map (held_rule p.start) o) ⊥ (λ r. IsKeptBy s.offset_from s.until r t)

  abbrev HasEnd : Option RuleParts → Type 0
  HasEnd o = IfSome (option_map (rule_from p.start) o) (IsEnd p.offset_from s.until)

  by_rule_is : (parts : RuleParts) (t : ℤ) (n : ℕ) → HasEnd (Some parts) → t ≡ instant_by p.offset_from n → n < rules_end
      → is_by_rule p (Some parts) n ≡ (is_kept (held_rule p.start parts) n && int_le t s.until)
  by_rule_is parts t n ends at early = ends n early ∙ ap (λ x. is_kept (held_rule p.start parts) n && int_le x s.until) (sym at)

  onset_kept : (o : Option RuleParts) → o ≡ p.rule → HasEnd o → (t : ℤ) → Kept o t → is_onset p t ≡ true
  onset_kept None is ends t k = absurd k
  onset_kept (Some parts) is ends t k =
      let at : t ≡ instant_by p.offset_from k.local = rw (sym from) k.is in
      let kept = by_rule_is parts t k.local ends at k.early ∙ and_from _ _ k.kept (true_int_le t s.until k.by_end) in
      onset_at p t k.local at ∙ or_right _ _ (subst (λ o. is_by_rule p o k.local ≡ true) is kept)

  kept_or_listed : (o : Option RuleParts) → HasEnd o → (t : ℤ) (n : ℕ) → t ≡ instant_by p.offset_from n → is_by_rule p o n ≡ true
      → Contains s.listed.items t ⊎ Kept o t
  kept_or_listed None ends t n at h = absurd (cc)
  kept_or_listed (Some parts) ends t n at h = elim (kept_early (rule_from p.start parts) n (and_parts (is_kept (rule_from p.start parts) n) _ h).0) [
    | inl first ↦ inl (subst (Contains s.listed.items) (ap (instant_by p.offset_from) (sym first) ∙ sym at) start_listed)
    | inr early ↦ inr (
        let both = and_parts _ _ (sym (by_rule_is parts t n ends at early.0) ∙ h) in
        record { local = n; early = early.0; kept = both.0; is = rw from at; by_end = int_le_true t s.until both.1 })
  ]

  first_is : (o : Option RuleParts) (t d : ℤ) → Kept o t → get_or s.listed.items 0 d ≤ℤ t
  first_is None t d k = absurd k
  first_is (Some parts) t d k =
      let start = start_listed in
      let low = listing.in_order 0 start.0 d (omega arith) start.1 in
      let same = get_or_default s.listed.items start.0 d (instant_by p.offset_from (number p.start)) start.1 in
      elim (kept_early (held_rule p.start parts) k.local k.kept) [ inl first ↦ omega (arith, ints) | inr early ↦ omega (arith, ints) ]

  pub onsets_made : s.rule ≡ option_map (held_rule p.start) p.rule → HasEnd p.rule → AreOnsetsOf p s
  onsets_made made ends =
      record {
        sound = record {
          from_in = rw from facts.from_in;
          some = let start = start_listed in omega arith;
          in_order = listing.in_order;
          first = λ t d h. first_is p.rule t d (rw made at h);
          found = found_is s (none_found _ s.known_from s.known_to s.found.items none (λ t h late. omega (arith, ints, quiet, late)));
          gaps = gaps_are s (All-same (IsGap (Has s)) s.gaps.items [] no_gaps (All-nil (IsGap (Has s))));
          repeats = round_is s (rw (made, from) round);
        };
        from = from;
        to = to;
        known = λ t h. elim h [
          | inl listed ↦ (let k = listing.known t listed in onset_at p t k.0 k.1.0 ∙ or_left _ _ k.1.1)
          | inr kept ↦ onset_kept p.rule refl ends t (rw made at kept)
        ];
        complete = λ t h.
            let n = onset-local p t h in
            elim (or_cases (is_listed p n.0) _ (sym (onset_at p t n.0 n.1) ∙ h)) [
              | inl listed ↦ inl (subst (Contains s.listed.items) (sym n.1) (listing.complete n.0 listed))
              | inr kept ↦ rw made (kept_or_listed p.rule ends t n.0 n.1 kept)
            ];
      }

pub returns : goal.returns
returns c =
    let from : SFits w32 c.observance.inside.offset_from = search rules in
    let to : SFits w32 c.observance.inside.offset_to = search rules in
    let until : SFits w64 c.rule_of-rule.result.1 = search rules in
    rw (
      to_z-of_z w32 c.observance.inside.offset_from from,
      to_z-of_z w32 c.observance.inside.offset_to to,
      to_z-of_z w64 c.rule_of-rule.result.1 until,
    )
    (onsets_made c.args.observance.now c.requires.bounds _ (ap (λ (p : ObservanceSaid). p.offset_from) c.observance.view_is)
    (ap (λ (p : ObservanceSaid). p.offset_to) c.observance.view_is) c.in_ok-listed.ensures c.new.ensures.items c.new-2.ensures.items (omega (arith, ints))
    c.rule_of-rule.ensures.round c.rule_of-rule.ensures.rule c.rule_of-rule.ensures.end)
