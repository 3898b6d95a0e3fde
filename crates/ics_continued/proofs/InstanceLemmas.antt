-- An event has one occurrence at most with a start, by one source. So it has one, if that is merely known.
use Rattle.std.proofs.Common.{◌≡◌, ◌⊎◌, ◌∙◌, ℤ, ◌≤ℤ◌, Bool, true, false, List, Option, Some, None, IfSome, inl, inr, ⊎_elim, refl, sym, ap, subst, arith}
use Rattle.std.proofs.Common.{slice_get}
use mathlib.Core.HLevel.{is_prop→PathP}
use Rattle.std.proofs.Math.Logic.{∥∥₁_elim, ∥∥₁_map, ∥∥₁_prop}
use Rattle.std.proofs.Math.Path.{Σ_path}
use Rattle.std.proofs.Props.{props}
use Rattle.std.proofs.lemmas.Int.{ints}
use Rattle.std.specs.Coded.{Unit-prop, codes}
use Rattle.ics_event.specs.Event.{Rdate}
use Rattle.ics_event.specs.declared.event.Event.{Event}
use Rattle.ics_fields.specs.Locals.{local_seconds, number}
use Rattle.ics_fields.specs.declared.local.Local.{Local}
use Rattle.ics_rule.specs.Kept.{is_kept, until_moment}
use Rattle.ics_listing.specs.Entry.{Entry}
use Rattle.ics_listing.specs.FileClocks.{Clocks}
use Rattle.ics_listing.specs.StartTimes.{local_of, time_at, time_of, IsNotAfter}
use Rattle.ics_listing.specs.WindowMeeting.{is_met}
use Rattle.ics_listing.specs.declared.start.StartSource.{StartSource}
use Rattle.ics_listing.specs.declared.start.StartSource.TheVariants.{Kept, Listed}
use Rattle.ics_listing.specs.declared.window.Window.{Window}
use Rattle.ics_listing.proofs.Cases.{option-cases, some-same}
use Rattle.ics_listing.proofs.StartOrderLemmas.{same-seconds, same-source}
use Rattle.ics_starts.specs.Clocks.{instant}
use Rattle.ics_starts.specs.Finish.{finish}
use Rattle.ics_starts.specs.Instances.{IsInstance}
use Rattle.ics_starts.specs.SeriesLaws.{event-set}
use Rattle.ics_starts.specs.SeriesStarts.{IsSeriesMet}
use Rattle.ics_starts.specs.Starts.{given_by, recurrence_of, GivesStart, IsRuleStart}
use Rattle.ics_starts.proofs.MeetsLemmas.{is_met-meets, meets-is_met}
use Rattle.ics_starts.proofs.StartSourceLemmas.{same-given}
use Rattle.ics_values.specs.declared.time.Rdate.TheVariants.{At}
use Rattle.ics_zone.proofs.Cases.{less_or_not_z}

⊥-prop : IsProp ⊥
⊥-prop x y = absurd x

source-set : (a b : StartSource) → IsProp (a ≡ b)
source-set a b = hlevel (props, codes)

int-set : (a b : ℤ) → IsProp (a ≡ b)
int-set a b = hlevel props

bool-set : (a b : Bool) → IsProp (a ≡ b)
bool-set a b = hlevel props

le-prop : (a b : ℤ) → IsProp (a ≤ℤ b)
le-prop a b = hlevel props

not-after-prop : (a b : StartSource) → IsProp (IsNotAfter a b)
not-after-prop (Kept a) (Kept b) = hlevel props
not-after-prop (Kept a) (Listed b) = Unit-prop
not-after-prop (Listed a) (Kept b) = ⊥-prop
not-after-prop (Listed a) (Listed b) = hlevel props

until-prop : (o : Option ℤ) (t : ℤ) → IsProp (IfSome o (λ last. t ≤ℤ last))
until-prop None t = Unit-prop
until-prop (Some last) t = hlevel props

one-local : (a b : Local) → (a ≡ b) ⊎ ((a ≡ b) → ⊥)
one-local a b =
    ⊎_elim (λ l. inr (λ e. let same = ap (λ x. local_seconds x) e in omega (arith, ints, l, same)))
    (λ l. ⊎_elim
    (λ m. inr (λ e. let same = ap (λ x. local_seconds x) e in omega (arith, ints, m, same)))
    (λ m. inl (same-seconds a b (omega (arith, ints, l, m))))
    (less_or_not_z (local_seconds b) (local_seconds a)))
    (less_or_not_z (local_seconds a) (local_seconds b))

module _ (clocks : Clocks) (event : Event) where
  -- a local of the rule
  rule-known : (local : Local) → ∥ IsRuleStart clocks event local ∥₁ → IsRuleStart clocks event local
  rule-known local t =
      option-cases (recurrence_of event)
      (λ none. absurd (∥∥₁_elim t ⊥-prop (λ r. let no : None ≡ Some r.rule = sym none ∙ r.has in absurd cc)))
      (λ rule is. record {
        rule = rule;
        has = is;
        calendar = ∥∥₁_elim t (hlevel props) (λ r. r.calendar);
        kept = ∥∥₁_elim t (bool-set (is_kept rule (number local)) true)
            (λ r. subst (λ x. is_kept x (number local) ≡ true) (some-same r.rule rule (sym r.has ∙ is)) r.kept);
        until = ∥∥₁_elim t (until-prop (until_moment rule) (instant clocks (time_at event.start local)))
            (λ r. subst (λ x. IfSome (until_moment x) (λ last. instant clocks (time_at event.start local) ≤ℤ last))
            (some-same r.rule rule (sym r.has ∙ is)) r.until);
      })

  local-known : (local : Local) → ∥ (local ≡ local_of event.start.stamp) ⊎ IsRuleStart clocks event local ∥₁
      → (local ≡ local_of event.start.stamp) ⊎ IsRuleStart clocks event local
  local-known local t =
      ⊎_elim inl
      (λ other. inr (rule-known local (∥∥₁_map t (λ s. ⊎_elim (λ e. absurd (other e)) (λ r. r) s))))
      (one-local local (local_of event.start.stamp))

  -- what a source gives
  given-known : (source : StartSource) → ∥ ((given : Rdate) × GivesStart clocks event source given) ∥₁ → (given : Rdate) × GivesStart clocks event source given
  given-known (Kept local) t = (At (time_at event.start local), (local-known local (∥∥₁_map t (λ g. g.1.0)), refl))
  given-known (Listed place) t =
      option-cases (slice_get event.rdates place)
      (λ none. absurd (∥∥₁_elim t ⊥-prop (λ g. let no : None ≡ Some g.1.0 = sym none ∙ g.1.1 in absurd cc)))
      (λ rdate is. (given_by event.start rdate, (rdate, is, refl)))

  module _ (start end : ℤ) where
    -- an occurrence by a source
    abbrev By : StartSource → Type 0
    By source = (i : IsInstance clocks event start end) × (i.source ≡ source)

    abbrev Sourced : Type 0
    Sourced = (source : StartSource) × ∥ By source ∥₁

    one-source : (a b : StartSource) → By a → By b → a ≡ b
    one-source a b i j =
        sym i.1 ∙ (same-source i.0.source j.0.source (i.0.earliest j.0.source j.0.given j.0.gives (sym j.0.starts))
        (j.0.earliest i.0.source i.0.given i.0.gives (sym i.0.starts)) ∙ j.1)

    sourced-prop : IsProp Sourced
    sourced-prop x y =
        let same : x.0 ≡ y.0 = ∥∥₁_elim x.1 (source-set x.0 y.0) (λ i. ∥∥₁_elim y.1 (source-set x.0 y.0) (one-source x.0 y.0 i)) in
        Σ_path same (is_prop→PathP (λ k. ∥ By (same k) ∥₁) (λ k. ∥∥₁_prop) x.1 y.1)

    by-source : (source : StartSource) → ∥ By source ∥₁ → IsInstance clocks event start end
    by-source source t =
        let g = given-known source (∥∥₁_map t (λ k. (k.0.given, subst (λ s. GivesStart clocks event s k.0.given) k.1 k.0.gives))) in
        record {
          source = source;
          given = g.0;
          gives = g.1;
          starts = ∥∥₁_elim t (int-set start (instant clocks (time_of g.0)))
              (λ k. k.0.starts ∙ ap (λ r. instant clocks (time_of r)) (same-given clocks event k.0.given g.0 k.1 k.0.gives g.1));
          earliest = λ other value gives e. ∥∥₁_elim t (not-after-prop source other)
              (λ k. subst (λ s. IsNotAfter s other) k.1 (k.0.earliest other value gives e));
          ends = ∥∥₁_elim t (int-set end (finish clocks event g.0))
              (λ k. k.0.ends ∙ ap (finish clocks event) (same-given clocks event k.0.given g.0 k.1 k.0.gives g.1));
          stays = ∥∥₁_elim t (bool-set _ false) (λ k. k.0.stays);
        }

    pub instance-known : ∥ IsInstance clocks event start end ∥₁ → IsInstance clocks event start end
    instance-known t =
        let by : Sourced = ∥∥₁_elim t sourced-prop (λ i. (i.source, ∣ (i, refl) ∣₁)) in
        by-source by.0 by.1

  -- an occurrence that meets a window and is asked for
  pub met-known : (w : Window) (since : ℤ) (replaced : List ℤ) (o : Entry) → ∥ IsSeriesMet clocks event w since replaced o ∥₁
      → IsSeriesMet clocks event w since replaced o
  met-known w since replaced o t = (
    (
      record {
        event = ∥∥₁_elim t (event-set o.event event) (λ k. k.0.0.event);
        recurrence = ∥∥₁_elim t (int-set o.recurrence o.start) (λ k. k.0.0.recurrence);
        lasts = instance-known o.start o.finish (∥∥₁_map t (λ k. k.0.0.lasts));
      },
      is_met-meets w o (∥∥₁_elim t (bool-set (is_met w o) true) (λ k. meets-is_met w o k.0.1)),
    ),
    (∥∥₁_elim t (le-prop since o.start) (λ k. k.1.0), ∥∥₁_elim t (bool-set _ false) (λ k. k.1.1)),
  )
