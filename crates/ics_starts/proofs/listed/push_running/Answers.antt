use Rattle.std.proofs.Common.{◌≡◌, ◌∙◌, ◌||◌, ◌&&◌, ◌++◌, ℤ, Bool, true, false, not, List, [], ◌∷◌, ap, sym, subst, refl, arith, int_eq, to_z, of_z, w64}
use Rattle.std.proofs.lemmas.Int.{ints}
use Rattle.std.proofs.lemmas.List.Folds.{list_any-append}
use Rattle.std.proofs.Math.Bool.{or-false}
use Rattle.ics_event.specs.Event.{stamp_seconds, IsRdate}
use Rattle.ics_fields.specs.declared.local.Local.{Local}
use Rattle.ics_fields.specs.Locals.{local_seconds}
use Rattle.ics_listing.proofs.Cases.{equal-true, moment-back}
use Rattle.ics_starts.specs.Clocks.{instant}
use Rattle.ics_starts.specs.Exclusions.{is_among}
use Rattle.ics_starts.specs.FileZones.{clocks_in}
use Rattle.ics_starts.specs.Found.{begins_at}
use Rattle.ics_starts.proofs.InstantLemmas.{instant-near, written}
use Rattle.ics_starts.proofs.StretchLemmas.{seconds-of}
use Rattle.ics_starts.proofs.listed.push_running.Goals as goal
use Rattle.ics_starts.proofs.listed.push_running.Goals.{else-begun-via-then-begun+else-not-is_over, else-begun-via-else-begun}

-- an instant more among some
one-more : (xs : List ℤ) (x t : ℤ) → is_among (xs ++ (x ∷ [])) t ≡ (is_among xs t || int_eq x t)
one-more xs x t = list_any-append (λ y. int_eq y t) xs (x ∷ []) ∙ ap (λ b. is_among xs t || b) (or-false (int_eq x t))

-- another instant is not that one
other : (a b : ℤ) → (a ≡ b → ⊥) → int_eq a b ≡ false
other a b not-same = by (int_eq a b) refl
  where
    by : (same : Bool) → int_eq a b ≡ same → same ≡ false
    by true is = absurd (not-same (equal-true a b is))
    by false is = refl

and-none : (a b : Bool) → b ≡ false → (a && b) ≡ false
and-none true b e = e
and-none false b e = refl

pub returns-in_ok-push-clause-running : goal.returns-in_ok-push-clause-running
returns-in_ok-push-clause-running c =
    let clocks = clocks_in c.args.zones in
    let w = c.args.window.now in
    let start = c.in-Span.start in
    let before = c.args.running.now.items in
    λ t on early.
    let begins : begins_at clocks w t c.args.given ≡ int_eq (instant clocks start) t =
    ap (begins_at clocks w t) c.in-Span.is
    ∙ ap (λ b. not b && int_eq (instant clocks start) t) (sym c.is_over.ensures ∙ c.if-not-is_over.true) in
    let moment : to_z w64 (of_z w64 c.instant_by-moment.result) ≡ instant clocks start =
    moment-back c.instant_by-moment.result c.instant_by-moment.type_inv ∙ c.instant_by-moment.ensures.instant in
    ap (λ xs. is_among xs t) c.in_ok-push.ensures.items
    ∙ (one-more before (to_z w64 (of_z w64 c.instant_by-moment.result)) t
    ∙ (ap (λ m. is_among before t || int_eq m t) moment ∙ ap (λ b. is_among before t || b) (sym begins)))

pub returns-else-begun-clause-running : goal.returns-else-begun-clause-running
returns-else-begun-clause-running c =
    let clocks = clocks_in c.args.zones in
    let w = c.args.window.now in
    let start = c.in-Span.start in
    let before = c.args.running.now.items in
    let value = subst IsRdate c.in-Span.is c.requires.value in
    let years = written start.stamp value.0.years in
    let at : c.seconds.result ≡ stamp_seconds c.in-Span.start.stamp =
    c.seconds.ensures ∙ (ap (λ (l : Local). local_seconds l) c.local_of.ensures ∙ seconds-of c.in-Span.start.stamp) in
    let near = instant-near c.args.zones start in
    λ t on early.
    let none : begins_at clocks w t c.args.given ≡ false = elim c.else-begun.branch [
      | else-begun-via-then-begun+else-not-is_over v ↦
          ap (begins_at clocks w t) c.in-Span.is
          ∙ ap (λ b. not b && int_eq (instant clocks start) t) (sym v.is_over.ensures ∙ v.if-not-is_over.false)
      | else-begun-via-else-begun v ↦
          ap (begins_at clocks w t) c.in-Span.is
          ∙ and-none _ (int_eq (instant clocks start) t)
          (other (instant clocks start) t (λ l. omega (arith, ints, l, early, at, near, years.0, years.1, v.if-begun.false, c.ranges.from)))
    ] in
    sym (ap (λ b. is_among before t || b) none ∙ or-false (is_among before t))

pub returns-else-since-moment-clause-running : goal.returns-else-since-moment-clause-running
returns-else-since-moment-clause-running c =
    let clocks = clocks_in c.args.zones in
    let w = c.args.window.now in
    let start = c.in-Span.start in
    let before = c.args.running.now.items in
    let moment : to_z w64 (of_z w64 c.instant_by-moment.result) ≡ instant clocks start =
    moment-back c.instant_by-moment.result c.instant_by-moment.type_inv ∙ c.instant_by-moment.ensures.instant in
    λ t on early.
    let none : begins_at clocks w t c.args.given ≡ false =
    ap (begins_at clocks w t) c.in-Span.is
    ∙ and-none _ (int_eq (instant clocks start) t)
    (other (instant clocks start) t (λ l. omega (arith, ints, l, on, moment, c.if-since-moment.false, c.ranges.since))) in
    sym (ap (λ b. is_among before t || b) none ∙ or-false (is_among before t))
