use Rattle.std.proofs.Common.{◌≡◌, ◌∙◌, ◌==◌, ◌<ℤ◌, ◌||◌, suc, ℤ, Bool, true, false, List, [], ◌∷◌, length, None, Some, ap, sym, refl, arith, int_eq}
use Rattle.std.proofs.Common.{if◌then◌else◌}
use Rattle.std.proofs.lemmas.Bool.Decides.{nat_tests}
use Rattle.std.specs.List.{list_any}
use Rattle.std.proofs.lemmas.Int.{ints}
use Rattle.ics_event.specs.Event.{stamp_seconds}
use Rattle.ics_fields.specs.declared.local.Local.{Local}
use Rattle.ics_fields.specs.Locals.{local_seconds}
use Rattle.ics_listing.proofs.Cases.{equal-true}
use Rattle.ics_zone.proofs.Cases.{true_int_lt}
use Rattle.ics_starts.specs.Clocks.{instant}
use Rattle.ics_starts.specs.Exclusions.{is_among}
use Rattle.ics_starts.specs.FileZones.{clocks_in}
use Rattle.ics_starts.specs.Found.{is_between}
use Rattle.ics_starts.proofs.InstantLemmas.{instant-near, written}
use Rattle.ics_starts.proofs.StretchLemmas.{seconds-of}
use Rattle.ics_starts.proofs.listed.among.Goals as goal

or-parts : (a b : Bool) → (a || b) ≡ false → (a ≡ false) × (b ≡ false)
or-parts true b e = let f : true ≡ false = e in absurd cc
or-parts false b e = (refl, e)

-- an instant between two is none of those that are not
none-between : (from to t : ℤ) (xs : List ℤ) → from <ℤ t → t <ℤ to → list_any (is_between from to) xs ≡ false → is_among xs t ≡ false
none-between from to t [] l u e = refl
none-between from to t (x ∷ xs) l u e =
    let parts = or-parts (is_between from to x) (list_any (is_between from to) xs) e in
    by (int_eq x t) parts.0 (none-between from to t xs l u parts.1) refl
  where
    by : (same : Bool) → is_between from to x ≡ false → is_among xs t ≡ false → int_eq x t ≡ same → (same || is_among xs t) ≡ false
    by true out none is =
        let here = equal-true x t is in
        let between : is_between from to x ≡ true =
        rw (true_int_lt from x (omega (arith, ints, here, l)), true_int_lt x to (omega (arith, ints, here, u))) refl in
        let f : true ≡ false = sym between ∙ out in
        absurd cc
    by false out none is = none

-- none is one of no instants
none-of : (xs : List ℤ) (t : ℤ) → (length xs == 0) ≡ true → is_among xs t ≡ false
none-of [] t e = refl
none-of (x ∷ xs) t e = let none : suc (length xs) ≡ 0 = grind (arith, nat_tests, e) in absurd (omega (arith, none))

pub returns-then-is_empty-clause-found : goal.returns-then-is_empty-clause-found
returns-then-is_empty-clause-found c =
    let t = instant (clocks_in c.args.zones) c.args.time in
    sym (ap (λ b. if b then Some t else None) (none-of c.args.instants.now t (sym c.is_empty.ensures ∙ c.if-is_empty.true)))

pub returns-then-not-has_between-clause-found : goal.returns-then-not-has_between-clause-found
returns-then-not-has_between-clause-found c =
    let t = instant (clocks_in c.args.zones) c.args.time in
    let at : c.seconds-local.result ≡ stamp_seconds c.args.time.stamp =
    c.seconds-local.ensures ∙ (ap (λ (l : Local). local_seconds l) c.local_of.ensures ∙ seconds-of c.args.time.stamp) in
    let years = written c.args.time.stamp c.requires.time.is_time.years in
    let near = instant-near c.args.zones c.args.time in
    let none : is_among c.args.instants.now t ≡ false =
    none-between _ _ t c.args.instants.now (omega (arith, ints, at, years.0, years.1, near)) (omega (arith, ints, at, years.0, years.1, near))
    (sym c.has_between.ensures ∙ c.if-not-has_between.true) in
    sym (ap (λ b. if b then Some t else None) none)
