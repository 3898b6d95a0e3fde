use Rattle.std.proofs.Common.{◌≡◌, ◌+ℤ◌, ◌∙◌, pos, true, ⊎_elim, rules, refl, sym, w32, w64, to_z, of_z, ap, subst, arith, SFits}
use Rattle.std.proofs.lemmas.Int.{ints}
use Rattle.ics_fields.specs.Locals.{day_of_local, local_seconds, midnight}
use Rattle.ics_fields.specs.declared.local.Local.{Local}
use Rattle.ics_listing.proofs.NearLemmas.{day-under}
use Rattle.ics_starts.specs.Exclusions.{is_among}
use Rattle.ics_zone.proofs.Cases.{less_or_not_z}
use Rattle.ics_starts.proofs.exclusion.Exclusions.run_end.Goals as goal

pub loop-day-preserved : goal.loop-day-preserved
loop-day-preserved c =
    let on = c.loop-day.invariant.on in
    let early = c.loop-day-test.true in
    let next : to_z w32 (of_z w32 (to_z w32 c.loop-day.day-bits +ℤ pos 1)) ≡ to_z w32 c.loop-day.day-bits +ℤ pos 1 =
    omega (arith, ints, on, early) in
    record {
      on = omega (arith, ints, on, next);
      within = omega (arith, ints, early, next);
      removed = λ d from before.
          ⊎_elim (λ l. c.loop-day.invariant.removed d from l)
          (λ m.
          let same : to_z w32 c.loop-day.day-bits ≡ d = omega (arith, ints, m, before, next) in
          subst (λ x. is_among c.args.self.now.days.items x ≡ true) same (sym c.has_day.ensures ∙ c.if-has_day.true))
          (less_or_not_z d (to_z w32 c.loop-day.day-bits));
    }

pub returns-clause-removed : goal.returns-clause-removed
returns-clause-removed c = λ other on before.
    let here = c.of_seconds-first in
    let at = ap (λ (l : Local). local_seconds l) c.at.ensures in
    let is : c.seconds.result ≡ midnight (to_z w32 c.loop-day.day-bits) = omega (arith, ints, c.seconds.ensures, at) in
    let under = day-under other (day_of_local other) refl in
    let fits : SFits w64 c.seconds.result = search rules in
    c.loop-day.invariant.removed (day_of_local other)
    (omega (arith, ints, under.1, on, here.result.second_in, here.ensures.value, c.requires)) (omega (arith, ints, under.0, before, is))

pub returns-clause-near : goal.returns-clause-near
returns-clause-near c =
    let here = c.of_seconds-first in
    let on = c.loop-day.invariant.on in
    let within = c.loop-day.invariant.within in
    let at = ap (λ (l : Local). local_seconds l) c.at.ensures in
    let is : c.seconds.result ≡ midnight (to_z w32 c.loop-day.day-bits) = omega (arith, ints, c.seconds.ensures, at) in
    let first : to_z w32 (of_z w32 c.of_seconds-first.result.day) ≡ c.of_seconds-first.result.day =
    omega (arith, ints, here.result.second_in, here.ensures.value, c.requires) in (
      omega (arith, ints, is, on, first, here.result.second_in, here.ensures.value, c.requires, within),
      omega (arith, ints, is, on, first, here.result.second_in, here.ensures.value, c.requires, within),
    )
