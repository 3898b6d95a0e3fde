use Rattle.std.proofs.Common.{◌≡◌, ◌-ℤ◌, ◌≤ℤ◌, ℤ, refl, arith, rules, w64, to_z, of_z, SFits}
use Rattle.std.proofs.lemmas.Int.{int_min_is, ints}
use Rattle.jiff_core.specs.Calendar.{IsBetween, IsWithin}
use Rattle.ics_fields.specs.Locals.{year_seconds}
use Rattle.ics_listing.proofs.Cases.{moment-back}
use Rattle.ics_starts.proofs.RuleStepLemmas.{next-years}
use Rattle.ics_starts.proofs.rule_starts.RuleStarts.pass_before.Goals as goal

-- what is taken from an instant, as it is read back
taken-back : {t off : ℤ} → IsBetween (year_seconds 0) (year_seconds 10_000) t → IsWithin 93_599 off
    → to_z w64 (of_z w64 (to_z w64 (of_z w64 t) -ℤ to_z w64 (of_z w64 off))) ≡ t -ℤ off
taken-back years short = omega (arith, ints, years, short)

pub overflow_sub-self : goal.overflow_sub-self
overflow_sub-self c =
    let s = c.args.self.now in
    omega (arith, ints, next-years s, s.rule_of.bounded.most_short)

pub end_before-to-requires : goal.end_before-to-requires
end_before-to-requires c =
    let s = c.args.self.now in
    let w = s.window in
    let min = c.min-before in
    let short = s.rule_of.bounded.most_short in
    let years = next-years s in
    let before = taken-back years short in
    let back = moment-back min.result min.type_inv in (
      omega (arith, ints, back, before, c.if-self-most.true, years, short),
      omega (arith, ints, back, int_min_is, min.ensures.value, w.ordered, w.not_early, w.not_late),
    )

pub returns-then-self-most : goal.returns-then-self-most
returns-then-self-most c =
    let min = c.min-before in
    let back = moment-back min.result min.type_inv in
    let fits : SFits w64 c.args.moment = c.ranges.moment in
    let ends : SFits w64 c.end_before-to.result = search rules in
    let early : min.result ≤ℤ c.args.moment = omega (arith, ints, int_min_is, min.ensures.value, fits) in
    record {
      source = c.pass_to.ensures.source;
      day = c.pass_to.ensures.day;
      on = c.pass_to.ensures.on;
      left = c.pass_to.ensures.left;
      each = λ n l u.
          let passed = c.pass_to.ensures.passed n l u in
          let before = c.end_before-to.ensures.early n l (omega (arith, ints, passed)) in
          omega (arith, ints, before, back, early);
    }

pub returns-else-self-most : goal.returns-else-self-most
returns-else-self-most c = record {
  source = record { zones = refl; event = refl; window = refl; rule = refl; from = refl; end = refl };
  day = refl;
  on = omega arith;
  left = refl;
  each = λ n l u. absurd (omega (arith, l, u));
}
