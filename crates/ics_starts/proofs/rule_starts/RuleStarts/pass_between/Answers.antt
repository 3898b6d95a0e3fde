use Rattle.std.proofs.Common.{◌≤ℤ◌, refl, arith, rules, w64, SFits}
use Rattle.std.proofs.lemmas.Int.{int_min_is, ints}
use Rattle.ics_listing.proofs.Cases.{moment-back}
use Rattle.ics_starts.proofs.RuleStepLemmas.{next-years}
use Rattle.ics_starts.proofs.rule_starts.RuleStarts.pass_between.Goals as goal

pub end_between-to-requires : goal.end_between-to-requires
end_between-to-requires c =
    let s = c.args.self.now in
    let w = s.window in
    let min = c.min-before in
    let short = s.stretched.short in
    let years = next-years s in
    let back = moment-back min.result min.type_inv in (
      omega (arith, ints, back, c.next_shown.ensures, c.next_shown.type_inv, c.if-next_shown-before.true, years, short),
      omega (arith, ints, back, int_min_is, min.ensures.value, w.ordered, w.not_early, w.not_late),
    )

pub returns-then-next_shown-before : goal.returns-then-next_shown-before
returns-then-next_shown-before c =
    let min = c.min-before in
    let back = moment-back min.result min.type_inv in
    let from : SFits w64 c.args.from = c.ranges.from in
    let to : SFits w64 c.args.to = c.ranges.to in
    let ends : SFits w64 c.end_between-to.result = search rules in
    let early : min.result ≤ℤ c.args.to = omega (arith, ints, int_min_is, min.ensures.value, to) in
    record {
      source = c.pass_to.ensures.source;
      day = c.pass_to.ensures.day;
      on = c.pass_to.ensures.on;
      left = c.pass_to.ensures.left;
      each = λ n l u.
          let passed = c.pass_to.ensures.passed n l u in
          let amid = c.end_between-to.ensures n l (omega (arith, ints, passed)) in
          record { from = omega (arith, ints, amid.from, from); before = omega (arith, ints, amid.before, back, early) };
    }

pub returns-else-next_shown-before : goal.returns-else-next_shown-before
returns-else-next_shown-before c = record {
  source = record { zones = refl; event = refl; window = refl; rule = refl; from = refl; end = refl };
  day = refl;
  on = omega arith;
  left = refl;
  each = λ n l u. absurd (omega (arith, l, u));
}
