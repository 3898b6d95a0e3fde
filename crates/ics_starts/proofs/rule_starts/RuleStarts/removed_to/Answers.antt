use Rattle.std.proofs.Common.{◌<◌, ◌-ℤ◌, ◌<ℤ◌, ◌≤ℤ◌, ◌≡◌, ℤ, pos, negsuc, unsigned_abs, refl, rules, arith, w64, to_z, of_z, SFits}
use Rattle.std.proofs.lemmas.Int.{int_min_is, ints}
use Rattle.ics_starts.proofs.RuleStepLemmas.{end-back, end-days, next-years}
use Rattle.ics_starts.proofs.TakenLemmas.{stayed-on, taken-on, taken-stayed}
use Rattle.ics_starts.proofs.rule_starts.RuleStarts.removed_to.Goals as goal

-- nothing was passed
pub loop-to-init : goal.loop-to-init
loop-to-init c =
    let years = next-years c.args.self.now in
    record {
      same = record {
        source = record { zones = refl; event = refl; window = refl; rule = refl; from = refl; end = refl };
        day = refl;
        next = refl;
        cursor = refl;
        held = refl;
      };
      on = omega (arith, ints, years);
      removed = λ n l u. absurd (omega (arith, ints, l, u, years));
    }

pub removed_from-requires : goal.removed_from-requires
removed_from-requires c =
    let s = c.args.self.now in
    let end = end-back s c.at.ensures c.seconds-end.ensures in
    let before = c.loop-to-test.true in (
      omega (arith, ints, next-years s, c.loop-to.invariant.on),
      omega (arith, ints, before, end, end-days s),
    )

pub loop-to-preserved : goal.loop-to-preserved
loop-to-preserved c =
    let s = c.args.self.now in
    let at = c.loop-to.invariant in
    let instants = c.args.exclusions.now.instants.items in
    let days = c.args.exclusions.now.days.items in
    let min = c.min-next in
    let fits : SFits w64 c.removed_from.result = search rules in
    let to = to_z w64 c.loop-to.to-bits in
    let now = to_z w64 (of_z w64 c.min-next.result) in
    let within : to_z w64 (of_z w64 c.min-next.result) ≤ℤ c.removed_from.result = omega (arith, ints, int_min_is, min.ensures.value, min.type_inv) in
    record {
      same = stayed-on at.same c.removed_from.ensures.same;
      on = omega (arith, ints, at.on, c.if-next-to.false);
      removed = taken-on s instants days s.next to now at.removed
          (taken-stayed instants days to now at.same (λ n l u. c.removed_from.ensures.removed n l (omega (arith, ints, u, within))));
    }

abs-back : (z : ℤ) → pos 0 ≤ℤ z → pos (unsigned_abs z) ≡ z
abs-back (pos n) h = refl
abs-back (negsuc n) h = absurd (omega (arith, ints, h))

-- a later bound that is not past the end is nearer to it
nearer : (end to next : ℤ) → to <ℤ next → next ≤ℤ end → unsigned_abs (end -ℤ next) < unsigned_abs (end -ℤ to)
nearer end to next l m =
    let before = abs-back (end -ℤ to) (omega (arith, ints, l, m)) in
    let now = abs-back (end -ℤ next) (omega (arith, ints, m)) in
    omega (arith, ints, before, now, l)

pub loop-to-smaller : goal.loop-to-smaller
loop-to-smaller c =
    let later = c.if-next-to.false in
    let min = c.min-next in
    let within : to_z w64 (of_z w64 c.min-next.result) ≤ℤ to_z w64 (of_z w64 c.seconds-end.result) =
    omega (arith, ints, int_min_is, min.ensures.value, min.type_inv) in
    nearer (to_z w64 (of_z w64 c.seconds-end.result)) (to_z w64 c.loop-to.to-bits) (to_z w64 (of_z w64 c.min-next.result)) (omega (arith, ints, later)) within
