use Rattle.std.proofs.lemmas.Grind.{common_steps}
use Rattle.std.proofs.Common.{◌≡◌, w64, to_z, of_z, pos, ◌-ℤ◌, sym, ap, subst, ◌∙◌, arith}
use Rattle.std.specs.Int.{int_max}
use Rattle.std.proofs.lemmas.Int.{ints, int_max_is}
use Rattle.ics_values.specs.declared.time.Length.TheVariants.{Until}
use Rattle.ics_event.specs.Event.{IsLasting, IsLength}
use Rattle.ics_starts.specs.Clocks.{instant}
use Rattle.ics_starts.specs.Finish.{seconds_by}
use Rattle.ics_starts.specs.FileZones.{clocks_in, EndsNear, IsEndOf}
use Rattle.ics_starts.proofs.InstantLemmas.{until-years, lasting-seconds, until-seconds}
use Rattle.ics_starts.proofs.lasting.seconds_by.Goals as goal

pub instant-requires : goal.instant-requires
instant-requires c = subst (IsEndOf c.args.zones.zones.now) c.in_default-Until.is-1 c.requires.end

pub overflow_sub-instant : goal.overflow_sub-instant
overflow_sub-instant c =
    let years = until-years c.args.zones c.args.first c.in_default-Until.is-1 c.requires.length c.requires.first.is_time in
    omega (arith, ints, c.instant.ensures, c.instant-in_default-Until.ensures, years.0, years.1, years.2, years.3)

pub returns-in_default-Until : goal.returns-in_default-Until
returns-in_default-Until c =
    let clocks = clocks_in c.args.zones in
    let first = c.args.first in
    let end = c.in_default-Until.end in
    let years = until-years c.args.zones c.args.first c.in_default-Until.is-1 c.requires.length c.requires.first.is_time in
    let near : EndsNear (clocks_in c.args.zones) c.args.first (Until c.in_default-Until.end) =
    subst (EndsNear (clocks_in c.args.zones) c.args.first) c.in_default-Until.is-1 c.requires.near in
    let value : to_z w64 (of_z w64 c.max.result) ≡ int_max (instant clocks end -ℤ instant clocks first) (pos 0) =
    omega (arith, ints, c.max.type_inv, c.max.ensures.value, c.instant.ensures, c.instant-in_default-Until.ensures, years, int_max_is) in
    record {
      value = value ∙ (until-seconds clocks first end first.stamp c.in_default-Until.not-Date-0
          ∙ ap (seconds_by clocks first first.stamp) (sym c.in_default-Until.is-1));
      least = omega (arith, ints, value, int_max_is (instant clocks end -ℤ instant clocks first) (pos 0));
      most = omega (arith, ints, value, near, int_max_is (instant clocks end -ℤ instant clocks first) (pos 0));
    }

pub returns-in_default-Lasting : goal.returns-in_default-Lasting
returns-in_default-Lasting c =
    let clocks = clocks_in c.args.zones in
    let first = c.args.first in
    let duration = c.in_default-Lasting.duration in
    let lasting : IsLasting duration = subst (IsLength c.args.first.stamp) c.in_default-Lasting.is-1 c.requires.length in
    record {
      value = omega (arith, ints, lasting.short)
          ∙ (lasting-seconds clocks first duration first.stamp c.in_default-Lasting.not-Date-0
          ∙ ap (seconds_by clocks first first.stamp) (sym c.in_default-Lasting.is-1));
      least = omega (arith, ints, lasting.short);
      most = omega (arith, ints, lasting.short);
    }

pub returns-in-Date-default : goal.returns-in-Date-default
returns-in-Date-default c = record {
  value = grind (arith, ints, common_steps);
  least = grind (arith, ints, common_steps);
  most = grind (arith, ints, common_steps);
}
