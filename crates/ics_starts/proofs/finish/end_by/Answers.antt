use Rattle.std.proofs.Common.{◌≡◌, ◌+ℤ◌, ◌-ℤ◌, ◌≤ℤ◌, ◌∙◌, ap, sym, subst, w64, to_z, of_z, arith}
use Rattle.std.proofs.lemmas.Int.{ints}
use Rattle.ics_values.specs.declared.time.Length.TheVariants.{Until}
use Rattle.ics_event.specs.Event.{IsLength}
use Rattle.ics_starts.specs.Clocks.{instant}
use Rattle.ics_starts.specs.Finish.{end_by}
use Rattle.ics_starts.specs.FileZones.{clocks_in, EndsNear, IsEndOf}
use Rattle.ics_listing.proofs.StartOrderLemmas.{day-years}
use Rattle.ics_starts.proofs.InstantLemmas.{until-years, instant-near, late, until, day-written}
use Rattle.ics_listing.specs.WindowBounds.{occurrence_first}
use Rattle.ics_starts.proofs.finish.end_by.Goals as goal

pub midnight_after-requires-clause-early : goal.midnight_after-requires-clause-early
midnight_after-requires-clause-early c =
    let years = day-years c.args.given c.requires.given.is_time in
    let near = instant-near c.args.zones c.args.given in
    omega (arith, ints, c.day_of.ensures, c.requires.start, c.requires.early, near, day-written c.args.given.stamp, years.0, years.1)

pub midnight_after-requires-clause-late : goal.midnight_after-requires-clause-late
midnight_after-requires-clause-late c =
    let years = day-years c.args.given c.requires.given.is_time in
    omega (arith, ints, c.day_of.ensures, years.0, years.1)

pub instant-requires : goal.instant-requires
instant-requires c = subst (IsEndOf c.args.zones.zones.now) c.in_default-Until.is-1 c.requires.end

pub overflow_sub-result : goal.overflow_sub-result
overflow_sub-result c =
    let years = until-years c.args.zones c.args.first c.in_default-Until.is-1 c.requires.length c.requires.first.is_time in
    omega (arith, ints, c.instant.ensures, c.instant-in_default-Until.ensures, years.0, years.1, years.2, years.3)

pub overflow_add-result : goal.overflow_add-result
overflow_add-result c =
    let years = until-years c.args.zones c.args.first c.in_default-Until.is-1 c.requires.length c.requires.first.is_time in
    let from = late c.args.zones c.args.given c.requires.given.is_time in
    omega (arith, ints, c.instant.ensures, c.instant-in_default-Until.ensures, years.0, years.1, years.2, years.3, from, c.requires.start, c.requires.early)

pub later_by-requires : goal.later_by-requires
later_by-requires c =
    let from : occurrence_first ≤ℤ instant (clocks_in c.args.zones) c.args.given = late c.args.zones c.args.given c.requires.given.is_time in
    record {
      time = c.requires.given;
      late = omega (arith, ints, c.requires.start, from);
      early = omega (arith, ints, c.requires.early);
      short = subst (IsLength c.args.first.stamp) c.in_default-Lasting.is-1 c.requires.length;
    }

pub returns-in_default-Until : goal.returns-in_default-Until
returns-in_default-Until c =
    let clocks = clocks_in c.args.zones in
    let first = c.args.first in
    let given = c.args.given in
    let end = c.in_default-Until.end in
    let years = until-years c.args.zones c.args.first c.in_default-Until.is-1 c.requires.length c.requires.first.is_time in
    let from = late c.args.zones c.args.given c.requires.given.is_time in
    let near : EndsNear (clocks_in c.args.zones) c.args.first (Until c.in_default-Until.end) =
    subst (EndsNear (clocks_in c.args.zones) c.args.first) c.in_default-Until.is-1 c.requires.near in
    let back : to_z w64 (of_z w64 (to_z w64 (of_z w64 c.args.start) +ℤ to_z w64
    (of_z w64 (to_z w64 (of_z w64 c.instant.result) -ℤ to_z w64 (of_z w64 c.instant-in_default-Until.result)))))
    ≡ instant clocks given +ℤ (instant clocks end -ℤ instant clocks first) =
    omega (arith, ints, c.instant.ensures, c.instant-in_default-Until.ensures, years.0, years.1, years.2, years.3, from, c.requires.start, c.requires.early) in
    record {
      value = back ∙ (until clocks first given end first.stamp c.in_default-Until.not-Date-0
          ∙ ap (end_by clocks first given first.stamp) (sym c.in_default-Until.is-1));
      early = omega (arith, ints, back, near, c.requires.start, c.requires.early);
    }
