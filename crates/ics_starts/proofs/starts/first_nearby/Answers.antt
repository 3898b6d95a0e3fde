use Rattle.std.proofs.Common.{◌+ℤ◌, ◌-ℤ◌, w64, ap, arith, SFits}
use Rattle.std.proofs.lemmas.Int.{ints, int_max_is}
use Rattle.ics_fields.specs.declared.local.Local.{Local}
use Rattle.ics_fields.specs.Locals.{local_seconds, whole_days}
use Rattle.ics_listing.proofs.NearLemmas.{day-under}
use Rattle.ics_starts.proofs.starts.first_nearby.Goals as goal

pub returns-then-local-first-clause-low : goal.returns-then-local-first-clause-low
returns-then-local-first-clause-low c = omega (arith, ints, int_max_is (local_seconds c.args.first) (c.args.earliest -ℤ c.args.back))

pub returns-then-local-first-clause-late : goal.returns-then-local-first-clause-late
returns-then-local-first-clause-late c =
    let fits : SFits w64 c.args.earliest = c.ranges.earliest in
    let local = c.of_seconds-local in
    let under = day-under _ local.result.day local.ensures.day in
    let r = c.requires in
    let late = int_max_is (local_seconds c.args.first) (c.args.earliest -ℤ (c.args.back +ℤ whole_days 1)) in
    omega (arith, ints, late, under.0, under.1, c.args.first.second_in, r.first.0, r.first.1, r.late, r.early, r.least, r.most)

pub returns-then-at_midnight : goal.returns-then-at_midnight
returns-then-at_midnight c =
    let fits : SFits w64 c.args.earliest = c.ranges.earliest in
    let local = c.of_seconds-local in
    let under = day-under _ local.result.day local.ensures.day in
    let day = ap (λ (l : Local). l.day) c.at.ensures in
    let at = ap (λ (l : Local). local_seconds l) c.at.ensures in
    let late = int_max_is (local_seconds c.args.first) (c.args.earliest -ℤ (c.args.back +ℤ whole_days 1)) in
    let low = int_max_is (local_seconds c.args.first) (c.args.earliest -ℤ c.args.back) in
    let first = c.requires.first in
    let r = c.requires in
    record {
      day = (omega (arith, ints, day, under, first, r.least, r.most), omega (arith, ints, day, under, first, r.least, r.most, r.early));
      late = omega (arith, ints, late, at, under.0, under.1, c.args.first.second_in, first.0, first.1, r.late, r.early, r.least, r.most);
      low = omega (arith, ints, low, at, under.0, under.1, first.0, first.1, r.late, r.early, r.least, r.most);
    }

pub returns-else-at_midnight : goal.returns-else-at_midnight
returns-else-at_midnight c =
    let fits : SFits w64 c.args.earliest = c.ranges.earliest in
    let local = c.of_seconds-local in
    let under = day-under _ local.result.day local.ensures.day in
    let same = local.ensures.value in
    let late = int_max_is (local_seconds c.args.first) (c.args.earliest -ℤ (c.args.back +ℤ whole_days 1)) in
    let low = int_max_is (local_seconds c.args.first) (c.args.earliest -ℤ c.args.back) in
    let first = c.requires.first in
    let r = c.requires in
    record {
      day = (omega (arith, ints, under, first, r.least, r.most), omega (arith, ints, under, first, r.least, r.most, r.early));
      late = omega (arith, ints, late, same, under.0, under.1, c.args.first.second_in, first.0, first.1, r.late, r.early, r.least, r.most);
      low = omega (arith, ints, low, same, under.0, under.1, first.0, first.1, r.late, r.early, r.least, r.most);
    }
