use Rattle.std.proofs.Common.{arith, rules, ◌≤◌}
use Rattle.ics_fields.specs.RuleParts.{ArePlaces, AreWidePlaces}
use Rattle.ics_fields.specs.Sets.{contains}
use Rattle.ics_fields.proofs.PlaceLemmas.{ordinals_more, wide_ordinals_more}
use Rattle.ics_fields.proofs.SetLemmas.{within_more}
use Rattle.ics_values.proofs.rule_text.take_item.Goals as goal

pub invariant_of-parts : goal.invariant_of-parts
invariant_of-parts c =
    let seconds = within_more (contains c.parts.inside.seconds) (contains c.insert.new.self) c.insert.ensures.members
    c.parts.invariant.seconds (record { first = omega arith; last = omega arith }) in
    assumption (seconds, c.parts.invariant)

pub invariant_of-parts-in-ByMinute : goal.invariant_of-parts-in-ByMinute
invariant_of-parts-in-ByMinute c =
    let last : c.in_ok-n-in-ByMinute.n ≤ 59 = search rules in
    let minutes =
    within_more (contains c.parts-in-ByMinute.inside.minutes) (contains c.insert-in-ByMinute.new.self) c.insert-in-ByMinute.ensures.members
    c.parts-in-ByMinute.invariant.minutes (record { first = omega arith; last = omega (arith, last) }) in
    assumption (minutes, c.parts-in-ByMinute.invariant)

pub invariant_of-parts-in-ByHour : goal.invariant_of-parts-in-ByHour
invariant_of-parts-in-ByHour c =
    let last : c.in_ok-n-in-ByHour.n ≤ 23 = search rules in
    let hours =
    within_more (contains c.parts-in-ByHour.inside.hours) (contains c.insert-in-ByHour.new.self) c.insert-in-ByHour.ensures.members
    c.parts-in-ByHour.invariant.hours (record { first = omega arith; last = omega (arith, last) }) in
    assumption (hours, c.parts-in-ByHour.invariant)

pub invariant_of-parts-in-ByMonth : goal.invariant_of-parts-in-ByMonth
invariant_of-parts-in-ByMonth c =
    let first : 1 ≤ c.in_ok-n-in-ByMonth.n = search rules in
    let last : c.in_ok-n-in-ByMonth.n ≤ 12 = search rules in
    let months =
    within_more (contains c.parts-in-ByMonth.inside.months) (contains c.insert-in-ByMonth.new.self) c.insert-in-ByMonth.ensures.members
    c.parts-in-ByMonth.invariant.months (record { first = omega arith; last = omega (arith, last) }) in
    assumption (months, c.parts-in-ByMonth.invariant)

pub invariant_of-parts-in-ByMonthDay : goal.invariant_of-parts-in-ByMonthDay
invariant_of-parts-in-ByMonthDay c =
    let first : 1 ≤ c.in_ok-side-in-ByMonthDay.n = search rules in
    let last : c.in_ok-side-in-ByMonthDay.n ≤ 31 = search rules in
    let month_days : ArePlaces c.insert-in-ByMonthDay.new.self 31 =
    rw c.insert-in-ByMonthDay.ensures (ordinals_more c.in_ok-side-in-ByMonthDay.side (omega (arith, last))
    (record { first = omega (arith, first, last); last = omega (arith, last) }) c.parts-in-ByMonthDay.invariant.month_days) in
    assumption (month_days, c.parts-in-ByMonthDay.invariant)

pub invariant_of-parts-in-ByWeekNo : goal.invariant_of-parts-in-ByWeekNo
invariant_of-parts-in-ByWeekNo c =
    let first : 1 ≤ c.in_ok-side-in-ByWeekNo.n = search rules in
    let last : c.in_ok-side-in-ByWeekNo.n ≤ 53 = search rules in
    let weeks : ArePlaces c.insert-in-ByWeekNo.new.self 53 =
    rw c.insert-in-ByWeekNo.ensures (ordinals_more c.in_ok-side-in-ByWeekNo.side (omega (arith, last))
    (record { first = omega (arith, first, last); last = omega (arith, last) }) c.parts-in-ByWeekNo.invariant.weeks) in
    assumption (weeks, c.parts-in-ByWeekNo.invariant)

pub invariant_of-parts-in-ByYearDay : goal.invariant_of-parts-in-ByYearDay
invariant_of-parts-in-ByYearDay c =
    let first : 1 ≤ c.in_ok-side-in-ByYearDay.n = search rules in
    let last : c.in_ok-side-in-ByYearDay.n ≤ 366 = search rules in
    let year_days : AreWidePlaces c.insert-in-ByYearDay.new.self 366 =
    rw c.insert-in-ByYearDay.ensures (wide_ordinals_more c.in_ok-side-in-ByYearDay.side (omega (arith, last)) (omega (arith, last)) (omega (arith, last))
    (record { first = omega (arith, first, last); last = omega (arith, last) }) c.parts-in-ByYearDay.invariant.year_days) in
    assumption (year_days, c.parts-in-ByYearDay.invariant)

pub invariant_of-parts-in-BySetPos : goal.invariant_of-parts-in-BySetPos
invariant_of-parts-in-BySetPos c =
    let first : 1 ≤ c.in_ok-side-in-BySetPos.n = search rules in
    let last : c.in_ok-side-in-BySetPos.n ≤ 366 = search rules in
    let positions : AreWidePlaces c.insert-in-BySetPos.new.self 366 =
    rw c.insert-in-BySetPos.ensures (wide_ordinals_more c.in_ok-side-in-BySetPos.side (omega (arith, last)) (omega (arith, last)) (omega (arith, last))
    (record { first = omega (arith, first, last); last = omega (arith, last) }) c.parts-in-BySetPos.invariant.positions) in
    assumption (positions, c.parts-in-BySetPos.invariant)
