use Rattle.std.proofs.Common.{◌≡◌, ◌∙◌, inl, inr, sym, arith}
use Rattle.std.proofs.lemmas.Bool.{cases_lt}
use Rattle.ics_period.proofs.DayWalkLemmas.{month_out, month_day_out, year_day_out, place_in_year}
use Rattle.ics_period.proofs.left_out.days_unlisted.Goals as goal
use Rattle.ics_period.proofs.left_out.days_unlisted.Goals.{else-lets_place-via-then-lets_place+else-lets_wide_place}
use Rattle.ics_period.proofs.left_out.days_unlisted.Goals.{else-lets_place-via-else-lets_place}

pub returns-then-not-lets-clause-none : goal.returns-then-not-lets-clause-none
returns-then-not-lets-clause-none c = λ e own j h. month_out c.args.parts.now j own (omega (arith, h, c.month_length-len.ensures))
    (grind (arith, c.if-not-lets.true, c.lets.ensures))

pub returns-then-ones_below-le-FEW_FROM_END-clause-none : goal.returns-then-ones_below-le-FEW_FROM_END-clause-none
returns-then-ones_below-le-FEW_FROM_END-clause-none c = λ e own j h. month_day_out c.args.parts.now j own c.month_length-len.ensures
    (omega (arith, h, c.month_days_out.ensures.most)) (c.month_days_out.ensures.none j h)

pub lets_wide_place-requires-clause-place : goal.lets_wide_place-requires-clause-place
lets_wide_place-requires-clause-place c =
    let place = place_in_year c.loop-out.out c.requires.1 (omega (arith, c.loop-out-test.true, c.month_length-len.ensures)) in
    omega (arith, place, c.year_length-year.ensures)

pub loop-out-preserved : goal.loop-out-preserved
loop-out-preserved c = record {
  high = omega (arith, c.loop-out-test.true);
  none = λ e own j h. elim (cases_lt j c.loop-out.out) [
    | inl early ↦ c.loop-out.invariant.none e own j early
    | inr late ↦ (let same : j ≡ c.loop-out.out = omega (arith, h, late) in
        rw same elim c.else-lets_place.branch [
          | else-lets_place-via-then-lets_place+else-lets_wide_place w ↦ year_day_out c.args.parts.now c.loop-out.out own
              (omega (arith, c.loop-out-test.true, c.month_length-len.ensures)) c.year_length-year.ensures
              (sym w.lets_wide_place.ensures ∙ w.if-lets_wide_place.false)
          | else-lets_place-via-else-lets_place w ↦ month_day_out c.args.parts.now c.loop-out.out own c.month_length-len.ensures c.loop-out-test.true
              (sym c.lets_place.ensures ∙ w.if-lets_place.false)
        ])
  ];
}
