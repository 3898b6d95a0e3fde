use Rattle.std.proofs.Common.{◌≡◌, pos, unsigned_abs, refl, sym, ap, ◌∙◌, arith, Fits, w16, to_z, of_z, T, subst, inl, inr, rules}
use lib.Signed.{non_neg}
use Rattle.std.proofs.lemmas.Int.{ints}
use Rattle.jiff_core.specs.declared.civil.date.Date.{Date}
use Rattle.jiff_core.specs.Calendar.{day_of_year}
use Rattle.jiff_core.specs.Date.{epoch_day}
use Rattle.jiff_core.proofs.SignedLemmas.{signed_arith, one_part}
use Rattle.jiff_core.proofs.DateLemmas.{civil}
use Rattle.jiff_core.proofs.CalendarLemmas.{weekday_number-parts}
use Rattle.ics_fields.specs.Days.{IsDayNumber}
use Rattle.ics_fields.proofs.DayLemmas.{fields, year_is, day_index_parts}
use Rattle.ics_fields.proofs.calendar.civil.Goals as goal
use Rattle.ics_fields.proofs.calendar.civil.Goals.{After-from_days_since_min-date}

-- the date is that of the day
its_day : (c : After-from_days_since_min-date) → epoch_day c.from_days_since_min-date.result ≡ c.args.day
its_day c =
    let range : IsDayNumber c.args.day = c.requires in
    omega (arith, ints, range.0, range.1, c.from_days_since_min-date.ensures)

-- its year is kept by the casts
year_kept : (d : Date) → to_z w16 (of_z w16 d.year) ≡ d.year
year_kept d = let range = d.year_in in omega (arith, ints, range.0, range.1)

year_fits : (d : Date) → Fits w16 (unsigned_abs d.year)
year_fits d = elim (one_part d.year) [
  | inl zero_up ↦ omega (arith, signed_arith, d.year_in.0, d.year_in.1, zero_up)
  | inr zero_down ↦ omega (arith, signed_arith, d.year_in.0, d.year_in.1, zero_down)
]

cast_fits : (d : Date) → d.year ≡ pos (unsigned_abs d.year) → T (non_neg (to_z w16 (of_z w16 d.year))) × Fits w16 (unsigned_abs (to_z w16 (of_z w16 d.year)))
cast_fits d e = rw (year_kept d) (subst (λ y. T (non_neg y)) (sym e) tt, year_fits d)

pub overflow_cast-result : goal.overflow_cast-result
overflow_cast-result c =
    let d = c.from_days_since_min-date.result in
    cast_fits d (year_is d c.args.day c.requires (its_day (goal.at.overflow_cast-result c).After-from_days_since_min-date))

pub returns : goal.returns
returns c =
    let d = c.from_days_since_min-date.result in
    let same = its_day (goal.at.returns c).After-from_days_since_min-date in
    let year = year_is d c.args.day c.requires same in
    let f = fields d c.args.day c.requires same in
    let kept : unsigned_abs (to_z w16 (of_z w16 d.year)) ≡ unsigned_abs d.year = ap unsigned_abs (year_kept d) in
    let place : c.day_of_year.result ≡ day_of_year (pos (unsigned_abs d.year)) d.month d.day = c.day_of_year.ensures.value ∙ rw year refl in
    record {
      number = rw (year_kept d, ← year) same;
      named = search rules;
      fields = record {
        date = rw (kept, ← year) (civil d);
        year_end = rw kept c.day_of_year.ensures.bound.1;
        place = rw kept place;
        year = kept ∙ sym f.year;
        month = sym f.month;
        day = sym f.month_day;
        year_day = place ∙ sym f.year_day;
        weekday = c.weekday.ensures ∙ rw (same, weekday_number-parts) (omega (arith, day_index_parts c.args.day c.requires));
      };
    }
