use Rattle.std.proofs.Common.{◌≡◌, ap, ◌∙◌, arith}
use Rattle.jiff_core.specs.Calendar.{days_in_year}
use Rattle.jiff_core.proofs.CalendarLemmas.{days_in_year_bounds}
use Rattle.jiff_core.proofs.SignedLemmas.{signed_casts}
use Rattle.jiff_tz.specs.PosixRule.{first_day}
use Rattle.jiff_tz.proofs.YearLemmas.{back_year}
use Rattle.ics_zone.proofs.rule_stretch.ends_of.Goals as goal

pub returns : goal.returns
returns c =
    let back = back_year c.args.year c.requires in
    let first : c.first_day-first.result ≡ first_day c.args.year = c.first_day-first.ensures.value ∙ ap first_day back in
    let days : c.days_in_year.result ≡ days_in_year c.args.year = c.days_in_year.ensures ∙ ap days_in_year back in
    let more = days_in_year_bounds c.args.year in
    let bound = c.first_day-first.ensures.bound in
    record {
      first = omega (arith, signed_casts, first, bound);
      last = omega (arith, signed_casts, first, days, more, bound);
      first_bound = (omega (arith, signed_casts, bound), omega (arith, signed_casts, bound));
      last_bound = (omega (arith, signed_casts, days, more, bound), omega (arith, signed_casts, days, more, bound));
    }
