use Rattle.ics_rule.specs.PlainReading.{in_month, in_year}
use Rattle.ics_rule.proofs.NthLemmas.{month_day, month_stretch, weekday_last, weekday_nth, year_day, year_stretch}
use Rattle.ics_rule.proofs.laws.numbered_weekdays.Goals as goal

pub returns : goal.returns
returns c = record {
  month = λ e. weekday_nth (in_month e) _ _ (month_stretch e) (month_day e);
  month_end = λ e. weekday_last (in_month e) _ _ (month_stretch e) (month_day e);
  year = λ e. weekday_nth (in_year e) _ _ (year_stretch e) (year_day e);
  year_end = λ e. weekday_last (in_year e) _ _ (year_stretch e) (year_day e);
}
