use Rattle.std.proofs.Common.{sym, ◌∙◌, arith}
use Rattle.std.proofs.lemmas.Bool.Decides.{nat_tests}
use Rattle.ics_values.proofs.StampLemmas.{date_digits, date_time_digits}
use Rattle.ics_values.proofs.stamp.any_stamp.Goals as goal

pub day_of-requires : goal.day_of-requires
day_of-requires c = date_digits c.args.text.now (sym c.is_date_form.ensures ∙ c.if-is_date_form.true)

pub returns-then-is_date_form-clause-digits : goal.returns-then-is_date_form-clause-digits
returns-then-is_date_form-clause-digits c = date_digits c.args.text.now (sym c.is_date_form.ensures ∙ c.if-is_date_form.true)

pub day_of-requires-2 : goal.day_of-requires-2
day_of-requires-2 c = (date_time_digits c.args.text.now (sym c.is_date_time_form.ensures ∙ c.if-not-is_date_time_form.false)).0

pub second_of-requires : goal.second_of-requires
second_of-requires c = (date_time_digits c.args.text.now (sym c.is_date_time_form.ensures ∙ c.if-not-is_date_time_form.false)).1

pub is_in_utc-requires : goal.is_in_utc-requires
is_in_utc-requires c = sym c.is_date_time_form.ensures ∙ c.if-not-is_date_time_form.false

pub returns-then-is_in_utc-clause-digits : goal.returns-then-is_in_utc-clause-digits
returns-then-is_in_utc-clause-digits c = (date_time_digits c.args.text.now (sym c.is_date_time_form.ensures ∙ c.if-not-is_date_time_form.false)).0

pub returns-then-zoned-clause-digits : goal.returns-then-zoned-clause-digits
returns-then-zoned-clause-digits c = (date_time_digits c.args.text.now (sym c.is_date_time_form.ensures ∙ c.if-not-is_date_time_form.false)).0

pub returns-else-zoned-clause-digits : goal.returns-else-zoned-clause-digits
returns-else-zoned-clause-digits c = (date_time_digits c.args.text.now (sym c.is_date_time_form.ensures ∙ c.if-not-is_date_time_form.false)).0

pub returns-in_err-day_of-clause-value : goal.returns-in_err-day_of-clause-value
returns-in_err-day_of-clause-value c = grind (arith, nat_tests)
