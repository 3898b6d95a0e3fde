use Rattle.std.proofs.lemmas.Grind.{common_steps}
use Rattle.std.proofs.Common.{◌≡◌, ℤ, refl, ◌∙◌, arith, FitsSigned, w32, w64, to_z, of_z}
use Rattle.std.proofs.lemmas.Int.{to_z-of_z}
use Rattle.jiff.proofs.SpanFacts.{signed_arith}
use Rattle.jiff.specs.Words as jiff
use Rattle.jiff_core.specs.Date.{epoch_day}
use Rattle.jiff_core.specs.declared.civil.date.Date.{Date}
use Rattle.ics_fields.specs.Days.{IsDayNumber}
use Rattle.ics_fields.proofs.DayLemmas.{fields, year_is}
use Rattle.khal_list.specs.Text.{date_text}
use Rattle.khal_list.proofs.heading.add_date.Goals as goal

-- jiff's text of a date is that of its day
text_is : (d : Date) (day : ℤ) → IsDayNumber day → epoch_day d ≡ day → jiff.date_text d ≡ date_text day
text_is d day range same =
    let parts = fields d day range same in
    rw (year_is d day range same, parts.year, parts.month, parts.month_day) refl

pub returns : goal.returns
returns c =
    let kept : c.from.result ≡ c.args.day = c.from.ensures ∙ to_z-of_z w32 c.args.day c.ranges.day in
    let fits : FitsSigned w64 c.from.result = omega (arith, signed_arith) in
    let found : epoch_day c.unwrap-date.result ≡ to_z w64 (of_z w64 c.from.result) = rw c.unwrap-date.ensures at c.from_unix_epoch_day.ensures.value in
    let day : epoch_day c.unwrap-date.result ≡ c.args.day = found ∙ (to_z-of_z w64 c.from.result fits ∙ kept) in
    let text = c.as_bytes.ensures.value ∙ (c.as_str.ensures.value ∙ (c.date_text.ensures ∙ text_is c.unwrap-date.result c.args.day c.requires day)) in
    grind (arith, common_steps, text, c.extend_from_slice.ensures.items)
