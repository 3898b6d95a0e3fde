use Rattle.std.proofs.Common.{◌≡◌, pos, ap, Some, arith, FitsSigned, w8, w16, w32, to_z, IsOk, rules, ◌∙◌, sym}
use Rattle.std.proofs.lemmas.Int.{to_z-of_z, ints}
use Rattle.jiff_core.proofs.SignedLemmas.{signed_arith}
use Rattle.jiff_core.specs.Calendar.{IsDate}
use Rattle.jiff_core.specs.Date.{IsYmd}
use Rattle.khal_words.proofs.WindowTextLemmas.{day_number_is, day_is}
use Rattle.khal_words.proofs.window_text.day_number.Goals as goal

pub returns-in-Ok-clause-value : goal.returns-in-Ok-clause-value
returns-in-Ok-clause-value c =
    let year : to_z w16 c.args.year ≡ pos c.args.year = omega (arith, ints) in
    let month : to_z w8 c.args.month ≡ pos c.args.month = omega (arith, ints) in
    let day : to_z w8 c.args.day ≡ pos c.args.day = omega (arith, ints) in
    let ok : IsOk c.new.result = rw c.in-Ok.is (search rules) in
    let exists : IsDate (pos c.args.year) (pos c.args.month) (pos c.args.day) = rw (year, month, day) at (c.new.ensures.succeeds.0 ok) in
    let parts : IsYmd (pos c.args.year) (pos c.args.month) (pos c.args.day) c.in-Ok.date = rw (year, month, day) at (rw c.in-Ok.is at c.new.ensures.value) in
    let fits : FitsSigned w32 c.to_unix_epoch_day.result = omega (arith, signed_arith) in
    simp to_z-of_z (ap Some (c.to_unix_epoch_day.ensures.value ∙ day_is _ _ _ c.in-Ok.date parts)
    ∙ sym (day_number_is c.args.year c.args.month c.args.day exists))
