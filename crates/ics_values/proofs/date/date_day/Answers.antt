use Rattle.std.proofs.Common.{◌≡◌, Some, pos, to_z, of_z, w32, sym, ap, ◌∙◌, arith}
use Rattle.std.proofs.lemmas.Int.{ints}
use Rattle.ics_values.proofs.DateLemmas.{date_day-found}
use Rattle.ics_values.proofs.date.date_day.Goals as goal

pub returns-in-Ok : goal.returns-in-Ok
returns-in-Ok c =
    let is = c.in-Ok.ensures.value in
    let date = c.in-Ok.date in
    let year : date.year ≡ pos c.args.year = omega (arith, ints, is.0) in
    let month : date.month ≡ c.args.month = omega (arith, ints, is.1) in
    let day : date.day ≡ c.args.day = omega (arith, ints, is.2) in
    let number : to_z w32 (of_z w32 c.to_unix_epoch_day.result) ≡ c.to_unix_epoch_day.result = omega (arith, ints) in
    let found = date_day-found date c.args.year year in
    rw (number, ← month, ← day) (ap Some c.to_unix_epoch_day.ensures.value ∙ sym found)
