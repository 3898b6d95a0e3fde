use Rattle.std.proofs.Common.{Some, inr, refl, ◌∙◌, ap, sym}
use Rattle.std.specs.Option.{option_map}
use Rattle.ics_listing.specs.DayKeys.{day_key_rank}
use Rattle.ics_listing.specs.Tokens.{day_spelling}
use Rattle.khal_list.proofs.RunLemmas.{shows-days, whole-front}
use Rattle.khal_ports.proofs.Written.{on_err}
use Rattle.khal_list.proofs.running.list_days.Goals as goal

pub returns-in_err-print_days-clause-err : goal.returns-in_err-print_days-clause-err
returns-in_err-print_days-clause-err g c =
    let days = c.in_ok-days.ensures in
    on_err c.from_residual-in_err-print_days.result
    (inr (
      _,
      _,
      shows-days c.as_ref.result c.requires c.as_ref.ensures.value days.keys days.listing.1 refl,
      (c.in_err-print_days.ensures.puts _ days.listing.2).front,
    ))

pub returns-in_err-write-in-Some-clause-err : goal.returns-in_err-write-in-Some-clause-err
returns-in_err-write-in-Some-clause-err g c =
    let days = c.in_ok-days.ensures in
    on_err c.from_residual-in_err-write-in-Some.result
    (inr (
      _,
      _,
      shows-days c.as_ref.result c.requires c.as_ref.ensures.value days.keys days.listing.1 refl,
      whole-front
          (c.in_ok-print_days.ensures.puts _ days.listing.2).text,
    ))

pub returns-in-None-clause-ok : goal.returns-in-None-clause-ok
returns-in-None-clause-ok g c =
    let days = c.in_ok-days.ensures in
    let puts = c.in_ok-print_days.ensures.puts _ days.listing.2 in
    let token = ap (option_map day_spelling) (sym (ap (option_map day_key_rank) c.in-None.is) ∙ puts.key) in
    (_, shows-days c.as_ref.result c.requires c.as_ref.ensures.value days.keys days.listing.1 token, puts.text)

pub returns-clause-ok : goal.returns-clause-ok
returns-clause-ok g c =
    let days = c.in_ok-days.ensures in
    let puts = c.in_ok-print_days.ensures.puts _ days.listing.2 in
    let token = ap Some c.in_ok-write-in-Some.ensures ∙ ap (option_map day_spelling) (sym (ap (option_map day_key_rank) c.in-Some.is) ∙ puts.key) in
    (_, shows-days c.as_ref.result c.requires c.as_ref.ensures.value days.keys days.listing.1 token, puts.text)
