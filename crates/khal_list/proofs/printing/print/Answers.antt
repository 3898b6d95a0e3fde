use Rattle.std.proofs.Common.{◌∙◌, refl, sym, ap}
use Rattle.std.specs.Option.{option_map}
use Rattle.ics_listing.specs.declared.day_key.DayKey.{DayKey}
use Rattle.ics_listing.specs.Entry.{key_rank}
use Rattle.khal_list.proofs.PutLemmas.{drew-once, front-once, key-once, text-once}
use Rattle.khal_ports.proofs.Written.{on_err}
use Rattle.khal_list.proofs.printing.print.Goals as goal

pub returns-in_err-put_entries-clause-front : goal.returns-in_err-put_entries-clause-front
returns-in_err-put_entries-clause-front g c = on_err c.from_residual.result (front-once _ _ _ _ (c.in_err-put_entries.ensures.puts _ refl))

pub returns-in_err-put_entries-clause-drew : goal.returns-in_err-put_entries-clause-drew
returns-in_err-put_entries-clause-drew g c = drew-once _ _ _ _ (c.in_err-put_entries.ensures.puts _ refl)

pub returns-in-None-clause-text : goal.returns-in-None-clause-text
returns-in-None-clause-text g c = text-once _ _ _ _ (c.in_ok-put_entries.ensures.puts _ refl)

pub returns-in-None-clause-key : goal.returns-in-None-clause-key
returns-in-None-clause-key g c =
    sym (ap (option_map (λ (k : DayKey). key_rank k.key)) c.in-None.is) ∙ key-once _ _ _ _ (c.in_ok-put_entries.ensures.puts _ refl)

pub returns-in-None-clause-drew : goal.returns-in-None-clause-drew
returns-in-None-clause-drew g c = drew-once _ _ _ _ (c.in_ok-put_entries.ensures.puts _ refl)

pub returns-in-Some-clause-text : goal.returns-in-Some-clause-text
returns-in-Some-clause-text g c = text-once _ _ _ _ (c.in_ok-put_entries.ensures.puts _ refl)

pub returns-in-Some-clause-key : goal.returns-in-Some-clause-key
returns-in-Some-clause-key g c =
    sym (ap (option_map (λ (k : DayKey). key_rank k.key)) c.in-Some.is) ∙ key-once _ _ _ _ (c.in_ok-put_entries.ensures.puts _ refl)

pub returns-in-Some-clause-drew : goal.returns-in-Some-clause-drew
returns-in-Some-clause-drew g c = drew-once _ _ _ _ (c.in_ok-put_entries.ensures.puts _ refl)
