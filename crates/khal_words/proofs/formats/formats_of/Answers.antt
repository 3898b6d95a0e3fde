use Rattle.std.proofs.Common.{ℕ, List, inl, inr, rules, subst}
use Rattle.khal_words.specs.Formats.{day_name, entry_name, IsFormat}
use Rattle.khal_words.proofs.formats.formats_of.Goals as goal

pub returns-in_err-entries-clause-bad : goal.returns-in_err-entries-clause-bad
returns-in_err-entries-clause-bad c is =
    inl (subst (λ (text : List ℕ). ¬ IsFormat entry_name text) c.text_or.ensures (c.in_err-entries.ensures.bad (search rules)))

pub returns-in_err-days-clause-bad : goal.returns-in_err-days-clause-bad
returns-in_err-days-clause-bad c is =
    inr (subst (λ (text : List ℕ). ¬ IsFormat day_name text) c.text_or-2.ensures (c.in_err-days.ensures.bad (search rules)))
