use Rattle.ics_text.proofs.BytesLemmas.{same_name-tells}
use Rattle.ics_text.proofs.param.is_named.Goals as goal

pub returns : goal.returns
returns c = rw c.name_len.ensures.value at (same_name-tells c.eq_ignore_ascii_case.result _ _ c.eq_ignore_ascii_case.ensures.test)
