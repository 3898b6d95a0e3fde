use Rattle.std.proofs.Common.{arith}
use Rattle.ics_text.proofs.Endings.{last-lf}
use Rattle.ics_text.proofs.cutting.ends_line.Goals as goal

pub returns-in-len1-up : goal.returns-in-len1-up
returns-in-len1-up c = last-lf c.args.bytes.now (omega (arith, c.in-len1-up.len_at_least))
