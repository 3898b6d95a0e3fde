use Rattle.std.proofs.Common.{◌==◌, refl, slice_index_or}
use Rattle.std.proofs.lemmas.Bool.{agree_below_at}
use Rattle.ics_text.specs.declared.bytes.TheConstants.{ALLOWED}
use Rattle.ics_text.specs.Bytes.{is_name_byte}
use Rattle.ics_text.proofs.bytes.is_name_byte.Goals as goal

pub returns : goal.returns
returns c = agree_below_at (λ b. slice_index_or ALLOWED b 0 == 3) is_name_byte 256 c.args.b refl c.ranges.b.fits
