use Rattle.std.proofs.Common.{nat_le, refl, slice_index_or}
use Rattle.std.proofs.lemmas.Bool.{agree_below_at}
use Rattle.ics_text.specs.declared.bytes.TheConstants.{ALLOWED}
use Rattle.ics_text.specs.Bytes.{is_plain_byte}
use Rattle.ics_text.proofs.bytes.is_plain_byte.Goals as goal

pub returns : goal.returns
returns c = agree_below_at (λ b. nat_le 2 (slice_index_or ALLOWED b 0)) is_plain_byte 256 c.args.b refl c.ranges.b.fits
