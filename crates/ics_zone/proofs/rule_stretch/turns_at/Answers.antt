use Rattle.std.proofs.Common.{◌≡◌, ap, ◌∙◌, arith}
use Rattle.jiff_core.proofs.SignedLemmas.{signed_arith}
use Rattle.jiff_tz.proofs.YearLemmas.{back_year}
use Rattle.ics_zone.specs.Inner.RuleTurns.{first_second, end_second}
use Rattle.ics_zone.proofs.rule_stretch.turns_at.Goals as goal

pub returns-then-are_apart : goal.returns-then-are_apart
returns-then-are_apart c =
    let back = back_year c.args.year c.requires in
    let ends = c.ends_of-first in
    let first : ends.result.0 ≡ first_second c.args.year = ends.ensures.first ∙ ap first_second back in
    let last : ends.result.1 ≡ end_second c.args.year = ends.ensures.last ∙ ap end_second back in
    let begin = c.is_clear.ensures c.if-is_clear.true in
    let end = c.is_clear-then-is_clear.ensures c.if-is_clear-2.true in
    record {
      begins = omega (arith, signed_arith, c.shown-begin.ensures);
      ends = omega (arith, signed_arith, c.shown-end.ensures);
      begin_in = (omega (arith, signed_arith, begin, first, ends.ensures.first_bound), omega (arith, signed_arith, begin, last, ends.ensures.last_bound));
      end_in = (omega (arith, signed_arith, end, first, ends.ensures.first_bound), omega (arith, signed_arith, end, last, ends.ensures.last_bound));
      apart = c.are_apart.ensures c.if-are_apart.true;
    }
