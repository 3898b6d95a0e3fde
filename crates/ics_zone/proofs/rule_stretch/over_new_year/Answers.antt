use Rattle.std.proofs.Common.{◌+ℤ◌, pos, subst, arith, to_z, of_z, w16}
use Rattle.jiff_core.proofs.SignedLemmas.{signed_arith}
use Rattle.jiff_tz.proofs.YearLemmas.{back_year}
use Rattle.jiff_tz.specs.PosixText.{dst_view, tz_view}
use Rattle.ics_zone.specs.Inner.RuleTurns.{AreTurns}
use Rattle.ics_zone.specs.ZoneSaid.{ZoneSaid, said_moment, said_offset}
use Rattle.ics_zone.proofs.rule_stretch.over_new_year.Goals as goal

pub returns-in_default : goal.returns-in_default
returns-in_default c = c.none.ensures (said_offset (ZoneSaid.ByRule (tz_view c.args.rule))) (said_moment (ZoneSaid.ByRule (tz_view c.args.rule)))

pub returns-in_default-turns_of : goal.returns-in_default-turns_of
returns-in_default-turns_of c =
    c.none-in_default-turns_of.ensures (said_offset (ZoneSaid.ByRule (tz_view c.args.rule))) (said_moment (ZoneSaid.ByRule (tz_view c.args.rule)))

pub to_next-requires-clause-next : goal.to_next-requires-clause-next
to_next-requires-clause-next c =
    let next = c.in-Some-turns_of.next in
    subst (λ y. AreTurns (tz_view c.args.rule) (dst_view c.args.dst) y next.begin next.end)
    (back_year (to_z w16 (of_z w16 c.args.year) +ℤ pos 1) (omega (arith, signed_arith, c.requires.year), omega (arith, signed_arith, c.requires.year)))
    c.in-Some-turns_of.ensures
