use Rattle.std.proofs.Common.{arith}
use Rattle.jiff_core.proofs.SignedLemmas.{signed_arith}
use Rattle.jiff_tz.specs.PosixText.{tz_view}
use Rattle.ics_zone.specs.ZoneSaid.{ZoneSaid, said_moment, said_offset}
use Rattle.ics_zone.proofs.RuleStretchLemmas.{daylight_over, standard_over}
use Rattle.ics_zone.proofs.rule_stretch.Turns.to_next.Goals as goal

pub returns-then-next : goal.returns-then-next
returns-then-next c =
    let t = c.args.self in
    let n = c.args.next in
    let standard = c.args.rule.std_offset.in_range in
    let daylight = c.args.dst.offset.in_range in
    standard_over c.requires.own (record { standard = standard; daylight = daylight }) c.requires.next
    (omega (arith, signed_arith, c.if-self.true)) (omega (arith, signed_arith, c.if-next.true)) (record {
      own = record { read = omega (arith, signed_arith, standard); shown = omega (arith, signed_arith, standard) };
      low = omega (arith, signed_arith, t.end_small, standard);
      moved = omega (arith, signed_arith, t.end_small, standard);
      high = omega (arith, signed_arith, n.begin_small);
    })

pub returns-then-next-2 : goal.returns-then-next-2
returns-then-next-2 c =
    let t = c.args.self in
    let n = c.args.next in
    let standard = c.args.rule.std_offset.in_range in
    let daylight = c.args.dst.offset.in_range in
    daylight_over c.requires.own (record { standard = standard; daylight = daylight }) c.requires.next
    (omega (arith, signed_arith, c.if-self-2.true)) (omega (arith, signed_arith, c.if-next-2.true)) (record {
      own = record { read = omega (arith, signed_arith, daylight); shown = omega (arith, signed_arith, daylight) };
      low = omega (arith, signed_arith, t.begin_small, daylight);
      moved = omega (arith, signed_arith, t.begin_small, daylight);
      high = omega (arith, signed_arith, n.end_small);
    })

pub returns-else-self-2 : goal.returns-else-self-2
returns-else-self-2 c = c.none.ensures (said_offset (ZoneSaid.ByRule (tz_view c.args.rule))) (said_moment (ZoneSaid.ByRule (tz_view c.args.rule)))
