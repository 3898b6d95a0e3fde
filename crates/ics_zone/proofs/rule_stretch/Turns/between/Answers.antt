use Rattle.std.proofs.Common.{arith}
use Rattle.jiff_core.proofs.SignedLemmas.{signed_arith}
use Rattle.ics_zone.proofs.RuleStretchLemmas.{daylight_between, standard_between}
use Rattle.ics_zone.proofs.rule_stretch.Turns.between.Goals as goal

pub returns-then-self : goal.returns-then-self
returns-then-self c =
    let t = c.args.self in
    let standard = c.args.rule.std_offset.in_range in
    let daylight = c.args.dst.offset.in_range in
    daylight_between c.requires (record { standard = standard; daylight = daylight }) (omega (arith, signed_arith, c.if-self.true)) (record {
      own = record { read = omega (arith, signed_arith, daylight); shown = omega (arith, signed_arith, daylight) };
      low = omega (arith, signed_arith, t.begin_small, daylight);
      moved = omega (arith, signed_arith, t.begin_small, daylight);
      high = omega (arith, signed_arith, t.end_small);
    })

pub returns-else-self : goal.returns-else-self
returns-else-self c =
    let t = c.args.self in
    let standard = c.args.rule.std_offset.in_range in
    let daylight = c.args.dst.offset.in_range in
    standard_between c.requires (record { standard = standard; daylight = daylight }) (omega (arith, signed_arith, c.if-self.false)) (record {
      own = record { read = omega (arith, signed_arith, standard); shown = omega (arith, signed_arith, standard) };
      low = omega (arith, signed_arith, t.end_small, standard);
      moved = omega (arith, signed_arith, t.end_small, standard);
      high = omega (arith, signed_arith, t.begin_small);
    })
