use Rattle.std.proofs.Common.{◌≡◌, ◌*◌, rules, arith, ◌∙◌}
use Rattle.jiff.specs.Words.{epoch_day, time_nanos}
use Rattle.jiff.proofs.Family.{civil_nanos-parts}
use Rattle.jiff.proofs.SpanFacts.{signed_arith}
use Rattle.ics_zone.proofs.jiff_zone.datetime.Goals as goal

pub returns : goal.returns
returns c =
    let dt = c.from_plain.result in
    let day : epoch_day c.from_days_since_min-date.result ≡ c.args.local.day = search rules in
    let date : epoch_day dt.date ≡ c.args.local.day = search rules in
    let time : time_nanos dt.time ≡ c.args.local.second * 1_000_000_000 = search rules in
    civil_nanos-parts dt ∙ rw (date, time) (omega (arith, signed_arith))
