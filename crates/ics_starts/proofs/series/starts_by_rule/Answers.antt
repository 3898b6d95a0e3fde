use Rattle.std.proofs.Common.{◌≡◌, ap, arith, Bor, SFits, w64, to_z, of_z}
use Rattle.std.proofs.lemmas.Int.{ints}
use Rattle.ics_event.specs.declared.event.Event.{Event}
use Rattle.ics_starts.specs.FileZones.{clocks_in}
use Rattle.ics_starts.specs.SeriesStarts.{first_asked}
use Rattle.ics_starts.proofs.BeginLemmas.{own-begin}
use Rattle.ics_starts.proofs.series.starts_by_rule.Goals as goal

pub returns : goal.returns
returns c =
    let fits : SFits w64 c.args.since = c.ranges.since in
    let since : to_z w64 (of_z w64 c.args.since) ≡ c.args.since = omega (arith, ints) in
    let begin = rw since at c.begin_of_rule-from.ensures in
    let event = ap (λ (b : Bor Event). b.now) c.new.ensures.event in
    record {
      own = own-begin c.args.zones c.args.event.now c.args.window
          (first_asked (clocks_in c.args.zones) c.args.window c.args.event.now c.args.since c.args.listed.now) c.begin_of_rule-from.result c.new.result begin
          (c.new.ensures.zones, event, c.new.ensures.window, c.new.ensures.from);
      from = record {
        rule = c.in_ok-rule.rule;
        has = c.in_ok-rule.ensures;
        from = c.begin_of_rule-from.result;
        day = begin.day;
        bounds = begin.bounds;
        bounded = begin.bounded;
        low = begin.low;
        gives = c.new.ensures.left;
      };
      begun = c.new.ensures.begun;
    }
