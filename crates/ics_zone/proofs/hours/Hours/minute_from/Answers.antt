use Rattle.ics_zone.proofs.HourLemmas.{IsOfTwoMinutes, minute_from_both}
use Rattle.ics_zone.proofs.hours.Hours.minute_from.Goals as goal

pub returns : goal.returns
returns c =
    let both : IsOfTwoMinutes c.args.self.now c.args.local c.minute.result c.minute-2.result c.shifted.result = record {
      is_here = c.minute.ensures;
      is_next = c.minute-2.ensures;
      low = c.shifted.ensures.here;
      high = c.shifted.ensures.next;
    } in
    minute_from_both both
