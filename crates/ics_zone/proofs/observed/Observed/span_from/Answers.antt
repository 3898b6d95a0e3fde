use Rattle.std.proofs.Common.{rules, arith, get_or, pos, w32, w64}
use Rattle.std.proofs.lemmas.Int.{to_z-of_z}
use Rattle.ics_zone.proofs.TableLemmas.{IsListed, place_inside, steady_from}
use Rattle.ics_zone.proofs.observed.Observed.span_from.Goals as goal

pub index-requires : goal.index-requires
index-requires c =
    let known = rw c.self.view_is at c.self.invariant in
    let listed : IsListed c.args.self.now.said.items c.args.table.now c.args.k c.args.last c.onset_of-at.result.0 c.next_of-next.result
    c.onset_of-at.result.1 = record {
      from = c.requires.table.0;
      table = c.requires.table.1;
      inside = c.requires.inside;
      in_room = c.onset_of-at.ensures.place;
      is = rw (to_z-of_z w64 (get_or c.args.table.now c.args.k (pos 0)) (search rules)) at c.onset_of-at.ensures.is;
      follows = rw (to_z-of_z w64 c.args.last c.ranges.last) at c.next_of-next.ensures;
    } in
    let inside = place_inside listed known.asked in
    omega (arith, inside)

pub returns : goal.returns
returns c =
    let known = rw c.self.view_is at c.self.invariant in
    let listed : IsListed c.args.self.now.said.items c.args.table.now c.args.k c.args.last c.onset_of-at.result.0 c.next_of-next.result
    c.onset_of-at.result.1 = record {
      from = c.requires.table.0;
      table = c.requires.table.1;
      inside = c.requires.inside;
      in_room = c.onset_of-at.ensures.place;
      is = rw (to_z-of_z w64 (get_or c.args.table.now c.args.k (pos 0)) (search rules)) at c.onset_of-at.ensures.is;
      follows = rw (to_z-of_z w64 c.args.last c.ranges.last) at c.next_of-next.ensures;
    } in
    rw (
      to_z-of_z w64 c.onset_of-at.result.0 (search rules),
      to_z-of_z w64 c.next_of-next.result (search rules),
      to_z-of_z w32 c.index.result.now.offset_to (search rules),
    )
    (steady_from c.args.self.now known.some listed known.asked c.index.ensures)
