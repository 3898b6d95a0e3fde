use Rattle.std.proofs.Common.{rules, arith, inl, inr, ◌≡◌, pos, ◌-ℤ◌, SFits, w32, w64, to_z, of_z}
use Rattle.std.proofs.lemmas.Int.{ints, to_z-of_z}
use Rattle.ics_zone.proofs.TableLemmas.{number_known, number_there}
use Rattle.ics_zone.proofs.table.add_kept.Goals as goal

pub returns : goal.returns
returns c =
    let offset : SFits w32 c.args.one.now.offset_from = search rules in
    let before : to_z w64 (of_z w64 (to_z w64 (of_z w64 c.args.from) -ℤ pos 1)) ≡ c.args.from -ℤ pos 1 = omega (arith, ints) in
    let past = rw before at (simp (to_z-of_z, offset) at c.shown_by-begin.ensures) in
    let shown = simp (to_z-of_z, c.ranges.last) at c.shown_to-end.ensures in
    record {
      known = λ e n h. elim (simp (to_z-of_z, offset) at (c.add_locals.ensures.known e n h)) [
        | inl old ↦ inl old
        | inr new ↦ inr (number_known c.args.one.now c.in-Some.is c.args.place c.args.from c.args.last past shown n new)
      ];
      stay = c.add_locals.ensures.stay;
      complete = λ e. number_there c.args.one.now c.in-Some.is c.args.place c.args.from c.args.last past shown c.add_locals.new.list.items
          (simp (to_z-of_z, offset) at (c.add_locals.ensures.complete e));
    }
