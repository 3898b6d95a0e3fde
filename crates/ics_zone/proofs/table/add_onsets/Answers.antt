use Rattle.std.proofs.Common.{inl, inr}
use Rattle.std.proofs.lemmas.Int.{to_z-of_z}
use Rattle.ics_zone.specs.Inner.Tables.{onset_number}
use Rattle.ics_zone.proofs.table.add_onsets.Goals as goal

-- what is known of the onsets by the rule, and before them of those that are listed
pub returns : goal.returns
returns c =
    let listed = c.if-not-add_listed.false in
    record {
      known = λ e n h. elim (simp (to_z-of_z, c.ranges.from, c.ranges.last) at (c.add_kept.ensures.known e n h)) [
        | inl old ↦ simp (to_z-of_z, c.ranges.from, c.ranges.last) at (c.add_listed.ensures.known listed n old)
        | inr new ↦ inr new
      ];
      stay = λ e n h. c.add_kept.ensures.stay e n (c.add_listed.ensures.stay listed n h);
      complete = λ e t onset late early.
          let of_list = simp (to_z-of_z, c.ranges.from, c.ranges.last) at (c.add_listed.ensures.complete listed) in
          let of_rule = simp (to_z-of_z, c.ranges.from, c.ranges.last) at (c.add_kept.ensures.complete e) in
          elim onset [
            | inl there ↦ c.add_kept.ensures.stay e (onset_number t c.args.place) (of_list t there late early)
            | inr kept ↦ of_rule t kept late early
          ];
    }
