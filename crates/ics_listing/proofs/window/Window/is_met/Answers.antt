use Rattle.std.proofs.Common.{rules, ◌≡◌, ◌&&◌, ◌||◌, not, nat_eq, w64, to_z, of_z, int_lt, int_le, int_eq}
use Rattle.ics_listing.proofs.window.Window.is_met.Goals as goal

pub returns : goal.returns
returns c =
    let from : to_z w64 (of_z w64 c.args.self.now.from) ≡ c.args.self.now.from = search rules in
    let to : to_z w64 (of_z w64 c.args.self.now.to) ≡ c.args.self.now.to = search rules in
    let start : to_z w64 (of_z w64 c.args.occurrence.now.start) ≡ c.args.occurrence.now.start = search rules in
    let finish : to_z w64 (of_z w64 c.args.occurrence.now.finish) ≡ c.args.occurrence.now.finish = search rules in
    let once : nat_eq (of_z w64 c.args.occurrence.now.finish) (of_z w64 c.args.occurrence.now.start)
    ≡ int_eq c.args.occurrence.now.finish c.args.occurrence.now.start = search rules in
    λ i. int_lt (start i) (to i) && ((int_lt (from i) (finish i) || (once i && int_le (from i) (start i))) && (not c.args.self.now.notstarted
    || int_le (from i) (start i)))
