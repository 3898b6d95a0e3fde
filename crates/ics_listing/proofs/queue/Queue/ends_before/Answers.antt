use Rattle.std.proofs.Common.{◌≡◌, ◌-◌, ◌<◌, length, get_or, rules, w64, to_z, of_z, ◌∙◌, ap, arith, int_lt, SFits}
use Rattle.std.proofs.lemmas.Int.{ints}
use Rattle.ics_listing.specs.declared.queue.Waiting.{Waiting}
use Rattle.ics_listing.proofs.WaitingLemmas.{last-before}
use Rattle.ics_listing.proofs.queue.Queue.ends_before.Goals as goal

pub returns-in-Some : goal.returns-in-Some
returns-in-Some c =
    let some : 0 < length c.args.self.now.line.items = search rules in
    let is : c.in-Some.last.now ≡ get_or c.args.self.now.line.items (length c.args.self.now.line.items - 1) c.in-Some.last.now = search rules in
    let fits : SFits w64 c.in-Some.last.now.moment = search rules in
    let own : SFits w64 c.args.moment = c.ranges.moment in
    let left : to_z w64 (of_z w64 c.in-Some.last.now.moment) ≡ c.in-Some.last.now.moment = omega (arith, ints) in
    let right : to_z w64 (of_z w64 c.args.moment) ≡ c.args.moment = omega (arith, ints) in
    (λ i. int_lt (left i) (right i))
    ∙ (ap (λ (w : Waiting). int_lt w.moment c.args.moment) is ∙ last-before c.args.moment c.args.self.now.line.items c.in-Some.last.now some)
