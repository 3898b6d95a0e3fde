use Rattle.std.proofs.Common.{◌≡◌, true, int_cmp, rules, w64, to_z, of_z, arith, SFits}
use Rattle.std.specs.BTreeMap.Range.{IsLtBy}
use Rattle.std.specs.Map.{keys_of}
use Rattle.std.proofs.lemmas.Int.{ints}
use Rattle.std.proofs.lemmas.List.Elements.{recursion_from_All}
use Rattle.ics_listing.specs.WaitingOrder.{begins_between, between_in}
use Rattle.ics_listing.proofs.WaitingLemmas.{first-moved, moved-first, next-after}
use Rattle.ics_listing.proofs.queue.move_first.Goals as goal

pub returns-in-Some-clause-same : goal.returns-in-Some-clause-same
returns-in-Some-clause-same c =
    let es = c.pop_first.new.self.entries in
    let ws = c.args.line.now.items in
    let fits : SFits w64 c.in-Some.moment = search rules in
    let same : to_z w64 (of_z w64 c.in-Some.moment) ≡ c.in-Some.moment = omega (arith, ints) in
    let begins : begins_between c.args.line.now.items (between_in c.args.between.now.entries) ≡ true = search rules in
    let after = next-after c.in-Some.moment es (recursion_from_All (IsLtBy int_cmp c.in-Some.moment) (keys_of es) c.in-Some.ensures.all_above) in
    rw (c.push_front_reserved.ensures.items, c.in-Some.ensures.removal, same)
    (moved-first (record { moment = c.in-Some.moment; local = c.in-Some.local }) ws (between_in es) (rw c.in-Some.ensures.removal at begins) after)

pub returns-in-Some-clause-first : goal.returns-in-Some-clause-first
returns-in-Some-clause-first c =
    let es = c.pop_first.new.self.entries in
    let fits : SFits w64 c.in-Some.moment = search rules in
    let same : to_z w64 (of_z w64 c.in-Some.moment) ≡ c.in-Some.moment = omega (arith, ints) in
    let after = next-after c.in-Some.moment es (recursion_from_All (IsLtBy int_cmp c.in-Some.moment) (keys_of es) c.in-Some.ensures.all_above) in
    rw (c.push_front_reserved.ensures.items, same)
    (first-moved (record { moment = c.in-Some.moment; local = c.in-Some.local }) c.args.line.now.items (between_in es) after)
