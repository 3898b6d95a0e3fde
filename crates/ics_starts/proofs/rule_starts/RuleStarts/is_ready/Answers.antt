use Rattle.std.proofs.Common.{◌≡◌, List, rules, w64, to_z, of_z, sym, ◌∙◌, ap, arith, int_le, SFits}
use Rattle.std.proofs.lemmas.Int.{ints}
use Rattle.ics_starts.specs.RuleStarts.{is_ready}
use Rattle.ics_listing.specs.Waiting.{waiting_in}
use Rattle.ics_listing.specs.declared.start.Start.{Start}
use Rattle.ics_starts.proofs.QueueLemmas.{none-start, some-ready}
use Rattle.ics_starts.proofs.rule_starts.RuleStarts.is_ready.Goals as goal

pub returns-in-None : goal.returns-in-None
returns-in-None c =
    let s = c.args.self.now in
    sym (ap (λ (xs : List Start). is_ready c.args.settled xs) (none-start s.event.now.start (waiting_in s.held) (sym c.first.ensures ∙ c.in-None.is)))

pub returns-in-Some : goal.returns-in-Some
returns-in-Some c =
    let s = c.args.self.now in
    let fits : SFits w64 c.in-Some.first.moment = search rules in
    let fits2 : SFits w64 c.args.settled = c.ranges.settled in
    let left : to_z w64 (of_z w64 c.in-Some.first.moment) ≡ c.in-Some.first.moment = omega (arith, ints) in
    let right : to_z w64 (of_z w64 c.args.settled) ≡ c.args.settled = omega (arith, ints) in
    (λ i. int_le (left i) (right i))
    ∙ some-ready s.event.now.start c.args.settled (waiting_in s.held) c.in-Some.first (sym c.first.ensures ∙ c.in-Some.is)
