use Rattle.std.proofs.Common.{◌≡◌, ◌∙◌, sym, subst, arith, rules, w32, w64, to_z, of_z, SFits}
use Rattle.std.proofs.lemmas.Int.{ints}
use Rattle.jiff_core.specs.Calendar.{IsBetween}
use Rattle.ics_fields.specs.Locals.{year_seconds}
use Rattle.ics_starts.specs.RuleFeed.{settled_in}
use Rattle.ics_starts.specs.RuleStarts.{read_from, settled_from}
use Rattle.ics_starts.proofs.RuleStepLemmas.{day-days, most-back, next-years}
use Rattle.ics_starts.proofs.SettledLemmas.{read-years}
use Rattle.ics_starts.proofs.rule_starts.RuleStarts.settled.Goals as goal
use Rattle.ics_starts.proofs.rule_starts.RuleStarts.settled.Goals.{After-read_from-first}

-- the first local is that of the event as it is seen
first : (c : After-read_from-first) → c.read_from-first.result ≡ read_from c.args.self.now.event.now.start.stamp c.args.self.now.day c.args.self.now.next
first c =
    let years = next-years c.args.self.now in
    let days : SFits w32 c.args.self.now.day = search rules in
    let day : to_z w32 (of_z w32 c.args.self.now.day) ≡ c.args.self.now.day = omega (arith, ints) in
    let next : to_z w64 (of_z w64 c.args.self.now.next) ≡ c.args.self.now.next = omega (arith, ints, years) in
    c.read_from-first.ensures ∙ (λ i. read_from (c.event.view_is i).start.stamp (day i) (next i))

-- it is one of the years 0000 to 9999
in-years : (c : After-read_from-first) → IsBetween (year_seconds 0) (year_seconds 10_000) c.read_from-first.result
in-years c =
    let s = c.args.self.now in
    subst (IsBetween (year_seconds 0) (year_seconds 10_000)) (sym (first c)) (read-years s.event.now.start.stamp s.day s.next (day-days s) (next-years s))

pub settled_from-requires-clause-most : goal.settled_from-requires-clause-most
settled_from-requires-clause-most c = let short = c.args.self.now.rule_of.bounded.most_short in (omega (arith, ints, short), omega (arith, ints, short))

pub settled_from-requires-clause-short : goal.settled_from-requires-clause-short
settled_from-requires-clause-short c = c.args.self.now.stretched.short

pub settled_from-requires-clause-local : goal.settled_from-requires-clause-local
settled_from-requires-clause-local c =
    let years = in-years (goal.at.settled_from-requires-clause-local c).After-read_from-first in
    (omega (arith, ints, years), omega (arith, ints, years))

pub returns : goal.returns
returns c =
    let s = c.args.self.now in
    let at = (goal.at.returns c).After-read_from-first in
    let years = in-years at in
    let most = most-back s.bounds.most s.rule_of.bounded.most_short in
    let here : to_z w64 (of_z w64 c.read_from-first.result) ≡ c.read_from-first.result = omega (arith, ints, years) in
    let settles : SFits w64 c.settled_from.result = search rules in
    let same : c.settled_from.result ≡ settled_in c.args.self.now =
    c.settled_from.ensures ∙ (λ i. settled_from s.stretch (most i) ((here ∙ first at) i)) in
    let back : to_z w64 (of_z w64 c.settled_from.result) ≡ c.settled_from.result = omega (arith, ints) in
    back ∙ same
