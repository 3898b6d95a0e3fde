use Rattle.std.proofs.Common.{◌≡◌, ◌∙◌, arith, rules, w32, w64, to_z, of_z, SFits}
use Rattle.std.proofs.lemmas.Int.{int_min_is, ints}
use Rattle.jiff_core.specs.Calendar.{IsBetween}
use Rattle.ics_fields.specs.Days.{IsDayNumber}
use Rattle.ics_fields.specs.Locals.{local_seconds, year_seconds}
use Rattle.ics_fields.specs.declared.local.Local.{Local}
use Rattle.ics_listing.proofs.StartOrderLemmas.{number-seconds}
use Rattle.ics_starts.specs.RuleStarts.{read_from, settled_from}
use Rattle.ics_starts.proofs.RuleDayLemmas.{number-day}
use Rattle.ics_starts.proofs.RuleStepLemmas.{most-back}
use Rattle.ics_starts.proofs.SettledLemmas.{late-from, read-late, read-years, settled-before}
use Rattle.ics_starts.proofs.rule_starts.RuleStarts.settled_at.Goals as goal
use Rattle.ics_starts.proofs.rule_starts.RuleStarts.settled_at.Goals.{After-read_from-read, After-settled_from}

years-of : (next : Local) → IsDayNumber next.day → IsBetween (year_seconds 0) (year_seconds 10_000) (local_seconds next)
years-of next day = (omega (arith, ints, day.0, next.second_in), omega (arith, ints, day.1, next.second_in))

-- what is read is that of the event as it is seen
read : (c : After-read_from-read) → c.read_from-read.result ≡ read_from c.args.self.now.event.now.start.stamp c.args.next.day (local_seconds c.args.next)
read c =
    let days : SFits w32 c.args.next.day = search rules in
    let day : to_z w32 (of_z w32 c.args.next.day) ≡ c.args.next.day = omega (arith, ints) in
    let years = years-of c.args.next c.requires in
    let seconds : to_z w64 (of_z w64 c.seconds.result) ≡ local_seconds c.args.next = omega (arith, ints, c.seconds.ensures, years) in
    c.read_from-read.ensures ∙ (λ i. read_from (c.event.view_is i).start.stamp (day i) (seconds i))

-- it is one of the years 0000 to 9999
in-years : (c : After-read_from-read) → IsBetween (year_seconds 0) (year_seconds 10_000) c.read_from-read.result
in-years c =
    let s = c.args.self.now in
    let years = read-years s.event.now.start.stamp c.args.next.day (local_seconds c.args.next) c.requires (years-of c.args.next c.requires) in
    (omega (arith, ints, years.0, read c), omega (arith, ints, years.1, read c))

pub stretch_about-stretch-requires : goal.stretch_about-stretch-requires
stretch_about-stretch-requires c =
    let years = in-years (goal.at.stretch_about-stretch-requires c).After-read_from-read in
    (omega (arith, ints, int_min_is, c.min-first.ensures, years.0), omega (arith, ints, int_min_is, c.min-first.ensures))

pub settled_from-requires-clause-most : goal.settled_from-requires-clause-most
settled_from-requires-clause-most c = let short = c.args.self.now.rule_of.bounded.most_short in (omega (arith, ints, short), omega (arith, ints, short))

pub settled_from-requires-clause-local : goal.settled_from-requires-clause-local
settled_from-requires-clause-local c =
    let years = in-years (goal.at.settled_from-requires-clause-local c).After-read_from-read in
    (omega (arith, ints, int_min_is, c.min-first.ensures, years.0), omega (arith, ints, int_min_is, c.min-first.ensures, years.1))

-- the settled instant is told by the stretch
settled : (c : After-settled_from) → IsBetween (year_seconds 0) (year_seconds 10_000) c.read_from-read.result → to_z w64 (of_z w64 c.settled_from.result)
    ≡ settled_from c.stretch_about-stretch.result c.args.self.now.bounds.most c.min-first.result
settled c years =
    let s = c.args.self.now in
    let most = most-back s.bounds.most s.rule_of.bounded.most_short in
    let first : to_z w64 (of_z w64 c.min-first.result) ≡ c.min-first.result = omega (arith, ints, int_min_is, c.min-first.ensures, years.0, years.1) in
    let settles : SFits w64 c.settled_from.result = search rules in
    let back : to_z w64 (of_z w64 c.settled_from.result) ≡ c.settled_from.result = omega (arith, ints) in
    back ∙ (c.settled_from.ensures ∙ (λ i. settled_from c.stretch_about-stretch.result (most i) (first i)))

pub returns-clause-after : goal.returns-clause-after
returns-clause-after c = λ n l.
    let s = c.args.self.now in
    let at = (goal.at.returns-clause-after c).After-settled_from in
    let told = (goal.at.returns-clause-after c).After-read_from-read in
    let day = c.requires in
    let late = read-late s.event.now.start.stamp c.args.next.day (local_seconds c.args.next) n day
    (omega (arith, ints, l, number-seconds c.args.next day, number-day c.args.next.day day)) (omega (arith, ints, l, number-seconds c.args.next day)) in
    let after = late-from s.zones s.event.now s.bounds s.rule_of.bounded c.stretch_about-stretch.result c.stretch_about-stretch.ensures
    c.min-first.result n (omega (arith, ints, int_min_is, c.min-first.ensures, read told, late)) in
    omega (arith, ints, settled at (in-years told), after)

pub returns-clause-near : goal.returns-clause-near
returns-clause-near c =
    let s = c.args.self.now in
    let at = (goal.at.returns-clause-near c).After-settled_from in
    let told = (goal.at.returns-clause-near c).After-read_from-read in
    let near = settled-before c.stretch_about-stretch.result s.bounds.most c.min-first.result c.stretch_about-stretch.ensures.short
    s.rule_of.bounded.most_short in
    omega (arith, ints, settled at (in-years told), near, int_min_is, c.min-first.ensures)
