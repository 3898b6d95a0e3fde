use Rattle.std.proofs.Common.{◌≡◌, length, arith}
use Rattle.std.proofs.lemmas.Grind.{common_steps}
use Rattle.std.proofs.lemmas.Int.{ints}
use Rattle.std.proofs.lemmas.List.{length-map}
use Rattle.ics_starts.specs.RuleFeed.{held_in, settled_in}
use Rattle.ics_listing.specs.Waiting.{start_of, waiting_in}
use Rattle.ics_starts.proofs.SeriesLemmas.{none-in}
use Rattle.ics_starts.proofs.SettledLemmas.{settled-late}
use Rattle.ics_starts.proofs.RuleStepLemmas.{behind-early, day-days, end-days, held-on, next-late}
use Rattle.ics_starts.proofs.rule_starts.RuleStarts.bound.Goals as goal

pub returns-then-len-eq0-clause-held : goal.returns-then-len-eq0-clause-held
returns-then-len-eq0-clause-held c = λ s m.
    let r = c.args.self.now in
    let none : length (waiting_in r.held) ≡ 0 = grind (arith, common_steps) in
    let empty : length (held_in r) ≡ 0 = omega (arith, none, length-map (waiting_in r.held) (start_of r.event.now.start)) in
    absurd (none-in (held_in r) empty s m)

pub returns-else-len-eq0-clause-held : goal.returns-else-len-eq0-clause-held
returns-else-len-eq0-clause-held c =
    let r = c.args.self.now in
    let early = behind-early (settled_in r) r.day r.end r.window.to (held_in r) c.requires in
    let soon =
    settled-late r.stretch r.stretched.short r.event.now.start.stamp r.bounds.most r.day r.next r.rule_of.bounded.most_short.1 r.reached.next_on in
    held-on r.zones r.event.now r.rule r.window r.asked _ (held_in r) (omega (arith, ints, early, r.reached.soon, day-days r, end-days r))
    (λ s m.
    let late = next-late (settled_in r) r.day r.end r.window.to (held_in r) soon r.rises c.requires s m in
    omega (arith, ints, late, early, day-days r, end-days r))
    r.are
