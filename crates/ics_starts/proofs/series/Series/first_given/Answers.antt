use Rattle.std.proofs.Common.{IfSome, Option, ℤ, sym, subst, rules, w64, SFits}
use Rattle.std.proofs.lemmas.Int.{to_z-of_z}
use Rattle.ics_starts.specs.FileZones.{clocks_in}
use Rattle.ics_starts.specs.SeriesStarts.{IsFirstGiven}
use Rattle.ics_starts.proofs.EndedLemmas.{given-since}
use Rattle.ics_starts.proofs.series.Series.first_given.Goals as goal

pub returns-in-Some : goal.returns-in-Some
returns-in-Some c =
    let s = c.args.self.now in
    let fits : SFits w64 c.in-Some.first = search rules in
    subst (IsFirstGiven (clocks_in s.zones) s.window s.event.now s.since) (sym (to_z-of_z w64 c.in-Some.first fits))
    (subst (λ (o : Option ℤ). IfSome o (IsFirstGiven (clocks_in s.zones) s.window s.event.now s.since)) c.in-Some.is s.first_is)

pub returns-in-None-rule_starts : goal.returns-in-None-rule_starts
returns-in-None-rule_starts c =
    let s = c.args.self.now in
    let fits : SFits w64 s.since = search rules in
    subst (IsFirstGiven (clocks_in s.zones) s.window s.event.now s.since) (sym (to_z-of_z w64 s.since fits))
    (given-since s.zones s.window s.event.now s.since)
