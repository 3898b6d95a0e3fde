use Rattle.std.proofs.Common.{IfSome, subst, sym}
use Rattle.ics_starts.specs.FileZones.{clocks_in}
use Rattle.ics_starts.specs.Inner.ClockStretches.{AreStretches}
use Rattle.ics_starts.proofs.clock_stretch.instant_anew.Goals as goal
use Rattle.ics_starts.proofs.clock_stretch.instant_anew.Goals.{in-None, in-Some}

pub returns-clause-known : goal.returns-clause-known
returns-clause-known c =
    let clocks = clocks_in c.args.zones in
    let stretched = c.stretch-stretch.ensures in
    elim c.match-known.branch [
      | in-None w ↦ subst (λ k. IfSome k (AreStretches clocks)) (sym w.known-is) (w.one.ensures clocks stretched)
      | in-Some w ↦
          let were = subst (λ k. IfSome k (AreStretches clocks)) w.in-Some.is c.requires.known in
          subst (λ k. IfSome k (AreStretches clocks)) (sym w.known-is) (w.with.ensures clocks were stretched)
    ]
