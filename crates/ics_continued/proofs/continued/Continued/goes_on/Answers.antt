use Rattle.std.proofs.Common.{◌≡◌, ◌∙◌, ◌≤ℤ◌, ap, arith, sym}
use Rattle.std.proofs.lemmas.Int.{ints}
use Rattle.ics_listing.specs.declared.window.Window.{Window}
use Rattle.ics_continued.proofs.ContinuedLemmas.{all-given, all-kept, one-test}
use Rattle.ics_continued.proofs.continued.Continued.goes_on.Goals as goal

pub returns-clause-all : goal.returns-clause-all
returns-clause-all c = λ alike.
    let s = c.args.self.now in
    let w = c.args.window.now in
    let before = c.window-before.result in
    let old = s.series.window in
    let same = ap (λ (x : Window). x.from) c.window-before.ensures in
    let later : s.since ≤ℤ c.args.since = omega (arith, ints, c.if-since-self.false) in
    let end : s.by ≤ℤ w.from = omega (arith, ints, c.if-window-self.false, w.ordered, w.not_early, w.not_late) in
    let from : old.from ≤ℤ w.from = omega (
      arith,
      ints,
      c.if-window-before.false,
      same,
      w.ordered,
      w.not_early,
      w.not_late,
      old.ordered,
      old.not_early,
      old.not_late,
    ) in
    all-kept (all-given s c.if-not-self.false) w c.args.since later end from
    (sym (ap (λ (x : Window). x.notstarted) c.window-before.ensures) ∙ one-test before.notstarted w.notstarted alike)
