use Rattle.std.proofs.Common.{◌≡◌, ◌∙◌, ap, arith, rules, to_z, of_z, w64}
use Rattle.std.proofs.Math.Logic.{∥∥₁_map}
use Rattle.std.specs.Int.{int_max, int_min}
use Rattle.std.proofs.lemmas.Int.{int_max_is, int_min_is, ints}
use Rattle.ics_listing.specs.declared.window.Window.{Window}
use Rattle.ics_listing.proofs.Cases.{moment-back}
use Rattle.ics_continued.proofs.continued.Continued.begin_for.Goals as goal

pub returns-clause-all : goal.returns-clause-all
returns-clause-all c =
    let s = c.args.self.now in
    let w = c.window-end.result in
    let fits = moment-back c.max.result c.max.type_inv in
    let gap : to_z w64 (of_z w64 s.gap) ≡ s.gap = search rules in
    let since : to_z w64 (of_z w64 c.args.since) ≡ c.args.since = search rules in
    let least : to_z w64 (of_z w64 c.min.result) ≡ c.min.result = search rules in
    let end : to_z w64 (of_z w64 w.to) ≡ w.to = omega (arith, ints, w.ordered, w.not_early, w.not_late) in
    let same = ap (λ (x : Window). x.to) c.window-end.ensures in
    let value : c.max.result ≡ int_max c.args.since c.min.result = c.max.ensures.value ∙ (λ i. int_max (since i) (least i)) in
    let lesser : c.min.result ≡ int_min w.to s.gap = c.min.ensures.value ∙ (λ i. int_min (end i) (gap i)) in
    ∥∥₁_map ((rw since at c.goes_on.ensures.all) c.if-not-goes_on.false) (λ k. λ o met early.
    let from = met.1.0 in
    k o met
    (omega (arith, ints, early, fits, gap, since, least, end, same, from, value, lesser, int_max_is c.args.since c.min.result, int_min_is w.to s.gap))
    (omega (arith, ints, early, fits, gap, since, least, end, same, from, value, lesser, int_max_is c.args.since c.min.result, int_min_is w.to s.gap)))

pub returns-clause-begun : goal.returns-clause-begun
returns-clause-begun c =
    let s = c.args.self.now in
    let w = c.window-end.result in
    let fits = moment-back c.max.result c.max.type_inv in
    let gap : to_z w64 (of_z w64 s.gap) ≡ s.gap = search rules in
    let since : to_z w64 (of_z w64 c.args.since) ≡ c.args.since = search rules in
    let least : to_z w64 (of_z w64 c.min.result) ≡ c.min.result = search rules in
    let end : to_z w64 (of_z w64 w.to) ≡ w.to = omega (arith, ints, w.ordered, w.not_early, w.not_late) in
    let same = ap (λ (x : Window). x.to) c.window-end.ensures in
    let before = c.goes_on.ensures.end c.if-not-goes_on.false in
    let value : c.max.result ≡ int_max c.args.since c.min.result = c.max.ensures.value ∙ (λ i. int_max (since i) (least i)) in
    let lesser : c.min.result ≡ int_min w.to s.gap = c.min.ensures.value ∙ (λ i. int_min (end i) (gap i)) in
    omega (
      arith,
      ints,
      fits,
      gap,
      since,
      least,
      end,
      same,
      before,
      value,
      lesser,
      int_max_is c.args.since c.min.result,
      int_min_is w.to s.gap,
      int_max_is c.args.since c.args.window.now.to,
    )
