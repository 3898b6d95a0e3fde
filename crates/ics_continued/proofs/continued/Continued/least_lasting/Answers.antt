use Rattle.std.proofs.Common.{◌≡◌, ◌∙◌, ◌≤ℤ◌, ◌<ℤ◌, inl, inr, ap, arith, rules, slice_get, to_z, of_z, w64, Some, None}
use Rattle.std.proofs.lemmas.Int.{int_min_is, ints}
use Rattle.ics_listing.proofs.Cases.{moment-back}
use Rattle.ics_zone.proofs.Cases.{less_or_not_z}
use Rattle.ics_continued.proofs.ContinuedLemmas.{all-given, first-lasting, lasts-on, none-lasting, rises-lasting}
use Rattle.ics_continued.proofs.continued.Continued.least_lasting.Goals as goal

pub returns-in-None : goal.returns-in-None
returns-in-None c = λ high o asked after.
    let s = c.args.self.now in
    let late : s.by ≤ℤ c.args.by = omega (arith, ints, c.if-by-self.false) in
    let fits : to_z w64 (of_z w64 s.gap) ≡ s.gap = search rules in
    elim (less_or_not_z o.start s.gap) [
      | inl early ↦ absurd (
          let there = lasts-on (all-given s c.if-not-self.false) late o asked after early in
          let none : None ≡ slice_get s.lasts.items 0 = c.in-None.ensures.value ∙ ap (λ xs. slice_get xs 0) c.deref.ensures.value in
          none-lasting s.series.event.now s.lasts.items o none there)
      | inr most ↦ omega (arith, ints, most, fits)
    ]

pub returns-in-Some : goal.returns-in-Some
returns-in-Some c = λ high o asked after.
    let s = c.args.self.now in
    let late : s.by ≤ℤ c.args.by = omega (arith, ints, c.if-by-self.false) in
    let gap : to_z w64 (of_z w64 s.gap) ≡ s.gap = search rules in
    let start = moment-back c.start.result c.start.type_inv in
    let fits = moment-back c.min.result c.min.type_inv in
    let value = c.min.ensures.value in
    let least = int_min_is c.start.result s.gap in
    elim (less_or_not_z o.start s.gap) [
      | inl early ↦
          let there = lasts-on (all-given s c.if-not-self.false) late o asked after early in
          let is : Some c.in-Some.first.now ≡ slice_get s.lasts.items 0 = c.in-Some.ensures.value ∙ ap (λ xs. slice_get xs 0) c.deref.ensures.value in
          let first = first-lasting s.series.event.now s.lasts.items c.in-Some.first.now o is (rises-lasting s) there in
          let same = c.start.ensures in
          omega (arith, ints, first, start, fits, gap, value, least, same)
      | inr most ↦ omega (arith, ints, most, start, fits, gap, value, least)
    ]
