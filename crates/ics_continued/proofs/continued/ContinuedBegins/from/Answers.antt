use Rattle.std.proofs.Common.{◌≡◌, arith, length, refl, slice_get, subst, Some, List}
use Rattle.std.proofs.lemmas.Int.{ints}
use Rattle.std.proofs.lemmas.Option.{slice_get_read}
use Rattle.ics_continued.specs.declared.lasting.Lasting.{Lasting}
use Rattle.ics_listing.proofs.Cases.{moment-back}
use Rattle.ics_starts.proofs.SeriesLemmas.{series-near}
use Rattle.ics_continued.proofs.ContinuedLemmas.{first-known, left-near}
use Rattle.ics_continued.proofs.continued.ContinuedBegins.from.Goals as goal

pub returns-in-None-clause-near : goal.returns-in-None-clause-near
returns-in-None-clause-near c = left-near c.args.self.now c.args.self.now.series refl (series-near c.args.self.now.series)

pub returns-in-Some-clause-from : goal.returns-in-Some-clause-from
returns-in-Some-clause-from c = λ o m.
    let s = c.args.self.now in
    let lookup = c.in-Some.ensures.lookup in
    let there : slice_get s.known.items s.next ≡ Some c.in-Some.lasting.now =
    subst (λ (xs : List Lasting). slice_get xs s.next ≡ Some c.in-Some.lasting.now) c.deref.ensures.value
    (slice_get_read c.deref.result.now (length c.deref.result.now) s.next c.in-Some.lasting.now refl lookup.3.0 lookup.1) in
    let first = first-known s c.in-Some.lasting.now there o m in
    let fits = moment-back c.start.result c.start.type_inv in
    let is = c.start.ensures in
    omega (arith, ints, first, fits, is)

pub returns-in-Some-clause-near : goal.returns-in-Some-clause-near
returns-in-Some-clause-near c = left-near c.args.self.now c.args.self.now.series refl (series-near c.args.self.now.series)
