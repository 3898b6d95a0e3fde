use Rattle.std.proofs.Common.{map, rules}
use Rattle.std.specs.Ordering.{on}
use Rattle.std.proofs.lemmas.Cmp.{on_total}
use Rattle.std.proofs.lemmas.Result.{IfOk-weaker}
use Rattle.ics_file.specs.File.{said_by}
use Rattle.ics_starts.specs.Clocks.{display_clock}
use Rattle.ics_series.specs.Versions.{AreChosen, label_cmp, seen}
use Rattle.ics_series.specs.Inner.Whole.{AreRead}
use Rattle.ics_series.proofs.VersionLemmas.{found, label_total}
use Rattle.ics_listing.proofs.ListingLemmas.{climbs-by}
use Rattle.ics_series.proofs.chosen.chosen.Goals as goal

pub returns : goal.returns
returns c = record {
  chosen =
      IfOk-weaker c.last_of_each.result _ (λ last. AreChosen (map said_by c.args.files.now) (display_clock c.args.display.now) last.items)
      (λ last h. found c.in_ok-versions.ensures.labels
      c.sort_by.ensures.permutation
      (climbs-by (on seen label_cmp) (on_total seen label_total) c.sort_by.new.self.items c.in_ok-sort_by.ensures.sorted
      (λ f a r f' k. search rules))
      h)
      c.last_of_each.ensures;
  read = IfOk-weaker c.last_of_each.result _ (λ last. AreRead (map said_by c.args.files.now)) (λ last h. c.in_ok-versions.ensures.read) c.last_of_each.ensures;
}
