use Rattle.std.proofs.Common.{is_ok}
use Rattle.ics_listing.specs.Entry.{entry_of}
use Rattle.ics_continued.proofs.ContinuedLemmas.{noted}
use Rattle.ics_continued.proofs.continued.keep.Goals as goal

pub returns : goal.returns
returns c =
    noted (entry_of c.args.occurrence.now) c.args.by c.of.result c.args.lasts.now.items (is_ok c.push.result) c.of.ensures.start c.of.ensures.finish
    c.push.ensures.items c.is_ok.ensures.value
