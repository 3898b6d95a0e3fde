use Rattle.ics_series.proofs.WindowLemmas.{listings-join}
use Rattle.ics_series.proofs.laws.listings_join.Goals as goal

pub returns : goal.returns
returns c = λ files display first next whole xs ys joined. listings-join files display first next whole joined xs ys
