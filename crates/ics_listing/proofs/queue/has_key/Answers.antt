use Rattle.std.proofs.Common.{◌≡◌, w64, to_z, of_z, is_some, int_cmp, ◌∙◌, ap, arith, SFits}
use Rattle.std.specs.BTreeMap.{is_at}
use Rattle.std.specs.Map.{lookup}
use Rattle.std.proofs.lemmas.Int.{ints}
use Rattle.ics_listing.proofs.WaitingLemmas.{waits-between}
use Rattle.ics_listing.proofs.queue.has_key.Goals as goal

pub returns : goal.returns
returns c =
    let es = c.args.between.now.entries in
    let fits : SFits w64 c.args.moment = c.ranges.moment in
    let same : to_z w64 (of_z w64 c.args.moment) ≡ c.args.moment = omega (arith, ints) in
    c.contains_key.ensures ∙ (ap (λ t. is_some (lookup (is_at (int_cmp t)) es)) same ∙ waits-between c.args.moment es)
