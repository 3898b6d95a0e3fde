use Rattle.std.proofs.Common.{rules, ◌≡◌, ◌∙◌, ap, fold, get_or, sym, take, to_z, of_z, w64}
use Rattle.std.proofs.lemmas.List.Sums.{fold_more}
use Rattle.ics_days.specs.NearPlaces.{put_at}
use Rattle.ics_days.proofs.near_places.put_back.Goals as goal

pub returns-in_err-put_at-clause-some : goal.returns-in_err-put_at-clause-some
returns-in_err-put_at-clause-some c =
    let far : to_z w64 (of_z w64 c.args.far) ≡ c.args.far = search rules in
    let front = take c.loop-place.place-index c.args.near.now in
    let same = c.in_err-put_at.ensures.err ∙ c.loop-place.invariant in
    (c.loop-place.place-index, same ∙ (λ i. fold (put_at c.args.spans.now (far i)) c.args.returned.now.keys front))

pub loop-place-preserved : goal.loop-place-preserved
loop-place-preserved c =
    let near = c.args.near.now in
    let i = c.loop-place.place-index in
    let put = put_at c.args.spans.now (to_z w64 (of_z w64 c.args.far)) in
    let more = fold_more put c.args.returned.now.keys near i 0 c.loop-place-test.true in
    c.in_ok-put_at.ensures.ok ∙ (ap (λ ks. put ks (get_or near i 0)) c.loop-place.invariant ∙ sym more)
