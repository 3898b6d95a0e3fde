use Rattle.std.proofs.Common.{◌≡◌, ◌∙◌, ◌+ℤ◌, ◌-ℤ◌, ap, rules, to_z, of_z, w64}
use Rattle.std.specs.Int.{saturate_signed}
use Rattle.ics_fields.specs.Locals.{whole_days}
use Rattle.ics_listing.proofs.Cases.{moment-back}
use Rattle.ics_starts.proofs.ByLocalLemmas.{near-about, near-at}
use Rattle.ics_starts.proofs.by_local.about.Goals as goal

pub returns : goal.returns
returns c = λ locals placed.
    let from : to_z w64 (of_z w64 c.args.from) ≡ c.args.from = search rules in
    let to : to_z w64 (of_z w64 c.args.to) ≡ c.args.to = search rules in
    let first = c.saturating_sub-first in
    let end = c.saturating_add-end in
    let low : to_z w64 (of_z w64 first.result) ≡ saturate_signed w64 (c.args.from -ℤ whole_days 4) =
    moment-back first.result first.type_inv ∙ (first.ensures ∙ ap (λ t. saturate_signed w64 (t -ℤ whole_days 4)) from) in
    let high : to_z w64 (of_z w64 end.result) ≡ saturate_signed w64 (c.args.to +ℤ whole_days 4) =
    moment-back end.result end.type_inv ∙ (end.ensures ∙ ap (λ t. saturate_signed w64 (t +ℤ whole_days 4)) to) in
    near-about c.between.result.now placed (near-at c.between.result.now low high (c.between.ensures locals placed))
