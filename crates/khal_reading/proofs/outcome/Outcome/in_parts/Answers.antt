use Rattle.std.proofs.Common.{◌∙◌, List, Some, map, ap}
use Rattle.std.proofs.lemmas.Simd.{map-map}
use Rattle.ics_file.specs.File.{said_by}
use Rattle.khal_reading.specs.Errors.{Refusal}
use Rattle.khal_reading.specs.Gives.{ReadGives, in_parts}
use Rattle.khal_reading.specs.Inner.Outcomes.{refusal_by, refusal_of}
use Rattle.khal_reading.proofs.outcome.Outcome.in_parts.Goals as goal

pub returns : goal.returns
returns c =
    let listed : List Refusal → ReadGives = λ refusals. record { file = Some (said_by c.given.inside.file); refusals = refusals } in
    ap listed (ap (map refusal_of) c.in_ok-refusals.ensures ∙ map-map refusal_of refusal_by c.given.inside.faults.items) ∙ ap in_parts c.given.view_is
