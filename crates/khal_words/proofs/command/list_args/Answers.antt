use Rattle.std.proofs.Common.{◌≡◌, ◌∙◌, ◌∷◌, [], ap, codes, map}
use Rattle.clap.specs.Words.{Rule, rule_of}
use Rattle.khal_words.specs.Commands as spec
use Rattle.khal_words.proofs.command.list_args.Goals as goal

pub returns-clause-rules : goal.returns-clause-rules
returns-clause-rules c =
    let end : rule_of c.default_value.result ≡ spec.end =
    ap rule_of c.default_value.ensures ∙ ap (λ (rule : Rule). record rule { defaults = codes "2d" ∷ [] }) c.argument-2.ensures.rule in
    ap (map rule_of) c.in_ok-vec.ensures.items
    ∙ (λ i. c.folder.ensures.rule i ∷ c.argument.ensures.rule i ∷ end i ∷ c.option.ensures.rule i ∷ c.option-2.ensures.rule i ∷ c.option-3.ensures.rule i
    ∷ c.flag.ensures.rule i ∷ c.limit.ensures.rule i ∷ c.option-4.ensures.rule i ∷ c.flag-2.ensures.rule i ∷ c.flag-3.ensures.rule i
    ∷ c.option-5.ensures.rule i ∷ c.option-6.ensures.rule i ∷ [])
