use Rattle.std.proofs.Common.{◌∙◌, inl, inr, refl, sym}
use Rattle.ics_rule.proofs.RoundLemmas.{repeats}
use Rattle.ics_rule.proofs.rounds.repeat_seconds.Goals as goal

pub returns-then-not-is_empty-clause-repeat : goal.returns-then-not-is_empty-clause-repeat
returns-then-not-is_empty-clause-repeat c = repeats c.args.parts.now c.requires.alone c.requires.fine 604_800 (inr refl) (inr refl) (inr refl) (inr refl)

pub returns-then-not-is_empty-2-clause-repeat : goal.returns-then-not-is_empty-2-clause-repeat
returns-then-not-is_empty-2-clause-repeat c = repeats c.args.parts.now c.requires.alone c.requires.fine 86_400
    (inl (sym c.is_empty.ensures ∙ c.if-not-is_empty.false)) (inr refl) (inr refl) (inr refl)

pub returns-then-not-is_empty-3-clause-repeat : goal.returns-then-not-is_empty-3-clause-repeat
returns-then-not-is_empty-3-clause-repeat c = repeats c.args.parts.now c.requires.alone c.requires.fine 3_600
    (inl (sym c.is_empty.ensures ∙ c.if-not-is_empty.false)) (inl (sym c.is_empty-else-not-is_empty.ensures ∙ c.if-not-is_empty-2.false))
    (inr refl) (inr refl)

pub returns-then-not-is_empty-4-clause-repeat : goal.returns-then-not-is_empty-4-clause-repeat
returns-then-not-is_empty-4-clause-repeat c = repeats c.args.parts.now c.requires.alone c.requires.fine 60
    (inl (sym c.is_empty.ensures ∙ c.if-not-is_empty.false)) (inl (sym c.is_empty-else-not-is_empty.ensures ∙ c.if-not-is_empty-2.false))
    (inl (sym c.is_empty-else-not-is_empty-2.ensures ∙ c.if-not-is_empty-3.false)) (inr refl)

pub returns-else-not-is_empty-4-clause-repeat : goal.returns-else-not-is_empty-4-clause-repeat
returns-else-not-is_empty-4-clause-repeat c = repeats c.args.parts.now c.requires.alone c.requires.fine 1
    (inl (sym c.is_empty.ensures ∙ c.if-not-is_empty.false)) (inl (sym c.is_empty-else-not-is_empty.ensures ∙ c.if-not-is_empty-2.false))
    (inl (sym c.is_empty-else-not-is_empty-2.ensures ∙ c.if-not-is_empty-3.false))
    (inl (sym c.is_empty-else-not-is_empty-3.ensures ∙ c.if-not-is_empty-4.false))
