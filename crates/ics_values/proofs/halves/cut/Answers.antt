use Rattle.std.proofs.Common.{◌≡◌, ◌==◌, ◌<◌, ◌+◌, ◌∷◌, ℕ, false, get_or, length, take, drop, sym, ap, ◌∙◌, arith}
use Rattle.std.proofs.lemmas.Bool.{false_from_ne_true}
use Rattle.std.proofs.lemmas.Grind.{common_steps}
use Rattle.std.proofs.lemmas.List.{take_rest}
use Rattle.std.proofs.lemmas.List.Elements.{All-from_get_or}
use Rattle.std.proofs.lemmas.List.Splits.{slice_split_first, slice_split_none}
use Rattle.std.proofs.lemmas.List.Sums.{position_or_len_is}
use Rattle.ics_values.specs.RuleTexts.{pieces}
use Rattle.ics_values.proofs.halves.cut.Goals as goal

pub returns-in-Some : goal.returns-in-Some
returns-in-Some c =
    let text = c.args.text.now in
    let first = c.in-Some.ensures in
    let high = first.0.high in
    let at = position_or_len_is (λ b. b == c.args.separator) text c.in-Some.at 0 (omega (arith, high))
    (λ k h. false_from_ne_true _ (first.0.before k (omega arith) h)) (λ _. first.1) in
    record {
      before = ap (λ n. take n text) (sym at);
      behind = rw (take_rest text (c.in-Some.at + 1)) (ap (λ n. drop (n + 1) text) (sym at));
      pieces = rw (take_rest text (c.in-Some.at + 1))
          (slice_split_first (λ b. b == c.args.separator) text 0 (omega (arith, at, high))
          ∙ ap (λ n. take n text ∷ pieces c.args.separator (drop (n + 1) text)) at);
      shorter = grind (arith, common_steps);
    }

pub returns-in-None : goal.returns-in-None
returns-in-None c =
    let text = c.args.text.now in
    let none : (k : ℕ) → k < length text → (get_or text k 0 == c.args.separator) ≡ false = λ k h. false_from_ne_true _ (c.in-None.ensures k (omega arith) h) in
    let past = position_or_len_is (λ b. b == c.args.separator) text (length text) 0 (omega arith) none (λ h. absurd (omega arith)) in
    record {
      before = grind (arith, common_steps);
      behind = grind (arith, common_steps);
      pieces = slice_split_none (λ b. b == c.args.separator) text (All-from_get_or (λ b. (b == c.args.separator) ≡ false) text 0 none);
      shorter = tt;
    }
