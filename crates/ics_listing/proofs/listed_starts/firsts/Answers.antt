use Rattle.std.proofs.lemmas.Grind.{common_steps}
use Rattle.std.proofs.Common.{rules, ◌≡◌, ◌+◌, ◌<◌, ◌++◌, ◌∷◌, ℕ, ℤ, List, [], Option, Some, cond, Bool, drop, get_or, length, sym, ◌∙◌, ap, to_z, of_z, arith}
use Rattle.std.proofs.Common.{w64, int_eq}
use Rattle.std.proofs.lemmas.List.{append_assoc, at_drop_more}
use Rattle.std.specs.Option.{option_eq}
use Rattle.ics_listing.specs.declared.start.Start.{Start}
use Rattle.ics_listing.specs.StartOrder.{firsts_after}
use Rattle.ics_listing.proofs.FirstLemmas.{at-true}
use Rattle.ics_listing.proofs.listed_starts.firsts.Goals as goal

-- one start more, whose instant is t
one-more : (last : Option ℤ) (starts : List Start) {k : ℕ} {s : Start} {t : ℤ} {b : Bool} → k < length starts → s ≡ get_or starts k s → t ≡ s.moment →
    option_eq int_eq last (Some t) ≡ b
    → cond b (firsts_after (Some t) (drop (k + 1) starts)) (s ∷ firsts_after (Some t) (drop (k + 1) starts)) ≡ firsts_after last (drop k starts)
one-more last starts {k = k} {s = s} {t = t} l is same test =
    let rest = drop (k + 1) starts in
    ap (λ c. cond c (firsts_after (Some t) rest) (s ∷ firsts_after (Some t) rest)) (sym test)
    ∙ (ap (λ m. cond (option_eq int_eq last (Some m)) (firsts_after (Some m) rest) (s ∷ firsts_after (Some m) rest)) same
    ∙ sym (at_drop_more (firsts_after last) starts k s l ∙ ap (λ x. firsts_after last (x ∷ rest)) (sym is)))

pub loop-start-preserved : goal.loop-start-preserved
loop-start-preserved c =
    let l = c.loop-start in
    let s = c.start-item in
    let fits : to_z w64 (of_z w64 c.start-item.result.moment) ≡ c.start-item.result.moment = search rules in
    let one = one-more l.last c.args.starts.now c.loop-start-test.true s.is fits (sym c.eq.ensures ∙ c.if-eq.false) in
    ap (λ xs. xs ++ firsts_after (Some (to_z w64 (of_z w64 s.result.moment))) (drop (l.start-index + 1) c.args.starts.now)) c.in_ok-push.ensures.items
    ∙ (append_assoc l.firsts.items (s.result ∷ []) _ ∙ (ap (λ xs. l.firsts.items ++ xs) one ∙ l.invariant))

pub loop-start-preserved-then-eq : goal.loop-start-preserved-then-eq
loop-start-preserved-then-eq c =
    let l = c.loop-start in
    let fits : to_z w64 (of_z w64 c.start-item.result.moment) ≡ c.start-item.result.moment = search rules in
    let same = sym c.eq.ensures ∙ c.if-eq.true in
    ap (λ o. l.firsts.items ++ firsts_after o (drop (l.start-index + 1) c.args.starts.now)) (at-true l.last _ same)
    ∙ (ap (λ xs. l.firsts.items ++ xs) (one-more l.last c.args.starts.now c.loop-start-test.true c.start-item.is fits same)
    ∙ l.invariant)

pub returns : goal.returns
returns c = grind (arith, common_steps)
