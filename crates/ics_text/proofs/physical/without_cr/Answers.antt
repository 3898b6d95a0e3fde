use Rattle.std.proofs.Common.{◌≡◌, ◌≢◌, ℕ, List, [], ◌∷◌, ◌++◌, ap, sym, ◌∙◌, Option, Some, None, Bor, MatchOption, unwrap_or}
use Rattle.std.proofs.lemmas.Bool.Decides.{Decides-eqb}
use Rattle.std.proofs.lemmas.Slice.Eq.{strip_suffix_is}
use Rattle.ics_text.specs.Inner.Reading.{without_cr}
use Rattle.ics_text.proofs.Cuts.{without_cr-append, without_cr-keeps}
use Rattle.ics_text.proofs.physical.without_cr.Goals as goal

stripped : (bytes : Bor (List ℕ)) (r : Option (Bor (List ℕ))) →
    MatchOption r ((front : List ℕ) → bytes.now ≢ front ++ 13 ∷ []) (λ x. bytes.now ≡ x.now ++ 13 ∷ []) →
    (unwrap_or r bytes).now ≡ without_cr bytes.now
stripped bytes None other = sym (without_cr-keeps bytes.now other)
stripped bytes (Some x) is = sym (ap without_cr is ∙ without_cr-append x.now)

pub returns : goal.returns
returns c = ap (λ (r : Bor (List ℕ)). r.now) c.unwrap_or.ensures
    ∙ stripped c.args.bytes c.strip_suffix.result (strip_suffix_is Decides-eqb c.args.bytes.now (13 ∷ []) c.strip_suffix.result c.strip_suffix.ensures.cases)
