use Rattle.std.proofs.Common.{rules, arith, ◌≡◌, ◌<◌, ◌∷◌, ◌++◌, [], length, refl, append_assoc}
use Rattle.std.proofs.lemmas.Grind.{common_steps}
use Rattle.khal_words.specs.Formats.{written_piece}
use Rattle.khal_words.proofs.FormatLemmas.{format_behind, no_format, written-last}
use Rattle.khal_words.proofs.format.Format.parse.Goals as goal

pub returns-in_default-clause-bad : goal.returns-in_default-clause-bad
returns-in_default-clause-bad g c is_bad is_format =
    let some : 0 < length c.loop-rest.rest.now = search rules in
    no_format g.F.Placeholder.name c.loop-rest.rest.now some (c.in_default.ensures.none refl) (c.loop-rest.invariant.left is_format)

pub loop-rest-preserved : goal.loop-rest-preserved
loop-rest-preserved g c =
    let name = g.F.Placeholder.name in
    let plain = g.met.F.Placeholder.plain in
    let piece = c.in-Some.piece in
    let after = c.in-Some.after.now in
    let next : c.loop-rest.rest.now ≡ written_piece name piece ++ after = c.in-Some.ensures.some in
    let added : c.push.new.self.items ≡ c.loop-rest.pieces.items ++ piece ∷ [] = search rules in
    record {
      whole = rw (added, written-last name plain c.loop-rest.pieces.items piece, append_assoc, ← next) c.loop-rest.invariant.whole;
      left = λ is. format_behind name plain piece after c.loop-rest.rest.now next (c.loop-rest.invariant.left is);
    }

pub loop-rest-smaller : goal.loop-rest-smaller
loop-rest-smaller g c = grind (arith, common_steps)

pub returns-clause-ok : goal.returns-clause-ok
returns-clause-ok g c = grind (arith, common_steps)
