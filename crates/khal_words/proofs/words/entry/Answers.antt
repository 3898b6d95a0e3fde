use Rattle.std.proofs.Common.{◌≡◌, ℕ, List, Option, Some, None, option_map, sym, ◌∙◌}
use Rattle.clap.proofs.WalkLemmas.{first_value-rows}
use Rattle.clap.specs.Words.{Text, Row, first_of, found_of, rows_of, subcommand_rows_of}
use Rattle.khal_words.specs.Entries.{entry}
use Rattle.khal_words.proofs.words.entry.Goals as goal

entry_is : (id : List ℕ) (o : Option (Text × List Row)) (rows : List Row) → Some rows ≡ option_map (λ p. p.1) o → entry id o ≡ first_of id rows
entry_is id None rows e = cc
entry_is id (Some p) rows e = cc

pub returns : goal.returns
returns c =
    let id = c.args.id.now in
    let rows = rows_of (found_of c.in_ok-entries.entries.now) in
    let here : Some rows ≡ option_map (λ p. p.1) (subcommand_rows_of c.args.found.now) = c.in_ok-entries.ensures.rows in
    c.get_str.ensures ∙ (first_value-rows (found_of c.in_ok-entries.entries.now) id ∙ sym (entry_is id (subcommand_rows_of c.args.found.now) rows here))
