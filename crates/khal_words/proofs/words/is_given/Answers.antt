use Rattle.std.proofs.Common.{◌≡◌, ◌∙◌, Bool, true, false, List, [], Option, Some, None, inl, inr, refl, ap, option_map, bytes_eq}
use Rattle.std.specs.Prelude.{◌↔◌, IsTrue, codes, unwrap_or}
use Rattle.std.proofs.lemmas.Bool.{or_cases}
use Rattle.std.proofs.lemmas.Slice.Eq.{bytes_eq-Decides}
use Rattle.clap.proofs.WalkLemmas.{one_text-rows}
use Rattle.clap.specs.Words.{Row, Text, first_of, found_of, one_of, subcommand_rows_of}
use Rattle.khal_words.specs.Entries.{Entries, entries_text, is_flag_text, IsFlag}
use Rattle.khal_words.proofs.words.is_given.Goals as goal

-- what `get_flag` makes of the text that it reads
abbrev ReadsFlag : Option Text → Bool → Type 0
ReadsFlag text b = (text ≡ None → b ≡ false) × (text ≡ Some (codes "true") → b ≡ true) × (text ≡ Some (codes "false") → b ≡ false)

flag_read : (o : Option Text) (b : Bool) → ((text : Text) → o ≡ Some text → is_flag_text text ≡ true) → ReadsFlag o b →
    b ≡ bytes_eq (unwrap_or o []) (codes "true")
flag_read None b flag reads = reads.0 refl
flag_read (Some text) b flag reads = elim (or_cases (bytes_eq text (codes "true")) (bytes_eq text (codes "false")) (flag text refl)) [
  | inl same ↦ let is = (bytes_eq-Decides text (codes "true")).0 same in rw is (reads.1 (ap Some is))
  | inr same ↦ let is = (bytes_eq-Decides text (codes "false")).0 same in rw is (reads.2 (ap Some is))
]

-- what is read of the rows of a flag
flag_is : {id : Text} (entries : Entries) (rows : List Row) (b : Bool) → IsFlag id entries → Some rows ≡ option_map (λ found. found.1) entries
    → ReadsFlag (one_of id rows) b → IsTrue b ↔ (entries_text id entries ≡ codes "true")
flag_is None rows b flag here reads = cc
flag_is {id = id} (Some found) rows b flag here reads =
    let rows-are : rows ≡ found.1 = cc in
    rw (flag_read (first_of id found.1) b flag.text (rw (rows-are, flag.read) at reads)) (bytes_eq-Decides _ _)

pub returns-in-Some : goal.returns-in-Some
returns-in-Some c =
    let read = one_text-rows (found_of c.in-Some.entries.now) c.args.id.now in
    let gives = c.get_flag.ensures in
    flag_is (subcommand_rows_of c.args.found.now) _ c.get_flag.result c.requires c.in-Some.ensures.rows
    ((λ e. gives.none (read ∙ e)), (λ e. gives.value (read ∙ e)), (λ e. gives.other (read ∙ e)))
