-- A text that is handed over and is not UTF-8.
use Rattle.std.proofs.Common.{◌≡◌, ◌∙◌, ℕ, List, map, option_map, slice_get, Some, ap}
use Rattle.std.proofs.lemmas.Option.{slice_get-map}
use Rattle.std.specs.Str.{IsUtf8}
use Rattle.khal_list_c.specs.Given.{HasNoText, given_file, given_word, names_of}
use Rattle.khal_list_c.specs.declared.given.KhalFile.{KhalFile}
use Rattle.khal_list_c.specs.declared.words.KhalWord.{KhalWord}

pub no_word : (words : List KhalWord) (i : ℕ) (word : KhalWord) → slice_get words i ≡ Some word → ¬ (IsUtf8 word.bytes.now)
    → HasNoText (map given_word words)
no_word words i word at none = record {
  text = word.bytes.now;
  index = i;
  stands = slice_get-map given_word words i ∙ ap (λ found. option_map given_word found) at;
  none = none;
}

pub no_name : (files : List KhalFile) (i : ℕ) (file : KhalFile) → slice_get files i ≡ Some file → ¬ (IsUtf8 file.name.now)
    → HasNoText (names_of (map given_file files))
no_name files i file at none = record {
  text = file.name.now;
  index = i;
  stands = slice_get-map (λ one. one.0) (map given_file files) i
      ∙ ap (λ found. option_map (λ one. one.0) found) (slice_get-map given_file files i ∙ ap (λ found. option_map given_file found) at);
  none = none;
}
