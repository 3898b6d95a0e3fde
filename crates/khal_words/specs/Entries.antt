-- What the words of the command line after the program's name give: clap's entries of the subcommand that they name, or a refusal.
use Rattle.std.specs.Prelude.{◌≡◌, ◌↔◌, ◌||◌, ◌&&◌, Bool, IsTrue, true, false, List, [], ◌∷◌, Option, Some, is_some, codes, option_and_then, unwrap_or}
use Rattle.std.specs.Prelude.{if◌then◌else◌}
use Rattle.std.specs.Option.{option_map_or}
use Rattle.std.specs.Str.{bytes_eq}
use Rattle.clap.specs.Kinds.{or_else}
use Rattle.clap.specs.Walk.{first_of, one_of}
use Rattle.clap.specs.Words.{Text, Row, subcommand_of, IsAmong, Kinds, fault_of}
use Rattle.clap.specs.declared.error.kind.ErrorKind.{ErrorKind}
use Rattle.clap.specs.declared.error.kind.ErrorKind.TheVariants.{ArgumentConflict, DisplayHelp}
use Rattle.khal_words.specs.Commands.{khal_app}
use Rattle.khal_words.specs.Formats.{day_default, entry_default}
use Rattle.khal_words.specs.Limits.{IsLimit}

-- a subcommand's name and its entries
abbrev pub Entries : Type 0
Entries = Option (Text × List Row)

-- the subcommand that these words name, with its entries
abbrev pub entries_of : List Text → Entries
entries_of words = subcommand_of khal_app words

-- the entry of this name
abbrev pub entry : Text → Entries → Option Text
entry id entries = option_and_then (λ found. first_of id found.1) entries

-- its text, or another if there is no such entry
abbrev pub text_or : Text → Text → Entries → Text
text_or id default entries = unwrap_or (entry id entries) default

-- its text, or the empty text if there is no such entry
abbrev pub entries_text : Text → Entries → Text
entries_text id entries = text_or id [] entries

-- the format of the entries, and of the days, that the words give
abbrev pub format_text : Entries → Text
format_text entries = text_or (codes "format") entry_default entries

abbrev pub day_format_text : Entries → Text
day_format_text entries = text_or (codes "day-format") day_default entries

-- the text of `--zone`, or UTC if it is not given
abbrev pub zone_text : Entries → Text
zone_text entries = text_or (codes "zone") (codes "UTC") entries

-- the path of `--zone-file`, if it is given
abbrev pub zone_file_text : Entries → Option Text
zone_file_text entries = entry (codes "zone-file") entries

-- the text of `--zones`, if it is given
abbrev pub zones_text : Entries → Option Text
zones_text entries = entry (codes "zones") entries

-- the text of `--limit`, if it is given
abbrev pub limit_text : Entries → Option Text
limit_text entries = entry (codes "limit") entries

-- that text is a number of entries
abbrev pub HasLimit : Entries → Type 0
HasLimit entries = (text : Text) → limit_text entries ≡ Some text → IsLimit text

-- the text of a flag
abbrev pub is_flag_text : Text → Bool
is_flag_text text = bytes_eq text (codes "true") || bytes_eq text (codes "false")

-- the entry of this name is a flag, and is read as it is written
pub record IsFlag (id : Text) (entries : Entries) : Type 0 where
  pub read : option_and_then (λ found. one_of id found.1) entries ≡ entry id entries
  pub text : (text : Text) → entry id entries ≡ Some text → is_flag_text text ≡ true

-- clap has tested the entries
pub record AreTested (entries : Entries) : Type 0 where
  pub limit : HasLimit entries
  pub notstarted : IsFlag (codes "notstarted") entries
  pub every_day : IsFlag (codes "every-day") entries
  pub keep_going : IsFlag (codes "keep-going") entries

-- the window that the entries ask for: that of a moment, or one from START, if it is given, to END
pub data Span : Type 0 where
  At : Text → Span
  FromTo : Option Text → Text → Span

-- the subcommand is `at`
abbrev pub is_at : Entries → Bool
is_at entries = option_map_or (λ found. bytes_eq found.0 (codes "at")) entries false

abbrev pub span_of : Entries → Span
span_of entries =
    if is_at entries then At (entries_text (codes "moment") entries)
    else FromTo (entry (codes "start") entries) (entries_text (codes "end") entries)

-- both options are given that name the display zone
abbrev pub has_two_zones : Entries → Bool
has_two_zones entries = is_some (entry (codes "zone") entries) && is_some (zone_file_text entries)

-- the kinds of a refusal of entries that clap takes: those two options may not stand together
abbrev pub conflict_of : Entries → Kinds
conflict_of entries = if has_two_zones entries then ArgumentConflict ∷ [] else []

-- the kinds of a refusal of the words: those of clap's and, if clap takes the words, that one
abbrev pub refusal_of : List Text → Kinds
refusal_of words = or_else (fault_of khal_app words) (conflict_of (entries_of words))

-- the words are not refused
abbrev pub AreTaken : List Text → Type 0
AreTaken words = refusal_of words ≡ []

-- the words are refused, and not because an allocation failed; help is shown or not
pub record IsRefused (words : List Text) (help : Bool) : Type 0 where
  pub kind : ErrorKind
  pub among : IsAmong kind (refusal_of words)
  pub asks : IsTrue help ↔ (kind ≡ DisplayHelp)
