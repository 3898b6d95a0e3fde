-- What the words of the command line, a display zone and the clock ask for, or why they are not a request.
use Rattle.std.specs.Prelude.{◌≡◌, ◌↔◌, ◌⊎◌, ◌^◌, ◌-◌, ⊤, ℤ, pos, int_lt, if◌then◌else◌, IsTrue, List, Option, Some, None, IsSome, is_some}
use Rattle.std.specs.Prelude.{Result, Ok, Err, codes}
use Rattle.std.specs.Int.{int_max}
use Rattle.std.specs.Option.{option_map}
use Rattle.std.specs.String.{string_bytes}
use Rattle.clap.specs.Words.{Text}
use Rattle.ics_zone.specs.DisplayTexts.{display_of}
use Rattle.ics_zone.specs.ZoneSaid.{ZoneSaid, display_said}
use Rattle.ics_starts.specs.Clocks.{zone_clock}
use Rattle.ics_listing.specs.DayKeys.{day_key_rank, DayRank}
use Rattle.ics_days.specs.ShownDays.{date_at}
use Rattle.ics_listing.specs.Tokens.{day_spelling, IsDayKey, IsDayToken, spelling, IsKey, IsToken}
use Rattle.ics_listing.specs.Entry.{key_rank}
use Rattle.ics_listing.specs.declared.day_key.DayKey.{DayKey}
use Rattle.ics_listing.specs.declared.key.Key.{Key}
use Rattle.ics_listing.specs.declared.window.Window.{Window}
use Rattle.khal_words.specs.Formats.{day_name, entry_name, written, IsFormat}
use Rattle.khal_words.specs.Entries.{Entries, day_format_text, entry, entries_of, format_text, limit_text, entries_text, span_of, zone_file_text}
use Rattle.khal_words.specs.Entries.{zone_text, zones_text, AreTaken, IsRefused}
use Rattle.khal_words.specs.Limits.{IsLimitOf}
use Rattle.khal_list.specs.Windows.{ends_of}
use Rattle.khal_list.specs.declared.every_day.EveryDay.{EveryDay}
use Rattle.khal_list.specs.declared.request.Request.{Request}
use Rattle.khal_list.specs.declared.request_fault.RequestFault.{RequestFault}
use Rattle.khal_list.specs.declared.request_fault.RequestFault.TheVariants.{Usage, BadZone, BadWindow, BadToken, BadFormat, Memory}

-- the text of `--after`, if it is given
abbrev pub after_text : Entries → Option Text
after_text entries = entry (codes "after") entries

-- `--every-day` is given
abbrev pub AsksEveryDay : Entries → Type 0
AsksEveryDay entries = entries_text (codes "every-day") entries ≡ codes "true"

-- the key of a token, or none if there is no token
abbrev pub IsKeyOf : Option Text → Option Key → Type 0
IsKeyOf None None = ⊤
IsKeyOf None (Some key) = ⊥
IsKeyOf (Some text) None = ⊥
IsKeyOf (Some text) (Some key) = IsKey (key_rank key) × (text ≡ spelling (key_rank key))

-- The day under which a listing by days goes on after an occurrence with this start: that of the later of it and the window's start. After one that
-- starts past the window it is the greatest number, so that nothing is listed.
abbrev pub day_from : ZoneSaid → Window → ℤ → ℤ
day_from zone window start =
    if int_lt start window.to then date_at (zone_clock zone) (int_max start window.from) else pos (2 ^ 31 - 1)

-- the key under a day of a token: its own, or if it has none that day's
abbrev pub IsDayKeyBy : ZoneSaid → Window → Text → DayRank → Type 0
IsDayKeyBy zone window text key =
    (IsDayKey key × (text ≡ day_spelling key))
    ⊎ (IsKey key.key × (text ≡ spelling key.key) × (key.day ≡ day_from zone window key.key.start))

abbrev pub IsDayKeyOf : ZoneSaid → Window → Option Text → Option DayKey → Type 0
IsDayKeyOf zone window None None = ⊤
IsDayKeyOf zone window None (Some key) = ⊥
IsDayKeyOf zone window (Some text) None = ⊥
IsDayKeyOf zone window (Some text) (Some key) = IsDayKeyBy zone window text (day_key_rank key)

-- The keys after which a listing goes on: without `--every-day` that of the token, and no days are asked for; with it that of the token under a day.
abbrev pub IsAfterBy : Entries → ZoneSaid → Window → Option Key → Option EveryDay → Type 0
IsAfterBy entries zone window after None = (¬ AsksEveryDay entries) × IsKeyOf (after_text entries) after
IsAfterBy entries zone window after (Some every_day) =
    AsksEveryDay entries × (after ≡ None) × IsDayKeyOf zone window (after_text entries) every_day.after

-- a text is given and is not a token
pub record IsNoKey (given : Option Text) : Type 0 where
  pub text : Text
  pub stands : given ≡ Some text
  pub none : ¬ IsToken text

-- nor is it one of an entry under a day
pub record IsNoDayKey (given : Option Text) : Type 0 where
  pub text : Text
  pub stands : given ≡ Some text
  pub none : ¬ IsToken text
  pub no_day : ¬ IsDayToken text

-- the value of `--after` is given and is not a token; with `--every-day` it is none of an entry under a day either
pub record IsNoToken (entries : Entries) : Type 0 where
  pub key : IsNoKey (after_text entries)
  pub day_key : AsksEveryDay entries → IsNoDayKey (after_text entries)

-- the request that clap's entries make in a display zone that says this, at a clock
pub record IsRequest (entries : Entries) (said : ZoneSaid) (now : ℤ) (request : Request) : Type 0 where
  pub folder : string_bytes request.folder ≡ entries_text (codes "folder") entries
  pub zone : display_said request.zone ≡ said
  pub zones : option_map string_bytes request.zones ≡ zones_text entries
  pub keep_going : IsTrue request.keep_going ↔ (entries_text (codes "keep-going") entries ≡ codes "true")
  pub window : Some (request.window.from, request.window.to) ≡ ends_of said now (span_of entries)
  pub notstarted : IsTrue request.window.notstarted ↔ (entries_text (codes "notstarted") entries ≡ codes "true")
  pub limit : IsLimitOf (limit_text entries) request.limit
  pub after : IsAfterBy entries said request.window request.after request.every_day
  pub format : format_text entries ≡ written entry_name request.formats.entries.pieces.items
  pub day_format : day_format_text entries ≡ written day_name request.formats.days.pieces.items

-- the entries name a window in the zone, and the value of `--after` is not a token
pub record IsBadToken (entries : Entries) (zone : ZoneSaid) (now : ℤ) : Type 0 where
  pub window : IsSome (ends_of zone now (span_of entries))
  pub token : IsNoToken entries

-- they do so, the value of `--after`, if it is given, is a token, and one of the formats is not a format
pub record IsBadFormat (entries : Entries) (zone : ZoneSaid) (now : ℤ) : Type 0 where
  pub window : IsSome (ends_of zone now (span_of entries))
  pub token : ¬ IsNoToken entries
  pub none : (¬ IsFormat entry_name (format_text entries)) ⊎ (¬ IsFormat day_name (day_format_text entries))

-- the answer to clap's entries in a display zone that says this, in the order in which faults are reported
abbrev pub AnswerIn : Entries → ZoneSaid → ℤ → Result Request RequestFault → Type 0
AnswerIn entries zone now (Ok request) = IsRequest entries zone now request
AnswerIn entries zone now (Err (Usage text help)) = ⊥
AnswerIn entries zone now (Err BadZone) = ⊥
AnswerIn entries zone now (Err BadWindow) = ends_of zone now (span_of entries) ≡ None
AnswerIn entries zone now (Err BadToken) = IsBadToken entries zone now
AnswerIn entries zone now (Err BadFormat) = IsBadFormat entries zone now
AnswerIn entries zone now (Err Memory) = Unit {0}

-- the same where the display zone is known, or where none is
abbrev pub EntriesAnswer : Entries → Option ZoneSaid → ℤ → Result Request RequestFault → Type 0
EntriesAnswer entries (Some zone) now answer = AnswerIn entries zone now answer
EntriesAnswer entries None now (Err BadZone) = Unit {0}
EntriesAnswer entries None now (Err Memory) = Unit {0}
EntriesAnswer entries None now answer = ⊥

-- What the display zone says that `--zone` names, if it names one. A zone that is that of a file is named by no text.
abbrev pub zone_named : Entries → Option ZoneSaid
zone_named entries = if is_some (zone_file_text entries) then None else display_of (zone_text entries)

-- what is made of words: the entries that clap gives, if the words are taken, or their refusal
abbrev pub WordsOf : List Text → Result Entries RequestFault → Type 0
WordsOf words (Ok entries) = AreTaken words × (entries ≡ entries_of words)
WordsOf words (Err (Usage text help)) = IsRefused words help
WordsOf words (Err Memory) = Unit {0}
WordsOf words (Err fault) = ⊥

-- the answer to words, in the display zone that `--zone` names
abbrev pub RequestOf : List Text → ℤ → Result Request RequestFault → Type 0
RequestOf words now (Err (Usage text help)) = IsRefused words help
RequestOf words now (Err Memory) = Unit {0}
RequestOf words now answer = AreTaken words × EntriesAnswer (entries_of words) (zone_named (entries_of words)) now answer
