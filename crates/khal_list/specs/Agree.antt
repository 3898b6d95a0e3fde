-- Two answers to the same words say the same: the same request, as its parts show it, or the same fault.
use Rattle.std.specs.Prelude.{◌≡◌, ◌≢◌, ◌⊎◌, List, Option, Result, Ok, Err}
use Rattle.std.specs.String.{string_bytes}
use Rattle.std.specs.Option.{option_map}
use Rattle.clap.specs.Words.{IsAmong, Text}
use Rattle.clap.specs.declared.error.kind.ErrorKind.{ErrorKind}
use Rattle.clap.specs.declared.error.kind.ErrorKind.TheVariants.{DisplayHelp}
use Rattle.ics_listing.specs.DayKeys.{day_key_rank, DayRank}
use Rattle.ics_listing.specs.Entry.{key_rank}
use Rattle.ics_zone.specs.ZoneSaid.{display_said}
use Rattle.khal_words.specs.Entries.{refusal_of}
use Rattle.khal_list.specs.declared.every_day.EveryDay.{EveryDay}
use Rattle.khal_list.specs.declared.request.Request.{Request}
use Rattle.khal_list.specs.declared.request_fault.RequestFault.{RequestFault}
use Rattle.khal_list.specs.declared.request_fault.RequestFault.TheVariants.{Usage, BadZone, BadWindow, BadToken, BadFormat, Memory}

-- the key under a day after which a listing by days goes on
abbrev pub day_after : EveryDay → Option DayRank
day_after every_day = option_map day_key_rank every_day.after

-- the folder, what the zone says, the folder of zone files, the window, the limit, the keys and the formats are the same
pub record SameRequest (a b : Request) : Type 0 where
  pub folder : string_bytes a.folder ≡ string_bytes b.folder
  pub zone : display_said a.zone ≡ display_said b.zone
  pub zones : option_map string_bytes a.zones ≡ option_map string_bytes b.zones
  pub keep_going : a.keep_going ≡ b.keep_going
  pub from : a.window.from ≡ b.window.from
  pub to : a.window.to ≡ b.window.to
  pub notstarted : a.window.notstarted ≡ b.window.notstarted
  pub limit : a.limit ≡ b.limit
  pub after : option_map key_rank a.after ≡ option_map key_rank b.after
  pub every_day : option_map day_after a.every_day ≡ option_map day_after b.every_day
  pub format : a.formats.entries.pieces.items ≡ b.formats.entries.pieces.items
  pub day_format : a.formats.days.pieces.items ≡ b.formats.days.pieces.items

-- clap's model leaves open whether help is shown: it lets the words be refused as asking for it, and for another cause
pub record LeavesHelpOpen (words : List Text) : Type 0 where
  pub help : IsAmong DisplayHelp (refusal_of words)
  pub kind : ErrorKind
  pub among : IsAmong kind (refusal_of words)
  pub other : kind ≢ DisplayHelp

-- Both are requests, and the same, or both are one fault, and help is shown by both or by neither, as far as clap's model tells. Nothing is said if an
-- allocation failed.
abbrev pub Agree : List Text → Result Request RequestFault → Result Request RequestFault → Type 0
Agree words (Err Memory) b = Unit {0}
Agree words a (Err Memory) = Unit {0}
Agree words (Ok a) (Ok b) = SameRequest a b
Agree words (Err BadZone) (Err BadZone) = Unit {0}
Agree words (Err BadWindow) (Err BadWindow) = Unit {0}
Agree words (Err BadToken) (Err BadToken) = Unit {0}
Agree words (Err BadFormat) (Err BadFormat) = Unit {0}
Agree words (Err (Usage text help)) (Err (Usage other asks)) = (help ≡ asks) ⊎ LeavesHelpOpen words
Agree words a b = ⊥
