-- The command line, as clap's model sees it: `list FOLDER [START [END]] [--zone Z] [--zone-file FILE] [--zones DIR] [--keep-going] [--limit N]
-- [--after TOKEN] [--notstarted] [--every-day] [--format F] [--day-format F]` and `at FOLDER MOMENT [--zone Z] [--zone-file FILE] [--zones DIR]
-- [--keep-going]`. That model has no word for options that may not stand together.
use Rattle.std.specs.Prelude.{true, List, Some, [], ◌∷◌, codes, fold, pos}
use Rattle.clap.specs.Words.{App, Rule, Text, new_app, new_rule, with_rule, with_subcommand}
use Rattle.clap.specs.Simple.{on_top}
use Rattle.clap.specs.declared.builder.ArgAction.TheVariants.{SetTrue}
use Rattle.clap.specs.declared.builder.value_parser.ValueParser.TheVariants.{Signed}

-- an argument that stands at a place, an option with a value, and an option that is given or not
abbrev pub place : Text → Rule
place id = record (new_rule id) { value_names = 1 }

abbrev pub option : Text → Rule
option name = record (new_rule name) { long = Some name; value_names = 1 }

abbrev pub flag : Text → Rule
flag name = record (new_rule name) { long = Some name; action = Some SetTrue }

abbrev pub folder : Rule
folder = record (place (codes "folder")) { required = true }

abbrev pub start : Rule
start = place (codes "start")

abbrev pub end : Rule
end = record (place (codes "end")) { defaults = codes "2d" ∷ [] }

abbrev pub moment : Rule
moment = record (place (codes "moment")) { required = true }

abbrev pub zone : Rule
zone = option (codes "zone")

abbrev pub zone_file : Rule
zone_file = option (codes "zone-file")

abbrev pub zones : Rule
zones = option (codes "zones")

abbrev pub keep_going : Rule
keep_going = flag (codes "keep-going")

abbrev pub limit : Rule
limit = record (option (codes "limit")) { parser = Some (Signed (pos 1) (pos 4_294_967_295)) }

abbrev pub after : Rule
after = option (codes "after")

abbrev pub notstarted : Rule
notstarted = flag (codes "notstarted")

abbrev pub every_day : Rule
every_day = flag (codes "every-day")

abbrev pub format : Rule
format = option (codes "format")

abbrev pub day_format : Rule
day_format = option (codes "day-format")

abbrev pub list_rules : List Rule
list_rules =
    folder ∷ start ∷ end ∷ zone ∷ zone_file ∷ zones ∷ keep_going ∷ limit ∷ after ∷ notstarted ∷ every_day ∷ format ∷ day_format ∷ []

abbrev pub at_rules : List Rule
at_rules = folder ∷ moment ∷ zone ∷ zone_file ∷ zones ∷ keep_going ∷ []

abbrev pub with_rules : App → List Rule → App
with_rules app rules = fold with_rule app rules

abbrev pub list_app : App
list_app = with_rules (new_app (codes "list")) list_rules

abbrev pub at_app : App
at_app = with_rules (new_app (codes "at")) at_rules

-- the command alone, which requires a subcommand; the program's name is not among its words
abbrev pub bare_app : App
bare_app = on_top (λ top. record top { subcommand_required = true; no_binary_name = true }) (new_app (codes "khal-list"))

abbrev pub khal_app : App
khal_app = with_subcommand (with_subcommand bare_app list_app.top) at_app.top
