-- The components of a file, as the path of open components on which each line stands (RFC 5545, sections 3.4 and 3.6).
use Rattle.std.specs.Prelude.{ℕ, Bool, false, ◌&&◌, ◌||◌, ◌==◌, List, [], ◌∷◌, drop, map, filter, codes, Option, Some, None, if◌then◌else◌}
use Rattle.std.specs.List.{list_any}
use Rattle.std.specs.Str.{bytes_eq}
use Rattle.ics_text.specs.Bytes.{upper}
use Rattle.ics_text.specs.Unfolded.{Line, unfolded}
use Rattle.ics_text.specs.ContentLines.{Parts, content_of}
use Rattle.ics_components.specs.declared.name.Name.{Name}
use Rattle.ics_components.specs.declared.name.Name.TheVariants as name
use Rattle.ics_components.specs.Names.{name_of, same_name}
use Rattle.ics_components.specs.declared.component.Context.{Context}
use Rattle.ics_components.specs.declared.component.Context.TheVariants as context
use Rattle.ics_components.specs.Components.{component_of, context_in, is_calendar_context, is_event_context, is_zone_context}

-- A component that is open: its name in upper case, and the number of its BEGIN line.
pub record Open : Type 0 where
  pub name : List ℕ
  pub begun : ℕ

-- A line with its parts, if it is a content line, and the components that are open before it, the innermost first.
pub record Placed : Type 0 where
  pub number : ℕ
  pub content : Option Parts
  pub path : List Open

-- what the property of a line is called
abbrev pub named : Parts → Name
named parts = name_of (map upper parts.name)

unfoldable pub name_on : Option Parts → Name
name_on None = name.Other
name_on (Some parts) = named parts

abbrev pub value_of : Option Parts → List ℕ
value_of None = []
value_of (Some parts) = parts.value

abbrev pub params_of : Option Parts → List ℕ
params_of None = []
params_of (Some parts) = parts.params

abbrev pub value : Placed → List ℕ
value line = value_of line.content

abbrev pub is_named : Name → Placed → Bool
is_named n line = same_name (name_on line.content) n

abbrev pub is_begin : Placed → Bool
is_begin = is_named name.Begin

abbrev pub is_end : Placed → Bool
is_end = is_named name.End

-- the name of the component that begins or ends on the line, in upper case
abbrev pub component : Placed → List ℕ
component line = map upper (value line)

-- what is open behind a line: BEGIN opens a component, and END closes the innermost
abbrev pub path_behind : Placed → List Open
path_behind line =
    if is_begin line then record { name = component line; begun = line.number } ∷ line.path
    else if is_end line then drop 1 line.path
    else line.path

-- the lines, each in its place, given what is open before them
abbrev pub placed_from : List Open → List Line → List Placed
placed_from path [] = []
placed_from path (line ∷ lines) =
    let here : Placed = record { number = line.number; content = content_of line.bytes; path = path } in
    here ∷ placed_from (path_behind here) lines

-- the lines of a file, each in its place
abbrev pub placed : List ℕ → List Placed
placed file = placed_from [] (unfolded file)

-- where the lines stand before which these components are open
abbrev pub context_of : List Open → Context
context_of [] = context.Outside
context_of (c ∷ cs) = context_in (context_of cs) (component_of c.name)

-- outside all components, directly in a calendar, directly in an event or a time zone of one, or directly in an observance of a time zone
abbrev pub in_calendar : Placed → Bool
in_calendar line = is_calendar_context (context_of line.path)

abbrev pub in_event : Placed → Bool
in_event line = is_event_context (context_of line.path)

abbrev pub in_zone : Placed → Bool
in_zone line = is_zone_context (context_of line.path)

-- the BEGIN line of such a component
abbrev pub begins : List ℕ → Placed → Bool
begins name line = is_begin line && bytes_eq (component line) name

-- the innermost component has that name
abbrev pub closes : List Open → List ℕ → Bool
closes [] name = false
closes (c ∷ cs) name = bytes_eq name c.name

-- an END that matches the innermost BEGIN
abbrev pub is_closing : Placed → Bool
is_closing line = is_end line && closes line.path (component line)

-- the END of an event, and that of a time zone
abbrev pub ends_event : Placed → Bool
ends_event line = is_closing line && in_event line

-- a part of a time zone begins on the line
abbrev pub begins_observance : Placed → Bool
begins_observance line = begins (codes "STANDARD") line || begins (codes "DAYLIGHT") line

-- an event begins directly in a calendar
abbrev pub begins_event : Placed → Bool
begins_event line = in_calendar line && begins (codes "VEVENT") line

-- the number of the BEGIN line of the innermost component
abbrev pub innermost : List Open → ℕ
innermost [] = 0
innermost (c ∷ cs) = c.begun

-- the number of the BEGIN line of the outermost component: that of the calendar
abbrev pub calendar_of : List Open → ℕ
calendar_of [] = 0
calendar_of (c ∷ []) = c.begun
calendar_of (c ∷ d ∷ ds) = calendar_of (d ∷ ds)

-- the lines that stand directly in the component that begins on that line
abbrev pub lines_in : ℕ → List Placed → List Placed
lines_in begun lines = filter (λ l. innermost l.path == begun) lines

-- of the lines before, those that stand directly in the same component
abbrev pub beside : List Placed → Placed → List Placed
beside before line = lines_in (innermost line.path) before

-- whether one of the lines has that name
abbrev pub has : Name → List Placed → Bool
has n lines = list_any (is_named n) lines

abbrev pub first_of : List Placed → Option Placed
first_of [] = None
first_of (l ∷ ls) = Some l

abbrev pub all_named : Name → List Placed → List Placed
all_named n lines = filter (is_named n) lines

-- the first line of that name
abbrev pub first_named : Name → List Placed → Option Placed
first_named n lines = first_of (all_named n lines)
