-- Components and where their lines stand (RFC 5545, sections 3.4 and 3.6).
use Rattle.std.specs.Prelude.{ℕ, Bool, true, false, List, codes, if◌then◌else◌}
use Rattle.std.specs.Str.{bytes_eq}
use Rattle.ics_components.specs.declared.component.Component.{Component}
use Rattle.ics_components.specs.declared.component.Component.TheVariants as component
use Rattle.ics_components.specs.declared.component.Context.{Context}
use Rattle.ics_components.specs.declared.component.Context.TheVariants as context

-- the component that a name in upper case stands for
abbrev pub component_of : List ℕ → Component
component_of u =
    if bytes_eq u (codes "VCALENDAR") then component.Calendar
    else if bytes_eq u (codes "VEVENT") then component.Event
    else if bytes_eq u (codes "VTIMEZONE") then component.Zone
    else if bytes_eq u (codes "STANDARD") then component.Standard
    else if bytes_eq u (codes "DAYLIGHT") then component.Daylight
    else component.Other u

abbrev pub component_name : Component → List ℕ
component_name component.Calendar = codes "VCALENDAR"
component_name component.Event = codes "VEVENT"
component_name component.Zone = codes "VTIMEZONE"
component_name component.Standard = codes "STANDARD"
component_name component.Daylight = codes "DAYLIGHT"
component_name (component.Other name) = name

-- Where the lines of a component stand, by where its BEGIN line stands. A calendar stands outside all components, an
-- event or a time zone in a calendar, and an observance in a time zone. No line of any other component is read.
abbrev pub context_in : Context → Component → Context
context_in context.Outside component.Calendar = context.Calendar
context_in context.Calendar component.Event = context.Event
context_in context.Calendar component.Zone = context.Zone
context_in context.Zone component.Standard = context.Observance
context_in context.Zone component.Daylight = context.Observance
context_in _ _ = context.Elsewhere

abbrev pub is_outside_context : Context → Bool
is_outside_context context.Outside = true
is_outside_context _ = false

abbrev pub is_calendar_context : Context → Bool
is_calendar_context context.Calendar = true
is_calendar_context _ = false

abbrev pub is_event_context : Context → Bool
is_event_context context.Event = true
is_event_context _ = false

abbrev pub is_zone_context : Context → Bool
is_zone_context context.Zone = true
is_zone_context _ = false

abbrev pub is_observance_context : Context → Bool
is_observance_context context.Observance = true
is_observance_context _ = false
