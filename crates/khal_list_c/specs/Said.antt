-- The rule that two texts say.
use Rattle.std.specs.Prelude.{ℕ, List, Bool, true, false, Result, Ok, Err}
use Rattle.ics_fields.specs.Locals.{local_at}
use Rattle.ics_fields.specs.RuleParts.{RuleParts}
use Rattle.ics_fields.specs.declared.local.Local.{Local}
use Rattle.ics_period.specs.declared.kind.Kind.{Kind}
use Rattle.ics_period.specs.declared.kind.Kind.TheVariants as kind
use Rattle.ics_values.specs.Rules.{rule_of}
use Rattle.ics_values.specs.Stamps.{stamp_of}
use Rattle.ics_values.specs.declared.rule_text.RuleFault.{RuleFault}
use Rattle.ics_values.specs.declared.rule_text.RuleFault.TheVariants.{BadRule, NumberTooLarge}
use Rattle.ics_values.specs.declared.stamp.Stamp.{Stamp}
use Rattle.ics_values.specs.declared.stamp.Stamp.TheVariants.{Date, Floating, Utc, Zoned}
use Rattle.ics_values.specs.declared.stamp.StampFault.{StampFault}
use Rattle.ics_values.specs.declared.stamp.StampFault.TheVariants.{BadStamp, YearRange}
use Rattle.khal_list_c.specs.declared.rules.Said.{Said}

-- the numbers of the faults
abbrev pub rule_fault : RuleFault → ℕ
rule_fault BadRule = 1
rule_fault NumberTooLarge = 2

abbrev pub start_fault : StampFault → ℕ
start_fault BadStamp = 3
start_fault YearRange = 4

-- the local at which an event with this stamp starts, whether it has a time, and whether that is in UTC
abbrev pub start_local : Stamp → Local
start_local (Date day) = local_at day 0
start_local (Floating local) = local
start_local (Utc local) = local
start_local (Zoned local) = local

abbrev pub start_kind : Stamp → Kind
start_kind (Date day) = kind.Date
start_kind (Floating local) = kind.DateTime
start_kind (Utc local) = kind.DateTime
start_kind (Zoned local) = kind.DateTime

abbrev pub is_utc : Stamp → Bool
is_utc (Date day) = false
is_utc (Floating local) = false
is_utc (Utc local) = true
is_utc (Zoned local) = false

-- the rule of these parts and this start
abbrev pub said_at : RuleParts → Stamp → Said
said_at parts stamp = record {
  rule = record { parts = parts; start = start_local stamp; kind = start_kind stamp };
  start = start_local stamp;
  in_utc = is_utc stamp;
}

abbrev pub started : RuleParts → Result Stamp StampFault → Result Said ℕ
started parts (Err fault) = Err (start_fault fault)
started parts (Ok stamp) = Ok (said_at parts stamp)

abbrev pub said : Result RuleParts RuleFault → Result Stamp StampFault → Result Said ℕ
said (Err fault) start = Err (rule_fault fault)
said (Ok parts) start = started parts start

-- the rule that the value of an RRULE and that of a DTSTART without TZID say, or the number of the first fault
abbrev pub said_of : List ℕ → List ℕ → Result Said ℕ
said_of rule start = said (rule_of rule) (stamp_of false start)
