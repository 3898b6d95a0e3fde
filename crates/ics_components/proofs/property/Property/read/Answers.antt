use Rattle.std.proofs.Common.{◌≡◌, ◌∙◌, Bool, true, false, None, refl, sym, rules, arith}
use Rattle.ics_text.specs.ContentLines.{Parts}
use Rattle.ics_components.specs.Faults.{event_reading}
use Rattle.ics_components.specs.Lines.{event_property, misread}
use Rattle.ics_components.specs.declared.name.Name.{Name}
use Rattle.ics_components.specs.declared.name.Name.TheVariants as name
use Rattle.ics_components.specs.declared.property.Property.TheVariants as property
use Rattle.ics_components.proofs.property.Property.read.Goals as goal
use Rattle.ics_components.proofs.property.Property.read.Goals.{in-Uid+in_ok-of_value-in-Uid, in-Dtstart+in_ok-time_of-in-Dtstart}
use Rattle.ics_components.proofs.property.Property.read.Goals.{in-Dtend+in_ok-time_of-in-Dtend, in-Duration+in_ok-lasting-in-Duration}
use Rattle.ics_components.proofs.property.Property.read.Goals.{in-Rrule+in_ok-rule_in-in-Rrule, in-RecurrenceId+in_ok-time_of-in-RecurrenceId}
use Rattle.ics_components.proofs.property.Property.read.Goals.{in-Sequence+in_ok-sequence-in-Sequence, in-Rdate+in_ok-read-in-Rdate}
use Rattle.ics_components.proofs.property.Property.read.Goals.{in-Exdate+in_ok-read-in-Exdate, in-Text+in_ok-read-in-Text, in-Status, in_default}

-- the names of properties that an event has
abbrev is_read : Name → Bool
is_read name.Begin = false
is_read name.End = false
is_read name.Exrule = false
is_read name.Version = false
is_read name.Tzid = false
is_read name.OffsetFrom = false
is_read name.OffsetTo = false
is_read name.Other = false
is_read _ = true

others : (n : Name) (v : Parts) → is_read n ≡ false → (misread (event_reading n v.params v.value) ≡ None) × (event_property n v ≡ property.Other)
others name.Begin v e = (refl, refl)
others name.End v e = (refl, refl)
others name.Exrule v e = (refl, refl)
others name.Version v e = (refl, refl)
others name.Tzid v e = (refl, refl)
others name.OffsetFrom v e = (refl, refl)
others name.OffsetTo v e = (refl, refl)
others name.Other v e = (refl, refl)
others _ v e = (cc, cc)

pub returns : goal.returns
returns c = elim c.match-name.branch [
  | in-Uid+in_ok-of_value-in-Uid w ↦ search rules
  | in-Dtstart+in_ok-time_of-in-Dtstart w ↦ search rules
  | in-Dtend+in_ok-time_of-in-Dtend w ↦ search rules
  | in-Duration+in_ok-lasting-in-Duration w ↦ search rules
  | in-Rrule+in_ok-rule_in-in-Rrule w ↦ search rules
  | in-RecurrenceId+in_ok-time_of-in-RecurrenceId w ↦ search rules
  | in-Sequence+in_ok-sequence-in-Sequence w ↦ search rules
  | in-Rdate+in_ok-read-in-Rdate w ↦ search rules
  | in-Exdate+in_ok-read-in-Exdate w ↦ search rules
  | in-Text+in_ok-read-in-Text w ↦ search rules
  | in-Status w ↦ search rules
  | in_default w ↦
      let other = others c.args.name c.args.content.now
      (grind (
        arith,
        w.in_default.not-Uid,
        w.in_default.not-Dtstart,
        w.in_default.not-Dtend,
        w.in_default.not-Duration,
        w.in_default.not-Rrule,
        w.in_default.not-RecurrenceId,
        w.in_default.not-Sequence,
        w.in_default.not-Rdate,
        w.in_default.not-Exdate,
        w.in_default.not-Text,
        w.in_default.not-Status,
      )) in
      (other.0, w.result-is ∙ sym other.1)
]
