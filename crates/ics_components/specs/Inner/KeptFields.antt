-- What an event has that has ended, in the form that takes little memory.
use Rattle.std.specs.Prelude.{Bool, [], Option, Some, None, if◌then◌else◌}
use Rattle.ics_values.specs.declared.duration.Duration.{Duration}
use Rattle.ics_values.specs.declared.time.Length.{Length}
use Rattle.ics_values.specs.declared.time.Length.TheVariants.{Open, Until, Lasting}
use Rattle.ics_values.specs.declared.time.Time.{Time}
use Rattle.ics_components.specs.declared.event_fields.EventFields.{EventFields}
use Rattle.ics_components.specs.declared.kept_fields.Few.{Few}
use Rattle.ics_components.specs.declared.kept_fields.Few.TheVariants.{Nothing, Rule, Recurrence, More}
use Rattle.ics_components.specs.declared.kept_fields.RareFields.{RareFields}

-- the value, if it is there
abbrev pub if_there : {X : Type 0} → Bool → X → Option X
if_there there x = if there then Some x else None

-- THE END and the duration that a length stands for; the one that is given stands beside an end.
abbrev pub end_in : {Z : Type 0} → Length Z → Option (Time Z)
end_in (Until end) = Some end
end_in _ = None

abbrev pub duration_in : {Z : Type 0} → Length Z → Option Duration → Option Duration
duration_in Open beside = None
duration_in (Until end) beside = beside
duration_in (Lasting duration) beside = Some duration

-- NOTHING that few events have.
abbrev pub no_rare : RareFields
no_rare = record {
  rule = None;
  rdates = [];
  exdates = [];
  recurrence = None;
  duration = None;
  location = None;
  description = None;
  url = None;
}

-- what few events have, by the form that it is kept in
abbrev pub few_in : Few → RareFields
few_in Nothing = no_rare
few_in (Rule rule) = record no_rare { rule = Some rule }
few_in (Recurrence time) = record no_rare { recurrence = Some time.value }
few_in (More fields) = fields.value

-- THE FIELDS of an event in two parts: what few events have, and the same without it. A duration beside an end is one of these.
abbrev pub beside_in : {Z : Type 0} → Option (Time Z) → Option Duration → Option Duration
beside_in (Some end) duration = duration
beside_in None duration = None

abbrev pub rare_in : EventFields → RareFields
rare_in had = record {
  rule = had.rule;
  rdates = had.rdates;
  exdates = had.exdates;
  recurrence = had.recurrence;
  duration = beside_in had.end had.duration;
  location = had.texts.location;
  description = had.texts.description;
  url = had.texts.url;
}

abbrev pub without_rare : EventFields → EventFields
without_rare had = record had {
  rule = None;
  rdates = [];
  exdates = [];
  recurrence = None;
  texts = record had.texts { location = None; description = None; url = None };
}
