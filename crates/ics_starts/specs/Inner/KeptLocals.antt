-- What is kept of a rule is that of an event.
use Rattle.std.specs.Global.{Box}
use Rattle.std.specs.Prelude.{◌≡◌, Option, None, Some}
use Rattle.std.specs.Coded.{Unit-prop, codes}
use Rattle.std.proofs.Props.{props}
use Rattle.ics_event.specs.declared.event.Event.{Event}
use Rattle.ics_starts.specs.declared.kept_locals.KeptLocals.{KeptLocals}

abbrev pub IsKeptOf : Event → Option (Box KeptLocals) → Type 0
IsKeptOf event None = Unit {0}
IsKeptOf event (Some kept) = kept.value.event.now ≡ event

pub kept-of-prop : (event : Event) (kept : Option (Box KeptLocals)) → IsProp (IsKeptOf event kept)
kept-of-prop event None = Unit-prop
kept-of-prop event (Some kept) = hlevel (props, codes)
