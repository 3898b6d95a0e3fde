-- A law of the onsets of observances: UNTIL in UTC (RFC 5545, sections 3.3.10 and 3.8.5.3).
use Rattle.std.specs.Prelude.{◌≡◌, ◌⊎◌, ◌↔◌, ◌≤ℤ◌, ℤ, true, None, Some}
use Rattle.ics_fields.specs.Locals.{local_seconds}
use Rattle.ics_fields.specs.RuleParts.{RuleParts}
use Rattle.ics_fields.specs.declared.local.Local.{Local}
use Rattle.ics_fields.specs.declared.until.Until.TheVariants as until
use Rattle.ics_zone.specs.Observances.{is_onset, ObservanceSaid}

-- an observance without its rule, and with this rule but without UNTIL
abbrev pub unruled : ObservanceSaid → ObservanceSaid
unruled p = record p { rule = None }

abbrev pub unbounded_by : ObservanceSaid → RuleParts → ObservanceSaid
unbounded_by p parts = record p { rule = Some (record parts { until = None }) }

-- Under a rule with an UNTIL in UTC the onsets are those at DTSTART and the RDATEs, and of those that the rule has without UNTIL the ones that
-- are not after that instant.
abbrev pub OnsetsByUntil : Type 0
OnsetsByUntil =
    (p : ObservanceSaid) (parts : RuleParts) (last : Local) (t : ℤ) → p.rule ≡ Some parts → parts.until ≡ Some (until.Utc last)
    → (is_onset p t ≡ true)
    ↔ ((is_onset (unruled p) t ≡ true) ⊎ ((is_onset (unbounded_by p parts) t ≡ true) × (t ≤ℤ local_seconds last)))
