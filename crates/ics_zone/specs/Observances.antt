-- When the observances of a VTIMEZONE begin (RFC 5545, section 3.6.5).
use Rattle.std.specs.Prelude.{◌≡◌, ℕ, Bool, true, false, ◌&&◌, ◌||◌, ◌==◌, List, Option, Some, None, slice_get, int_le, ℤ, pos, negsuc, ◌+ℤ◌, ◌-ℤ◌}
use Rattle.std.specs.List.{list_any}
use Rattle.ics_fields.specs.declared.local.Local.{Local}
use Rattle.ics_fields.specs.RuleParts.{RuleParts}
pub use Rattle.ics_fields.specs.Observances.{ObservanceSaid, IsObservanceSaid, IsObservance, is_finer_than_daily, is_finer_rule, has_finer_rule}
use Rattle.ics_period.specs.declared.kind.Kind.TheVariants.{DateTime}
use Rattle.ics_period.specs.Recurrence.{Recurrence}
use Rattle.ics_fields.specs.Locals.{number, year_number}
use Rattle.ics_rule.specs.Kept.{is_kept, until_moment}
use Rattle.std.specs.Coded.{Π_prop}
use Rattle.std.proofs.Props.{props}

-- each observance of a zone is within its bounds
abbrev pub IsZone : List ObservanceSaid → Type 0
IsZone zone = (i : ℕ) (p : ObservanceSaid) → slice_get zone i ≡ Some p → IsObservanceSaid p

-- there is at most one proof of that
pub zone-prop : (zone : List ObservanceSaid) → IsProp (IsZone zone)
zone-prop zone = Π_prop λ i. Π_prop λ p. Π_prop λ e. hlevel props

-- the seconds from 0000-01-01 to 1970-01-01
abbrev pub epoch : ℕ
epoch = year_number 1_970

-- the instant at which a clock with this offset shows the local with number n
abbrev pub instant_by : ℤ → ℕ → ℤ
instant_by offset n = pos n -ℤ pos epoch -ℤ offset

-- the rule of an observance, from its DTSTART on
abbrev pub rule_from : Local → RuleParts → Recurrence
rule_from start parts = record { parts = parts; start = start; kind = DateTime }

-- an instant is not after an UNTIL in UTC, if there is one
abbrev pub is_until : Option ℤ → ℤ → Bool
is_until None t = true
is_until (Some until) t = int_le t until

-- the rule keeps local n, and the onset is not after an UNTIL in UTC
abbrev pub is_by_rule : ObservanceSaid → Option RuleParts → ℕ → Bool
is_by_rule p None n = false
is_by_rule p (Some parts) n =
    is_kept (rule_from p.start parts) n
    && is_until (until_moment (rule_from p.start parts)) (instant_by p.offset_from n)

-- the observance begins when the clock before it shows local n: n is its DTSTART, an RDATE, or kept by its RRULE
abbrev pub is_begin : ObservanceSaid → ℕ → Bool
is_begin p n = n == number p.start || (list_any (λ l. number l == n) p.rdates || is_by_rule p p.rule n)

-- a test of a local that is given by the seconds since 0000-01-01; no earlier local passes
abbrev pub test_at : ℤ → (ℕ → Bool) → Bool
test_at (pos n) test = test n
test_at (negsuc n) test = false

-- instant t is an onset of the observance: the clock with TZOFFSETFROM then shows a local at which it begins
unfoldable pub is_onset : ObservanceSaid → ℤ → Bool
is_onset p t = test_at (t +ℤ p.offset_from +ℤ pos epoch) (is_begin p)
