-- Spans of a clock near locals, kept from one question to the next.
use Rattle.std.specs.Prelude.{◌≡◌, ◌<ℤ◌, ◌≤ℤ◌, ℤ}
use Rattle.std.specs.List.{All, Contains}
use Rattle.jiff_core.specs.Calendar.{IsWithin}
use Rattle.ics_zone.specs.Moments.{moment_by}
use Rattle.ics_zone.specs.declared.latest.Steady.{Steady}
use Rattle.ics_zone.specs.declared.spans.Spans.{Spans}

-- the clock has one offset in each span, no offset but these, each less than a day, and a local means what they tell
pub record AreSpans (offset moment : ℤ → ℤ) (s : Spans) : Type 0 where
  pub steady : All (λ (span : Steady). (t : ℤ) → span.from ≤ℤ t → t <ℤ span.next → span.offset ≡ offset t) s.list.value.steady.items
  pub short : (t : ℤ) → IsWithin 86_399 (offset t)
  pub offsets : (t : ℤ) → Contains s.list.value.offsets.items (offset t)
  pub moments : (local : ℤ) → moment local ≡ moment_by offset local
