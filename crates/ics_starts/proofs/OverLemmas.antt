-- When occurrences have ended, by stretches of locals.
use Rattle.std.proofs.Common.{◌≡◌, ◌∙◌, ℤ, pos, ◌+ℤ◌, ◌-ℤ◌, ◌≤ℤ◌, ◌<ℤ◌, ap, arith}
use Rattle.std.specs.Int.{int_min}
use Rattle.std.proofs.lemmas.Int.{int_min_is, ints}
use Rattle.ics_fields.specs.Locals.{whole_days}
use Rattle.ics_listing.specs.FileClocks.{Clock}
use Rattle.ics_starts.specs.Clocks.{local_at, IsStretched}
use Rattle.ics_starts.specs.Finish.{later_by, IsOver}
use Rattle.ics_values.specs.declared.duration.Duration.{Duration}
use Rattle.ics_zone.specs.declared.stretch.Stretch.{Stretch}

-- Where one stretch tells of an instant, and another of the local that the clock shows once the days of a duration have passed, the end is known.
pub later-at : (clock : Clock) (shown ends : Stretch) → IsStretched clock shown → IsStretched clock ends → (duration : Duration) (t : ℤ)
    → shown.from ≤ℤ (t +ℤ shown.offset) → (t +ℤ shown.offset) <ℤ shown.to → ends.from ≤ℤ (t +ℤ (shown.shown +ℤ whole_days duration.days))
    → (t +ℤ (shown.shown +ℤ whole_days duration.days)) <ℤ ends.to
    → later_by clock duration t ≡ ((t +ℤ (shown.shown +ℤ whole_days duration.days)) -ℤ ends.offset) +ℤ pos duration.seconds
later-at clock shown ends s e duration t a b c d =
    let local = t +ℤ (shown.shown +ℤ whole_days duration.days) in
    let at : t ≡ (t +ℤ shown.offset) -ℤ shown.offset = omega (arith, ints) in
    let offset : clock.offset t ≡ shown.shown = ap clock.offset at ∙ s.offsets (t +ℤ shown.offset) a b in
    let on : local_at clock t +ℤ whole_days duration.days ≡ local = omega (arith, ints, offset) in
    let moment = ap clock.moment on ∙ e.moments local c d in
    omega (arith, ints, moment)

-- So it is known whether it is past an instant.
over-at : (clock : Clock) (shown ends : Stretch) → IsStretched clock shown → IsStretched clock ends → (duration : Duration) (by t : ℤ)
    → shown.from ≤ℤ (t +ℤ shown.offset) → (t +ℤ shown.offset) <ℤ shown.to → ends.from ≤ℤ (t +ℤ (shown.shown +ℤ whole_days duration.days))
    → (t +ℤ (shown.shown +ℤ whole_days duration.days)) <ℤ ends.to → t <ℤ by
    → ((t +ℤ (shown.shown +ℤ whole_days duration.days)) -ℤ ends.offset +ℤ pos duration.seconds) ≤ℤ by → IsOver clock duration by t
over-at clock shown ends s e duration by t a b c d begun ended =
    record { begun = begun; ended = omega (arith, ints, later-at clock shown ends s e duration t a b c d, ended) }

-- So it is of the instants from one on up to where these are told, and the ends are not past an instant.
pub over-to : (clock : Clock) (shown ends : Stretch) → IsStretched clock shown → IsStretched clock ends → (duration : Duration) (by from t : ℤ)
    → shown.from ≤ℤ (from +ℤ shown.offset) → ends.from ≤ℤ (from +ℤ (shown.shown +ℤ whole_days duration.days)) → from ≤ℤ t
    → t <ℤ int_min (shown.to -ℤ shown.offset) by → t <ℤ int_min (ends.to -ℤ (shown.shown +ℤ whole_days duration.days)) by
    → t <ℤ ((((by -ℤ (shown.shown +ℤ whole_days duration.days)) +ℤ ends.offset) -ℤ pos duration.seconds) +ℤ pos 1) → IsOver clock duration by t
over-to clock shown ends s e duration by from t a b late begins passes ended =
    let on = shown.shown +ℤ whole_days duration.days in
    let first = int_min_is (shown.to -ℤ shown.offset) by in
    let last = int_min_is (ends.to -ℤ on) by in
    over-at clock shown ends s e duration by t (omega (arith, ints, a, late)) (omega (arith, ints, begins, first)) (omega (arith, ints, b, late))
    (omega (arith, ints, passes, last)) (omega (arith, ints, begins, first)) (omega (arith, ints, ended))
