use Rattle.std.proofs.Common.{◌≡◌, ◌≤ℤ◌, ◌-ℤ◌, ◌+ℤ◌, ℤ, length, pos, rules, refl, ◌∙◌, ap, sym, subst, arith, to_z, of_z, w32, w64}
use Rattle.std.specs.Int.{int_max, int_min}
use Rattle.std.proofs.lemmas.Int.{int_max_is, int_min_is, ints, to_z-of_z}
use Rattle.std.proofs.lemmas.Option.{slice_get_read}
use Rattle.ics_listing.proofs.ListingLemmas.{contains-in}
use Rattle.ics_zone.specs.Seconds.{IsDay, IsNear}
use Rattle.ics_fields.specs.Locals.{midnight}
use Rattle.ics_days.specs.NearDays.{last_near}
use Rattle.ics_listing.specs.declared.window.Window.{Window}
use Rattle.ics_days.proofs.NearDayLemmas.{day-fits}
use Rattle.ics_series.proofs.SpanLemmas.{near-between}
use Rattle.ics_series.proofs.days.next_day.Goals as goal

-- what can begin first, in the window, does so in it
first-in : (w : Window) {end least first : ℤ} → least ≤ℤ end → end ≡ w.to → first ≡ int_max least w.from → (w.from ≤ℤ first) × (first ≤ℤ w.to)
first-in w {least = least} most t is =
    let max = int_max_is least w.from in
    (omega (arith, ints, is, max), omega (arith, ints, t, most, is, max, w.ordered))

-- the ends of a window fit
ends-fit : (w : Window) → (to_z w64 (of_z w64 w.from) ≡ w.from) × (to_z w64 (of_z w64 w.to) ≡ w.to)
ends-fit w = (omega (arith, ints, w.ordered, w.not_early, w.not_late), omega (arith, ints, w.ordered, w.not_early, w.not_late))

-- the day after a near day fits, and what is counted from it
next-fits : (day : ℤ) → IsDay day → to_z w32 (of_z w32 (to_z w32 (of_z w32 day) +ℤ pos 1)) ≡ day +ℤ pos 1
next-fits day within = omega (arith, ints, within.0, within.1)

-- so does the local that the lesser offset shows where the first can begin
shown-fits : (w : Window) (first least : ℤ) → w.from ≤ℤ first → first ≤ℤ w.to → IsNear least
    → to_z w64 (of_z w64 (first +ℤ to_z w64 (of_z w64 least))) ≡ first +ℤ least
shown-fits w first least low high short = omega (arith, ints, low, high, short.0, short.1, w.not_early, w.not_late)

-- at most each of two
under-both : {min a b : ℤ} → min ≡ int_min a b → (min ≤ℤ a) × (min ≤ℤ b)
under-both {a = a} {b = b} e = let m = int_min_is a b in (omega (arith, ints, e, m), omega (arith, ints, e, m))

pub overflow_add-first : goal.overflow_add-first
overflow_add-first c =
    let w = c.args.window.now in
    let ends = ends-fit w in
    let least : to_z w64 (of_z w64 c.first.result) ≡ c.first.result =
    to_z-of_z w64 c.first.result (record { sfits = c.first.type_inv }) in
    let first : to_z w64 (of_z w64 c.max-first.result) ≡ int_max c.first.result c.args.window.now.from =
    to_z-of_z w64 c.max-first.result (record { sfits = c.max-first.type_inv }) ∙ (c.max-first.ensures.value ∙ (λ i. int_max (least i) (ends.0 i))) in
    let within = first-in w c.first.ensures.end ends.1 first in
    let short = c.requires.offsets.least_short in
    omega (arith, ints, within.0, within.1, short.0, short.1, w.not_early, w.not_late)

pub of_seconds-reached-requires : goal.of_seconds-reached-requires
of_seconds-reached-requires c =
    let w = c.args.window.now in
    let ends = ends-fit w in
    let least : to_z w64 (of_z w64 c.first.result) ≡ c.first.result =
    to_z-of_z w64 c.first.result (record { sfits = c.first.type_inv }) in
    let first : to_z w64 (of_z w64 c.max-first.result) ≡ int_max c.first.result c.args.window.now.from =
    to_z-of_z w64 c.max-first.result (record { sfits = c.max-first.type_inv }) ∙ (c.max-first.ensures.value ∙ (λ i. int_max (least i) (ends.0 i))) in
    let within = first-in w c.first.ensures.end ends.1 first in
    let short = c.requires.offsets.least_short in
    let fits = shown-fits w (to_z w64 (of_z w64 c.max-first.result)) c.args.bounds.least within.0 within.1 short in (
      omega (arith, ints, fits, within.0, within.1, short.0, short.1, w.not_early, w.not_late),
      omega (arith, ints, fits, within.0, within.1, short.0, short.1, w.not_early, w.not_late),
    )

pub returns-clause-later : goal.returns-clause-later
returns-clause-later c =
    let more = c.requires.more in
    let within = day-fits c.args.window.now c.args.bounds c.requires.offsets c.args.day c.requires.low (omega (arith, ints, more, c.requires.last)) in
    let last : to_z w32 (of_z w32 c.args.last) ≡ c.args.last = search rules in
    let next = next-fits c.args.day within in
    let max : to_z w32 (of_z w32 c.max.result) ≡ c.max.result = to_z-of_z w32 c.max.result (record { sfits = c.max.type_inv }) in
    let fits : to_z w32 (of_z w32 c.min.result) ≡ c.min.result = to_z-of_z w32 c.min.result (record { sfits = c.min.type_inv }) in
    let later = rw next at c.max.ensures.other_bound in
    let least = rw (max, last) at c.min.ensures.value in
    omega (arith, ints, fits, least, int_min_is c.max.result c.args.last, later, more)

pub returns-clause-last : goal.returns-clause-last
returns-clause-last c =
    let fits : to_z w32 (of_z w32 c.min.result) ≡ c.min.result = to_z-of_z w32 c.min.result (record { sfits = c.min.type_inv }) in
    let last : to_z w32 (of_z w32 c.args.last) ≡ c.args.last = search rules in
    let under = (under-both c.min.ensures.value).1 in
    subst (λ r. r ≤ℤ c.args.last) (sym fits) (subst (λ l. c.min.result ≤ℤ l) last under)

pub returns-clause-none : goal.returns-clause-none
returns-clause-none c = λ x later early s m clock n near-x.
    let w = c.args.window.now in
    let b = c.args.bounds in
    let low = c.requires.low in
    let near = day-fits w b c.requires.offsets c.args.day low (omega (arith, ints, c.requires.more, c.requires.last)) in
    let next = next-fits c.args.day near in
    let ends = ends-fit w in
    let least : to_z w64 (of_z w64 c.first.result) ≡ c.first.result =
    to_z-of_z w64 c.first.result (record { sfits = c.first.type_inv }) in
    let first : to_z w64 (of_z w64 c.max-first.result) ≡ int_max c.first.result c.args.window.now.from =
    to_z-of_z w64 c.max-first.result (record { sfits = c.max-first.type_inv }) ∙ (c.max-first.ensures.value ∙ (λ i. int_max (least i) (ends.0 i))) in
    let within = first-in w c.first.ensures.end ends.1 first in
    let shown = shown-fits w (to_z w64 (of_z w64 c.max-first.result)) c.args.bounds.least within.0 within.1 c.requires.offsets.least_short in
    let reached : to_z w32 (of_z w32 c.of_seconds-reached.result.day) ≡ c.of_seconds-reached.result.day = search rules in
    let fits : to_z w32 (of_z w32 c.min.result) ≡ c.min.result = to_z-of_z w32 c.min.result (record { sfits = c.min.type_inv }) in
    let max : to_z w32 (of_z w32 c.max.result) ≡ c.max.result = to_z-of_z w32 c.max.result (record { sfits = c.max.type_inv }) in
    let last : to_z w32 (of_z w32 c.args.last) ≡ c.args.last = search rules in
    let under = under-both c.min.ensures.value in
    let most : to_z w32 (of_z w32 c.min.result) ≤ℤ last_near c.args.window.now c.args.bounds =
    let least : c.min.result ≤ℤ c.args.last = subst (λ l. c.min.result ≤ℤ l) last under.1 in omega (arith, ints, fits, least, c.requires.last) in
    let day-is : to_z w32 (of_z w32 c.min.result) ≤ℤ int_max c.of_seconds-reached.result.day (c.args.day +ℤ pos 1) =
    subst (λ r. r ≤ℤ int_max c.of_seconds-reached.result.day (c.args.day +ℤ pos 1)) (sym fits)
    (subst (λ m. c.min.result ≤ℤ m) (max ∙ (c.max.ensures.value ∙ (λ i. int_max (reached i) (next i)))) under.0) in
    let day : to_z w32 (of_z w32 c.args.day) ≡ c.args.day = search rules in
    let from-fits : to_z w64 (of_z w64 c.begin_after-from.result) ≡ c.begin_after-from.result = search rules in
    let between = near-between w b low most
    (from-fits ∙ c.begin_after-from.ensures ∙ ap (λ (d : ℤ). midnight (d +ℤ pos 1) -ℤ c.args.bounds.most) day)
    first (rw shown at c.of_seconds-reached.ensures.day) day-is x later early clock n near-x in
    let there = contains-in s c.args.spans.now m in
    c.first.ensures.none n between.0 between.1 (c.requires.places clock x n later near-x) there.0 s
    (slice_get_read c.args.spans.now (length c.args.spans.now) there.0 s refl there.1 (sym there.2))

pub begin_after-from-requires : goal.begin_after-from-requires
begin_after-from-requires c = c.requires.offsets
