use Rattle.std.proofs.Common.{◌≡◌, ℤ, pos, ◌-ℤ◌, true, false, nat_eq, rules, sym, ◌∙◌, ap, to_z, of_z, w32, w64, arith, ◌&&◌, ◌≤ℤ◌, ◌<ℤ◌, int_le}
use Rattle.std.proofs.Common.{if◌then◌else◌, int_eq, SFits}
use Rattle.std.specs.Int.{int_max, int_min}
use Rattle.std.proofs.lemmas.Bool.{and_parts}
use Rattle.std.proofs.lemmas.Int.{int_max_is, int_min_is, ints}
use Rattle.ics_zone.proofs.Cases.{int_le_true}
use Rattle.ics_listing.specs.declared.window.Window.{Window}
use Rattle.ics_listing.specs.FileClocks.{Clock}
use Rattle.ics_starts.specs.Clocks.{display_clock}
use Rattle.ics_days.specs.ShownDays.{date_at, end_day, first_day, is_on, last_day}
use Rattle.ics_listing.specs.Entry.{Entry, entry_of}
use Rattle.ics_listing.specs.WindowBounds.{occurrence_first}
use Rattle.ics_listing.proofs.Cases.{equal-true}
use Rattle.ics_days.proofs.occurrence_days.is_on.Goals as goal

same-value : (a b : ℤ) → SFits w32 a → SFits w32 b → nat_eq (of_z w32 a) (of_z w32 b) ≡ int_eq a b
same-value a b f g = search rules

both : (a b : ℤ) → int_eq a b ≡ (int_le b a && int_le a b)
both a b = grind (arith, ints)

-- an occurrence of no length has one day
one-day : (clock : Clock) (w : Window) (o : Entry) (day : ℤ) {first : ℤ} → int_eq o.finish o.start ≡ true → first ≡ first_day clock w o →
    int_eq day first ≡ is_on clock w o day
one-day clock w o day {first = first} e f =
    both day first
    ∙ ((λ i. int_le (f i) day && int_le day (f i))
    ∙ ap (λ b. int_le (first_day clock w o) day
    && int_le day (if b then first_day clock w o else int_max (first_day clock w o) (end_day clock w o))) (sym e))

pub returns-then-occurrence : goal.returns-then-occurrence
returns-then-occurrence c =
    let o = c.args.occurrence.now in
    let fits : SFits w32 c.date_at-first.result = search rules in
    let once : nat_eq (of_z w32 c.args.day) (of_z w32 c.date_at-first.result) ≡ int_eq c.args.day c.date_at-first.result =
    same-value c.args.day c.date_at-first.result c.ranges.day fits in
    let none : int_eq o.finish o.start ≡ true = grind (arith, ints, c.if-occurrence.true) in
    let first : c.date_at-first.result ≡ first_day (display_clock c.args.display.now) c.args.window.now (entry_of c.args.occurrence.now) = search rules in
    record {
      on = once ∙ one-day (display_clock c.args.display.now) c.args.window.now (entry_of o) c.args.day none first;
      within = λ is.
          let same = equal-true c.args.day c.date_at-first.result (sym once ∙ is) in
          let first = c.date_at-first.ensures.within in
          (omega (arith, ints, same, first.0), omega (arith, ints, same, first.1));
    }

pub overflow_sub-end : goal.overflow_sub-end
overflow_sub-end c =
    let o = c.args.occurrence.now in
    let w = c.args.window.now in
    omega (arith, ints, int_min_is, c.min-end.ensures.value, c.min-end.type_inv, o.not_early, o.forward, w.ordered, w.not_early)

pub date_at-requires : goal.date_at-requires
date_at-requires c =
    let o = c.args.occurrence.now in
    let w = c.args.window.now in
    let later : o.start <ℤ o.finish = grind (arith, ints, c.if-occurrence.false, o.forward) in
    record {
      early = omega (arith, ints, int_min_is, c.min-end.ensures.value, c.min-end.type_inv, o.not_early, later, w.ordered, w.not_early);
      late = omega (arith, ints, int_min_is, c.min-end.ensures.value, c.min-end.type_inv, o.not_early, o.forward, o.not_late, w.ordered, w.not_early);
    }

pub returns-clause-on : goal.returns-clause-on
returns-clause-on c =
    let o = c.args.occurrence.now in
    let w = c.args.window.now in
    let clock = display_clock c.args.display.now in
    let apart : int_eq o.finish o.start ≡ false = grind (arith, ints, c.if-occurrence.false) in
    let min-is : c.min-end.result ≡ int_min o.finish w.to =
    omega (arith, ints, int_min_is, int_min_is o.finish w.to, c.min-end.ensures.value, c.min-end.type_inv) in
    let low : occurrence_first ≤ℤ c.min-end.result =
    omega (arith, ints, int_min_is, c.min-end.ensures.value, o.not_early, o.forward, w.ordered, w.not_early) in
    let at : to_z w64 (of_z w64 (to_z w64 (of_z w64 c.min-end.result) -ℤ pos 1)) ≡ int_min o.finish w.to -ℤ pos 1 =
    omega (arith, ints, c.min-end.type_inv, low, min-is) in
    let end : c.date_at.result ≡ end_day (display_clock c.args.display.now) c.args.window.now (entry_of c.args.occurrence.now) =
    c.date_at.ensures.day ∙ ap (date_at (display_clock c.args.display.now)) at in
    let start : c.date_at-first.result ≡ first_day (display_clock c.args.display.now) c.args.window.now (entry_of c.args.occurrence.now) = search rules in
    let first : to_z w32 (of_z w32 c.date_at-first.result) ≡ first_day clock w (entry_of o) = omega (arith, ints, c.date_at-first.type_inv, start) in
    let day : to_z w32 (of_z w32 c.args.day) ≡ c.args.day = omega (arith, ints, c.ranges.day) in
    let most = int_max_is (first_day clock w (entry_of o)) (end_day clock w (entry_of o)) in
    let greater : to_z w32 (of_z w32 c.max-last.result) ≡ int_max (first_day clock w (entry_of o)) (end_day clock w (entry_of o)) =
    omega (arith, ints, int_max_is, most, c.max-last.ensures.value, c.max-last.type_inv, first, end, c.date_at.type_inv) in
    let last : to_z w32 (of_z w32 c.max-last.result) ≡ last_day clock w (entry_of o) =
    greater ∙ ap (λ b. if b then first_day clock w (entry_of o) else int_max (first_day clock w (entry_of o)) (end_day clock w (entry_of o))) (sym apart) in
    λ i. int_le (first i) (day i) && int_le (day i) (last i)

pub returns-clause-within : goal.returns-clause-within
returns-clause-within c = λ is.
    let first = c.date_at-first.ensures.within in
    let end = c.date_at.ensures.within in
    let parts = and_parts (int_le (to_z w32 (of_z w32 c.date_at-first.result)) (to_z w32 (of_z w32 c.args.day)))
    (int_le (to_z w32 (of_z w32 c.args.day)) (to_z w32 (of_z w32 c.max-last.result))) is in
    let low = int_le_true (to_z w32 (of_z w32 c.date_at-first.result)) (to_z w32 (of_z w32 c.args.day)) parts.0 in
    let high = int_le_true (to_z w32 (of_z w32 c.args.day)) (to_z w32 (of_z w32 c.max-last.result)) parts.1 in
    let most = c.max-last in (
      omega (arith, ints, first.0, low, c.date_at-first.type_inv, c.ranges.day),
      omega (arith, ints, int_max_is, first.1, end.1, high, most.ensures.value, most.type_inv, c.date_at-first.type_inv, c.date_at.type_inv, c.ranges.day),
    )
