use Rattle.std.proofs.Common.{unsigned_abs, ◌-ℤ◌, rules, ◌≡◌, ◌<◌, ◌∷◌, ℤ, map, None, sym, ◌∙◌, ap, subst, arith, to_z, of_z, w32, ◌≤ℤ◌, ◌<ℤ◌}
use Rattle.std.proofs.lemmas.Int.{ints}
use Rattle.ics_file.specs.File.{said_by}
use Rattle.ics_series.specs.Ahead.{agenda_coming, IsAhead}
use Rattle.ics_starts.specs.Clocks.{display_clock}
use Rattle.ics_listing.specs.Entry.{entry_of}
use Rattle.ics_listing.specs.DayKeys.{on_day}
use Rattle.ics_series.proofs.AheadLemmas.{ahead-ended, none-past-last, on-err}
use Rattle.ics_series.proofs.days.Days.next.Goals as goal

-- a later day is nearer to the last
nearer : (day next last : ℤ) → day <ℤ next → next ≤ℤ last → unsigned_abs (last -ℤ next) < unsigned_abs (last -ℤ day)
nearer day next last l m = omega (arith, ints, l, m)

pub loop-occurrence-smaller : goal.loop-occurrence-smaller
loop-occurrence-smaller c =
    let turned = c.in_ok-turn.ensures.day in
    let same = c.turn.ensures.last ∙ (c.end_day-room.ensures.last ∙ c.next_today.ensures.last) in
    subst (λ l. unsigned_abs (l -ℤ c.turn.new.self.today.day) < unsigned_abs (c.loop-occurrence.self.last -ℤ c.loop-occurrence.self.today.day)) (sym same)
    (nearer c.loop-occurrence.self.today.day c.turn.new.self.today.day c.loop-occurrence.self.last
    (omega (arith, ints, turned.0, c.end_day-room.ensures.day, c.next_today.ensures.day)) (omega (arith, ints, turned.1, same)))

pub returns-in-Some-clause-ok : goal.returns-in-Some-clause-ok
returns-in-Some-clause-ok c = λ list a.
    let gives = rw c.in-Some.is at (c.in_ok-occurrence.ensures.ok list (c.loop-occurrence.invariant.ahead list a)) in
    let fits : to_z w32 (of_z w32 c.next_today.new.self.today.day) ≡ c.next_today.new.self.today.day = search rules in
    (gives.0, gives.2 ∙ ap (λ d. on_day d (entry_of c.in-Some.occurrence) ∷ gives.0) (sym fits), gives.1)

pub returns-then-self-clause-ok : goal.returns-then-self-clause-ok
returns-then-self-clause-ok c = λ list a.
    let new = c.next_today.new.self in
    let none : c.in_ok-occurrence.field-0 ≡ None = search rules in
    let gives = rw none at (c.in_ok-occurrence.ensures.ok list (c.loop-occurrence.invariant.ahead list a)) in
    let past : c.next_today.new.self.last ≤ℤ c.next_today.new.self.today.day = search (arith, rules) in
    let ended = ahead-ended (map said_by new.files.now) (display_clock new.display.now) new.window new.bounds new.bounded new.today.day
    (none-past-last (map said_by new.files.now) (display_clock new.display.now) new.window new.bounds new.bounded new.shown past)
    (agenda_coming new.today.agenda) (c.in_ok-occurrence.ensures.none none) gives.0 gives.1 in
    (gives.0, (gives.2 ∙ ended, ended), gives.1)

pub returns-in_err-turn-clause-err : goal.returns-in_err-turn-clause-err
returns-in_err-turn-clause-err c = λ list a.
    let none : c.in_ok-occurrence.field-0 ≡ None = search rules in
    let gives = rw none at (c.in_ok-occurrence.ensures.ok list (c.loop-occurrence.invariant.ahead list a)) in
    on-err (IsAhead c.turn.new.self list) c.from_residual-in_err-turn.result
    (c.turn.ensures.ahead list (c.end_day-room.ensures.ahead list (subst (λ l. IsAhead c.next_today.new.self l) (sym gives.2) gives.1)))

pub loop-occurrence-preserved : goal.loop-occurrence-preserved
loop-occurrence-preserved c = record {
  scope = c.turn.ensures.scope ∙ (c.end_day-room.ensures.scope ∙ (c.next_today.ensures.scope ∙ c.loop-occurrence.invariant.scope));
  last = c.turn.ensures.last ∙ (c.end_day-room.ensures.last ∙ (c.next_today.ensures.last ∙ c.loop-occurrence.invariant.last));
  looked = omega (arith, c.turn.ensures.looked, c.end_day-room.ensures.risen, c.next_today.ensures.looked, c.loop-occurrence.invariant.looked);
  ahead = λ list a.
      let none : c.in_ok-occurrence.field-0 ≡ None = search rules in
      let gives = rw none at (c.in_ok-occurrence.ensures.ok list (c.loop-occurrence.invariant.ahead list a)) in
      c.turn.ensures.ahead list (c.end_day-room.ensures.ahead list (subst (λ l. IsAhead c.next_today.new.self l) (sym gives.2) gives.1));
}
