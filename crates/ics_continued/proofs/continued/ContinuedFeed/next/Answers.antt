use Rattle.std.proofs.Common.{◌≡◌, ◌≤ℤ◌, ◌∙◌, ◌++◌, ap, arith, rules, sym, w64, to_z, of_z, List}
use Rattle.std.proofs.lemmas.Int.{ints}
use Rattle.ics_listing.specs.Entry.{entry_of, Entry}
use Rattle.ics_starts.specs.SeriesFeed.{series_left, series_of}
use Rattle.ics_continued.specs.Lasting.{known_left}
use Rattle.ics_continued.specs.declared.continued.Continued.{Continued}
use Rattle.ics_continued.proofs.ContinuedLemmas.{ended, left-near, moved, near-as, one-given, same-recurring, sound}
use Rattle.ics_continued.proofs.continued.ContinuedFeed.next.Goals as goal
use Rattle.ics_continued.proofs.continued.ContinuedFeed.next.Goals.{in-None, in-Some}

pub invariant_of-self : goal.invariant_of-self
invariant_of-self c =
    let old = c.args.self.now in
    let s = moved (same-recurring old.series c.drawn.new.series c.drawn.ensures.sources)
    (rw c.deref.ensures.value at c.in_err-given.ensures.err) (sound old) in
    record { rising = s.rising; kept = s.kept; done = s.done; before = s.before; later = s.later; begun = s.begun }

pub returns-in_err-given-clause-near : goal.returns-in_err-given-clause-near
returns-in_err-given-clause-near c = left-near c.args.self.now c.drawn.new.series c.drawn.ensures.sources c.drawn.ensures.near

pub invariant_of-self-in-Some : goal.invariant_of-self-in-Some
invariant_of-self-in-Some c =
    let old = c.args.self.now in
    let new = c.drawn.new.series in
    let rest : List Entry = known_left new.event.now c.drawn.new.next old.known.items ++ series_of new (series_left new) in
    let gives = rw (c.in-Some.is, c.deref.ensures.value) at c.in_ok-given.ensures.ok in
    let by : to_z w64 (of_z w64 old.by) ≡ old.by = search rules in
    let gap : to_z w64 (of_z w64 old.gap) ≡ old.gap = search rules in
    let next : to_z w64 (of_z w64 c.gap_behind-self.result) ≡ c.gap_behind-self.result = search rules in
    let start : to_z w64 (of_z w64 c.in-Some.occurrence.start) ≡ c.in-Some.occurrence.start = search rules in
    let less : to_z w64 (of_z w64 c.gap_behind-self.result) ≤ℤ old.gap = omega (arith, ints, gap, next, c.gap_behind-self.ensures.less) in
    let s = one-given (entry_of c.in-Some.occurrence) rest (moved (same-recurring old.series new c.drawn.ensures.sources) (sym gives) (sound old))
    {next = to_z w64 (of_z w64 c.gap_behind-self.result)} less c.keep-is_kept.result (rw by at c.keep-is_kept.ensures)
    (λ missed. let most = c.gap_behind-self.ensures.missed missed in omega (arith, ints, next, start, most)) in
    record { rising = s.rising; kept = s.kept; done = s.done; before = s.before; later = s.later; begun = s.begun }

pub invariant_of-self-in-None : goal.invariant_of-self-in-None
invariant_of-self-in-None c =
    let old = c.args.self.now in
    let gives = rw (c.in-None.is, c.deref.ensures.value) at c.in_ok-given.ensures.ok in
    let s = ended gives.1 (moved (same-recurring old.series c.drawn.new.series c.drawn.ensures.sources) (gives.1 ∙ sym gives.0) (sound old)) in
    record { rising = s.rising; kept = s.kept; done = s.done; before = s.before; later = s.later; begun = s.begun }

pub returns-clause-near : goal.returns-clause-near
returns-clause-near c =
    let near = left-near c.args.self.now c.drawn.new.series c.drawn.ensures.sources c.drawn.ensures.near in
    near-as c.args.self.now (elim c.match-given.branch [
      | in-None w ↦ ap (λ (x : Continued). x.series) w.self-is
      | in-Some w ↦ ap (λ (x : Continued). x.series) w.self-is
    ]) near
