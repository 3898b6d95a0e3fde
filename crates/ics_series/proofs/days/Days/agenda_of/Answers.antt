use Rattle.std.proofs.lemmas.Int.{int_min_is, ints}
use Rattle.std.proofs.Common.{rules, ◌≡◌, ◌∙◌, ap, length, map, None, inl, arith, subst, sym, to_z, of_z, w32}
use Rattle.std.proofs.lemmas.List.{length-map}
use Rattle.ics_file.specs.File.{said_by}
use Rattle.ics_starts.specs.Clocks.{display_clock}
use Rattle.ics_series.specs.Versions.{seen}
use Rattle.ics_days.specs.NearPlaces.{AreNear}
use Rattle.ics_series.specs.Inner.Spans.{floor_of}
use Rattle.ics_days.proofs.NearDayLemmas.{bounds-offsets}
use Rattle.ics_series.proofs.ReachLemmas.{near-from, near-of}
use Rattle.ics_series.proofs.SpanLemmas.{are-spans}
use Rattle.ics_series.proofs.days.Days.agenda_of.Goals as goal

pub returns-clause-agenda : goal.returns-clause-agenda
returns-clause-agenda c =
    let fits : to_z w32 (of_z w32 c.args.day) ≡ c.args.day = search rules in
    let near = rw fits at c.near_day-near.ensures in
    inl (record { window = c.near_day-near.result; near = near; listing = c.in_ok-search.ensures.listing; are = c.in_ok-search.ensures.sources })

pub search-requires-clause-spans : goal.search-requires-clause-spans
search-requires-clause-spans c = record {
  floor = None;
  started = λ o after. tt;
  are = are-spans (map said_by c.args.files.now) (display_clock c.args.display.now) c.args.window.now c.near_day-near.result
      (omega (arith, ints, c.near_day-near.ensures.to, int_min_is)) None (map seen c.args.versions.now) c.requires.spans;
}

pub returns-clause-spans : goal.returns-clause-spans
returns-clause-spans c = λ x n later h.
    are-spans (map said_by c.args.files.now) (display_clock c.args.display.now) c.args.window.now n (omega (arith, ints, h.to, int_min_is))
    (floor_of c.args.window.now) (map seen c.args.versions.now) c.requires.spans

pub search-requires-clause-near : goal.search-requires-clause-near
search-requires-clause-near c =
    let spans = c.args.spans.now in
    let near = c.near_day-near.result in
    let size = ap length c.requires.spans ∙ (length-map _ _ ∙ length-map c.args.versions.now seen) in
    subst (AreNear spans near (length c.args.versions.now)) (sym c.deref.ensures.value)
    (near-of c.reach.new.self spans near (c.reach.ensures.count ∙ c.requires.count) size (c.in_ok-reach.ensures.reached (c.requires.places near)))

pub returns-clause-count : goal.returns-clause-count
returns-clause-count c = c.reach.ensures.count

pub returns-clause-places : goal.returns-clause-places
returns-clause-places c =
    let fits : to_z w32 (of_z w32 c.args.day) ≡ c.args.day = search rules in
    let near = rw fits at c.near_day-near.ensures in
    λ clock x n later h. c.reach.ensures.has n (near-from near h (omega (arith, ints, later))) (c.requires.places n)

pub returns-in_err-reach-clause-places : goal.returns-in_err-reach-clause-places
returns-in_err-reach-clause-places c =
    let fits : to_z w32 (of_z w32 c.args.day) ≡ c.args.day = search rules in
    let near = rw fits at c.near_day-near.ensures in
    λ clock x n later h. c.reach.ensures.has n (near-from near h (omega (arith, ints, later))) (c.requires.places n)

pub returns-in_err-reach-clause-spans : goal.returns-in_err-reach-clause-spans
returns-in_err-reach-clause-spans c = λ x n later h.
    are-spans (map said_by c.args.files.now) (display_clock c.args.display.now) c.args.window.now n (omega (arith, ints, h.to, int_min_is))
    (floor_of c.args.window.now) (map seen c.args.versions.now) c.requires.spans

pub returns-then-last_near-day-clause-places : goal.returns-then-last_near-day-clause-places
returns-then-last_near-day-clause-places c = λ clock x n later h. c.requires.places n

pub returns-then-last_near-day-clause-spans : goal.returns-then-last_near-day-clause-spans
returns-then-last_near-day-clause-spans c = λ x n later h.
    are-spans (map said_by c.args.files.now) (display_clock c.args.display.now) c.args.window.now n (omega (arith, ints, h.to, int_min_is))
    (floor_of c.args.window.now) (map seen c.args.versions.now) c.requires.spans

pub last_near-requires : goal.last_near-requires
last_near-requires c = bounds-offsets (display_clock c.args.display.now) c.args.window.now c.args.bounds c.requires.bounded

pub begin_after-requires : goal.begin_after-requires
begin_after-requires c = bounds-offsets (display_clock c.args.display.now) c.args.window.now c.args.bounds c.requires.bounded

pub returns-in_err-search-clause-spans : goal.returns-in_err-search-clause-spans
returns-in_err-search-clause-spans c = λ x n later h.
    are-spans (map said_by c.args.files.now) (display_clock c.args.display.now) c.args.window.now n (omega (arith, ints, h.to, int_min_is))
    (floor_of c.args.window.now) (map seen c.args.versions.now) c.requires.spans

pub returns-in_err-search-clause-places : goal.returns-in_err-search-clause-places
returns-in_err-search-clause-places c =
    let fits : to_z w32 (of_z w32 c.args.day) ≡ c.args.day = search rules in
    let near = rw fits at c.near_day-near.ensures in
    λ clock x n later h. c.reach.ensures.has n (near-from near h (omega (arith, ints, later))) (c.requires.places n)
